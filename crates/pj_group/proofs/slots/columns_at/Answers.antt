use Rattle.std.proofs.Common.{◌≡◌, ◌<◌, ◌∷◌, ◌++◌, [], ℕ, List, length, map, ap, sym, ◌∙◌, subst, append_assoc}
use Rattle.std.specs.List.{All}
use Rattle.std.specs.Vec.Iter.{into_iter_items}
use Rattle.std.proofs.lemmas.List.Elements.{All-head, All-tail}
use Rattle.pj_value.specs.Columns.{KindedValues, values_at}
use Rattle.pj_group.specs.declared.slots.Slot.{Slot}
use Rattle.pj_group.specs.declared.slots.Slot.TheVariants.{First}
use Rattle.pj_group.specs.Slots.{column_at}
use Rattle.pj_group.proofs.slots.columns_at.Goals as goal

-- the indexes are those of values of the column
abbrev AreOf : List ℕ → KindedValues → Type 0
AreOf indexes column = All (λ at. at < length column.values) indexes

pub loop-column-init : goal.loop-column-init
loop-column-init c =
    let indexes = c.args.indexes.now in
    let given = c.into_iter-column-iterator.ensures.into_iter_gives.0 in (
      subst (All (AreOf indexes)) (sym given) c.requires,
      ap (λ ss. ss ++ map (column_at indexes) (into_iter_items c.into_iter-column-iterator.result))
          c.in_ok-slots.ensures.items
          ∙ ap (map (column_at indexes)) given,
    )

pub gather-requires : goal.gather-requires
gather-requires c =
    let indexes = c.args.indexes.now in
    let column = c.in-Some.column in
    let rest = into_iter_items c.next.new.self in
    All-head (AreOf indexes) column rest
    (subst (All (AreOf indexes)) c.in-Some.ensures.steps.0 c.loop-column.invariant.0)

-- one column more
step : (indexes : List ℕ) (slots new : List Slot) (column own : KindedValues) (left rest all : List KindedValues)
    → left ≡ column ∷ rest → own ≡ record column { values = values_at column.values indexes }
    → new ≡ slots ++ First own ∷ []
    → All (AreOf indexes) left × (slots ++ map (column_at indexes) left ≡ map (column_at indexes) all)
    → All (AreOf indexes) rest × (new ++ map (column_at indexes) rest ≡ map (column_at indexes) all)
step indexes slots new column own left rest all next is pushed h = (
  All-tail (AreOf indexes) column rest (subst (All (AreOf indexes)) next h.0),
  ap (λ ss. ss ++ map (column_at indexes) rest) (pushed ∙ ap (λ k. slots ++ First k ∷ []) is)
      ∙ append_assoc slots (column_at indexes column ∷ []) (map (column_at indexes) rest)
      ∙ ap (λ cs. slots ++ map (column_at indexes) cs) (sym next)
      ∙ h.1,
)

pub loop-column-preserved : goal.loop-column-preserved
loop-column-preserved c =
    step c.args.indexes.now c.loop-column.slots.items c.push.new.self.items c.in-Some.column c.in_ok-gather.field-0
    (into_iter_items c.loop-column.column-iterator) (into_iter_items c.next.new.self) c.args.columns.items
    c.in-Some.ensures.steps.0 c.in_ok-gather.ensures c.in_ok-push.ensures.items c.loop-column.invariant

pub loop-column-preserved-in_ok-push : goal.loop-column-preserved-in_ok-push
loop-column-preserved-in_ok-push c =
    step c.args.indexes.now c.loop-column.slots.items c.push.new.self.items c.in-Some.column c.in_ok-gather.field-0
    (into_iter_items c.loop-column.column-iterator) (into_iter_items c.next.new.self) c.args.columns.items
    c.in-Some.ensures.steps.0 c.in_ok-gather.ensures c.in_ok-push.ensures.items c.loop-column.invariant
