-- What is held for an item, with further rows and at the end.
use Rattle.std.proofs.Common.{◌≡◌, ℕ, ◌%◌, ◌^◌, ◌<◌, List, [], ◌∷◌, ◌++◌, length, map, get_or}
use Rattle.std.proofs.Common.{Option, Some, None, true}
use Rattle.std.proofs.Common.{refl, sym, ap, ◌∙◌, subst}
use Rattle.std.specs.List.{All, AllZip}
use Rattle.std.proofs.lemmas.List.{length-map, get_or-map}
use Rattle.std.proofs.lemmas.List.Elements.{All-head, All-tail, All-map}
use Rattle.std.proofs.lemmas.Simd.{map-map}
use Rattle.pj_value.specs.declared.value.Kind.{Kind}
use Rattle.pj_value.specs.declared.value.Value.{Value}
use Rattle.pj_value.specs.declared.value.Value.TheVariants as values
use Rattle.pj_value.specs.declared.value.AggKind.{AggKind}
use Rattle.pj_value.specs.declared.value.AggKind.TheVariants as aggregates
use Rattle.pj_value.specs.Aggregates.{aggregate, aggregate_kind}
use Rattle.pj_value.specs.Summaries.{Summary, Stands, finished}
use Rattle.pj_value.specs.Rows.{rows_at}
use Rattle.pj_value.specs.Values.{kind_of}
use Rattle.pj_value.specs.Columns.{KindedValues}
use Rattle.pj_value.proofs.OneSummaryLemmas.{finished-is}
use Rattle.pj_agg.specs.Groups.{added, grown}
use Rattle.pj_agg.specs.StateColumns.{KindedSummaries, finished_column}
use Rattle.pj_expr.specs.declared.expr.Expr.{Expr}
use Rattle.pj_expr.specs.declared.query.AggCall.{AggCall}
use Rattle.pj_expr.specs.declared.query.Item.{Item}
use Rattle.pj_expr.specs.declared.query.Item.TheVariants.{Plain, Agg}
use Rattle.pj_expr.specs.declared.query.Query.{Query}
use Rattle.pj_expr.specs.Eval.{eval}
use Rattle.pj_expr.specs.Fits.{FitsExpr, FitsItem, FitsCallOf, IsBuiltOf, IsOfGroup, is_call, aggregates_rows, expr_kind}
use Rattle.pj_expr.proofs.KindLemmas.{kind_of-built}
use Rattle.pj_answer.specs.Answers.{Row, call_value, call_kind, first_row, or_number}
use Rattle.pj_group.specs.declared.numbers.Numbers.{Numbers}
use Rattle.pj_group.specs.declared.slots.Slot.{Slot}
use Rattle.pj_group.specs.declared.slots.Slot.TheVariants.{First, States}
use Rattle.pj_group.specs.Lines.{column_over}
use Rattle.pj_group.specs.Slots.{Grow, IsItemOf}
use Rattle.pj_group.specs.Standing.{AreStates, IsSlot, arguments, argument_kind}
use Rattle.pj_group.proofs.GroupingLemmas.{added-map, grown-map}

-- ---- arguments

-- of groups with further rows
pub arguments-added : (argument : Option Expr) (groups : List (List Row)) (ns : List ℕ) (rows : List Row)
    → map (arguments argument) (added groups ns rows)
    ≡ added (map (arguments argument) groups) ns (arguments argument rows)
arguments-added None groups ns rows = added-map (λ row. values.Num 0) groups ns rows
arguments-added (Some e) groups ns rows = added-map (λ row. eval e row) groups ns rows

-- of groups, and of groups without rows behind them
pub arguments-grown : (argument : Option Expr) (groups : List (List Row)) (len : ℕ)
    → map (arguments argument) (grown groups len) ≡ grown (map (arguments argument) groups) len
arguments-grown None groups len = grown-map (λ row. values.Num 0) groups len
arguments-grown (Some e) groups len = grown-map (λ row. eval e row) groups len

-- there is one for each row
pub length-arguments : (argument : Option Expr) (rows : List Row)
    → length (arguments argument rows) ≡ length rows
length-arguments None rows = length-map rows _
length-arguments (Some e) rows = length-map rows _

-- ---- the first rows of groups

-- what an expression gives for rows at places
pub values-at : (e : Expr) (rows : List Row) (places : List ℕ)
    → map (λ row. eval e row) (rows_at rows places) ≡ map (λ at. eval e (get_or rows at [])) places
values-at e rows places = map-map (λ row. eval e row) (λ at. get_or rows at []) places

-- ---- what is finished

-- each summary to the aggregate of what it stands for
finished-each : (agg : AggKind) (kind : Kind) (summaries : List Summary) (groups : List (List Row))
    (f : List Row → List Value) (g : List Row → Value)
    → ((group : List Row) → aggregate agg kind (f group) ≡ g group)
    → AllZip (Stands agg) summaries (map f groups)
    → map (finished kind) summaries ≡ map g groups
finished-each agg kind [] [] f g h a = refl
finished-each agg kind [] (group ∷ groups) f g h a = absurd a
finished-each agg kind (s ∷ ss) [] f g h a = absurd a
finished-each agg kind (s ∷ ss) (group ∷ groups) f g h a =
    λ i. (finished-is agg kind s (f group) a.0 ∙ h group) i ∷ finished-each agg kind ss groups f g h a.1 i

-- a call without an argument counts
counts-alone : (columns : List Kind) (agg : AggKind) → FitsCallOf columns agg None → agg ≡ aggregates.Count
counts-alone columns aggregates.Count f = refl
counts-alone columns aggregates.Sum (e, none, f) = absurd (some_none e none)
  where
    some_none : (e : Expr) → None ≡ Some e → ⊥
    some_none e h = (cc)
counts-alone columns aggregates.Min (e, none, f) = absurd (some_none e none)
  where
    some_none : (e : Expr) → None ≡ Some e → ⊥
    some_none e h = (cc)
counts-alone columns aggregates.Max (e, none, f) = absurd (some_none e none)
  where
    some_none : (e : Expr) → None ≡ Some e → ⊥
    some_none e h = (cc)
counts-alone columns aggregates.UniqExact (e, none, f) = absurd (some_none e none)
  where
    some_none : (e : Expr) → None ≡ Some e → ⊥
    some_none e h = (cc)

-- what a call gives for a group
call-value : (columns : List Kind) (agg : AggKind) (argument : Option Expr) → FitsCallOf columns agg argument
    → (group : List Row)
    → aggregate agg (argument_kind columns argument) (arguments argument group)
    ≡ call_value columns agg argument group
call-value columns agg None f group =
    ap (λ k. aggregate k (argument_kind columns None) (arguments None group)) (counts-alone columns agg f)
    ∙ ap (λ n. values.Num (n % 2 ^ 64)) (length-arguments None group)
call-value columns agg (Some e) f group = refl

-- and its kind
call-kind : (columns : List Kind) (agg : AggKind) (argument : Option Expr) → FitsCallOf columns agg argument
    → aggregate_kind agg (argument_kind columns argument) ≡ call_kind columns agg argument
call-kind columns agg None f = ap (λ k. aggregate_kind k (argument_kind columns None)) (counts-alone columns agg f)
call-kind columns agg (Some e) f = refl

-- the states of a call give what it gives for each group
pub finished-states : (columns : List Kind) (groups : List (List Row)) (call : AggCall) (states : KindedSummaries)
    → FitsCallOf columns call.kind call.argument → AreStates columns groups call states
    → finished_column states ≡ column_over columns groups (Agg call)
finished-states columns groups call states f a =
    (λ i. record {
      kind = aggregate_kind (a.agg i) (a.kind i);
      values = map (finished (a.kind i)) states.summaries;
    })
    ∙ (λ i. record {
      kind = call-kind columns call.kind call.argument f i;
      values = finished-each call.kind (argument_kind columns call.argument) states.summaries groups
          (arguments call.argument) (call_value columns call.kind call.argument)
          (call-value columns call.kind call.argument f) a.stand i;
    })

-- so does what is held for an item
pub finished-slot : (columns : List Kind) (groups : List (List Row)) (item : Item) (states : KindedSummaries)
    (column : KindedValues) → column ≡ finished_column states → FitsItem columns item
    → IsSlot columns groups item (States states) → column ≡ column_over columns groups item
finished-slot columns groups (Plain e) states column h f s = absurd s
finished-slot columns groups (Agg call) states column h f s = h ∙ finished-states columns groups call states f s

-- ---- states with further rows

-- that grew
pub AreStates-grown : (columns : List Kind) (call : AggCall) (old : List (List Row)) (len : ℕ)
    (before after : KindedSummaries) → after.agg ≡ before.agg → after.kind ≡ before.kind
    → ((groups : List (List Value)) → AllZip (Stands before.agg) before.summaries groups
    → AllZip (Stands before.agg) after.summaries (grown groups len))
    → AreStates columns old call before → AreStates columns (grown old len) call after
AreStates-grown columns call old len before after g k f a = record {
  agg = g ∙ a.agg;
  kind = k ∙ a.kind;
  stand =
      subst (AllZip (Stands call.kind) after.summaries) (sym (arguments-grown call.argument old len))
      (subst (λ agg. AllZip (Stands agg) after.summaries (grown (map (arguments call.argument) old) len)) a.agg
      (f (map (arguments call.argument) old)
      (subst (λ agg. AllZip (Stands agg) before.summaries (map (arguments call.argument) old)) (sym a.agg)
      a.stand)));
}

-- to which arguments were added
pub AreStates-added : (columns : List Kind) (call : AggCall) (old : List (List Row)) (ns : List ℕ)
    (rows : List Row) (before after : KindedSummaries) → after.agg ≡ before.agg → after.kind ≡ before.kind
    → ((groups : List (List Value)) → AllZip (Stands before.agg) before.summaries groups
    → AllZip (Stands before.agg) after.summaries (added groups ns (arguments call.argument rows)))
    → AreStates columns old call before → AreStates columns (added old ns rows) call after
AreStates-added columns call old ns rows before after g k f a = record {
  agg = g ∙ a.agg;
  kind = k ∙ a.kind;
  stand =
      subst (AllZip (Stands call.kind) after.summaries) (sym (arguments-added call.argument old ns rows))
      (subst
      (λ agg. AllZip (Stands agg) after.summaries
      (added (map (arguments call.argument) old) ns (arguments call.argument rows)))
      a.agg
      (f (map (arguments call.argument) old)
      (subst (λ agg. AllZip (Stands agg) before.summaries (map (arguments call.argument) old)) (sym a.agg)
      a.stand)));
}

-- ---- the rows that open groups

-- their indexes are indexes of rows
pub opened-within : (n : ℕ) (indexes places : List ℕ) → All (λ at. at < n) indexes
    → All (λ at. at < length indexes) places → All (λ at. at < n) (map (λ at. get_or indexes at 0) places)
opened-within n indexes places a b =
    All-map (λ at. at < n) (λ at. get_or indexes at 0) places
    (λ i d l. a (get_or places i d) 0 (b i d l))

-- the rows at these indexes
pub rows_at-opened : (rows : List Row) (indexes places : List ℕ) → All (λ at. at < length indexes) places
    → rows_at rows (map (λ at. get_or indexes at 0) places) ≡ rows_at (rows_at rows indexes) places
rows_at-opened rows indexes [] a = refl
rows_at-opened rows indexes (at ∷ places) a =
    λ i. sym (get_or-map (λ k. get_or rows k []) indexes at 0 []
    (All-head (λ at. at < length indexes) at places a)) i
    ∷ rows_at-opened rows indexes places (All-tail (λ at. at < length indexes) at places a) i

-- a value that is built of literals has its kind
pub literal-kind : (columns : List Kind) (e : Expr) (row : Row) → FitsExpr columns e → IsBuiltOf [] e
    → kind_of (eval e row) ≡ or_number (expr_kind columns e)
literal-kind columns e row f b =
    kind_of-built columns row e f.0 b f.1 ∙ sym (ap or_number f.1)

-- ---- what is held for an item, with further rows

-- values for first rows, with those that open groups
pub slot-firsts : (columns : List Kind) (q : Query) (item : Item) (e : Expr) (old new : List (List Row))
    (numbers : Numbers) (rows : List Row) (before after : KindedValues) (slot : Slot)
    → item ≡ Plain e → slot ≡ First before → after.kind ≡ before.kind
    → after.values ≡ before.values ++ map (λ row. eval e row) (rows_at rows numbers.openings.items)
    → IsItemOf q item → Grow q numbers rows old new → IsSlot columns old item slot
    → IsSlot columns new item (First after)
slot-firsts columns q item e old new numbers rows before after slot p s k v of grow h =
    let held = subst (IsSlot columns old (Plain e)) s (subst (λ it. IsSlot columns old it slot) p h) in
    let built : aggregates_rows q ≡ true → IsBuiltOf q.groups e =
    λ t. subst (IsOfGroup q.groups) p (of.built t) in
    subst (λ it. IsSlot columns new it (First after)) (sym p) (
      k ∙ held.0,
      v ∙ ap (λ vs. vs ++ map (λ row. eval e row) (rows_at rows numbers.openings.items)) held.1
          ∙ ap (λ vs. map (λ group. eval e (first_row group)) old ++ vs)
          (values-at e rows numbers.openings.items)
          ∙ sym (grow.first e built),
    )

-- states that grew, and to which arguments were added
pub slot-states : (columns : List Kind) (q : Query) (item : Item) (call : AggCall) (old new : List (List Row))
    (numbers : Numbers) (rows : List Row) (groups : ℕ) (before more after : KindedSummaries) (slot : Slot)
    → item ≡ Agg call → slot ≡ States before → length new ≡ groups → more.agg ≡ before.agg
    → more.kind ≡ before.kind
    → ((gs : List (List Value)) → AllZip (Stands before.agg) before.summaries gs
    → AllZip (Stands before.agg) more.summaries (grown gs groups))
    → ((gs : List (List Row)) → AreStates columns gs call more
    → AreStates columns (added gs numbers.groups.items rows) call after)
    → IsItemOf q item → Grow q numbers rows old new → IsSlot columns old item slot
    → IsSlot columns new item (States after)
slot-states columns q item call old new numbers rows groups before more after slot p s long g k f add of grow h =
    let held = subst (IsSlot columns old (Agg call)) s (subst (λ it. IsSlot columns old it slot) p h) in
    let t = of.calls (ap is_call p) in
    let all : new ≡ added (grown old groups) numbers.groups.items rows =
    grow.each t ∙ (λ i. added (grown old (long i)) numbers.groups.items rows) in
    subst (λ it. IsSlot columns new it (States after)) (sym p)
    (subst (λ gs. AreStates columns gs call after) (sym all)
    (add (grown old groups) (AreStates-grown columns call old groups before more g k f held)))
