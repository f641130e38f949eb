-- A row that meets each of the bounds has its key in their range.
use Rattle.std.proofs.Common.{◌≡◌, Bool, true, false, List, [], ◌∷◌, length, take, map, refl, sym, ap, subst, ◌∙◌}
use Rattle.std.specs.Prelude.{Option, Some, None, fold, not, ◌&&◌, if◌then◌else◌}
use Rattle.std.specs.List.{AllByRecursion}
use Rattle.std.specs.Ordering.{is_lt, is_gt, ordering_then}
use Rattle.std.specs.declared.cmp.Ordering.{Ordering}
use Rattle.std.specs.declared.cmp.Ordering.TheVariants.{Less, Equal, Greater}
use Rattle.pj_value.specs.declared.value.Value.{Value}
use Rattle.pj_value.specs.Order.{value_cmp, row_cmp}
use Rattle.pj_value.specs.Aggregates.{lesser, greater}
use Rattle.pj_value.specs.Summaries.{extreme_of}
use Rattle.pj_expr.specs.declared.expr.Expr.{Expr}
use Rattle.pj_expr.specs.declared.cond.Op.{Op}
use Rattle.pj_expr.specs.declared.cond.Op.TheVariants as ops
use Rattle.pj_expr.specs.Eval.{eval, meets}
use Rattle.pj_index.specs.declared.keys.KeyRange.{KeyRange}
use Rattle.pj_index.specs.Selection.{is_above, is_below}
use Rattle.pj_match.specs.Ranges.{Bound, bounds, fixes, bounds_below, bounds_above, former}
use Rattle.pj_match.specs.Ranges.{AreLiterals, none, on, off, whole, fixed, open_ended}
use Rattle.pj_match.specs.Ranges.{IsChosen, as_list, IsRange}
use Rattle.pj_match.specs.Laws.{RowsThatHoldAreWithin}
use Rattle.pj_match.proofs.BoundLemmas.{Meets, bounds-met}

-- ---- what comparisons say of an order

fixed-order : (op : Op) (r : Ordering) → fixes op ≡ true → meets op r ≡ true → r ≡ Equal
fixed-order ops.Eq Less f m = absurd (cc)
fixed-order ops.Eq Equal f m = refl
fixed-order ops.Eq Greater f m = absurd (cc)
fixed-order ops.Ne r f m = absurd (cc)
fixed-order ops.Lt r f m = absurd (cc)
fixed-order ops.Le r f m = absurd (cc)
fixed-order ops.Gt r f m = absurd (cc)
fixed-order ops.Ge r f m = absurd (cc)

not-true : (b : Bool) → not b ≡ true → b ≡ false
not-true true h = absurd (cc)
not-true false h = refl

greater-order : (r : Ordering) → is_gt r ≡ true → is_lt r ≡ false
greater-order Less m = absurd (cc)
greater-order Equal m = refl
greater-order Greater m = refl

less-order : (r : Ordering) → is_lt r ≡ true → is_gt r ≡ false
less-order Less m = refl
less-order Equal m = refl
less-order Greater m = absurd (cc)

below-order : (op : Op) (r : Ordering) → bounds_below op ≡ true → meets op r ≡ true → is_lt r ≡ false
below-order ops.Eq r f m = absurd (cc)
below-order ops.Ne r f m = absurd (cc)
below-order ops.Lt r f m = absurd (cc)
below-order ops.Le r f m = absurd (cc)
below-order ops.Gt r f m = greater-order r m
below-order ops.Ge r f m = not-true (is_lt r) m

above-order : (op : Op) (r : Ordering) → bounds_above op ≡ true → meets op r ≡ true → is_gt r ≡ false
above-order ops.Eq r f m = absurd (cc)
above-order ops.Ne r f m = absurd (cc)
above-order ops.Lt r f m = less-order r m
above-order ops.Le r f m = not-true (is_gt r) m
above-order ops.Gt r f m = absurd (cc)
above-order ops.Ge r f m = absurd (cc)

-- ---- what holds of each literal holds of the one that is chosen

module _ (P : Value → Type 0) (choose : Value → Value → Value)
    (keeps : (a b : Value) → P a → P b → P (choose a b)) where
  fold-keeps : (v : Value) (vs : List Value) → P v → AllByRecursion P vs → P (fold choose v vs)
  fold-keeps v [] h k = h
  fold-keeps v (w ∷ vs) h k = fold-keeps (choose v w) vs (keeps v w h k.0) k.1

  extreme-keeps : (vs : List Value) (v : Value) → AllByRecursion P vs → Some v ≡ extreme_of choose vs → P v
  extreme-keeps [] v h e = absurd (cc)
  extreme-keeps (w ∷ vs) v h e =
      let same : v ≡ fold choose w vs = (cc) in subst P (sym same) (fold-keeps w vs h.0 h.1)

either-keeps : (P : Value → Type 0) (t : Bool) (a b : Value) → P a → P b → P (if t then b else a)
either-keeps P true a b h k = k
either-keeps P false a b h k = h

greater-keeps : (P : Value → Type 0) (a b : Value) → P a → P b → P (greater a b)
greater-keeps P a b h k = either-keeps P (is_lt (value_cmp a b)) a b h k

lesser-keeps : (P : Value → Type 0) (a b : Value) → P a → P b → P (lesser a b)
lesser-keeps P a b h k = either-keeps P (is_lt (value_cmp b a)) a b h k

-- ---- the literals of the bounds on a component

module _ (row : List Value) (c : Expr) where
  -- how the component stands to a value
  abbrev order : Value → Ordering
  order v = value_cmp (eval c row) v

  literals-keep : {among : Op → Bool} (P : Value → Type 0)
      → ((op : Op) (v : Value) → among op ≡ true → meets op (order v) ≡ true → P v)
      → {all : List Bound} {vs : List Value} → AreLiterals among c all vs → AllByRecursion (Meets row) all
      → AllByRecursion P vs
  literals-keep P f none met = tt
  literals-keep P f (on {b} {bs} {vs} i h) met = (
    f b.op b.value i.chosen
        (subst (λ e. meets b.op (value_cmp (eval e row) b.value) ≡ true) i.same met.0),
    literals-keep P f h met.1,
  )
  literals-keep P f (off n h) met = literals-keep P f h met.1

  module _ (all : List Bound) (met : AllByRecursion (Meets row) all) where
    fixed-equal : (v : Value) → IsChosen fixes former c all (Some v) → order v ≡ Equal
    fixed-equal v h =
        let P = λ (v : Value). order v ≡ Equal in
        extreme-keeps P former (λ a b p q. p) h.literals v
        (literals-keep P (λ op v. fixed-order op (order v)) h.are met) h.is

    low-not_less : (v : Value) → IsChosen bounds_below greater c all (Some v) → is_lt (order v) ≡ false
    low-not_less v h =
        let P = λ (v : Value). is_lt (order v) ≡ false in
        extreme-keeps P greater (greater-keeps P) h.literals v
        (literals-keep P (λ op v. below-order op (order v)) h.are met) h.is

    high-not_greater : (v : Value) → IsChosen bounds_above lesser c all (Some v) → is_gt (order v) ≡ false
    high-not_greater v h =
        let P = λ (v : Value). is_gt (order v) ≡ false in
        extreme-keeps P lesser (lesser-keeps P) h.literals v
        (literals-keep P (λ op v. above-order op (order v)) h.are met) h.is

-- ---- keys and bounds

-- an order that nothing follows
then-nothing : (r : Ordering) → ordering_then r Equal ≡ r
then-nothing Less = refl
then-nothing Equal = refl
then-nothing Greater = refl

-- neither below one bound nor above the other
record IsBetween (low high key : List Value) : Type 0 where
  above : is_below low key ≡ false
  below : is_above high key ≡ false

-- a component that is fixed leaves it to the others
between-fixed : (k v : Value) (low high key : List Value) → value_cmp k v ≡ Equal → IsBetween low high key
    → IsBetween (v ∷ low) (v ∷ high) (k ∷ key)
between-fixed k v low high key e h = record {
  above = ap (λ r. is_lt (ordering_then r (row_cmp (take (length low) key) low))) e ∙ h.above;
  below = ap (λ r. is_gt (ordering_then r (row_cmp (take (length high) key) high))) e ∙ h.below;
}

low-open : (k : Value) (low : Option Value) (key : List Value)
    → ((v : Value) → low ≡ Some v → is_lt (value_cmp k v) ≡ false) → is_below (as_list low) (k ∷ key) ≡ false
low-open k None key h = refl
low-open k (Some v) key h = ap is_lt (then-nothing (value_cmp k v)) ∙ h v refl

high-open : (k : Value) (high : Option Value) (key : List Value)
    → ((v : Value) → high ≡ Some v → is_gt (value_cmp k v) ≡ false)
    → is_above (as_list high) (k ∷ key) ≡ false
high-open k None key h = refl
high-open k (Some v) key h = ap is_gt (then-nothing (value_cmp k v)) ∙ h v refl

-- ---- the range

module _ (row : List Value) (all : List Bound) (met : AllByRecursion (Meets row) all) where
  key-between : {key : List Expr} {range : KeyRange} → IsRange all key range
      → IsBetween range.low range.high (map (λ e. eval e row) key)
  key-between whole = record { above = refl; below = refl }
  key-between (fixed {c} {key} {value} {rest} h r) =
      between-fixed (eval c row) value rest.low rest.high (map (λ e. eval e row) key)
      (fixed-equal row c all met value h) (key-between r)
  key-between (open_ended {c} {key} {low} {high} n a b) = record {
    above = low-open (eval c row) low (map (λ e. eval e row) key)
        (λ v e. low-not_less row c all met v (subst (IsChosen bounds_below greater c all) e a));
    below = high-open (eval c row) high (map (λ e. eval e row) key)
        (λ v e. high-not_greater row c all met v (subst (IsChosen bounds_above lesser c all) e b));
  }

pub rows_that_hold_are_within : RowsThatHoldAreWithin
rows_that_hold_are_within filter key range row is h =
    let b = key-between row (bounds filter) (bounds-met row filter h) is in
    (λ i. not (b.above i) && not (b.below i))
