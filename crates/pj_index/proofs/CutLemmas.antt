-- Keys that are cut to the length of a bound.
use Rattle.std.proofs.Common.{◌≡◌, ℕ, zero, suc, false, List, [], ◌∷◌, length}
use Rattle.std.proofs.Common.{take, refl, ap, sym, ◌∙◌}
use Rattle.std.specs.Ordering.{is_lt, is_gt, ordering_then, ordering_reverse}
use Rattle.std.specs.declared.cmp.Ordering.{Ordering}
use Rattle.std.specs.declared.cmp.Ordering.TheVariants.{Less, Equal, Greater}
use Rattle.std.proofs.lemmas.Cmp.{upto}
use Rattle.pj_value.specs.declared.value.Value.{Value}
use Rattle.pj_value.specs.Order.{value_cmp, row_cmp}
use Rattle.pj_value.proofs.OrderLemmas.{row_total}
use Rattle.pj_index.specs.Selection.{is_above, is_below}

-- how a key, cut to the length of a bound, stands to the bound
abbrev pub cut_cmp : List Value → List Value → Ordering
cut_cmp key bound = row_cmp (take (length bound) key) bound

-- ---- a greater key

then_upto : (r s t : Ordering) → (is_gt s ≡ false → is_gt t ≡ false) → is_gt (ordering_then r s) ≡ false
    → is_gt (ordering_then r t) ≡ false
then_upto Less s t h e = refl
then_upto Equal s t h e = h e
then_upto Greater s t h e = e

-- keys that are cut stand as the whole ones, or are equal
pub upto-take : (n : ℕ) (a b : List Value) → is_gt (row_cmp a b) ≡ false
    → is_gt (row_cmp (take n a) (take n b)) ≡ false
upto-take zero a b e = refl
upto-take (suc n) [] [] e = refl
upto-take (suc n) [] (y ∷ ys) e = refl
upto-take (suc n) (x ∷ xs) [] e = (cc)
upto-take (suc n) (x ∷ xs) (y ∷ ys) e =
    then_upto (value_cmp x y) (row_cmp xs ys) (row_cmp (take n xs) (take n ys)) (upto-take n xs ys) e

-- below a key that isn't above the bound none is
pub is_above-upto : (high a b : List Value) → is_gt (row_cmp a b) ≡ false → is_above high b ≡ false
    → is_above high a ≡ false
is_above-upto high a b e f =
    upto row_total (take (length high) a) (take (length high) b) high (upto-take (length high) a b e) f

gt-turned : (r : Ordering) → is_gt (ordering_reverse r) ≡ is_lt r
gt-turned Less = refl
gt-turned Equal = refl
gt-turned Greater = refl

above_itself : (a b : List Value) → is_gt (row_cmp b a) ≡ is_lt (row_cmp a b)
above_itself a b = ap is_gt (row_total.antisymm b a) ∙ gt-turned (row_cmp a b)

-- above a key that isn't below the bound none is
pub is_below-upto : (low a b : List Value) → is_gt (row_cmp a b) ≡ false → is_below low a ≡ false
    → is_below low b ≡ false
is_below-upto low a b e f =
    sym (above_itself (take (length low) b) low)
    ∙ upto row_total low (take (length low) a) (take (length low) b)
    (above_itself (take (length low) a) low ∙ f) (upto-take (length low) a b e)
