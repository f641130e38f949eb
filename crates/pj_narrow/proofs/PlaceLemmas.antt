-- The place of a column among those that a query uses, and what stands there.
use Rattle.std.proofs.Common.{◌≡◌, ℕ, zero, suc, ◌+◌, ◌<◌, ◌≤◌, Bool, true, false, not, cond, List, [], ◌∷◌}
use Rattle.std.proofs.Common.{length, get_or, Some, refl, sym, ap, ◌∙◌, subst, arith}
use Rattle.std.specs.Prelude.{◌==◌, ◌≢◌, slice_get, option_map}
use Rattle.std.specs.List.{filter, range_with_len}
use Rattle.std.proofs.lemmas.Bool.{eqb-true, eqb-false}
use Rattle.std.proofs.lemmas.List.{get_or-map, get_or_past}
use Rattle.std.proofs.lemmas.List.Sums.{passes_at_first}
use Rattle.std.proofs.lemmas.Option.{slice_get-map, slice_get-get_or}
use Rattle.pj_value.specs.declared.value.Kind.{Kind}
use Rattle.pj_value.specs.declared.value.Kind.TheVariants.{Num}
use Rattle.pj_value.specs.declared.value.Value.{Value}
use Rattle.pj_value.specs.declared.value.Value.TheVariants as values
use Rattle.pj_value.specs.Columns.{values_at}
use Rattle.pj_expr.specs.declared.query.Query.{Query}
use Rattle.pj_part.specs.Formed.{kinds_at}
use Rattle.pj_narrow.specs.Narrowing.{query_uses, columns_in, place_among}

-- a column that is one of these, and one of those of these kinds
pub record IsKept (kinds : List Kind) (columns : List ℕ) (c : ℕ) : Type 0 where
  pub there : c < length kinds
  pub among : place_among columns c < length columns

-- the first column is among them
place-first : (a c : ℕ) (rest : List ℕ) → (a == c) ≡ true → place_among (a ∷ rest) c < length (a ∷ rest)
place-first a c rest is =
    subst (λ s. cond (not s) (1 + place_among rest c) 0 < length (a ∷ rest)) (sym is) (omega arith)

-- one that is among the rest is among all
place-more : (a c : ℕ) (rest : List ℕ) → place_among rest c < length rest
    → place_among (a ∷ rest) c < length (a ∷ rest)
place-more a c rest among = by (a == c)
  where
    by : (s : Bool) → cond (not s) (1 + place_among rest c) 0 < length (a ∷ rest)
    by true = omega arith
    by false = omega (arith, among)

-- so it is where the rest alone is kept
place-either : (b : Bool) (a c : ℕ) (rest : List ℕ) → place_among rest c < length rest
    → place_among (cond b (a ∷ rest) rest) c < length (cond b (a ∷ rest) rest)
place-either true a c rest among = place-more a c rest among
place-either false a c rest among = among

-- a number that passes is among those that are kept: it is the first, or one of the rest
place-passing : (p : ℕ → Bool) (a c : ℕ) (rest : List ℕ) → p c ≡ true
    → (a ≢ c → place_among rest c < length rest)
    → place_among (cond (p a) (a ∷ rest) rest) c < length (cond (p a) (a ∷ rest) rest)
place-passing p a c rest passes among = by (a == c) refl
  where
    by : (s : Bool) → (a == c) ≡ s
        → place_among (cond (p a) (a ∷ rest) rest) c < length (cond (p a) (a ∷ rest) rest)
    by true is =
        subst (λ b. place_among (cond b (a ∷ rest) rest) c < length (cond b (a ∷ rest) rest))
        (sym (ap p (eqb-true a c is) ∙ passes)) (place-first a c rest is)
    by false is = place-either (p a) a c rest (among (eqb-false a c is))

-- a number that passes is among those of a range that do
place-kept : (p : ℕ → Bool) (a n c : ℕ) → a ≤ c → c < a + n → p c ≡ true
    → place_among (filter p (range_with_len a n)) c < length (filter p (range_with_len a n))
place-kept p a zero c from to passes = absurd (omega (arith, from, to))
place-kept p a (suc n) c from to passes =
    place-passing p a c (filter p (range_with_len (a + 1) n)) passes
    (λ other. place-kept p (a + 1) n c (omega (arith, from, other)) (omega (arith, to)) passes)

-- the column at its place
at_place : (columns : List ℕ) (c : ℕ) → place_among columns c < length columns
    → get_or columns (place_among columns c) 0 ≡ c
at_place columns c among =
    eqb-true (get_or columns (place_among columns c) 0) c (passes_at_first (λ at. at == c) columns 0 among)

module _ (kinds : List Kind) (columns : List ℕ) (c : ℕ) (kept : IsKept kinds columns c) where
  -- its kind
  pub kept-kind : slice_get (kinds_at kinds columns) (place_among columns c) ≡ slice_get kinds c
  kept-kind =
      slice_get-map (λ at. get_or kinds at Num) columns (place_among columns c)
      ∙ ap (λ o. option_map (λ at. get_or kinds at Num) o)
      (slice_get-get_or columns (place_among columns c) 0 kept.among)
      ∙ ap (λ at. Some (get_or kinds at Num)) (at_place columns c kept.among)
      ∙ sym (slice_get-get_or kinds c Num kept.there)

  -- the value of a row
  pub kept-value : (row : List Value)
      → get_or (values_at row columns) (place_among columns c) (values.Num 0) ≡ get_or row c (values.Num 0)
  kept-value row =
      get_or-map (λ at. get_or row at (values.Num 0)) columns (place_among columns c) 0 (values.Num 0)
      kept.among
      ∙ ap (λ at. get_or row at (values.Num 0)) (at_place columns c kept.among)

-- a row without values has none in any column
pub no_value : (columns : List ℕ) (c : ℕ)
    → get_or [] (place_among columns c) (values.Num 0) ≡ get_or [] c (values.Num 0)
no_value columns c =
    get_or_past [] (place_among columns c) (values.Num 0) (omega arith)
    ∙ sym (get_or_past [] c (values.Num 0) (omega arith))

-- a column that a query uses is kept, where it is there
pub used-kept : (kinds : List Kind) (q : Query) (c : ℕ) → c < length kinds → query_uses c q ≡ true
    → IsKept kinds (columns_in (length kinds) q) c
used-kept kinds q c there used = record {
  there = there;
  among = place-kept (λ k. query_uses k q) 0 (length kinds) c (omega arith) (omega (arith, there)) used;
}
