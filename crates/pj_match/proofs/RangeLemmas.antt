-- The range of a key, component by component: what the first ones put before the range of the others.
use Rattle.std.proofs.Common.{◌≡◌, ℕ, ◌+◌, ◌<◌, ◌≤◌, List, [], ◌∷◌, ◌++◌, length, drop, get_or, append-nil, append_assoc}
use Rattle.std.proofs.Common.{sym, ap, subst, ◌∙◌}
use Rattle.std.specs.Prelude.{Option, Some, None}
use Rattle.std.proofs.lemmas.List.{drop_more, drop_all}
use Rattle.pj_value.specs.declared.value.Value.{Value}
use Rattle.pj_value.specs.Aggregates.{lesser, greater}
use Rattle.pj_expr.specs.declared.expr.Expr.{Expr}
use Rattle.pj_index.specs.declared.keys.KeyRange.{KeyRange}
use Rattle.pj_match.specs.Ranges.{Bound, fixes, bounds_below, bounds_above, former, IsChosen, as_list, IsRange}
use Rattle.pj_match.specs.Ranges.{whole, fixed, open_ended}

-- the components up to those that are left are fixed, and their literals are these
pub record Leaves (all : List Bound) (key left : List Expr) (low high : List Value) : Type 0 where
  pub range : (rest : KeyRange) → IsRange all left rest
      → IsRange all key (record { low = low ++ rest.low; high = high ++ rest.high })

-- the range whose bounds are these
abbrev range : List Value → List Value → KeyRange
range low high = record { low = low; high = high }

module _ (all : List Bound) (key : List Expr) where
  -- at the first component
  pub leaves-all : Leaves all key key [] []
  leaves-all = record { range = λ rest h. h }

  -- the first that is left
  pub leaves-item : (at : ℕ) (item : Expr) (low high : List Value) → Leaves all key (drop at key) low high
      → at < length key → item ≡ get_or key at item → Leaves all key (item ∷ drop (at + 1) key) low high
  leaves-item at item low high l there is =
      subst (λ left. Leaves all key left low high)
      (drop_more key at item there ∙ ap (λ c. c ∷ drop (at + 1) key) (sym is)) l

  -- after one more
  pub leaves-more : (c : Expr) (left : List Expr) (low high : List Value) (value : Value)
      → Leaves all key (c ∷ left) low high → IsChosen fixes former c all (Some value)
      → Leaves all key left (low ++ value ∷ []) (high ++ value ∷ [])
  leaves-more c left low high value l h = record {
    range = λ rest r.
        subst (IsRange all key)
        (λ i. range (sym (append_assoc low (value ∷ []) rest.low) i)
        (sym (append_assoc high (value ∷ []) rest.high) i))
        (l.range (range (value ∷ rest.low) (value ∷ rest.high)) (fixed h r));
  }

  -- at one that isn't fixed
  pub leaves-open : (c : Expr) (left : List Expr) (low high : List Value) (least most : Option Value)
      → Leaves all key (c ∷ left) low high → IsChosen fixes former c all None
      → IsChosen bounds_below greater c all least → IsChosen bounds_above lesser c all most
      → IsRange all key (range (low ++ as_list least) (high ++ as_list most))
  leaves-open c left low high least most l n a b =
      l.range (range (as_list least) (as_list most)) (open_ended n a b)

  -- after the last
  pub leaves-none : (at : ℕ) (low high : List Value) → Leaves all key (drop at key) low high → length key ≤ at
      → IsRange all key (range low high)
  leaves-none at low high l past =
      let none : Leaves all key [] low high =
      subst (λ left. Leaves all key left low high) (drop_all at key past) l in
      subst (IsRange all key) (λ i. range (append-nil low i) (append-nil high i))
      (none.range (range [] []) whole)
