-- The order of rows by keys, and the outcomes that stand in it.
use Rattle.std.proofs.Common.{◌≡◌, ℕ, ◌+◌, ◌<◌, List, [], ◌∷◌, length, map, get_or, drop, replicate, sym, ap}
use Rattle.std.proofs.Common.{◌∙◌}
use Rattle.std.specs.Ordering.{ordering_then}
use Rattle.std.specs.Cmp.{IsTotalOrder, IsStrictWeakOrder}
use Rattle.std.specs.declared.cmp.Ordering.TheVariants.{Equal}
use Rattle.std.proofs.lemmas.Cmp.{on_total, then_total, tied_itself}
use Rattle.std.proofs.lemmas.List.{drop_more, get_or-replicate}
use Rattle.std.proofs.lemmas.List.Sorted.{ranks_by}
use Rattle.pj_value.specs.declared.value.Value.{Value}
use Rattle.pj_value.specs.declared.value.Value.TheVariants as values
use Rattle.pj_value.specs.Order.{value_cmp}
use Rattle.pj_value.proofs.OrderLemmas.{value_total}
use Rattle.pj_answer.specs.Answers.{turned}
use Rattle.pj_answer.proofs.orders.OrderLemmas.{turned_total, none_total}
use Rattle.pj_group.specs.declared.keys.Key.{Key}
use Rattle.pj_group.specs.Indexes.{KeyValues, key_values, values_cmp, indexes_cmp, is_before}

-- ---- one total order

-- indexes stand in one order by their keys
pub indexes_total : (keys : List KeyValues) → IsTotalOrder (λ x y. indexes_cmp keys x y)
indexes_total [] = none_total
indexes_total (key ∷ keys) =
    then_total
    (turned_total _ key.descending (on_total (λ (at : ℕ). get_or key.values at (values.Num 0)) value_total))
    (indexes_total keys)

-- and the test of it is that of an order
pub indexes_ranked : (keys : List KeyValues) → IsStrictWeakOrder (is_before keys)
indexes_ranked keys = ranks_by (indexes_total keys) (λ at. at)

-- one value of so many rows, at two of them
pub values_cmp-same : (n a b : ℕ) (v : Value) → a < n → b < n → Equal ≡ values_cmp (replicate n v) a b
values_cmp-same n a b v l m =
    sym (tied_itself value_total v)
    ∙ (λ i. value_cmp (sym (get_or-replicate n a v (values.Num 0) l) i)
    (sym (get_or-replicate n b v (values.Num 0) m) i))

-- ---- one key more

pub indexes_cmp-more : (keys : List Key) (i : ℕ) (key : Key) (a b : ℕ) → i < length keys
    → key ≡ get_or keys i key → indexes_cmp (map key_values (drop i keys)) a b
    ≡ ordering_then (turned key.descending (values_cmp (key_values key).values a b))
    (indexes_cmp (map key_values (drop (i + 1) keys)) a b)
indexes_cmp-more keys i key a b l e =
    ap (λ ks. indexes_cmp (map key_values ks) a b) (drop_more keys i key l)
    ∙ ap (λ (k : Key). ordering_then (turned k.descending (values_cmp (key_values k).values a b))
    (indexes_cmp (map key_values (drop (i + 1) keys)) a b)) (sym e)
