-- Facts about the order of outcomes.
use Rattle.std.proofs.Common.{◌≡◌, ℕ, ◌+◌, Bool, true, false, List, [], ◌∷◌, length, get_or, drop, refl, sym}
use Rattle.std.proofs.Common.{ap, ◌∙◌, subst, arith}
use Rattle.std.specs.Ordering.{ordering_then, ordering_reverse, flip_args}
use Rattle.std.specs.Cmp.{IsTotalOrder}
use Rattle.std.specs.declared.cmp.Ordering.{Ordering}
use Rattle.std.specs.declared.cmp.Ordering.TheVariants.{Equal}
use Rattle.std.proofs.lemmas.List.{drop_more}
use Rattle.std.proofs.lemmas.Cmp.{on_total, then_total, back_total}
use Rattle.pj_value.specs.declared.value.Value.{Value}
use Rattle.pj_value.specs.declared.value.Value.TheVariants as values
use Rattle.pj_value.specs.Rows.{value_in}
use Rattle.pj_value.specs.Order.{value_cmp}
use Rattle.pj_value.proofs.OrderLemmas.{value_total}
use Rattle.pj_expr.specs.declared.query.OrderKey.{OrderKey}
use Rattle.pj_answer.specs.Answers.{turned, order_cmp}
use Rattle.pj_answer.specs.Rows.{keys_cmp}

-- ---- outcomes stand in one order by their order rows

-- turned round or not, an order is one
pub turned_total : {X : Type 0} (R : X → X → Ordering) (descending : Bool) → IsTotalOrder R
    → IsTotalOrder (λ x y. turned descending (R x y))
turned_total R false o = o
turned_total R true o =
    let e : flip_args R ≡ (λ x y. ordering_reverse (R x y)) = λ i x y. o.antisymm y x i in
    subst IsTotalOrder e (back_total o)

-- rows with one key never differ
pub none_total : {X : Type 0} → IsTotalOrder {K = X} (λ x y. Equal)
none_total = record { antisymm = λ x y. refl; trans = λ x y z p q. p; congr = λ x y z p. refl }

-- order rows stand in one order
pub keys_total : {X : Type 0} (row : X → List Value) (keys : List OrderKey) (at : ℕ)
    → IsTotalOrder (λ x y. keys_cmp keys at (row x) (row y))
keys_total row [] at = none_total
keys_total row (key ∷ keys) at =
    then_total (turned_total _ key.descending (on_total (λ x. value_in (row x) at) value_total))
    (keys_total row keys (at + 1))

-- ---- rows with one value for each key

-- from an index on
keys_cmp-from : (keys : List OrderKey) (at : ℕ) (a b : List Value) → length a ≡ at + length keys
    → length b ≡ at + length keys → keys_cmp keys at a b ≡ order_cmp keys (drop at a) (drop at b)
keys_cmp-from [] at a b l m = refl
keys_cmp-from (key ∷ keys) at a b l m =
    ap (ordering_then (turned key.descending (value_cmp (value_in a at) (value_in b at))))
    (keys_cmp-from keys (at + 1) a b (omega arith) (omega arith))
    ∙ sym (ap (λ xs. order_cmp (key ∷ keys) xs (drop at b)) (drop_more a at (values.Num 0) (omega arith))
    ∙ ap (λ ys. order_cmp (key ∷ keys) (get_or a at (values.Num 0) ∷ drop (at + 1) a) ys)
    (drop_more b at (values.Num 0) (omega arith)))

-- they are compared item by item
pub keys_cmp-all : (keys : List OrderKey) (a b : List Value) → length a ≡ length keys → length b ≡ length keys
    → keys_cmp keys 0 a b ≡ order_cmp keys a b
keys_cmp-all keys a b l m = keys_cmp-from keys 0 a b (omega arith) (omega arith)
