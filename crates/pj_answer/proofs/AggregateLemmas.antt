-- Aggregates don't depend on the order of the values.
use Rattle.std.proofs.Common.{◌≡◌, ℕ, ◌%◌, ◌^◌, List, [], ◌∷◌, sum, refl, sym, ap, ◌∙◌}
use Rattle.std.specs.Ordering.{flip_args}
use Rattle.pj_value.specs.declared.value.Kind.{Kind}
use Rattle.pj_value.specs.declared.value.Value.{Value}
use Rattle.pj_value.specs.declared.value.Value.TheVariants as values
use Rattle.pj_value.specs.declared.value.AggKind.{AggKind}
use Rattle.pj_value.specs.declared.value.AggKind.TheVariants as aggregates
use Rattle.pj_value.specs.Order.{value_cmp}
use Rattle.pj_value.specs.Aggregates.{number_in, default, same_value, least, greatest, aggregate}
use Rattle.pj_answer.proofs.Shuffles.{Shuffle, as_long, mapped, permutation}
use Rattle.std.proofs.lemmas.List.Sorted.{sum_by-IsPermutation}
use Rattle.pj_answer.proofs.OnceLemmas.{once-shuffled}
use Rattle.pj_answer.proofs.orders.LeastLemmas.{least_or, least_or-shuffled}
use Rattle.pj_answer.proofs.orders.ValueOrder.{value_cmp_exact, same_value_decides, IsExactOrder-back}

-- a sum doesn't depend on the order
sum-shuffled : {ns ms : List ℕ} → Shuffle ns ms → sum ns ≡ sum ms
sum-shuffled {ns} {ms} s = sym (sum_by-IsPermutation (λ n. n) ns ms (permutation s))

-- the least and the greatest, by the order and by the order turned round
least_is : (kind : Kind) (vs : List Value) → least kind vs
    ≡ least_or value_cmp value_cmp_exact (default kind) vs
least_is kind [] = refl
least_is kind (v ∷ vs) = refl

greatest_is : (kind : Kind) (vs : List Value) → greatest kind vs
    ≡ least_or (flip_args value_cmp) (IsExactOrder-back value_cmp value_cmp_exact) (default kind) vs
greatest_is kind [] = refl
greatest_is kind (v ∷ vs) = refl

-- an aggregate doesn't depend on the order of the values
pub aggregate-shuffled : {vs ws : List Value} (kind : AggKind) (of : Kind) → Shuffle vs ws
    → aggregate kind of vs ≡ aggregate kind of ws
aggregate-shuffled aggregates.Count of s = ap (λ n. values.Num (n % 2 ^ 64)) (as_long s)
aggregate-shuffled aggregates.Sum of s = ap (λ n. values.Num (n % 2 ^ 64)) (sum-shuffled (mapped number_in s))
aggregate-shuffled {vs} {ws} aggregates.Min of s =
    least_is of vs ∙ least_or-shuffled value_cmp value_cmp_exact (default of) s ∙ sym (least_is of ws)
aggregate-shuffled {vs} {ws} aggregates.Max of s =
    greatest_is of vs
    ∙ least_or-shuffled (flip_args value_cmp) (IsExactOrder-back value_cmp value_cmp_exact) (default of) s
    ∙ sym (greatest_is of ws)
aggregate-shuffled aggregates.UniqExact of s =
    ap (λ n. values.Num (n % 2 ^ 64)) (as_long (once-shuffled same_value same_value_decides s))
