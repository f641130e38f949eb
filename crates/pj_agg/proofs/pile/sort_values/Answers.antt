use Rattle.std.proofs.Common.{rules}
use Rattle.std.specs.Ordering.{is_lt}
use Rattle.std.proofs.lemmas.Fn.{always_returns_same}
use Rattle.std.proofs.lemmas.List.Sorted.{ranks_by}
use Rattle.pj_value.specs.Order.{value_cmp}
use Rattle.pj_value.proofs.OrderLemmas.{value_total}
use Rattle.pj_agg.proofs.pile.sort_values.Goals as goal

pub returns-in-Ok-clause-sorted : goal.returns-in-Ok-clause-sorted
returns-in-Ok-clause-sorted g c =
    let value = g.T.Valued.value in
    c.in-Ok.ensures.sorted (λ x y. is_lt (value_cmp (value x) (value y))) (ranks_by value_total value)
    (always_returns_same _ _ _ (λ a r f h. (search rules, search rules)))

pub returns-in-Err-clause-sorted : goal.returns-in-Err-clause-sorted
returns-in-Err-clause-sorted g c =
    let value = g.T.Valued.value in
    c.sort_unstable_by.ensures.sorted (λ x y. is_lt (value_cmp (value x) (value y)))
    (ranks_by value_total value) (always_returns_same _ _ _ (λ a r f h. (search rules, search rules)))
