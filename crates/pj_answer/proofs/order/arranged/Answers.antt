use Rattle.std.proofs.Common.{ℕ, [], get_or, rules}
use Rattle.std.proofs.lemmas.List.Sorted.{ranks_by}
use Rattle.std.proofs.lemmas.Fn.{always_returns_same}
use Rattle.pj_answer.specs.Rows.{is_before}
use Rattle.pj_answer.proofs.orders.OrderLemmas.{keys_total}
use Rattle.pj_answer.proofs.order.arranged.Goals as goal

pub returns-clause-sorted : goal.returns-clause-sorted
returns-clause-sorted c =
    let rows = c.args.rows.now.rows in
    c.in_ok-sort_by.ensures.sorted (is_before c.args.keys.now rows)
    (ranks_by (keys_total (λ (at : ℕ). get_or rows at []) c.args.keys.now 0) (λ at. at))
    (always_returns_same _ _ _ (λ a r f h. (search rules, search rules)))
