use Rattle.std.proofs.Common.{rules}
use Rattle.std.proofs.lemmas.List.Sorted.{ranks_by}
use Rattle.std.proofs.lemmas.Fn.{always_returns_same}
use Rattle.pj_value.specs.Columns.{values_of, row_at}
use Rattle.pj_value.specs.Layout.{is_before}
use Rattle.pj_value.proofs.OrderLemmas.{key_total}
use Rattle.pj_value.proofs.sorting.sorted_indexes.Goals as goal

pub returns-clause-sorted : goal.returns-clause-sorted
returns-clause-sorted c =
    c.in_ok-sort_by.ensures.sorted (is_before c.args.columns.now c.args.keys.now)
    (ranks_by (key_total (row_at (values_of c.args.columns.now)) c.args.keys.now) (λ at. at))
    (always_returns_same _ _ _ (λ a r f h. (search rules, search rules)))

pub returns-clause-stable : goal.returns-clause-stable
returns-clause-stable c =
    rw c.in_ok-indexes.ensures at
    (c.in_ok-sort_by.ensures.stable (is_before c.args.columns.now c.args.keys.now)
    (ranks_by (key_total (row_at (values_of c.args.columns.now)) c.args.keys.now) (λ at. at))
    (always_returns_same _ _ _ (λ a r f h. (search rules, search rules))))
