use Rattle.std.proofs.Common.{length}
use Rattle.pj_group.proofs.RowLemmas.{all-within, rows_at-all}
use Rattle.pj_group.proofs.indexes.indexes_kept.Goals as goal

pub returns-in_ok-indexes-in-All-clause-within : goal.returns-in_ok-indexes-in-All-clause-within
returns-in_ok-indexes-in-All-clause-within c =
    rw (c.in_ok-indexes-in-All.ensures, c.len.ensures) (all-within (length c.args.rows.now.rows))

pub returns-in_ok-indexes-in-All-clause-rows : goal.returns-in_ok-indexes-in-All-clause-rows
returns-in_ok-indexes-in-All-clause-rows c =
    rw (c.in-All.is, c.in_ok-indexes-in-All.ensures, c.len.ensures) (rows_at-all c.args.rows.now.rows)
