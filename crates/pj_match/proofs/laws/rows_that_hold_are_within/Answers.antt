use Rattle.pj_match.proofs.WithinLemmas.{rows_that_hold_are_within}
use Rattle.pj_match.proofs.laws.rows_that_hold_are_within.Goals as goal

pub returns : goal.returns
returns c = rows_that_hold_are_within
