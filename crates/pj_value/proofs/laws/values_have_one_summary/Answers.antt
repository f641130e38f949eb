use Rattle.std.proofs.Common.{sym, ◌∙◌}
use Rattle.pj_value.proofs.OneSummaryLemmas.{summary_of, Stands-summary_of, Stands-is}
use Rattle.pj_value.proofs.laws.values_have_one_summary.Goals as goal

pub returns-clause-one : goal.returns-clause-one
returns-clause-one c = λ agg vs a b h k. Stands-is agg a vs h ∙ sym (Stands-is agg b vs k)

pub returns-clause-some : goal.returns-clause-some
returns-clause-some c = λ agg vs. (summary_of agg vs, Stands-summary_of agg vs)
