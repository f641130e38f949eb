use Rattle.pj_answer.proofs.AnswersLemmas.{same_rows_are_equal}
use Rattle.pj_answer.proofs.laws.same_rows_are_equal.Goals as goal

pub returns : goal.returns
returns c = same_rows_are_equal
