use Rattle.pj_answer.proofs.AnswersLemmas.{distinct_rows_stand_once}
use Rattle.pj_answer.proofs.laws.distinct_rows_stand_once.Goals as goal

pub returns : goal.returns
returns c = distinct_rows_stand_once
