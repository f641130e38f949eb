use Rattle.pj_answer.proofs.AnswersLemmas.{answers_ignore_the_order}
use Rattle.pj_answer.proofs.laws.answers_ignore_the_order.Goals as goal

pub returns : goal.returns
returns c = answers_ignore_the_order
