use Rattle.pj_narrow.proofs.AnswerLemmas.{columns_are_there}
use Rattle.pj_narrow.proofs.laws.columns_are_there.Goals as goal

pub returns : goal.returns
returns c = columns_are_there
