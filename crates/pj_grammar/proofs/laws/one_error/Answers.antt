use Rattle.pj_grammar.proofs.WholeSentence.{one_error}
use Rattle.pj_grammar.proofs.laws.one_error.Goals as goal

pub returns : goal.returns
returns c = one_error
