use Rattle.pj_grammar.proofs.WholeSentence.{statement_or_error}
use Rattle.pj_grammar.proofs.laws.statement_or_error.Goals as goal

pub returns : goal.returns
returns c = statement_or_error
