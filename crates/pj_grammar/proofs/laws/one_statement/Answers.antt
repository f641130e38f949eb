use Rattle.pj_grammar.proofs.WholeSentence.{one_statement}
use Rattle.pj_grammar.proofs.laws.one_statement.Goals as goal

pub returns : goal.returns
returns c = one_statement
