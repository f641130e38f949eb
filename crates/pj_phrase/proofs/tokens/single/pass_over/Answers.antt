use Rattle.std.proofs.Common.{◌≡◌, Some, rules}
use Rattle.pj_grammar.specs.parsing.Parser.{one_at, begins}
use Rattle.pj_phrase.proofs.tokens.single.pass_over.Goals as goal

-- the symbol comes next
pub returns-in-Some-Symbol-default : goal.returns-in-Some-Symbol-default
unfolding one_at begins
returns-in-Some-Symbol-default c = (Some tt, search rules)
