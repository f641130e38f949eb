use Rattle.server_tests.proofs.ExampleLemmas.{never_ends}
use Rattle.server_tests.proofs.examples.a_statement_may_never_end.Goals as goal

pub returns : goal.returns
returns c = never_ends
