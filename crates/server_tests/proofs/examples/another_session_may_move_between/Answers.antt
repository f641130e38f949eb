use Rattle.server_tests.proofs.ExampleLemmas.{another_session}
use Rattle.server_tests.proofs.examples.another_session_may_move_between.Goals as goal

pub returns : goal.returns
returns c = another_session
