use Rattle.server_tests.proofs.ExampleLemmas.{not_ones_own}
use Rattle.server_tests.proofs.examples.an_entry_of_another_session_is_not_ones_own.Goals as goal

pub returns : goal.returns
returns c = not_ones_own
