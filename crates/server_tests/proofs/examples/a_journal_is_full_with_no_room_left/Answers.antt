use Rattle.server_tests.proofs.ExampleLemmas.{full}
use Rattle.server_tests.proofs.examples.a_journal_is_full_with_no_room_left.Goals as goal

pub returns : goal.returns
returns c = full
