use Rattle.server_tests.proofs.ExampleLemmas.{not_full}
use Rattle.server_tests.proofs.examples.no_journal_is_full_with_room_left.Goals as goal

pub returns : goal.returns
returns c = not_full
