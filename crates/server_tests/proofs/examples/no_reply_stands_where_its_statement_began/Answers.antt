use Rattle.server_tests.proofs.ExampleLemmas.{no_reply_at_the_start}
use Rattle.server_tests.proofs.examples.no_reply_stands_where_its_statement_began.Goals as goal

pub returns : goal.returns
returns c = no_reply_at_the_start
