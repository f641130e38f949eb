use Rattle.server_tests.proofs.ExampleLemmas.{never_commits}
use Rattle.server_tests.proofs.examples.a_statement_that_never_ends_commits_nothing.Goals as goal

pub returns : goal.returns
returns c = never_commits
