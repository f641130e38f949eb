use Rattle.server_tests.proofs.ExampleLemmas.{a_worker}
use Rattle.server_tests.proofs.examples.a_worker_disturbs_no_session.Goals as goal

pub returns : goal.returns
returns c = a_worker
