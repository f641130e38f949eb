use Rattle.pj_legal.proofs.JoiningLemmas.{WorkerShare-more}
use Rattle.pj_legal.proofs.laws.worker_shares_go_on.Goals as goal

pub returns : goal.returns
returns c = WorkerShare-more
