use Rattle.pj_legal.proofs.RunLemmas.{Run-push}
use Rattle.pj_legal.proofs.laws.run_goes_on.Goals as goal

pub returns : goal.returns
returns c = Run-push
