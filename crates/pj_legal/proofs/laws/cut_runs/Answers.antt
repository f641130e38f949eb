use Rattle.pj_legal.proofs.RunLemmas.{IsPlayed-cut}
use Rattle.pj_legal.proofs.laws.cut_runs.Goals as goal

pub returns : goal.returns
returns c = IsPlayed-cut
