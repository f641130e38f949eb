use Rattle.pj_legal.proofs.RunLemmas.{IsPlayed-run}
use Rattle.pj_legal.proofs.laws.runs_are_legal.Goals as goal

pub returns : goal.returns
returns c = IsPlayed-run
