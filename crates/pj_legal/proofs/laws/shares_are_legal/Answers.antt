use Rattle.pj_legal.proofs.JoiningLemmas.{IsLegal-shares}
use Rattle.pj_legal.proofs.laws.shares_are_legal.Goals as goal

pub returns : goal.returns
returns c = IsLegal-shares
