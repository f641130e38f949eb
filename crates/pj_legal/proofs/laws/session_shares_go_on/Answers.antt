use Rattle.pj_legal.proofs.JoiningLemmas.{SessionShare-more}
use Rattle.pj_legal.proofs.laws.session_shares_go_on.Goals as goal

pub returns : goal.returns
returns c = SessionShare-more
