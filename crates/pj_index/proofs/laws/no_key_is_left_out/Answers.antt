use Rattle.pj_index.proofs.SelectionLemmas.{no_key_is_left_out}
use Rattle.pj_index.proofs.laws.no_key_is_left_out.Goals as goal

pub returns : goal.returns
returns c = no_key_is_left_out
