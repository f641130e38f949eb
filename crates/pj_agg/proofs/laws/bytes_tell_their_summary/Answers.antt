use Rattle.pj_agg.proofs.StateLawLemmas.{bytes-tell}
use Rattle.pj_agg.proofs.laws.bytes_tell_their_summary.Goals as goal

pub returns : goal.returns
returns c = bytes-tell
