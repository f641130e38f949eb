use Rattle.pj_value.proofs.SummaryBytesLemmas.{bytes_apart}
use Rattle.pj_value.proofs.laws.bytes_tell_summaries_apart.Goals as goal

pub returns : goal.returns
returns c = bytes_apart
