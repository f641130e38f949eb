use Rattle.pj_layout.proofs.DamageLemmas.{granule-tells}
use Rattle.pj_layout.proofs.laws.granules_tell_their_values.Goals as goal

pub returns : goal.returns
returns c = granule-tells
