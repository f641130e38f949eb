use Rattle.pj_layout.proofs.DamageLemmas.{damage-exact}
use Rattle.pj_layout.proofs.laws.damage_is_exact.Goals as goal

pub returns : goal.returns
returns c = damage-exact
