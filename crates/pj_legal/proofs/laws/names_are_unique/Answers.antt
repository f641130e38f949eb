use Rattle.pj_legal.proofs.LegalNames.{HasUniqueNames-regular}
use Rattle.pj_legal.proofs.laws.names_are_unique.Goals as goal

pub returns : goal.returns
returns c = HasUniqueNames-regular
