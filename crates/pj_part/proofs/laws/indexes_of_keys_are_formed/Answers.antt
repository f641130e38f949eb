use Rattle.pj_part.proofs.FormedLemmas.{indexes_of_keys}
use Rattle.pj_part.proofs.laws.indexes_of_keys_are_formed.Goals as goal

pub returns : goal.returns
returns c = indexes_of_keys
