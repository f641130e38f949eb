use Rattle.pj_journal.proofs.PartLemmas.{blocks-of-parts}
use Rattle.pj_journal.proofs.laws.parts_are_of_blocks.Goals as goal

pub returns : goal.returns
returns c = blocks-of-parts
