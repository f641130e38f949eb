use Rattle.pj_layout.proofs.ChunkLemmas.{chunks-all}
use Rattle.pj_layout.proofs.laws.chunks_are_the_column.Goals as goal

pub returns : goal.returns
returns c = chunks-all
