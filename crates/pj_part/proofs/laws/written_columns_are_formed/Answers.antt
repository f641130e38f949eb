use Rattle.pj_part.proofs.FormedLemmas.{written_columns}
use Rattle.pj_part.proofs.laws.written_columns_are_formed.Goals as goal

pub returns : goal.returns
returns g c = written_columns g.B.Kept.size
