use Rattle.pj_part.proofs.FormedLemmas.{granules_within, granules_have_the_rows}
use Rattle.pj_part.proofs.laws.formed_columns_are_whole.Goals as goal

pub returns-clause-within : goal.returns-clause-within
returns-clause-within g c = granules_within g.B.Kept.size

pub returns-clause-rows : goal.returns-clause-rows
returns-clause-rows g c = granules_have_the_rows g.B.Kept.size
