use Rattle.pj_journal.proofs.PartLemmas.{rows-of-parts}
use Rattle.pj_journal.proofs.laws.parts_hold_the_rows.Goals as goal

pub returns : goal.returns
returns c = rows-of-parts
