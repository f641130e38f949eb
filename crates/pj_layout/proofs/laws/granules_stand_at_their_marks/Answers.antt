use Rattle.pj_layout.proofs.MarkLemmas.{marks-stand}
use Rattle.pj_layout.proofs.laws.granules_stand_at_their_marks.Goals as goal

pub returns : goal.returns
returns c = marks-stand
