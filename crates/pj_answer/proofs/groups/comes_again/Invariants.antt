use Rattle.std.proofs.Common.{◌≡◌, [], get_or, drop}
use Rattle.pj_answer.specs.Answers.{has_row}
use Rattle.pj_answer.specs.Groups.{comes_again}
use Rattle.pj_answer.proofs.groups.comes_again.Given as goal

abbrev pub invariant-loop-later : goal.invariant-loop-later
invariant-loop-later l =
    comes_again l.rows.rows l.at ≡ has_row (get_or l.rows.rows l.at []) (drop l.later l.rows.rows)
