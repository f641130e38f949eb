use Rattle.std.proofs.Common.{◌≡◌, ◌-◌}
use Rattle.pj_grammar.specs.parsing.Values.{value_at}
use Rattle.pj_grammar.specs.parsing.Tables.{member_at, more_members_at}
use Rattle.pj_sentence.proofs.MembersLoop.{members_going}
use Rattle.pj_sentence.proofs.creates.members.more_members.Given as goal

abbrev pub invariant-members : goal.invariant-members
invariant-members l =
    members_going (member_at (value_at l.most)) l.columns.items l.projections.items (l._i-end - l._i) l.rest
    ≡ more_members_at (value_at l.most) l.fn.first l.fn.rest
