use Rattle.std.proofs.Common.{sym, ◌∙◌}
use Rattle.pj_group.proofs.KeyedLemmas.{same_row-lengths}
use Rattle.pj_group.proofs.keyed.are_same.Goals as goal

pub returns-then-len : goal.returns-then-len
returns-then-len g c =
    same_row-lengths (g.A.Cells.key c.args.a.now) (g.B.Cells.key c.args.b.now)
    (λ e. c.if-len.true (c.len.ensures ∙ e ∙ sym c.len-len.ensures))
