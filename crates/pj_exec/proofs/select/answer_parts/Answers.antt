use Rattle.std.proofs.Common.{subst, ◌∙◌}
use Rattle.pj_value.specs.Rows.{HaveKinds}
use Rattle.pj_expr.specs.Tables.{kinds_of}
use Rattle.pj_part.specs.Formed.{kinds_at}
use Rattle.pj_exec.specs.Layout.{HoldsPart}
use Rattle.pj_exec.proofs.ScanLemmas.{rows-all}
use Rattle.pj_exec.proofs.SelectLemmas.{Answers-rows}
use Rattle.pj_exec.proofs.select.answer_parts.Goals as goal

pub answer-requires : goal.answer-requires
answer-requires g c =
    let stands = c.in_ok-groups.ensures.stands in
    (kinds_at (kinds_of c.args.table.now) c.args.columns.now, stands.seen, c.requires.fits, stands.stands)

pub returns-clause-shape : goal.returns-clause-shape
returns-clause-shape g c =
    λ all held.
    let stands = c.in_ok-groups.ensures.stands in
    subst (HaveKinds (kinds_at (kinds_of c.args.table.now) c.args.columns.now))
    (stands.held all held
    ∙ rows-all (HoldsPart g.P.Blob.Kept.told c.args.table.now) c.args.columns.now c.args.parts.now all held)
    stands.shape

pub returns-clause-answers : goal.returns-clause-answers
returns-clause-answers g c =
    λ all held.
    let stands = c.in_ok-groups.ensures.stands in
    Answers-rows
    (stands.held all held
    ∙ rows-all (HoldsPart g.P.Blob.Kept.told c.args.table.now) c.args.columns.now c.args.parts.now all held)
    (c.in_ok-answer.ensures (kinds_at (kinds_of c.args.table.now) c.args.columns.now) stands.seen
    c.requires.fits stands.stands)

pub returns-clause-kinds : goal.returns-clause-kinds
returns-clause-kinds g c =
    let stands = c.in_ok-groups.ensures.stands in
    (c.in_ok-answer.ensures (kinds_at (kinds_of c.args.table.now) c.args.columns.now) stands.seen
    c.requires.fits stands.stands).kinds
