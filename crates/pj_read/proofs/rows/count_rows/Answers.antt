use Rattle.std.proofs.Common.{◌≡◌, ◌-◌, ◌*◌, min, sym, subst, arith}
use Rattle.pj_read.proofs.RowLemmas.{marks-tell}
use Rattle.pj_read.proofs.rows.count_rows.Goals as goal

pub returns : goal.returns
returns c =
    λ granularity e.
    let from = c.args.span.from in
    let to = c.args.span.to in
    let rows = c.args.rows in
    let each = c.first_rows-each.result in
    let tell : min (to * each) rows - from * each ≡ min (to * granularity) rows - from * granularity =
    subst (λ n. min (to * n) rows - from * n ≡ min (to * granularity) rows - from * granularity)
    (sym c.first_rows-each.ensures)
    (marks-tell granularity rows from to c.args.marks.now c.requires.span c.requires.granules e) in
    omega (arith, tell)
