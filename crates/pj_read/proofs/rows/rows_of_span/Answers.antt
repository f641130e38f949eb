use Rattle.std.proofs.Common.{ap, ◌∙◌, map, length, arith}
use Rattle.pj_layout.specs.declared.blob.Mark.{Mark}
use Rattle.pj_part.specs.Formed.{IsFormedColumn}
use Rattle.pj_read.specs.Layout.{IsReadable}
use Rattle.pj_read.proofs.GranuleLemmas.{All-at}
use Rattle.pj_read.proofs.rows.rows_of_span.Goals as goal

pub count_rows-requires-clause-granules : goal.count_rows-requires-clause-granules
count_rows-requires-clause-granules g c =
    let first = All-at (IsReadable g.B.Kept.size c.args.span.to) c.args.files.now 0 c.index-files-0.result
    c.requires.readable c.requires.some in
    omega (arith, first.many, ap length c.as_slice.ensures)

pub returns : goal.returns
returns g c =
    λ granularity formed.
    c.count_rows.ensures granularity
    (ap (map (λ (m : Mark). m.rows)) c.as_slice.ensures
    ∙ (All-at (IsFormedColumn g.B.Kept.size granularity c.args.rows) c.args.files.now 0 c.index-files-0.result formed
    c.requires.some).granules)
