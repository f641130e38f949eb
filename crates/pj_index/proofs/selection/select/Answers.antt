use Rattle.std.proofs.Common.{rules}
use Rattle.std.specs.Prelude.{not}
use Rattle.pj_index.specs.Selection.{is_above, is_below, first_of, end_of}
use Rattle.pj_index.proofs.SpanLemmas.{AreSplits-from, IsSpanOf-splits}
use Rattle.pj_index.proofs.selection.select.Goals as goal

pub returns : goal.returns
returns c =
    let marks = c.args.marks.now in
    let range = c.args.range.now in
    IsSpanOf-splits marks range c.first_failing-from.result c.first_failing-to.result c.span_between.result
    (AreSplits-from marks range c.len-granules.result c.first_failing-from.result c.first_failing-to.result
    c.requires c.len-granules.ensures
    (c.first_failing-from.ensures (λ granule. is_below range.low (end_of marks granule))
    (λ granule answer l e. search rules))
    (c.first_failing-to.ensures (λ granule. not (is_above range.high (first_of marks granule)))
    (λ granule answer l e. search rules)))
    c.span_between.ensures.some c.span_between.ensures.none
