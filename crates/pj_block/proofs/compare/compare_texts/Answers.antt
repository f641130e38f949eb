use Rattle.std.proofs.Common.{◌≡◌, replicate}
use Rattle.std.proofs.lemmas.List.{length-replicate}
use Rattle.std.proofs.lemmas.Simd.{zip2_splat, zip2_splat_left}
use Rattle.std.specs.Ordering.{nat_cmp}
use Rattle.std.specs.Cmp.Lexicographic.{slice_cmp}
use Rattle.pj_block.specs.Blocks.{text_meets}
use Rattle.pj_block.proofs.BlockLemmas.{map-zip, map-replicate}
use Rattle.pj_block.proofs.compare.compare_texts.Goals as goal

pub returns-in-Same-Same : goal.returns-in-Same-Same
returns-in-Same-Same c =
    let s = c.in-Same-Same.s.now in
    let t = c.in-Same-Same.t.now in
    let len = c.args.len in
    let e : c.cmp.result ≡ slice_cmp nat_cmp s t = cc in
    rw (
      c.in-Same-Same.is-0,
      c.in-Same-Same.is-1,
      zip2_splat_left (text_meets c.args.op) s len (replicate len t) (length-replicate len t),
      map-replicate (text_meets c.args.op s) len t,
    )
    (rw (c.is_met_by.ensures, e) at c.filled.ensures)

pub returns-in-Same-Each : goal.returns-in-Same-Each
returns-in-Same-Each c =
    rw (
      c.in-Same-Each.is-0,
      c.in-Same-Each.is-1,
      zip2_splat_left (text_meets c.args.op) c.in-Same-Each.s.now c.args.len c.in-Same-Each.ts.now
          (rw c.in-Same-Each.is-1 at c.requires.second),
    )
    c.text_met_by_one.ensures

pub returns-in-Each-Same : goal.returns-in-Each-Same
returns-in-Each-Same c =
    rw (
      c.in-Each-Same.is-0,
      c.in-Each-Same.is-1,
      zip2_splat (text_meets c.args.op) c.in-Each-Same.ss.now c.args.len c.in-Each-Same.t.now
          (rw c.in-Each-Same.is-0 at c.requires.first),
    )
    c.text_met_by_each.ensures

pub returns-in-Each-Each : goal.returns-in-Each-Each
returns-in-Each-Each c =
    rw (
      c.in-Each-Each.is-0,
      c.in-Each-Each.is-1,
      ← map-zip (text_meets c.args.op) c.in-Each-Each.ss.now c.in-Each-Each.ts.now,
    )
    c.text_met_by_rows.ensures
