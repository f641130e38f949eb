use Rattle.std.proofs.Common.{◌≡◌, Some, Err, get_or, sym, ap, subst, ◌∙◌, arith}
use Rattle.std.proofs.lemmas.Option.{slice_get-get_or}
use Rattle.pj_layout.specs.Damage.{damage}
use Rattle.pj_layout.specs.Granules.{IsGranuleOf}
use Rattle.pj_read.specs.Layout.{no_mark}
use Rattle.pj_read.proofs.GranuleLemmas.{read-chunk, chunk-undamaged, marks-rows}
use Rattle.pj_read.proofs.columns.read_granule_at.Goals as goal

pub returns-in-Ok-clause-held : goal.returns-in-Ok-clause-held
returns-in-Ok-clause-held g c =
    λ granularity values held.
    let m = get_or c.as_slice.result.now c.args.granule no_mark in
    read-chunk g.P.Blob.Kept.told granularity c.args.file.now values held c.args.granule m c.fill.new.buffer.items
    c.granules_stand_at_their_marks.ensures c.requires.there
    (ap (λ ms. get_or ms c.args.granule no_mark) c.as_slice.ensures)
    c.in_ok-fill.ensures.told c.in-Ok.values c.granules_tell_their_values.ensures
    (subst (IsGranuleOf c.args.file.now.kind m.rows c.in-Ok.values) c.as_slice-2.ensures.value c.in-Ok.ensures.read)

pub returns-in-Ok-clause-len : goal.returns-in-Ok-clause-len
returns-in-Ok-clause-len g c =
    λ granularity rows e.
    c.in-Ok.ensures.read.rows_are
    ∙ ap (λ ms. (get_or ms c.args.granule no_mark).rows) c.as_slice.ensures
    ∙ marks-rows granularity rows c.args.file.now.marks c.args.granule no_mark e c.requires.there

pub returns-in-Err-Damaged-clause-damaged : goal.returns-in-Err-Damaged-clause-damaged
returns-in-Err-Damaged-clause-damaged g c =
    λ c' k at is.
    let m = get_or c.as_slice.result.now c.args.granule no_mark in
    let place : c.in-Err-Damaged.at ≡ at = (cc (is)) in
    let said = c.in-Err-Damaged.ensures.damaged c.in-Err-Damaged.at (λ i. Err (c.in-Err-Damaged.field-0-is i)) in (
      (cc (is)),
      (cc (is)),
      omega (arith, c.in_ok-fill.ensures.reads.exact),
      record {
        mark = m;
        marked = slice_get-get_or c.args.file.now.marks c.args.granule no_mark c.requires.there
            ∙ ap (λ ms. Some (get_or ms c.args.granule no_mark)) (sym c.as_slice.ensures);
        bytes = c.fill.new.buffer.items;
        given = c.in_ok-fill.ensures.last;
        size = c.in_ok-fill.ensures.size;
        damaged = ap (damage c.args.file.now.kind m.rows) (sym c.as_slice-2.ensures.value) ∙ said ∙ ap Some place;
      },
    )

pub returns-in-Err-Damaged-clause-undamaged : goal.returns-in-Err-Damaged-clause-undamaged
returns-in-Err-Damaged-clause-undamaged g c =
    λ granularity values held c' k at is.
    let m = get_or c.as_slice.result.now c.args.granule no_mark in
    chunk-undamaged g.P.Blob.Kept.told granularity c.args.file.now values held c.args.granule m c.fill.new.buffer.items
    c.granules_stand_at_their_marks.ensures c.requires.there
    (ap (λ ms. get_or ms c.args.granule no_mark) c.as_slice.ensures)
    c.in_ok-fill.ensures.told c.in-Err-Damaged.at c.damage_is_exact.ensures c.in_ok-fill.ensures.bytes
    (ap (damage c.args.file.now.kind m.rows) (sym c.as_slice-2.ensures.value)
    ∙ c.in-Err-Damaged.ensures.damaged c.in-Err-Damaged.at (λ i. Err (c.in-Err-Damaged.field-0-is i)))
