use Rattle.std.proofs.Common.{◌++◌, length, ap, ◌∙◌, arith, length-append}
use Rattle.std.proofs.lemmas.Result.{on_ok_weaker}
use Rattle.pj_layout.specs.Granules.{granule}
use Rattle.pj_layout.specs.Blobs.{column_range}
use Rattle.pj_layout.proofs.ChunkLemmas.{column_range-numbers, column_range-texts, column_range-has_granule}
use Rattle.pj_layout.proofs.blob.write_granule.Goals as goal

pub returns-in-Some-clause-bytes : goal.returns-in-Some-clause-bytes
returns-in-Some-clause-bytes c =
    let same = column_range-numbers c.args.column.now c.in-Some.numbers.now c.args.from c.args.to c.in-Some.ensures in
    on_ok_weaker c.write_number_granule.result
    (λ e. e ∙ ap (λ p. c.args.out.now.items ++ granule p) same) c.write_number_granule.ensures

pub returns-in-Some-clause-whole : goal.returns-in-Some-clause-whole
returns-in-Some-clause-whole c =
    let column = c.args.column.now in
    let same = column_range-numbers column c.in-Some.numbers.now c.args.from c.args.to c.in-Some.ensures in
    let piece = column_range column c.args.from c.args.to in
    on_ok_weaker c.write_number_granule.result
    (λ e.
    column_range-has_granule column c.args.from c.args.to c.kind-kind.ensures.of_kind c.kind-kind.ensures.fits
    c.requires.some c.requires.within c.requires.few
    (omega (
      arith,
      ap length (e ∙ ap (λ p. c.args.out.now.items ++ granule p) same),
      length-append c.args.out.now.items (granule piece),
      c.write_number_granule.new.out.ok.0,
    )))
    c.write_number_granule.ensures

pub returns-in-Some-texts-clause-bytes : goal.returns-in-Some-texts-clause-bytes
returns-in-Some-texts-clause-bytes c =
    let texts = c.in-Some-texts.texts.now in
    let same = column_range-texts c.args.column.now texts c.args.from c.args.to c.in-Some-texts.ensures in
    on_ok_weaker c.write_text_granule.result
    (λ e. e ∙ ap (λ p. c.args.out.now.items ++ granule p) same) c.write_text_granule.ensures

pub returns-in-Some-texts-clause-whole : goal.returns-in-Some-texts-clause-whole
returns-in-Some-texts-clause-whole c =
    let column = c.args.column.now in
    let same = column_range-texts column c.in-Some-texts.texts.now c.args.from c.args.to c.in-Some-texts.ensures in
    let piece = column_range column c.args.from c.args.to in
    on_ok_weaker c.write_text_granule.result
    (λ e.
    column_range-has_granule column c.args.from c.args.to c.kind-kind.ensures.of_kind c.kind-kind.ensures.fits
    c.requires.some c.requires.within c.requires.few
    (omega (
      arith,
      ap length (e ∙ ap (λ p. c.args.out.now.items ++ granule p) same),
      length-append c.args.out.now.items (granule piece),
      c.write_text_granule.new.out.ok.0,
    )))
    c.write_text_granule.ensures
