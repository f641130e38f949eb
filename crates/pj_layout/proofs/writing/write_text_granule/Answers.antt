use Rattle.std.proofs.Common.{◌≡◌, length, ◌++◌, ◌∷◌, sym, ap, ◌∙◌, arith}
use Rattle.std.specs.List.{flat_map}
use Rattle.std.specs.Int.{bytes_low_first}
use Rattle.std.proofs.lemmas.List.{append_assoc}
use Rattle.std.proofs.lemmas.Result.{on_ok_weaker}
use Rattle.pj_value.specs.Summaries.{number_bytes}
use Rattle.pj_layout.specs.Granules.{joined, text_ends}
use Rattle.pj_layout.proofs.EndLemmas.{length-text_ends}
use Rattle.pj_layout.proofs.KindLemmas.{granule-texts}
use Rattle.pj_layout.proofs.writing.write_text_granule.Goals as goal

pub write_numbers-requires : goal.write_numbers-requires
write_numbers-requires c =
    omega (
      arith,
      ap length (c.as_slice.ensures.value ∙ c.in_ok-ends.ensures),
      length-text_ends c.args.texts.now,
      c.requires,
    )

pub returns : goal.returns
returns c =
    let old = c.args.out.now.items in
    let texts = c.args.texts.now in
    let head = 84 ∷ bytes_low_first 0 4 (length texts) in
    let spelled = flat_map number_bytes (text_ends texts) in
    let ends : c.as_slice.result.now ≡ text_ends texts = c.as_slice.ensures.value ∙ c.in_ok-ends.ensures in
    on_ok_weaker c.write_texts.result
    (λ e.
    e ∙ ap (λ bs. bs ++ joined texts)
    (c.in_ok-write_numbers.ensures ∙ (λ i. c.in_ok-write_head.ensures i ++ flat_map number_bytes (ends i)))
    ∙ append_assoc (old ++ head) spelled (joined texts) ∙ append_assoc old head (spelled ++ joined texts)
    ∙ ap (λ bs. old ++ bs) (sym (granule-texts texts)))
    c.write_texts.ensures
