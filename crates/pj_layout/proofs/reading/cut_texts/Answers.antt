use Rattle.std.proofs.Common.{◌+◌, ◌-◌, ◌++◌, ◌∷◌, [], get_or, take, drop, sym, ap, ◌∙◌, arith}
use Rattle.std.proofs.lemmas.List.{append_assoc}
use Rattle.pj_layout.specs.Reading.{texts_in}
use Rattle.pj_layout.proofs.CutLemmas.{next_end, texts_in-next}
use Rattle.pj_layout.proofs.reading.cut_texts.Goals as goal

pub slice_bounds-new-end : goal.slice_bounds-new-end
slice_bounds-new-end c =
    let next = next_end c.ends.from c.args.ends.now c.ends.end-index c.ends-test.true c.ends.invariant.rise in
    omega (arith, next.within, c.ends.invariant.last)

pub ends-preserved : goal.ends-preserved
ends-preserved c =
    let from = c.ends.from in
    let ends = c.args.ends.now in
    let bytes = c.args.bytes.now in
    let i = c.ends.end-index in
    let end = get_or ends i 0 in
    let next = next_end from ends i c.ends-test.true c.ends.invariant.rise in
    let text = take (end - from) (drop from bytes) in
    let left = texts_in end (drop (i + 1) ends) (drop end bytes) in
    record {
      cut = ap (λ ts. ts ++ left)
          (c.in_ok-push.ensures.items ∙ ap (λ t. c.ends.texts.items ++ t ∷ []) c.in_ok-new.ensures)
          ∙ append_assoc c.ends.texts.items (text ∷ []) left
          ∙ ap (λ ts. c.ends.texts.items ++ ts) (sym (texts_in-next from ends bytes i c.ends-test.true next.up))
          ∙ c.ends.invariant.cut;
      rise = next.rise;
      last = next.last ∙ c.ends.invariant.last;
    }
