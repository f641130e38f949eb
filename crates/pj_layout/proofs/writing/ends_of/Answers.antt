use Rattle.std.proofs.Common.{◌≡◌, ◌+◌, ◌++◌, ◌∷◌, [], length, take, sym, ap, ◌∙◌, arith, length-append}
use Rattle.std.proofs.lemmas.List.{take_more}
use Rattle.pj_layout.specs.Granules.{joined, text_ends}
use Rattle.pj_layout.proofs.EndLemmas.{joined-push, text_ends-push}
use Rattle.pj_layout.proofs.writing.ends_of.Goals as goal

pub texts-preserved : goal.texts-preserved
texts-preserved c =
    let ts = c.args.texts.now in
    let i = c.texts.text-index in
    let t = c.text-item.result in
    let more : take (i + 1) ts ≡ take i ts ++ t ∷ [] =
    take_more ts i t c.texts-test.true ∙ ap (λ x. take i ts ++ x ∷ []) (sym c.text-item.is) in
    let end : c.in-Some.end ≡ length (joined (take i ts)) + length t =
    omega (arith, c.in-Some.ensures, c.texts.invariant.end, ap length c.as_slice.ensures.value) in
    record {
      ends = c.in_ok-push.ensures.items ∙ (λ j. c.texts.invariant.ends j ++ end j ∷ [])
          ∙ sym (text_ends-push (take i ts) t) ∙ ap text_ends (sym more);
      end = end ∙ sym (length-append (joined (take i ts)) t)
          ∙ sym (ap length (ap joined more ∙ joined-push (take i ts) t));
    }
