use Rattle.std.proofs.Common.{◌==◌, not, map, ap, sym, ◌∙◌, rules}
use Rattle.std.proofs.lemmas.Fn.{filter_same}
use Rattle.pj_partset.specs.PinLayout.{pinned_in}
use Rattle.pj_partset.proofs.SetLemmas.{filter-map}
use Rattle.pj_partset.proofs.set.drop_pin.Goals as goal

pub returns : goal.returns
returns g c =
    let number = c.args.number in
    ap (map pinned_in)
    (filter_same _ (λ p. not (p.number == number)) _ (λ p b f' k. search rules) _ _ c.retain.ensures.filtered)
    ∙ sym (filter-map pinned_in (λ p. not (p.number == number)) c.args.pins.now.items)
