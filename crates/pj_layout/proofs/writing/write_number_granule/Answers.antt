use Rattle.std.proofs.Common.{length, ◌++◌, ◌∷◌, sym, ap, ◌∙◌}
use Rattle.std.specs.List.{flat_map}
use Rattle.std.specs.Int.{bytes_low_first}
use Rattle.std.proofs.lemmas.List.{append_assoc}
use Rattle.std.proofs.lemmas.Result.{on_ok_weaker}
use Rattle.pj_value.specs.Summaries.{number_bytes}
use Rattle.pj_layout.proofs.KindLemmas.{granule-numbers}
use Rattle.pj_layout.proofs.writing.write_number_granule.Goals as goal

pub returns : goal.returns
returns c =
    let old = c.args.out.now.items in
    let numbers = c.args.numbers.now in
    on_ok_weaker c.write_numbers.result
    (λ e.
    e ∙ ap (λ bs. bs ++ flat_map number_bytes numbers) c.in_ok-write_head.ensures
    ∙ append_assoc old (78 ∷ bytes_low_first 0 4 (length numbers)) (flat_map number_bytes numbers)
    ∙ ap (λ bs. old ++ bs) (sym (granule-numbers numbers)))
    c.write_numbers.ensures
