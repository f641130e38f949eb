use Rattle.std.proofs.Common.{[], ◌∷◌, map, subst, sym, ◌∙◌, ap, arith}
use Rattle.std.specs.List.{AllZip}
use Rattle.std.proofs.lemmas.List.{map-set, get_or-map, length-map}
use Rattle.std.proofs.lemmas.Result.{on_ok_weaker}
use Rattle.pj_value.specs.Values.{value_of}
use Rattle.pj_value.specs.Summaries.{Summary, Stands}
use Rattle.pj_agg.specs.Groups.{added}
use Rattle.pj_agg.proofs.GroupLemmas.{AllZip-added_from}
use Rattle.pj_agg.proofs.groups.add_value.Goals as goal

pub returns-clause-added : goal.returns-clause-added
returns-clause-added g c =
    let agg = g.S.State.agg in
    let summary = g.S.State.summary in
    let states = c.args.states.now.items in
    let number = c.args.number in
    let value = value_of c.args.cell in
    let old = c.index_mut.result.now in
    on_ok_weaker c.add.result
    (λ h groups a. subst (λ (xs : _). AllZip (Stands agg) xs (added groups (number ∷ []) (value ∷ [])))
    (sym (map-set summary states number c.add.new.self))
    (AllZip-added_from (Stands agg) 0 number number value (summary c.add.new.self) (map summary states) groups
    (omega arith) (omega (arith, length-map states summary))
    (λ d vs r. h vs (subst (λ (s : Summary). Stands agg s vs)
    (get_or-map summary states number old d c.requires.within ∙ ap summary (sym c.index_mut.ensures.value)) r))
    a)) c.add.ensures.added
