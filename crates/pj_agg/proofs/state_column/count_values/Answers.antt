use Rattle.std.proofs.Common.{◌+◌, ◌<◌, List, length, map, set, take, get_or, subst, refl, sym, ap, ◌∙◌, arith}
use Rattle.std.specs.List.{AllZip}
use Rattle.std.proofs.lemmas.List.{map-set, get_or-map, get_or_default, length-map, length-set, take_all}
use Rattle.pj_value.specs.declared.value.AggKind.TheVariants as aggregates
use Rattle.pj_value.specs.declared.value.Value.TheVariants as values
use Rattle.pj_value.specs.Summaries.{Summary, Number, Stands}
use Rattle.pj_agg.specs.declared.count_state.CountState.{CountState}
use Rattle.pj_agg.specs.Groups.{added}
use Rattle.pj_agg.proofs.GroupLemmas.{added_from-none, added-more, count-push, AllZip-added_from}
use Rattle.pj_agg.proofs.state_column.count_values.Goals as goal

abbrev kept : CountState → Summary
kept s = Number s.count

pub rows-init : goal.rows-init
rows-init c = record {
  counted = λ groups vs l a.
      subst (AllZip (Stands aggregates.Count) (map kept c.args.states.now.items))
      (sym (added_from-none 0 groups)) a;
  len = refl;
}

pub rows-preserved : goal.rows-preserved
rows-preserved c =
    let ns = c.args.numbers.now in
    let i = c.rows.number-index in
    let n = get_or ns i 0 in
    let states = c.rows.states.items in
    let old = c.index_mut.result.now in
    let new = c.count_one.new.self in
    let within : n < length states = omega (arith, c.requires i 0, c.rows.invariant.len) in
    record {
      counted = λ groups vs l a.
          let v = get_or vs i (values.Num 0) in
          let so_far = added groups (take i ns) (take i vs) in
          subst (λ (xs : List Summary). AllZip (Stands aggregates.Count) xs
          (added groups (take (i + 1) ns) (take (i + 1) vs)))
          (sym (map-set kept states n new))
          (subst (AllZip (Stands aggregates.Count) (set (map kept states) n (kept new)))
          (sym (added-more groups ns vs i v l c.rows-test.true
          (get_or_default vs i (values.Num 0) v (omega (arith, l)))))
          (AllZip-added_from (Stands aggregates.Count) 0 n n v (kept new) (map kept states) so_far (omega arith)
          (omega (arith, length-map states kept))
          (λ d us r. count-push old.count new.count us v
          (subst (λ (s : Summary). Stands aggregates.Count s us)
          (get_or-map kept states n old d within ∙ ap kept (sym c.index_mut.ensures.value)) r)
          c.count_one.ensures)
          (c.rows.invariant.counted groups vs l a)));
      len = length-set states n new ∙ c.rows.invariant.len;
    }

pub returns-clause-counted : goal.returns-clause-counted
returns-clause-counted c = λ groups vs l a.
    let ns = c.args.numbers.now in
    let i = c.rows.number-index in
    subst (AllZip (Stands aggregates.Count) (map kept c.rows.states.items))
    ((λ j. added groups (take_all i ns c.rows-test.false j) (take_all i vs (omega arith) j)))
    (c.rows.invariant.counted groups vs l a)
