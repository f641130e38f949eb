use Rattle.std.proofs.Common.{◌≡◌, take, ◌-◌, ◌<◌, ◌≤◌, suc, List, [], ◌∷◌, ◌++◌, length, map, replicate, sym, ap, ◌∙◌, subst, arith}
use Rattle.std.specs.List.{AllZip}
use Rattle.std.proofs.Math.Seq.{take-length}
use Rattle.std.proofs.lemmas.List.{append-nil, length-map, map-append, take-append-le}
use Rattle.std.proofs.lemmas.List.{length_push}
use Rattle.std.proofs.lemmas.List.Elements.{All-push}
use Rattle.std.proofs.lemmas.Slice.Zip.{AllZip-long}
use Rattle.pj_value.specs.declared.value.Value.{Value}
use Rattle.pj_value.specs.Summaries.{Stands}
use Rattle.pj_agg.proofs.GroupLemmas.{AllZip-grown}
use Rattle.pj_agg.proofs.groups.grow_states.Goals as goal

pub more-init : goal.more-init
more-init g c =
    let summaries = map g.S.State.summary c.args.states.now.items in
    record {
      grown = λ groups a.
          let none : length c.args.states.now.items - length groups ≡ 0 =
          omega (
            arith,
            AllZip-long (Stands g.S.State.agg) summaries groups a,
            length-map c.args.states.now.items g.S.State.summary,
          ) in
          subst (AllZip (Stands g.S.State.agg) summaries)
          (sym (ap (λ n. groups ++ replicate {A = List Value} n []) none ∙ append-nil groups)) a;
      kind = λ a. a;
      more = omega arith;
      kept = take-length summaries;
      most = omega arith;
    }

pub more-preserved : goal.more-preserved
more-preserved g c =
    let R = Stands g.S.State.agg in
    let summary = g.S.State.summary in
    let states = c.more.states.items in
    let one = c.unit.result in
    let long : length (states ++ one ∷ []) ≡ suc (length states) =
    omega (arith, length_push states one) in
    let below : length states < c.args.len = omega (arith, c.more.states.ok.0) in
    rw c.in_ok-push.ensures.items record {
      grown = λ groups a.
          let old : length groups ≤ length states =
          omega (
            arith,
            AllZip-long R (map summary c.args.states.now.items) groups a,
            length-map c.args.states.now.items summary,
            c.more.invariant.more,
          ) in
          subst (λ xs. AllZip R xs
          (groups ++ replicate {A = List Value} (length (states ++ one ∷ []) - length groups) []))
          (sym (map-append summary states (one ∷ [])))
          (subst (λ n. AllZip R (map summary states ++ summary one ∷ [])
          (groups ++ replicate {A = List Value} (n - length groups) [])) (sym long)
          (AllZip-grown R (summary one) (map summary states) groups (length states) old c.unit.ensures.none
          (c.more.invariant.grown groups a)));
      kind = λ a. All-push (g.S.State.is_of c.args.kind) states one (c.more.invariant.kind a) c.unit.ensures.kind;
      more = omega (arith, long, c.more.invariant.more);
      kept = ap (take (length (map summary c.args.states.now.items))) (map-append summary states (one ∷ []))
          ∙ take-append-le (length (map summary c.args.states.now.items)) (map summary states) (summary one ∷ [])
          (omega (
            arith,
            length-map c.args.states.now.items summary,
            length-map states summary,
            c.more.invariant.more,
          ))
          ∙ c.more.invariant.kept;
      most = omega (arith, long);
    }

pub returns-clause-grown : goal.returns-clause-grown
returns-clause-grown g c = λ groups a.
    let e : length c.more.states.items - length groups ≡ c.args.len - length groups =
    omega (
      arith,
      c.more.states.ok.0,
      AllZip-long (Stands g.S.State.agg) (map g.S.State.summary c.args.states.now.items) groups a,
      length-map c.args.states.now.items g.S.State.summary,
    ) in
    subst (λ n. AllZip (Stands g.S.State.agg) (map g.S.State.summary c.more.states.items)
    (groups ++ replicate {A = List Value} n [])) e (c.more.invariant.grown groups a)

pub returns-clause-len : goal.returns-clause-len
returns-clause-len g c = omega (arith, c.more.states.ok.0)
