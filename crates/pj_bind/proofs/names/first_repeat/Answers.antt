use Rattle.std.proofs.Common.{◌≡◌, ℕ, ◌<◌, List, length, take, get_or, Contains, refl, sym, ◌∙◌, subst, arith}
use Rattle.std.proofs.lemmas.List.{take_all}
use Rattle.std.proofs.lemmas.Option.{slice_get_read}
use Rattle.pj_bind.specs.Names.{Name}
use Rattle.pj_bind.proofs.NameLemmas.{has-Contains, not_false, new-name, seen-more, NoneRepeats-more}
use Rattle.pj_bind.proofs.names.first_repeat.Goals as goal

pub returns-then-not-branch : goal.returns-then-not-branch
returns-then-not-branch c =
    let before : List Name = take c.names.name-index c.args.names.now in
    record {
      at = c.names.name-index;
      there =
          slice_get_read c.args.names.now (length c.args.names.now) c.names.name-index c.name-item.result refl
          (omega arith) c.name-item.is;
      repeats =
          subst (λ (q : Name). Contains before q) c.as_slice.ensures.value
          (has-Contains before c.as_slice.result.now
          (sym (c.names.invariant.seen c.as_slice.result.now)
          ∙ not_false _ _ c.in_ok-insert.ensures.added c.if-not-branch.true));
      before = c.names.invariant.once;
    }

pub names-preserved : goal.names-preserved
names-preserved c =
    let names : List Name = c.args.names.now in
    let before : List Name = take c.names.name-index names in
    let i : ℕ = c.names.name-index in
    let name : Name = c.as_slice.result.now in
    let within : i < length names = omega arith in
    let read : name ≡ get_or names i c.name-item.result = c.as_slice.ensures.value ∙ c.name-item.is in
    record {
      once =
          NoneRepeats-more names i c.name-item.result within c.names.invariant.once
          (λ among. new-name before name _ _ c.in_ok-insert.ensures.added c.if-not-branch.false
          (c.names.invariant.seen name) (subst (λ (q : Name). Contains before q) (sym read) among));
      seen =
          λ q. seen-more q names i name c.name-item.result _ _ within read (c.names.invariant.seen q)
          (c.in_ok-insert.ensures.updates.0 (record { ref_ptr = (0, 0); now = q }));
    }

pub returns : goal.returns
returns c = rw (sym (take_all c.names.name-index c.args.names.now (omega arith))) c.names.invariant.once
