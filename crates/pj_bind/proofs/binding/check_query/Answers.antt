use Rattle.std.proofs.Common.{◌≡◌, List, refl, sym, ◌∙◌, subst, inr}
use Rattle.std.proofs.lemmas.Bool.{false≢true}
use Rattle.pj_value.specs.declared.value.Kind.{Kind}
use Rattle.pj_expr.specs.Tables.{kinds_of}
use Rattle.pj_expr.specs.Fits.{KeepsKinds}
use Rattle.pj_bind.proofs.binding.check_query.Goals as goal

pub returns-then-not-keeps_groups-clause-refused : goal.returns-then-not-keeps_groups-clause-refused
returns-then-not-keeps_groups-clause-refused c =
    let kinds : c.as_slice.result.now ≡ kinds_of c.args.table.now =
    c.as_slice.ensures.value ∙ c.in_ok-kinds.ensures in
    inr (
      refl,
      subst (λ (ks : List Kind). KeepsKinds ks c.args.query.now) kinds
          (c.keeps_kinds.ensures.0 c.if-not-keeps_kinds.false),
      λ kept. false≢true (sym c.if-not-keeps_groups.true ∙ c.keeps_groups.ensures.1 kept),
    )

pub returns-clause-kinds : goal.returns-clause-kinds
returns-clause-kinds c =
    let kinds : c.as_slice.result.now ≡ kinds_of c.args.table.now =
    c.as_slice.ensures.value ∙ c.in_ok-kinds.ensures in
    subst (λ (ks : List Kind). KeepsKinds ks c.args.query.now) kinds
    (c.keeps_kinds.ensures.0 c.if-not-keeps_kinds.false)
