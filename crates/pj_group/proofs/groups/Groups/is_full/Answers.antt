use Rattle.std.proofs.Common.{◌≡◌, ◌≤◌, ◌∷◌, [], length, ap, sym, ◌∙◌, subst, arith}
use Rattle.std.specs.List.{filter}
use Rattle.std.specs.Option.{IsSomeAnd}
use Rattle.std.proofs.lemmas.Bool.{leb-true}
use Rattle.std.proofs.lemmas.List.{length-map}
use Rattle.std.proofs.lemmas.List.Elements.{filter-append}
use Rattle.pj_expr.specs.Eval.{holds}
use Rattle.pj_group.specs.Standing.{HoldsRows, HoldsGroups}
use Rattle.pj_group.proofs.FirstRowLemmas.{HoldsRows-full}
use Rattle.pj_group.proofs.HeldLemmas.{no_elements}
use Rattle.pj_group.proofs.groups.Groups.is_full.Goals as goal

pub returns-then-is_empty : goal.returns-then-is_empty
returns-then-is_empty c = λ kinds seen more full st.
    let q = c.args.query.now in
    let held = c.args.self.now in
    let limit = c.in-Some.ensures in
    let each = subst (λ form. HoldsGroups q st.held_rows form st.groups) limit.0 st.divided in
    let none : q.order ≡ [] =
    sym c.as_slice.ensures ∙ no_elements c.as_slice.result.now (sym c.is_empty.ensures ∙ c.if-is_empty.true) in
    let long : held.len ≡ length st.held_rows =
    st.len ∙ ap length each.1 ∙ length-map st.held_rows (λ row. row ∷ []) in
    record {
      held_rows = st.held_rows;
      enough =
          subst (λ rows. HoldsRows kinds q rows st.held_rows) (sym (filter-append (holds q.filter) seen more))
          (HoldsRows-full kinds q (filter (holds q.filter) seen) st.held_rows (filter (holds q.filter) more) each.0
          none (subst (λ l. IsSomeAnd l (λ most. most ≤ length st.held_rows)) (sym limit.1)
          (omega (arith, long, leb-true c.in-Some.most held.len full))) st.enough);
      groups = st.groups;
      divided = st.divided;
      len = st.len;
      slots = st.slots;
    }
