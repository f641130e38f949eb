-- The columns that a query uses are there, where it fits.
use Rattle.std.proofs.Common.{◌≡◌, inl, inr, ℕ, ◌<◌, true, ◌||◌, List, length, Option}
use Rattle.std.proofs.Common.{sym, ap, ◌∙◌, subst}
use Rattle.std.specs.List.{list_any}
use Rattle.std.proofs.lemmas.Bool.{false≢true, eqb-true}
use Rattle.pj_value.specs.declared.value.Kind.{Kind}
use Rattle.pj_value.specs.declared.value.Kind.TheVariants.{Num}
use Rattle.pj_value.specs.declared.value.AggKind.{AggKind}
use Rattle.pj_value.specs.declared.value.AggKind.TheVariants as aggregates
use Rattle.pj_expr.specs.declared.expr.Expr.{Expr}
use Rattle.pj_expr.specs.declared.cond.Cond.{Cond}
use Rattle.pj_expr.specs.declared.query.Item.{Item}
use Rattle.pj_expr.specs.declared.query.Item.TheVariants.{Plain, Agg}
use Rattle.pj_expr.specs.declared.query.Query.{Query}
use Rattle.pj_expr.specs.Fits.{FitsExpr, FitsCond, FitsCallOf, FitsItem, KeepsKinds}
use Rattle.pj_expr.proofs.FitsLemmas.{FitsExpr-Column, FitsExpr-Add, FitsExpr-Mul, FitsExpr-IntDiv}
use Rattle.pj_expr.proofs.FitsLemmas.{FitsExpr-Mod, FitsCond-Compare}
use Rattle.pj_narrow.specs.Narrowing.{expr_uses, cond_uses, argument_uses, item_uses, query_uses}
use Rattle.pj_narrow.proofs.ListLemmas.{either, both-first, both-second, from_any}
use Rattle.pj_narrow.proofs.TreeLemmas.{each_expr, each_cond}
use Rattle.pj_narrow.proofs.UsesLemmas.{expr_uses-Column, expr_uses-Num, expr_uses-Text, expr_uses-Add}
use Rattle.pj_narrow.proofs.UsesLemmas.{expr_uses-Mul, expr_uses-IntDiv, expr_uses-Mod}
use Rattle.pj_narrow.proofs.UsesLemmas.{cond_uses-All, cond_uses-Compare, cond_uses-And, cond_uses-Or}
use Rattle.pj_narrow.proofs.UsesLemmas.{cond_uses-Not}
use Rattle.pj_narrow.proofs.FitsLemmas.{cond_fits, cond_fits-And, cond_fits-Or, cond_fits-Not}

module _ (kinds : List Kind) (c : ℕ) where
  -- of an expression
  pub expr-within : (e : Expr) → FitsExpr kinds e → expr_uses c e ≡ true → c < length kinds
  expr-within = each_expr
      (λ e. FitsExpr kinds e → expr_uses c e ≡ true → c < length kinds)
      (λ at f u. subst (λ k. k < length kinds) (eqb-true at c (sym (expr_uses-Column c at) ∙ u))
      (FitsExpr-Column kinds at f))
      (λ n f u. absurd (false≢true (sym (expr_uses-Num c n) ∙ u)))
      (λ t f u. absurd (false≢true (sym (expr_uses-Text c t) ∙ u)))
      (λ a b first second f u.
      let n = FitsExpr-Add kinds a b f in
      elim (either (expr_uses c a) (expr_uses c b) (sym (expr_uses-Add c a b) ∙ u))
      [ inl v ↦ first (Num, n.first) v | inr v ↦ second (Num, n.second) v ])
      (λ a b first second f u.
      let n = FitsExpr-Mul kinds a b f in
      elim (either (expr_uses c a) (expr_uses c b) (sym (expr_uses-Mul c a b) ∙ u))
      [ inl v ↦ first (Num, n.first) v | inr v ↦ second (Num, n.second) v ])
      (λ a d first f u.
      first (Num, (FitsExpr-IntDiv kinds a d f).dividend) (sym (expr_uses-IntDiv c a d) ∙ u))
      (λ a d first f u.
      first (Num, (FitsExpr-Mod kinds a d f).dividend) (sym (expr_uses-Mod c a d) ∙ u))

  -- of a condition
  pub cond-within : (filter : Cond) → FitsCond kinds filter → cond_uses c filter ≡ true → c < length kinds
  cond-within = each_cond
      (λ filter. FitsCond kinds filter → cond_uses c filter ≡ true → c < length kinds)
      (λ f u. absurd (false≢true (sym (cond_uses-All c) ∙ u)))
      (λ op a b f u.
      let k = FitsCond-Compare kinds op a b f in
      elim (either (expr_uses c a) (expr_uses c b) (sym (cond_uses-Compare c op a b) ∙ u))
      [ inl v ↦ expr-within a (k.kind, k.first) v | inr v ↦ expr-within b (k.kind, k.second) v ])
      (λ a b first second f u.
      let g = sym (cond_fits-And kinds a b) ∙ f in
      elim (either (cond_uses c a) (cond_uses c b) (sym (cond_uses-And c a b) ∙ u)) [
        | inl v ↦ first (both-first (cond_fits kinds a) (cond_fits kinds b) g) v
        | inr v ↦ second (both-second (cond_fits kinds a) (cond_fits kinds b) g) v
      ])
      (λ a b first second f u.
      let g = sym (cond_fits-Or kinds a b) ∙ f in
      elim (either (cond_uses c a) (cond_uses c b) (sym (cond_uses-Or c a b) ∙ u)) [
        | inl v ↦ first (both-first (cond_fits kinds a) (cond_fits kinds b) g) v
        | inr v ↦ second (both-second (cond_fits kinds a) (cond_fits kinds b) g) v
      ])
      (λ a first f u. first (sym (cond_fits-Not kinds a) ∙ f) (sym (cond_uses-Not c a) ∙ u))

  -- of a call
  call-within : (kind : AggKind) (argument : Option Expr) → FitsCallOf kinds kind argument
      → argument_uses c argument ≡ true → c < length kinds
  call-within aggregates.Count argument f u = absurd (false≢true (sym (ap (argument_uses c) f) ∙ u))
  call-within aggregates.Sum argument f u =
      expr-within f.0 (Num, f.2) (sym (ap (argument_uses c) f.1) ∙ u)
  call-within aggregates.Min argument f u = expr-within f.0 f.2 (sym (ap (argument_uses c) f.1) ∙ u)
  call-within aggregates.Max argument f u = expr-within f.0 f.2 (sym (ap (argument_uses c) f.1) ∙ u)
  call-within aggregates.UniqExact argument f u =
      expr-within f.0 f.2 (sym (ap (argument_uses c) f.1) ∙ u)

  -- of an item
  item-within : (item : Item) → FitsItem kinds item → item_uses c item ≡ true → c < length kinds
  item-within (Plain e) f u = expr-within e f u
  item-within (Agg call) f u = call-within call.kind call.argument f u

  -- of a query
  pub query-within : (q : Query) → KeepsKinds kinds q → query_uses c q ≡ true → c < length kinds
  query-within q fits u =
      let groups = list_any (expr_uses c) q.groups in
      let order = list_any (λ key. item_uses c key.item) q.order in
      elim (either (list_any (item_uses c) q.items) (cond_uses c q.filter || (groups || order)) u) [
        | inl v ↦ from_any (item_uses c) (FitsItem kinds) item-within q.items fits.items v
        | inr w ↦ elim (either (cond_uses c q.filter) (groups || order) w) [
          | inl v ↦ cond-within q.filter fits.filter v
          | inr x ↦ elim (either groups order x) [
            | inl v ↦ from_any (expr_uses c) (FitsExpr kinds) expr-within q.groups fits.groups v
            | inr v ↦ from_any (λ key. item_uses c key.item) (λ key. FitsItem kinds key.item)
                (λ key. item-within key.item) q.order fits.order v
          ]
        ]
      ]
