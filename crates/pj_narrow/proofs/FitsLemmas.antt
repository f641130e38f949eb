-- Whether a condition fits: one equation for each variant.
use Rattle.std.proofs.Common.{◌≡◌, Bool, true, ◌&&◌, List, sym, ap, ◌∙◌}
use Rattle.pj_value.specs.declared.value.Kind.{Kind}
use Rattle.pj_expr.specs.declared.expr.Expr.{Expr}
use Rattle.pj_expr.specs.declared.cond.Op.{Op}
use Rattle.pj_expr.specs.declared.cond.Cond.{Cond, Cond-F, fold-Cond, fold-roll-Cond}
use Rattle.pj_expr.specs.declared.cond.Cond.TheVariants as conds
use Rattle.pj_expr.specs.Fits.{alike, expr_kind, cond_step}

-- whether a condition fits columns of these kinds
abbrev pub cond_fits : List Kind → Cond → Bool
cond_fits kinds c = fold-Cond Bool (cond_step kinds) c

module _ (kinds : List Kind) where
  -- each row satisfies it
  pub cond_fits-All : cond_fits kinds conds.All ≡ true
  cond_fits-All =
      ap (cond_fits kinds) (sym conds.rolls-All)
      ∙ fold-roll-Cond Bool (cond_step kinds) Cond-F.All

  -- a comparison
  pub cond_fits-Compare : (op : Op) (a b : Expr)
      → cond_fits kinds (conds.Compare op a b) ≡ alike (expr_kind kinds a) (expr_kind kinds b)
  cond_fits-Compare op a b =
      ap (cond_fits kinds) (sym (conds.rolls-Compare op a b))
      ∙ fold-roll-Cond Bool (cond_step kinds) (Cond-F.Compare op a b)

  -- both
  pub cond_fits-And : (a b : Cond)
      → cond_fits kinds (conds.And a b) ≡ (cond_fits kinds a && cond_fits kinds b)
  cond_fits-And a b =
      ap (cond_fits kinds) (sym (conds.rolls-And a b))
      ∙ fold-roll-Cond Bool (cond_step kinds) (Cond-F.And a b)

  -- one of both
  pub cond_fits-Or : (a b : Cond) → cond_fits kinds (conds.Or a b) ≡ (cond_fits kinds a && cond_fits kinds b)
  cond_fits-Or a b =
      ap (cond_fits kinds) (sym (conds.rolls-Or a b))
      ∙ fold-roll-Cond Bool (cond_step kinds) (Cond-F.Or a b)

  -- its opposite
  pub cond_fits-Not : (a : Cond) → cond_fits kinds (conds.Not a) ≡ cond_fits kinds a
  cond_fits-Not a =
      ap (cond_fits kinds) (sym (conds.rolls-Not a))
      ∙ fold-roll-Cond Bool (cond_step kinds) (Cond-F.Not a)
