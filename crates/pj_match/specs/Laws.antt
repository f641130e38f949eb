-- Laws of the ranges of filters.
use Rattle.std.specs.Prelude.{◌≡◌, true, List, map}
use Rattle.pj_value.specs.declared.value.Value.{Value}
use Rattle.pj_expr.specs.declared.expr.Expr.{Expr}
use Rattle.pj_expr.specs.declared.cond.Cond.{Cond}
use Rattle.pj_expr.specs.Eval.{eval, holds}
use Rattle.pj_index.specs.declared.keys.KeyRange.{KeyRange}
use Rattle.pj_index.specs.Selection.{is_within}
use Rattle.pj_match.specs.Ranges.{IsRangeOf}

-- a row that holds the filter has its key in the range
abbrev pub RowsThatHoldAreWithin : Type 0
RowsThatHoldAreWithin =
    (filter : Cond) (key : List Expr) (range : KeyRange) (row : List Value)
    → IsRangeOf filter key range → holds filter row ≡ true
    → is_within range (map (λ e. eval e row) key) ≡ true
