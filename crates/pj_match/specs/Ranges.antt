-- The range of keys that a filter allows (docs/MODEL.md, "Granules and ranges").
use Rattle.std.specs.Prelude.{◌≡◌, Bool, true, false, List, [], ◌∷◌, ◌++◌, Option, Some, None}
use Rattle.pj_value.specs.declared.value.Value.{Value}
use Rattle.pj_value.specs.declared.value.Value.TheVariants as values
use Rattle.pj_value.specs.Aggregates.{lesser, greater}
use Rattle.pj_value.specs.Summaries.{extreme_of}
use Rattle.pj_expr.specs.declared.expr.Expr.{Expr}
use Rattle.pj_expr.specs.declared.expr.Expr.TheOpen.{Expr-F}
use Rattle.pj_expr.specs.declared.expr.Expr.TheFolds.{fold-Expr}
use Rattle.pj_expr.specs.declared.cond.Op.{Op}
use Rattle.pj_expr.specs.declared.cond.Op.TheVariants as ops
use Rattle.pj_expr.specs.declared.cond.Cond.{Cond}
use Rattle.pj_expr.specs.declared.cond.Cond.TheOpen.{Cond-F}
use Rattle.pj_expr.specs.declared.cond.Cond.TheFolds.{fold-Cond}
use Rattle.pj_index.specs.declared.keys.KeyRange.{KeyRange}

-- ---- the bounds that a filter gives

-- a comparison of a component with a literal, with the component on the left
pub record Bound : Type 0 where
  pub component : Expr
  pub op : Op
  pub value : Value

-- the comparison with its sides exchanged
abbrev pub turned : Op → Op
turned ops.Eq = ops.Eq
turned ops.Ne = ops.Ne
turned ops.Lt = ops.Gt
turned ops.Le = ops.Ge
turned ops.Gt = ops.Lt
turned ops.Ge = ops.Le

-- the value of an expression that is a literal, whatever its operands are
abbrev pub literal_step : Expr-F (Option Value) → Option Value
literal_step (Expr-F.Column c) = None
literal_step (Expr-F.Num n) = Some (values.Num n)
literal_step (Expr-F.Text t) = Some (values.Text t)
literal_step (Expr-F.Add a b) = None
literal_step (Expr-F.Mul a b) = None
literal_step (Expr-F.IntDiv a d) = None
literal_step (Expr-F.Mod a d) = None

-- the value of an expression that is a literal, and none of any other
abbrev pub literal : Expr → Option Value
literal e = fold-Expr (Option Value) literal_step e

-- the bound that a comparison is, where a literal stands on its right
abbrev pub bound_by : Expr → Op → Option Value → List Bound
bound_by component op None = []
bound_by component op (Some value) = record { component = component; op = op; value = value } ∷ []

-- the bounds of a condition, where those of its parts are known
abbrev pub bounds_step : Cond-F (List Bound) → List Bound
bounds_step Cond-F.All = []
bounds_step (Cond-F.Compare op a b) = bound_by a op (literal b) ++ bound_by b (turned op) (literal a)
bounds_step (Cond-F.And a b) = a ++ b
bounds_step (Cond-F.Or a b) = []
bounds_step (Cond-F.Not a) = []

-- the bounds among the conjuncts of a filter, in their order and on whatever they are: a comparison with a
-- literal, either way round, is one, an AND has those of its two sides, and no other filter has any
abbrev pub bounds : Cond → List Bound
bounds filter = fold-Cond (List Bound) bounds_step filter

-- ---- those of one component

-- the comparison fixes its left side
abbrev pub fixes : Op → Bool
fixes ops.Eq = true
fixes ops.Ne = false
fixes ops.Lt = false
fixes ops.Le = false
fixes ops.Gt = false
fixes ops.Ge = false

-- it bounds its left side from below; a strict bound counts as the others
abbrev pub bounds_below : Op → Bool
bounds_below ops.Eq = false
bounds_below ops.Ne = false
bounds_below ops.Lt = false
bounds_below ops.Le = false
bounds_below ops.Gt = true
bounds_below ops.Ge = true

-- it bounds its left side from above
abbrev pub bounds_above : Op → Bool
bounds_above ops.Eq = false
bounds_above ops.Ne = false
bounds_above ops.Lt = true
bounds_above ops.Le = true
bounds_above ops.Gt = false
bounds_above ops.Ge = false

-- the bound is on the component, by one of these comparisons
pub record IsOn (among : Op → Bool) (component : Expr) (bound : Bound) : Type 0 where
  pub same : bound.component ≡ component
  pub chosen : among bound.op ≡ true

-- the literals of such bounds, in their order
pub data AreLiterals (among : Op → Bool) (component : Expr) : List Bound → List Value → Type 0 where
  none : AreLiterals among component [] []
  on : {b : Bound} {bs : List Bound} {vs : List Value} → IsOn among component b
      → AreLiterals among component bs vs → AreLiterals among component (b ∷ bs) (b.value ∷ vs)
  off : {b : Bound} {bs : List Bound} {vs : List Value} → (IsOn among component b → ⊥)
      → AreLiterals among component bs vs → AreLiterals among component (b ∷ bs) vs

-- what a choice between two leaves of the literals of such bounds, where there are any
pub record IsChosen (among : Op → Bool) (choose : Value → Value → Value) (component : Expr) (all : List Bound)
    (found : Option Value) : Type 0 where
  pub literals : List Value
  pub are : AreLiterals among component all literals
  pub is : found ≡ extreme_of choose literals

-- the former of two
abbrev pub former : Value → Value → Value
former a b = a

-- ---- the range

-- a bound of a range: one value, or none
abbrev pub as_list : Option Value → List Value
as_list None = []
as_list (Some value) = value ∷ []

-- a component that is fixed has its first literal in both bounds of the range, and the next component follows;
-- one that isn't has the greatest literal that bounds it from below and the least that bounds it from above, and
-- that is all
pub data IsRange (all : List Bound) : List Expr → KeyRange → Type 0 where
  whole : IsRange all [] (record { low = []; high = [] })
  fixed : {c : Expr} {key : List Expr} {value : Value} {rest : KeyRange}
      → IsChosen fixes former c all (Some value) → IsRange all key rest
      → IsRange all (c ∷ key) (record { low = value ∷ rest.low; high = value ∷ rest.high })
  open_ended : {c : Expr} {key : List Expr} {low high : Option Value}
      → IsChosen fixes former c all None
      → IsChosen bounds_below greater c all low → IsChosen bounds_above lesser c all high
      → IsRange all (c ∷ key) (record { low = as_list low; high = as_list high })

-- the range of a filter over a key
abbrev pub IsRangeOf : Cond → List Expr → KeyRange → Type 0
IsRangeOf filter key range = IsRange (bounds filter) key range
