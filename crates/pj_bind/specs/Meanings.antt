-- What a tree is once its names are columns: a value or a condition (docs/GRAMMAR.md, "Binding").
use Rattle.std.specs.Prelude.{ℕ, List, Option, Some, None}
use Rattle.std.specs.Option.{option_map, option_and_then}
use Rattle.std.specs.List.{position}
use Rattle.std.specs.Str.{bytes_eq}
use Rattle.pj_grammar.specs.declared.types.TreeOp.{TreeOp}
use Rattle.pj_grammar.specs.declared.types.TreeOp.TheVariants as tree_ops
use Rattle.pj_grammar.specs.declared.types.Tree.{Tree}
use Rattle.pj_grammar.specs.declared.types.Tree.TheOpen.{Tree-F}
use Rattle.pj_grammar.specs.declared.types.Tree.TheFolds.{fold-Tree}
use Rattle.pj_expr.specs.declared.expr.Expr.{Expr}
use Rattle.pj_expr.specs.declared.expr.Expr.TheVariants as exprs
use Rattle.pj_expr.specs.declared.cond.Op.{Op}
use Rattle.pj_expr.specs.declared.cond.Op.TheVariants as ops
use Rattle.pj_expr.specs.declared.cond.Cond.{Cond}
use Rattle.pj_expr.specs.declared.cond.Cond.TheVariants as conds
use Rattle.pj_expr.specs.declared.table.ColumnDef.{ColumnDef}
use Rattle.pj_bind.specs.declared.meaning.Meaning.{Meaning}
use Rattle.pj_bind.specs.declared.meaning.Meaning.TheVariants.{Value, Condition}
use Rattle.pj_bind.specs.Names.{Name}

-- the number of the first column of this name
abbrev pub column_number : List ColumnDef → Name → Option ℕ
column_number columns name = position (λ column. bytes_eq column.name name) columns

-- the column of this name
abbrev pub column_named : List ColumnDef → Name → Option Meaning
column_named columns name = option_map (λ at. Value (exprs.Column at)) (column_number columns name)

-- the value, where it is one
abbrev pub value_in : Option Meaning → Option Expr
value_in (Some (Value e)) = Some e
value_in (Some (Condition c)) = None
value_in None = None

-- the condition, where it is one
abbrev pub condition_in : Option Meaning → Option Cond
condition_in (Some (Value e)) = None
condition_in (Some (Condition c)) = Some c
condition_in None = None

-- what is made of a value
abbrev pub of_value : (Expr → Expr) → Option Meaning → Option Meaning
of_value make a = option_map (λ x. Value (make x)) (value_in a)

-- what is made of two values
abbrev pub of_values : (Expr → Expr → Meaning) → Option Meaning → Option Meaning → Option Meaning
of_values make a b = option_and_then (λ x. option_map (make x) (value_in b)) (value_in a)

-- what is made of two conditions
abbrev pub of_conditions : (Cond → Cond → Cond) → Option Meaning → Option Meaning → Option Meaning
of_conditions make a b =
    option_and_then (λ x. option_map (λ y. Condition (make x y)) (condition_in b)) (condition_in a)

-- the opposite of a condition
abbrev pub negated : Option Meaning → Option Meaning
negated a = option_map (λ x. Condition (conds.Not x)) (condition_in a)

-- a comparison of two values
abbrev pub compared : Op → Option Meaning → Option Meaning → Option Meaning
compared op a b = of_values (λ x y. Condition (conds.Compare op x y)) a b

-- what two operands make
abbrev pub pair_meaning : TreeOp → Option Meaning → Option Meaning → Option Meaning
pair_meaning tree_ops.Add a b = of_values (λ x y. Value (exprs.Add x y)) a b
pair_meaning tree_ops.Mul a b = of_values (λ x y. Value (exprs.Mul x y)) a b
pair_meaning tree_ops.Eq a b = compared ops.Eq a b
pair_meaning tree_ops.Ne a b = compared ops.Ne a b
pair_meaning tree_ops.Lt a b = compared ops.Lt a b
pair_meaning tree_ops.Le a b = compared ops.Le a b
pair_meaning tree_ops.Gt a b = compared ops.Gt a b
pair_meaning tree_ops.Ge a b = compared ops.Ge a b
pair_meaning tree_ops.And a b = of_conditions conds.And a b
pair_meaning tree_ops.Or a b = of_conditions conds.Or a b

-- what a tree is, where it is known of its parts
abbrev pub meaning_step : List ColumnDef → Tree-F (Option Meaning) → Option Meaning
meaning_step columns (Tree-F.Num n) = Some (Value (exprs.Num n))
meaning_step columns (Tree-F.Text t) = Some (Value (exprs.Text t))
meaning_step columns (Tree-F.Name name) = column_named columns name
meaning_step columns (Tree-F.IntDiv a d) = of_value (λ x. exprs.IntDiv x d) a
meaning_step columns (Tree-F.Mod a d) = of_value (λ x. exprs.Mod x d) a
meaning_step columns (Tree-F.Pair op a b) = pair_meaning op a b
meaning_step columns (Tree-F.Not a) = negated a

-- what a tree is; none where a name is no column, or a value stands for a condition or the other way round
abbrev pub meaning : List ColumnDef → Tree → Option Meaning
meaning columns tree = fold-Tree (Option Meaning) (meaning_step columns) tree
