-- Values and conditions of the grammar (docs/GRAMMAR.md, "Statements"). `value` is the rule of what stands in
-- parentheses.
use Rattle.std.specs.Prelude.{ℕ, zero, suc, not, List, [], ◌∷◌, Option, Some, None, fold, codes}
use Rattle.pj_lex.specs.declared.token.Symbol.TheVariants.{Left, Right, Comma, Star, Plus, Percent}
use Rattle.pj_lex.specs.declared.token.Symbol.TheVariants.{Eq, Ne, Lt, Le, Gt, Ge}
use Rattle.pj_grammar.specs.declared.types.TreeOp.{TreeOp}
use Rattle.pj_grammar.specs.declared.types.TreeOp.TheVariants as ops
use Rattle.pj_grammar.specs.declared.types.Tree.{Tree}
use Rattle.pj_grammar.specs.declared.types.Tree.TheVariants as trees
use Rattle.pj_grammar.specs.grammar.Ebnf.{Grammar, Nothing, ◌>>=◌, ◌or◌, many, optional}
use Rattle.pj_grammar.specs.grammar.Words.{keyword, exactly, sign, name, number, positive, text, means}
use Rattle.pj_grammar.specs.grammar.Words.{behind, in_parens}

-- operators of one level group from the left
abbrev pub grouped : TreeOp → Tree → List Tree → Tree
grouped op first more = fold (λ left right. trees.Pair op left right) first more

-- intDiv "(" value "," positive ")"
abbrev pub quotient : Grammar Tree → Grammar Tree
quotient value = do
  _ ← exactly (codes "intDiv")
  _ ← sign Left
  dividend ← value
  _ ← sign Comma
  divisor ← positive
  _ ← sign Right
  Nothing (trees.IntDiv dividend divisor)

-- number | text | "(" value ")" | name
abbrev pub simple_atom : Grammar Tree → Grammar Tree
simple_atom value =
    (do
      n ← number
      Nothing (trees.Num n))
    or ((do
      bytes ← text
      Nothing (trees.Text bytes))
    or (in_parens value
    or (do
      bytes ← name
      Nothing (trees.Name bytes))))

-- atom = intDiv "(" value "," positive ")" | number | text | "(" value ")" | name
abbrev pub atom : Grammar Tree → Grammar Tree
atom value = quotient value or simple_atom value

-- what stands behind a factor
pub data Factor : Type 0 where
  times : Tree → Factor
  modulo : ℕ → Factor

-- the factors from the left
abbrev pub applied : Tree → Factor → Tree
applied left (times right) = trees.Pair ops.Mul left right
applied left (modulo divisor) = trees.Mod left divisor

-- "*" atom | "%" positive
abbrev pub factor : Grammar Tree → Grammar Factor
factor value =
    (do
      right ← behind (sign Star) (atom value)
      Nothing (times right))
    or (do
      divisor ← behind (sign Percent) positive
      Nothing (modulo divisor))

-- product = atom {"*" atom | "%" positive}
abbrev pub product : Grammar Tree → Grammar Tree
product value = do
  first ← atom value
  factors ← many (factor value)
  Nothing (fold applied first factors)

-- arith = product {"+" product}
abbrev pub arith : Grammar Tree → Grammar Tree
arith value = do
  first ← product value
  more ← many (behind (sign Plus) (product value))
  Nothing (grouped ops.Add first more)

-- "=" | "!=" | "<" | "<=" | ">" | ">="
abbrev pub comparison : Grammar TreeOp
comparison =
    means (sign Eq) ops.Eq
    or (means (sign Ne) ops.Ne or
    (means (sign Lt) ops.Lt or
    (means (sign Le) ops.Le or (means (sign Gt) ops.Gt or means (sign Ge) ops.Ge))))

-- an operator and its right side
abbrev pub compared : Tree → Option (TreeOp × Tree) → Tree
compared left None = left
compared left (Some right) = trees.Pair right.0 left right.1

-- test = arith [comparison arith]
abbrev pub test : Grammar Tree → Grammar Tree
test value = do
  left ← arith value
  right ← optional (do
    op ← comparison
    tree ← arith value
    Nothing (op, tree))
  Nothing (compared left right)

-- one NOT for each of these
abbrev pub negated : List (Unit {0}) → Tree → Tree
negated [] tree = tree
negated (not ∷ nots) tree = trees.Not (negated nots tree)

-- neg = NOT neg | test, which is {NOT} test
abbrev pub neg : Grammar Tree → Grammar Tree
neg value = do
  nots ← many (keyword (codes "NOT"))
  tree ← test value
  Nothing (negated nots tree)

-- conj = neg {AND neg}
abbrev pub conj : Grammar Tree → Grammar Tree
conj value = do
  first ← neg value
  more ← many (behind (keyword (codes "AND")) (neg value))
  Nothing (grouped ops.And first more)

-- value = conj {OR conj}
abbrev pub value_with : Grammar Tree → Grammar Tree
value_with value = do
  first ← conj value
  more ← many (behind (keyword (codes "OR")) (conj value))
  Nothing (grouped ops.Or first more)

-- a number alone
abbrev pub number_value : Grammar Tree
number_value = do
  n ← number
  Nothing (trees.Num n)

-- a value whose parentheses nest to this depth: a number alone, or a value with such of one less in its
-- parentheses
unfoldable pub value_to : ℕ → Grammar Tree
value_to zero = number_value
value_to (suc depth) = value_with (value_to depth)
