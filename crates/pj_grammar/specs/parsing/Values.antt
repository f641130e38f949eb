-- How values and conditions are read. Of public contracts those of `pj_phrase` and
-- `pj_sentence` alone cite it.
use Rattle.std.specs.Prelude.{ℕ, zero, suc, List, Err, Bool, ◌||◌, fold, codes}
use Rattle.pj_lex.specs.declared.token.Symbol.TheVariants.{Left, Right, Comma, Star, Plus, Percent}
use Rattle.pj_lex.specs.declared.token.Symbol.TheVariants.{Eq, Ne, Lt, Le, Gt, Ge}
use Rattle.pj_grammar.specs.declared.types.TreeOp.{TreeOp}
use Rattle.pj_grammar.specs.declared.types.TreeOp.TheVariants as ops
use Rattle.pj_grammar.specs.declared.types.Tree.{Tree}
use Rattle.pj_grammar.specs.declared.types.Tree.TheVariants as trees
use Rattle.pj_grammar.specs.Lexemes.{Lexeme, is_symbol, is_keyword, is_exactly, is_any_number, is_any_text}
use Rattle.pj_grammar.specs.grammar.Values.{grouped, Factor, times, modulo, applied, compared, negated}
use Rattle.pj_grammar.specs.parsing.Parser.{Parser, ◌>>=◌, nothing_at, or_at, ahead_at, many_at, optional_at}
use Rattle.pj_grammar.specs.parsing.Words.{keyword_at, exactly_at, sign_at, name_at, number_at, positive_at}
use Rattle.pj_grammar.specs.parsing.Words.{text_at, means_at, behind_at, in_parens_at}

-- intDiv "(" value "," positive ")"
unfoldable pub quotient_at : Parser Tree → Parser Tree
quotient_at value = do
  _ ← exactly_at (codes "intDiv")
  _ ← sign_at Left
  dividend ← value
  _ ← sign_at Comma
  divisor ← positive_at
  _ ← sign_at Right
  nothing_at (trees.IntDiv dividend divisor)

-- number | text | name | "(" value ")", where another lexeme that is no parenthesis had to be a name
unfoldable pub simple_atom_at : Parser Tree → Parser Tree
simple_atom_at value =
    or_at is_any_number (number_at >>= λ n. nothing_at (trees.Num n))
    (or_at is_any_text (text_at >>= λ bytes. nothing_at (trees.Text bytes))
    (or_at (is_symbol Left) (in_parens_at value) (name_at >>= λ bytes. nothing_at (trees.Name bytes))))

-- atom
unfoldable pub atom_at : Parser Tree → Parser Tree
atom_at value =
    ahead_at (is_exactly (codes "intDiv")) (is_symbol Left) (quotient_at value) (simple_atom_at value)

-- whether a factor follows
abbrev pub begins_factor : Lexeme → Bool
begins_factor lexeme = is_symbol Star lexeme || is_symbol Percent lexeme

-- "*" atom | "%" positive
unfoldable pub factor_at : Parser Tree → Parser Factor
factor_at value =
    or_at (is_symbol Star)
    (behind_at (sign_at Star) (atom_at value) >>= λ right. nothing_at (times right))
    (behind_at (sign_at Percent) positive_at >>= λ divisor. nothing_at (modulo divisor))

-- what is left and a factor
abbrev pub factor_behind_at : Parser Tree → Tree → Parser Tree
factor_behind_at value left = do
  factor ← factor_at value
  nothing_at (applied left factor)

-- product
unfoldable pub product_at : Parser Tree → Parser Tree
product_at value = do
  first ← atom_at value
  factors ← many_at begins_factor (factor_at value)
  nothing_at (fold applied first factors)

-- arith
unfoldable pub arith_at : Parser Tree → Parser Tree
arith_at value = do
  first ← product_at value
  more ← many_at (is_symbol Plus) (behind_at (sign_at Plus) (product_at value))
  nothing_at (grouped ops.Add first more)

-- whether a comparison follows
abbrev pub begins_comparison : Lexeme → Bool
begins_comparison lexeme =
    is_symbol Eq lexeme ||
    (is_symbol Ne lexeme ||
    (is_symbol Lt lexeme || (is_symbol Le lexeme || (is_symbol Gt lexeme || is_symbol Ge lexeme))))

-- "=" | "!=" | "<" | "<=" | ">" | ">="
unfoldable pub comparison_at : Parser TreeOp
comparison_at =
    or_at (is_symbol Eq) (means_at (sign_at Eq) ops.Eq)
    (or_at (is_symbol Ne) (means_at (sign_at Ne) ops.Ne)
    (or_at (is_symbol Lt) (means_at (sign_at Lt) ops.Lt)
    (or_at (is_symbol Le) (means_at (sign_at Le) ops.Le)
    (or_at (is_symbol Gt) (means_at (sign_at Gt) ops.Gt) (means_at (sign_at Ge) ops.Ge)))))

-- test
unfoldable pub test_at : Parser Tree → Parser Tree
test_at value = do
  left ← arith_at value
  right ← optional_at begins_comparison
      (comparison_at >>= λ op. arith_at value >>= λ tree. nothing_at (op, tree))
  nothing_at (compared left right)

-- NOTs
abbrev pub nots_at : Parser (List (Unit {0}))
nots_at = many_at (is_keyword (codes "NOT")) (keyword_at (codes "NOT"))

-- neg
unfoldable pub neg_at : Parser Tree → Parser Tree
neg_at value = do
  nots ← many_at (is_keyword (codes "NOT")) (keyword_at (codes "NOT"))
  tree ← test_at value
  nothing_at (negated nots tree)

-- conj
unfoldable pub conj_at : Parser Tree → Parser Tree
conj_at value = do
  first ← neg_at value
  more ← many_at (is_keyword (codes "AND")) (behind_at (keyword_at (codes "AND")) (neg_at value))
  nothing_at (grouped ops.And first more)

-- value
unfoldable pub value_with_at : Parser Tree → Parser Tree
value_with_at value = do
  first ← conj_at value
  more ← many_at (is_keyword (codes "OR")) (behind_at (keyword_at (codes "OR")) (conj_at value))
  nothing_at (grouped ops.Or first more)

-- value of at most so many parentheses in parentheses
unfoldable pub value_at : ℕ → Parser Tree
value_at zero ts = Err ts
value_at (suc most) ts = value_with_at (value_at most) ts
