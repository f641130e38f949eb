-- How a block of rows is kept while an expression is computed. No public contract cites this file.
use Rattle.std.specs.Prelude.{ℕ, ◌+◌, ◌*◌, ◌/◌, ◌%◌, ◌^◌, ◌<◌, Bool, false, List}
use Rattle.std.specs.Prelude.{[], length, map, replicate, slice_index_or}
use Rattle.std.specs.List.{All, filter, range_with_len}
use Rattle.std.specs.Ordering.{nat_cmp}
use Rattle.std.specs.Simd.Lanes.{zip2}
use Rattle.std.specs.Cmp.Lexicographic.{slice_cmp}
use Rattle.pj_value.specs.declared.value.Kind.{Kind}
use Rattle.pj_value.specs.declared.value.Value.{Value}
use Rattle.pj_value.specs.declared.value.Value.TheVariants as values
use Rattle.pj_value.specs.Order.{value_cmp}
use Rattle.pj_value.specs.Rows.{rows_at}
use Rattle.pj_value.specs.Aggregates.{number_in}
use Rattle.pj_expr.specs.declared.expr.Expr.{Expr}
use Rattle.pj_expr.specs.declared.cond.Op.{Op}
use Rattle.pj_block.specs.declared.block.Block.{Block}
use Rattle.pj_block.specs.declared.block.Block.TheVariants as blocks
use Rattle.pj_block.specs.declared.compare.Texts.{Texts}
use Rattle.pj_block.specs.declared.compare.Texts.TheVariants as texts
use Rattle.pj_block.specs.declared.numbers.Arith.{Arith}
use Rattle.pj_block.specs.declared.numbers.Arith.TheVariants as ariths
use Rattle.pj_block.specs.declared.numbers.Part.{Part}
use Rattle.pj_block.specs.declared.numbers.Part.TheVariants as parts
use Rattle.pj_block.specs.declared.numbers.Numbers.{Numbers}
use Rattle.pj_block.specs.declared.numbers.Numbers.TheVariants as numbers
use Rattle.pj_expr.specs.Eval.{eval, meets}

-- a sum or a product, modulo 2 ^ 64
abbrev pub of_two : Arith → ℕ → ℕ → ℕ
of_two ariths.Add a b = (a + b) % 2 ^ 64
of_two ariths.Mul a b = (a * b) % 2 ^ 64

-- a quotient or a remainder
abbrev pub of_parts : Part → ℕ → ℕ → ℕ
of_parts parts.Quotient n d = n / d
of_parts parts.Remainder n d = n % d

-- the numbers for this many rows
abbrev pub numbers_of : ℕ → Numbers → List ℕ
numbers_of len (numbers.Same n) = replicate len n
numbers_of len (numbers.Lent ns) = ns.now
numbers_of len (numbers.Own ns) = ns.items

-- the texts for this many rows
abbrev pub texts_of : ℕ → Texts → List (List ℕ)
texts_of len (texts.Same t) = replicate len t.now
texts_of len (texts.Each ts) = ts.now

-- sums or products, row by row
abbrev pub totals : Arith → List ℕ → List ℕ → List ℕ
totals arith ms ns = zip2 (of_two arith) ms ns

-- quotients or remainders by one divisor
abbrev pub parts_by : Part → ℕ → List ℕ → List ℕ
parts_by part d ns = map (λ n. of_parts part n d) ns

-- whether two numbers meet a comparison
abbrev pub number_meets : Op → ℕ → ℕ → Bool
number_meets op m n = meets op (nat_cmp m n)

-- whether two texts meet a comparison
abbrev pub text_meets : Op → List ℕ → List ℕ → Bool
text_meets op s t = meets op (slice_cmp nat_cmp s t)

-- comparisons of numbers, row by row
abbrev pub numbers_met : Op → List ℕ → List ℕ → List Bool
numbers_met op ms ns = zip2 (number_meets op) ms ns

-- comparisons of texts, row by row
abbrev pub texts_met : Op → List (List ℕ) → List (List ℕ) → List Bool
texts_met op ss ts = zip2 (text_meets op) ss ts

-- the kinds of a block's columns
abbrev pub block_kinds : Block → List Kind
block_kinds (blocks.All rows) = rows.now.kinds
block_kinds (blocks.At rows indexes) = rows.now.kinds

-- the rows of a block
abbrev pub block_rows : Block → List (List Value)
block_rows (blocks.All rows) = rows.now.rows
block_rows (blocks.At rows indexes) = rows_at rows.now.rows indexes.now

-- each index of a block is one of a row
abbrev pub IsWithin : Block → Type 0
IsWithin (blocks.All rows) = Unit {0}
IsWithin (blocks.At rows indexes) = All (λ at. at < length rows.now.rows) indexes.now

-- the text that a value is, the empty one for a number
abbrev pub text_in : Value → List ℕ
text_in (values.Num n) = []
text_in (values.Text t) = t

-- the numbers of an expression for rows
abbrev pub numbers_for : Expr → List (List Value) → List ℕ
numbers_for e rows = map (λ row. number_in (eval e row)) rows

-- the texts of an expression for rows
abbrev pub texts_for : Expr → List (List Value) → List (List ℕ)
texts_for e rows = map (λ row. text_in (eval e row)) rows

-- whether two expressions meet a comparison, for rows
abbrev pub met_for : Op → Expr → Expr → List (List Value) → List Bool
met_for op a b rows = map (λ row. meets op (value_cmp (eval a row) (eval b row))) rows

-- the indexes at which there is a true
abbrev pub true_indexes : List Bool → List ℕ
true_indexes held = filter (λ at. slice_index_or held at false) (range_with_len 0 (length held))
