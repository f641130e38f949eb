-- The rules of values and conditions are read exactly, at each depth.
use Rattle.std.proofs.Common.{◌≡◌, ℕ, suc, false, [], ◌∷◌, refl, ◌∙◌}
use Rattle.std.specs.Prelude.{codes, ◌||◌, fold}
use Rattle.pj_lex.specs.declared.token.Symbol.TheVariants.{Left, Right, Comma, Star, Plus, Percent, Eq, Ne}
use Rattle.pj_lex.specs.declared.token.Symbol.TheVariants.{Lt, Le, Gt, Ge}
use Rattle.pj_grammar.specs.declared.types.Tree.{Tree}
use Rattle.pj_grammar.specs.declared.types.Tree.TheVariants as trees
use Rattle.pj_grammar.specs.declared.types.TreeOp.TheVariants as ops
use Rattle.pj_grammar.specs.Lexemes.{Lexeme, is_any_number, is_any_text}
use Rattle.pj_grammar.specs.grammar.Ebnf.{Grammar}
use Rattle.pj_grammar.specs.parsing.Parser.{Parser}
use Rattle.pj_grammar.specs.grammar.Values as rules
use Rattle.pj_grammar.specs.grammar.Values.{grouped, applied, times, modulo, compared, negated}
use Rattle.pj_grammar.specs.parsing.Values as parsers
use Rattle.pj_grammar.proofs.kinds.Sets as kinds
use Rattle.pj_grammar.proofs.kinds.Sets.{Kinds, kind_of, none, ◌∪◌}
use Rattle.pj_grammar.proofs.kinds.Tests.{keyword_kind, sign_kind, number_kind, text_kind}
use Rattle.pj_grammar.proofs.rules.Words.{Exactly, keyword_reads, exactly_reads, sign_reads, name_reads}
use Rattle.pj_grammar.proofs.rules.Words.{number_reads, positive_reads, text_reads}
use Rattle.pj_grammar.proofs.reads.Reads.{Reads}
use Rattle.pj_grammar.proofs.reads.One.{reads_as}
use Rattle.pj_grammar.proofs.reads.Choice.{or_reads, optional_reads}
use Rattle.pj_grammar.proofs.reads.Many.{many_reads}
use Rattle.pj_grammar.proofs.reads.Sequence.{seq, seq_suc, seq_opt, opt_seq, end, end_opt, in_parens_suc}

-- what begins an atom: a name, a number, a text, or a parenthesis; and a value: also NOT
abbrev pub atom_first : Kinds
atom_first = kinds.name ∪ kinds.number ∪ kinds.text ∪ kinds.sign Left

abbrev pub value_first : Kinds
value_first = kinds.keyword "NOT" ∪ atom_first

-- what begins a factor and a comparison
abbrev pub factor_first : Kinds
factor_first = kinds.sign Star ∪ kinds.sign Percent

abbrev pub comparison_first : Kinds
comparison_first =
    kinds.sign Eq ∪ kinds.sign Ne ∪ kinds.sign Lt ∪ kinds.sign Le ∪ kinds.sign Gt ∪ kinds.sign Ge

-- what may follow an atom in a longer one, a product, a sum, a test, and a value
abbrev pub atom_more : Kinds
atom_more = kinds.sign Left

abbrev pub product_more : Kinds
product_more = factor_first ∪ atom_more

abbrev pub arith_more : Kinds
arith_more = kinds.sign Plus ∪ product_more

abbrev pub test_more : Kinds
test_more = comparison_first ∪ arith_more

abbrev pub conj_more : Kinds
conj_more = kinds.keyword "AND" ∪ test_more

abbrev pub value_more : Kinds
value_more = kinds.keyword "OR" ∪ conj_more

module _ {n : ℕ} {G W : Grammar Tree} {p : Parser Tree} (v : Reads value_first value_more false n G W p) where
  -- intDiv "(" value "," positive ")"
  pub quotient_reads : Reads (kinds.exactly "intDiv") none false (suc n) (rules.quotient G) (rules.quotient W)
      (parsers.quotient_at p)
  unfolding parsers.quotient_at
  quotient_reads =
      reads_as
      (seq_suc (exactly_reads (suc n) "intDiv" refl)
      (λ _. seq (sign_reads n Left)
      (λ _. seq v
      (λ dividend. seq (sign_reads n Comma)
      (λ _. seq (positive_reads n)
      (λ divisor. end (sign_reads n Right) (λ _. trees.IntDiv dividend divisor)) refl)
      refl) refl) refl) refl)
      refl refl

  -- number | text | "(" value ")" | name
  pub simple_atom_reads : Reads atom_first none false (suc n) (rules.simple_atom G) (rules.simple_atom W)
      (parsers.simple_atom_at p)
  unfolding parsers.simple_atom_at
  simple_atom_reads =
      reads_as
      (or_reads (end (number_reads (suc n)) trees.Num)
      (or_reads (end (text_reads (suc n)) trees.Text)
      (or_reads (in_parens_suc v refl refl) (end (name_reads (suc n)) trees.Name) refl _ (sign_kind Left))
      refl is_any_text text_kind)
      refl is_any_number number_kind)
      refl refl

-- what tells a factor
pub factor_kind : (l : Lexeme) → parsers.begins_factor l ≡ factor_first (kind_of l)
factor_kind l i = sign_kind Star l i || sign_kind Percent l i

-- what tells a comparison
pub comparison_kind : (l : Lexeme) → parsers.begins_comparison l ≡ comparison_first (kind_of l)
comparison_kind l i =
    sign_kind Eq l i
    || (sign_kind Ne l i
    || (sign_kind Lt l i || (sign_kind Le l i || (sign_kind Gt l i || sign_kind Ge l i))))

module _ (n : ℕ) where
  -- a comparison's sign
  pub comparison_reads : Exactly comparison_first none false n rules.comparison parsers.comparison_at
  unfolding parsers.comparison_at
  comparison_reads =
      reads_as
      (or_reads (end (sign_reads n Eq) (λ _. ops.Eq))
      (or_reads (end (sign_reads n Ne) (λ _. ops.Ne))
      (or_reads (end (sign_reads n Lt) (λ _. ops.Lt))
      (or_reads (end (sign_reads n Le) (λ _. ops.Le))
      (or_reads (end (sign_reads n Gt) (λ _. ops.Gt)) (end (sign_reads n Ge) (λ _. ops.Ge)) refl _
      (sign_kind Gt)) refl
      _ (sign_kind Le)) refl _ (sign_kind Lt)) refl _ (sign_kind Ne)) refl _ (sign_kind Eq))
      refl refl

-- ---- up to a value of one depth more

module _ {n : ℕ} {G W : Grammar Tree} (p : Parser Tree) where
  -- a factor
  pub factor_reads : Reads atom_first atom_more false n (rules.atom G) (rules.atom W) (parsers.atom_at p)
      → Reads factor_first atom_more false n (rules.factor G) (rules.factor W) (parsers.factor_at p)
  unfolding parsers.factor_at
  factor_reads a =
      reads_as
      (or_reads (end (seq (sign_reads n Star) (λ _. a) refl) times)
      (end (seq (sign_reads n Percent) (λ _. positive_reads n) refl) modulo) refl _ (sign_kind Star))
      refl refl

  -- product
  pub product_reads : Reads atom_first atom_more false n (rules.atom G) (rules.atom W) (parsers.atom_at p)
      → Reads atom_first product_more false n (rules.product G) (rules.product W) (parsers.product_at p)
  unfolding parsers.product_at
  product_reads a =
      reads_as
      (seq_opt a (λ first. end_opt (many_reads (factor_reads a) refl parsers.begins_factor factor_kind)
      (λ factors. fold applied first factors))
      refl)
      refl refl

  -- arith
  pub arith_reads : Reads atom_first product_more false n (rules.product G) (rules.product W)
      (parsers.product_at p)
      → Reads atom_first arith_more false n (rules.arith G) (rules.arith W) (parsers.arith_at p)
  unfolding parsers.arith_at
  arith_reads r =
      reads_as
      (seq_opt r (λ first. end_opt (many_reads (seq (sign_reads n Plus) (λ _. r) refl) refl _
      (sign_kind Plus))
      (λ more. grouped ops.Add first more))
      refl)
      refl refl

  -- test
  pub test_reads : Reads atom_first arith_more false n (rules.arith G) (rules.arith W) (parsers.arith_at p)
      → Reads atom_first test_more false n (rules.test G) (rules.test W) (parsers.test_at p)
  unfolding parsers.test_at
  test_reads r =
      reads_as
      (seq_opt r
      (λ left. end_opt
      (optional_reads
      (seq (comparison_reads n) (λ op. end r (λ tree. (op, tree))) refl) parsers.begins_comparison
      comparison_kind)
      (λ right. compared left right))
      refl)
      refl refl

  -- neg
  pub neg_reads : Reads atom_first test_more false n (rules.test G) (rules.test W) (parsers.test_at p)
      → Reads value_first test_more false n (rules.neg G) (rules.neg W) (parsers.neg_at p)
  unfolding parsers.neg_at
  neg_reads r =
      reads_as
      (opt_seq (many_reads (keyword_reads n "NOT" refl) refl _ (keyword_kind "NOT" refl))
      (λ nots. end r (λ tree. negated nots tree)) refl)
      refl refl

  -- conj
  pub conj_reads : Reads value_first test_more false n (rules.neg G) (rules.neg W) (parsers.neg_at p)
      → Reads value_first conj_more false n (rules.conj G) (rules.conj W) (parsers.conj_at p)
  unfolding parsers.conj_at
  conj_reads r =
      reads_as
      (seq_opt r (λ first. end_opt (many_reads (seq (keyword_reads n "AND" refl) (λ _. r) refl) refl _
      (keyword_kind "AND" refl))
      (λ more. grouped ops.And first more))
      refl)
      refl refl

  -- value
  pub value_with_reads : Reads value_first conj_more false n (rules.conj G) (rules.conj W) (parsers.conj_at p)
      → Reads value_first value_more false n (rules.value_with G) (rules.value_with W)
      (parsers.value_with_at p)
  unfolding parsers.value_with_at
  value_with_reads r =
      reads_as
      (seq_opt r (λ first. end_opt (many_reads (seq (keyword_reads n "OR" refl) (λ _. r) refl) refl _
      (keyword_kind "OR" refl))
      (λ more. grouped ops.Or first more))
      refl)
      refl refl
