-- Values of each depth are read exactly.
use Rattle.std.proofs.Common.{◌≡◌, ℕ, zero, suc, ◌≤◌, true, false, List, [], ◌∷◌, ◌++◌}
use Rattle.std.proofs.Common.{refl, sym, ap, ◌∙◌, inl, inr, arith, length, None}
use Rattle.std.specs.Prelude.{codes, fold}
use Rattle.std.proofs.lemmas.List.{append-nil}
use Rattle.pj_lex.specs.declared.token.Symbol.TheVariants.{Left, Right, Comma}
use Rattle.pj_grammar.specs.declared.types.Tree.{Tree}
use Rattle.pj_grammar.specs.declared.types.Tree.TheVariants as trees
use Rattle.pj_grammar.specs.declared.types.TreeOp.TheVariants as ops
use Rattle.pj_grammar.specs.Lexemes.{Lexeme, bytes_of, number_of, is_word, is_number, is_text, is_symbol}
use Rattle.pj_grammar.specs.Lexemes.{may_name, is_exactly}
use Rattle.pj_grammar.specs.grammar.Ebnf.{Grammar, Nothing, Then, ◌>>=◌}
use Rattle.pj_grammar.specs.parsing.Parser.{Parser}
use Rattle.pj_grammar.specs.grammar.Words.{sign, positive}
use Rattle.pj_grammar.specs.grammar.Values as rules
use Rattle.pj_grammar.specs.parsing.Values as parsers
use Rattle.pj_grammar.proofs.kinds.Sets as kinds
use Rattle.pj_grammar.proofs.kinds.Sets.{Kinds, kind_of, none}
use Rattle.pj_grammar.proofs.kinds.Tests.{exactly_kind, sign_kind}
use Rattle.pj_grammar.proofs.rules.Words.{sign_reads, number_reads, positive_reads}
use Rattle.pj_grammar.proofs.kinds.SetLemmas.{apart-not, within-is}
use Rattle.pj_grammar.proofs.reads.Reads.{Stuck, Plain, Reads}
use Rattle.pj_grammar.proofs.reads.One.{reads_as}
use Rattle.pj_grammar.proofs.reads.Ahead.{ahead_reads}
use Rattle.pj_grammar.proofs.reads.Heads.{one_single, end_single}
use Rattle.pj_grammar.proofs.reads.Sequence.{seq, end, in_parens_suc}
use Rattle.pj_grammar.proofs.rules.Values.{atom_first, value_first, atom_more, value_more, quotient_reads}
use Rattle.pj_grammar.proofs.rules.Values.{simple_atom_reads, product_reads, arith_reads, test_reads}
use Rattle.pj_grammar.proofs.rules.Values.{neg_reads, conj_reads, value_with_reads}

-- what stands behind intDiv and its parenthesis
abbrev dividing : Grammar Tree → Grammar Tree
dividing value = do
  dividend ← value
  _ ← sign Comma
  divisor ← positive
  _ ← sign Right
  Nothing (trees.IntDiv dividend divisor)

-- a list of one lexeme has no second
pub no_second : (t u s : Lexeme) (v : List Lexeme) → t ∷ u ∷ v ≡ s ∷ [] → ⊥
no_second t u s v e = absurd cc

module _ {n : ℕ} {G W : Grammar Tree} {p : Parser Tree} (v : Reads value_first value_more false n G W p) where
  dividing_some : (ts : List Lexeme) × (a : Tree) × dividing G ts a
  dividing_some =
      (seq v (λ dividend. seq (sign_reads n Comma)
      (λ _. seq (positive_reads n)
      (λ divisor. end (sign_reads n Right) (λ _. trees.IntDiv dividend divisor)) refl)
      refl)
      refl).plain.some

  quotient_heads : (ts : List Lexeme) (a : Tree) → rules.quotient G ts a
      → (t u : Lexeme) × (w : List Lexeme) × (ts ≡ t ∷ u ∷ w) × (is_exactly (codes "intDiv") t ≡ true)
      × (is_symbol Left u ≡ true)
  quotient_heads ts a w = (
    w.one.lexeme,
    w.other.one.lexeme,
    w.other.back,
    w.all ∙ ap (λ (xs : List Lexeme). xs ++ w.back) w.one.only
        ∙ ap (λ (xs : List Lexeme). w.one.lexeme ∷ xs)
        (w.other.all ∙ ap (λ (xs : List Lexeme). xs ++ w.other.back) w.other.one.only),
    w.one.passes,
    w.other.one.passes,
  )

  quotient_goes : (t u : Lexeme) → is_exactly (codes "intDiv") t ≡ true → is_symbol Left u ≡ true
      → (w : List Lexeme) × (a : Tree) × rules.quotient G (t ∷ u ∷ w) a
  quotient_goes t u is_t is_u =
      let more = dividing_some in (
        more.0,
        more.1,
        record {
          front = t ∷ [];
          back = u ∷ more.0;
          found = tt;
          all = refl;
          one = record { lexeme = t; only = refl; passes = is_t; taken = refl };
          other = record {
            front = u ∷ [];
            back = more.0;
            found = tt;
            all = refl;
            one = record { lexeme = u; only = refl; passes = is_u; taken = refl };
            other = more.2;
          };
        },
      )

  simple_lone : (t u : Lexeme) (w : List Lexeme) (a : Tree) → is_exactly (codes "intDiv") t ≡ true
      → is_symbol Left u ≡ true
      → rules.simple_atom G (t ∷ u ∷ w) a → ⊥
  simple_lone t u w a is_t is_u (inl x) =
      let one =
      end_single trees.Num (one_single (is_number (λ m. true)) number_of) (t ∷ u ∷ w) a x in
      no_second t u one.0 w one.1
  simple_lone t u w a is_t is_u (inr (inl x)) =
      let one =
      end_single trees.Text (one_single (is_text (λ b. true)) bytes_of) (t ∷ u ∷ w) a x in
      no_second t u one.0 w one.1
  simple_lone t u w a is_t is_u (inr (inr (inl x))) =
      let left_t : kinds.sign Left (kind_of t) ≡ true = (in_parens_suc v refl refl).plain.begins t (u ∷ w) a x
      in
      let word_t : kinds.exactly "intDiv" (kind_of t) ≡ true = sym (exactly_kind "intDiv" refl t) ∙ is_t in
      apart-not (kinds.sign Left) (kinds.exactly "intDiv") refl t left_t word_t
  simple_lone t u w a is_t is_u (inr (inr (inr x))) =
      let one =
      end_single trees.Name (one_single (is_word may_name) bytes_of) (t ∷ u ∷ w) a x in
      no_second t u one.0 w one.1

  -- atom
  pub atom_reads : Reads atom_first atom_more false (suc n) (rules.atom G) (rules.atom W) (parsers.atom_at p)
  unfolding parsers.atom_at
  atom_reads =
      reads_as
      (ahead_reads (quotient_reads v) (simple_atom_reads v) (is_exactly (codes "intDiv")) (is_symbol Left)
      (kinds.sign Left) (sign_kind Left)
      quotient_heads quotient_goes simple_lone
      (λ t is_t. within-is (kinds.exactly "intDiv") atom_first refl t
      (sym (exactly_kind "intDiv" refl t) ∙ is_t)))
      refl refl

  -- a value of one depth more
  pub value_next : Reads value_first value_more false (suc n) (rules.value_with G) (rules.value_with W)
      (parsers.value_with_at p)
  value_next =
      value_with_reads p
      (conj_reads p (neg_reads p (test_reads p (arith_reads p (product_reads p atom_reads)))))

-- ---- a number alone is a value of the next depth

-- a phrase, with nothing of a second rule behind it
alone : {A B C : Type 0} {G : Grammar A} {R : Grammar B} (f : A → B → C) (none_is : B) → R [] none_is
    → (ts : List Lexeme) (a : A) → G ts a
    → Then G (λ first. Then R (λ more. Nothing (f first more))) ts (f a none_is)
alone f none_is empty ts a word = record {
  front = ts;
  back = [];
  found = a;
  all = sym (append-nil ts);
  one = word;
  other =
      record {
        front = [];
        back = [];
        found = none_is;
        all = refl;
        one = empty;
        other = record { empty = refl; is = refl };
      };
}

number_is : (ts : List Lexeme) (a : Tree) → rules.number_value ts a → rules.value_with rules.number_value ts a
number_is ts a w =
    let atom' : rules.atom rules.number_value ts a = inr (inl w) in
    let product' : rules.product rules.number_value ts a =
    alone (λ first factors. fold rules.applied first factors) [] refl ts a atom' in
    let arith' : rules.arith rules.number_value ts a =
    alone (λ first more. rules.grouped ops.Add first more) [] refl ts a product' in
    let test' : rules.test rules.number_value ts a =
    alone (λ first right. rules.compared first right) None
    (inr (record { empty = refl; is = refl })) ts a arith' in
    let neg' : rules.neg rules.number_value ts a = record {
      front = [];
      back = ts;
      found = [];
      all = refl;
      one = refl;
      other =
          record {
            front = ts;
            back = [];
            found = a;
            all = sym (append-nil ts);
            one = test';
            other = record { empty = refl; is = refl };
          };
    } in
    let conj' : rules.conj rules.number_value ts a =
    alone (λ first more. rules.grouped ops.And first more) [] refl ts a neg' in
    alone (λ first more. rules.grouped ops.Or first more) [] refl ts a conj'

number_plain : Plain value_first value_more false rules.number_value
number_plain =
    let r = end (number_reads 0) trees.Num in
    record {
      begins = λ t ts a w. within-is kinds.number value_first refl t (r.plain.begins t ts a w);
      goes_on = λ u t v a b w longer. absurd (let no' = r.plain.goes_on u t v a b w longer in cc);
      may_be_empty = r.plain.may_be_empty;
      is_empty = r.plain.is_empty;
      one = r.plain.one;
      some = r.plain.some;
    }

-- ---- each depth

-- of no lexeme a parser reads no value
at_zero : {F M : Kinds} {G W : Grammar Tree} → Plain F M false G
    → ((ts : List Lexeme) (a : Tree) → G ts a → W ts a)
    → Reads F M false 0 G W (parsers.value_at 0)
unfolding parsers.value_at
at_zero {G = G} plain widens = record {
  plain = plain;
  widens = widens;
  exact = λ ts short. go ts short plain.some;
  moves = λ t ts short in_first. absurd (omega arith);
}
  where
    stuck : (some : List Lexeme) (a : Tree) → G some a → Stuck G [] []
    stuck [] a word = absurd (let empty = plain.may_be_empty a word in cc)
    stuck (t ∷ more) a word = record {
      read = [];
      all = refl;
      next = t;
      more = more;
      value = a;
      begins = word;
      none = λ b w. let empty = plain.may_be_empty b w in cc;
      stops = λ t more is v b longer. absurd cc;
    }

    go : (ts : List Lexeme) → length ts ≤ 0 → (some : List Lexeme) × (a : Tree) × G some a → Stuck G ts ts
    go [] short some = stuck some.0 some.1 some.2
    go (t ∷ ts) short some = absurd (omega arith)

-- values of one depth are read exactly, on at most so many lexemes, and are values of the next depth
pub value_reads : (n depth : ℕ) → n ≤ depth
    → Reads value_first value_more false n (rules.value_to depth) (rules.value_to (suc depth))
    (parsers.value_at n)
unfolding rules.value_to parsers.value_at
value_reads zero zero le = at_zero number_plain number_is
value_reads zero (suc depth) le =
    let r = value_next (value_reads zero depth (omega arith)) in at_zero r.plain r.widens
value_reads (suc n) zero le = absurd (omega arith)
value_reads (suc n) (suc depth) le = value_next (value_reads n depth (omega arith))
