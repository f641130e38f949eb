-- No value begins with the word of an aggregate function and a parenthesis.
use Rattle.std.proofs.Common.{◌≡◌, ℕ, zero, suc, Bool, true, false, List, []}
use Rattle.std.proofs.Common.{◌∷◌, ◌++◌, refl, sym, ◌∙◌, inl, inr, arith}
use Rattle.std.specs.Prelude.{codes, ◌||◌, fold}
use Rattle.pj_lex.specs.declared.token.Symbol.TheVariants.{Left, Plus}
use Rattle.pj_grammar.specs.declared.types.Tree.{Tree}
use Rattle.pj_grammar.specs.declared.types.Tree.TheVariants as trees
use Rattle.pj_grammar.specs.declared.types.TreeOp.TheVariants as ops
use Rattle.pj_grammar.specs.Lexemes.{Lexeme, bytes_of, number_of, is_word, is_number, is_text, is_symbol}
use Rattle.pj_grammar.specs.Lexemes.{may_name}
use Rattle.pj_grammar.specs.grammar.Ebnf.{Grammar, Nothing, Then}
use Rattle.pj_grammar.specs.parsing.Parser.{Parser}
use Rattle.pj_grammar.specs.grammar.Values as rules
use Rattle.pj_grammar.specs.grammar.Values.{grouped, applied, compared, negated}
use Rattle.pj_grammar.specs.parsing.Values.{begins_factor, begins_comparison}
use Rattle.pj_grammar.specs.Lexemes.{is_aggregate}
use Rattle.pj_grammar.proofs.kinds.Sets as kinds
use Rattle.pj_grammar.proofs.kinds.Sets.{Kinds, kind_of, apart, ◌∪◌}
use Rattle.pj_grammar.proofs.kinds.Tests.{keyword_kind, exactly_kind, sign_kind}
use Rattle.pj_grammar.proofs.rules.Words.{keyword_reads, sign_reads}
use Rattle.pj_grammar.proofs.kinds.SetLemmas.{apart-not}
use Rattle.pj_grammar.proofs.reads.Reads.{Plain, Reads}
use Rattle.pj_grammar.proofs.reads.One.{nothing_reads}
use Rattle.pj_grammar.proofs.reads.Choice.{optional_reads}
use Rattle.pj_grammar.proofs.reads.Many.{many_reads}
use Rattle.pj_grammar.proofs.reads.Heads.{one_single, end_single}
use Rattle.pj_grammar.proofs.reads.Sequence.{seq, end, end_opt, in_parens_suc}
use Rattle.pj_grammar.proofs.rules.Values.{value_first, value_more, factor_kind, comparison_kind}
use Rattle.pj_grammar.proofs.rules.Values.{comparison_reads, quotient_reads, factor_reads, product_reads}
use Rattle.pj_grammar.proofs.rules.Values.{arith_reads, test_reads, neg_reads, conj_reads}
use Rattle.pj_grammar.proofs.rules.Depth.{no_second, atom_reads, value_reads}

-- the words of aggregate functions, but count and with it
abbrev pub aggregate_kinds : Kinds
aggregate_kinds =
    kinds.keyword "SUM" ∪ kinds.keyword "MIN" ∪ kinds.keyword "MAX"
    ∪ kinds.exactly "uniqExact"

abbrev pub call_kinds : Kinds
call_kinds = kinds.keyword "COUNT" ∪ aggregate_kinds

pub aggregate_kind : (l : Lexeme) → is_aggregate l ≡ call_kinds (kind_of l)
aggregate_kind l i =
    keyword_kind "COUNT" refl l i
    || (keyword_kind "SUM" refl l i
    || (keyword_kind "MIN" refl l i
    || (keyword_kind "MAX" refl l i || exactly_kind "uniqExact" refl l i)))

-- no phrase of the rule begins with such a word and a parenthesis
abbrev pub Lone : {A : Type 0} → Grammar A → Type 0
Lone {A} rule =
    (t u : Lexeme) (v : List Lexeme) (a : A) → is_aggregate t ≡ true → is_symbol Left u ≡ true
    → rule (t ∷ u ∷ v) a → ⊥

-- a rule, and a second one that begins with no parenthesis
lone_then : {A B : Type 0} {F M F' M' : Kinds} {e' : Bool} {G : Grammar A} {H : A → Grammar B} → Lone G
    → Plain F M false G
    → ((a : A) → Plain F' M' e' (H a)) → apart F' (kinds.sign Left) ≡ true → Lone (Then G H)
lone_then {B = B} {F' = F'} {G = G} {H = H} lone plain plains separate t u v b is_t is_u w =
    go w.front w.back w.all w.one w.other
  where
    go : (front back : List Lexeme) → t ∷ u ∷ v ≡ front ++ back → G front w.found → H w.found back b → ⊥
    go [] back all word behind = let empty = plain.may_be_empty w.found word in cc
    go (s ∷ []) [] all word behind = absurd cc
    go (s ∷ []) (r ∷ back) all word behind =
        let same : r ≡ u = cc in
        let left_u : kinds.sign Left (kind_of u) ≡ true = sym (sign_kind Left u) ∙ is_u in
        let begins = (plains w.found).begins r back b behind in
        apart-not F' (kinds.sign Left) separate u (rw same at begins) left_u
    go (s ∷ s' ∷ front) back all word behind =
        let same : s ≡ t = cc in
        let same' : s' ≡ u = cc in
        lone t u front w.found is_t is_u (rw (same, same') at word)

-- behind what begins with no such word
lone_behind : {A B : Type 0} {F M : Kinds} {e : Bool} {G : Grammar A} {H : A → Grammar B} → Plain F M e G
    → apart F call_kinds ≡ true
    → ((a : A) → Lone (H a)) → Lone (Then G H)
lone_behind {B = B} {F = F} {G = G} {H = H} plain separate lones t u v b is_t is_u w =
    go w.front w.back w.all w.one w.other
  where
    go : (front back : List Lexeme) → t ∷ u ∷ v ≡ front ++ back → G front w.found → H w.found back b → ⊥
    go [] back all word behind = lones w.found t u v b is_t is_u (rw (← all) at behind)
    go (s ∷ front) back all word behind =
        let same : s ≡ t = cc in
        let begins = plain.begins s front w.found word in
        apart-not F call_kinds separate t (rw same at begins) (sym (aggregate_kind t) ∙ is_t)

-- what is read, as another value
pub lone_end : {A B : Type 0} {F M : Kinds} {G : Grammar A} (f : A → B) → Lone G → Plain F M false G
    → Lone (Then G (λ a. Nothing (f a)))
lone_end f lone plain = lone_then lone plain (λ a. (nothing_reads (f a) 0).plain) refl

module _ {n : ℕ} {G W : Grammar Tree} {p : Parser Tree} (v : Reads value_first value_more false n G W p) where
  lone_atom : Lone (rules.atom G)
  lone_atom t u w a is_t is_u (inl x) =
      apart-not call_kinds (kinds.exactly "intDiv") refl t (sym (aggregate_kind t) ∙ is_t)
      ((quotient_reads v).plain.begins t (u ∷ w) a x)
  lone_atom t u w a is_t is_u (inr (inl x)) =
      let one =
      end_single trees.Num (one_single (is_number (λ m. true)) number_of) (t ∷ u ∷ w) a x in
      no_second t u one.0 w one.1
  lone_atom t u w a is_t is_u (inr (inr (inl x))) =
      let one =
      end_single trees.Text (one_single (is_text (λ b. true)) bytes_of) (t ∷ u ∷ w) a x in
      no_second t u one.0 w one.1
  lone_atom t u w a is_t is_u (inr (inr (inr (inl x)))) =
      apart-not call_kinds (kinds.sign Left) refl t (sym (aggregate_kind t) ∙ is_t)
      ((in_parens_suc v refl refl).plain.begins t (u ∷ w) a x)
  lone_atom t u w a is_t is_u (inr (inr (inr (inr x)))) =
      let one =
      end_single trees.Name (one_single (is_word may_name) bytes_of) (t ∷ u ∷ w) a x in
      no_second t u one.0 w one.1

  lone_product : Lone (rules.product G)
  lone_product =
      lone_then lone_atom (atom_reads v).plain
      (λ first. (end_opt (many_reads (factor_reads p (atom_reads v)) refl begins_factor factor_kind)
      (λ factors. fold applied first factors)).plain)
      refl

  lone_arith : Lone (rules.arith G)
  lone_arith =
      let r = product_reads p (atom_reads v) in
      lone_then lone_product r.plain
      (λ first. (end_opt (many_reads (seq (sign_reads (suc n) Plus) (λ _. r) refl) refl _ (sign_kind Plus))
      (λ more. grouped ops.Add first more)).plain)
      refl

  lone_test : Lone (rules.test G)
  lone_test =
      let r = arith_reads p (product_reads p (atom_reads v)) in
      lone_then lone_arith r.plain
      (λ left. (end_opt
      (optional_reads
      (seq (comparison_reads (suc n)) (λ op. end r (λ tree. (op, tree))) refl) begins_comparison
      comparison_kind)
      (λ right. compared left right)).plain) refl

  lone_neg : Lone (rules.neg G)
  lone_neg =
      let r = test_reads p (arith_reads p (product_reads p (atom_reads v))) in
      lone_behind (many_reads (keyword_reads (suc n) "NOT" refl) refl _ (keyword_kind "NOT" refl)).plain refl
      (λ nots. lone_end (λ tree. negated nots tree) lone_test r.plain)

  lone_conj : Lone (rules.conj G)
  lone_conj =
      let r = neg_reads p (test_reads p (arith_reads p (product_reads p (atom_reads v)))) in
      lone_then lone_neg r.plain
      (λ first. (end_opt (many_reads (seq (keyword_reads (suc n) "AND" refl) (λ _. r) refl) refl _
      (keyword_kind "AND" refl))
      (λ more. grouped ops.And first more)).plain)
      refl

  lone_value : Lone (rules.value_with G)
  lone_value =
      let r = conj_reads p (neg_reads p (test_reads p (arith_reads p (product_reads p (atom_reads v))))) in
      lone_then lone_conj r.plain
      (λ first. (end_opt (many_reads (seq (keyword_reads (suc n) "OR" refl) (λ _. r) refl) refl _
      (keyword_kind "OR" refl))
      (λ more. grouped ops.Or first more)).plain)
      refl

-- no number alone does
number_lone : Lone rules.number_value
number_lone t u v a is_t is_u x =
    let one =
    end_single trees.Num (one_single (is_number (λ m. true)) number_of) (t ∷ u ∷ v) a x in
    no_second t u one.0 v one.1

-- no value of a depth does
pub value_lone : (depth : ℕ) → Lone (rules.value_to depth)
unfolding rules.value_to
value_lone zero = number_lone
value_lone (suc depth) = lone_value (value_reads depth depth (omega arith))
