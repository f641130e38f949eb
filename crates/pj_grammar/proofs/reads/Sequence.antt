-- Rules behind each other, by whether they may be empty; and lists.
use Rattle.std.proofs.Common.{◌≡◌, ℕ, suc, Bool, true, false, ◌||◌, ◌∷◌, refl, inl, arith}
use Rattle.pj_lex.specs.declared.token.Symbol.TheVariants.{Left, Right, Comma}
use Rattle.pj_grammar.specs.Lexemes.{is_symbol}
use Rattle.pj_grammar.specs.grammar.Ebnf.{Grammar, Nothing, ◌>>=◌}
use Rattle.pj_grammar.specs.parsing.Parser as parsing
use Rattle.pj_grammar.specs.parsing.Parser.{Parser, nothing_at}
use Rattle.pj_grammar.specs.grammar.Words as rules
use Rattle.pj_grammar.specs.parsing.Words as parsers
use Rattle.pj_grammar.proofs.kinds.Sets as kinds
use Rattle.pj_grammar.proofs.kinds.Sets.{Kinds, kind_of, none, ◌∪◌, apart}
use Rattle.pj_grammar.proofs.kinds.Tests.{sign_kind}
use Rattle.pj_grammar.proofs.reads.Reads.{Reads}
use Rattle.pj_grammar.proofs.reads.Phrases.{reads_with}
use Rattle.pj_grammar.proofs.reads.One.{nothing_reads}
use Rattle.pj_grammar.proofs.reads.Then.{or_none, then_reads, then_reads_suc, then_reads_deep}
use Rattle.pj_grammar.proofs.reads.Many.{many_reads}
use Rattle.pj_grammar.proofs.rules.Words.{sign_reads}

module _ {A B : Type 0} {F M F' M' : Kinds} {n : ℕ} {G W : Grammar A} {H V : A → Grammar B} {p : Parser A}
    {q : A → Parser B} where
  -- neither is empty
  pub seq : Reads F M false n G W p → ((a : A) → Reads F' M' false n (H a) (V a) (q a)) → apart M F' ≡ true
      → Reads F M' false n (G >>= H) (W >>= V) (parsing.◌>>=◌ p q)
  seq first second separate =
      reads_with F M' (then_reads first second separate) (λ l. or_none (F (kind_of l)))
      (λ l h. rw or_none at h)

  -- the same, where the second is known of shorter lists
  pub seq_suc : Reads F M false (suc n) G W p → ((a : A) → Reads F' M' false n (H a) (V a) (q a))
      → apart M F' ≡ true
      → Reads F M' false (suc n) (G >>= H) (W >>= V) (parsing.◌>>=◌ p q)
  seq_suc first second separate =
      reads_with F M' (then_reads_suc first second separate) (λ l. refl) (λ l h. rw or_none at h)

  -- the second may be empty
  pub seq_opt : Reads F M false n G W p → ((a : A) → Reads F' M' true n (H a) (V a) (q a)) → apart M F' ≡ true
      → Reads F (M' ∪ M) false n (G >>= H) (W >>= V) (parsing.◌>>=◌ p q)
  seq_opt first second separate =
      reads_with F (M' ∪ M) (then_reads first second separate) (λ l. or_none (F (kind_of l))) (λ l h. h)

  -- the first may be empty
  pub opt_seq : Reads F M true n G W p → ((a : A) → Reads F' M' false n (H a) (V a) (q a)) → apart M F' ≡ true
      → Reads (F ∪ F') M' false n (G >>= H) (W >>= V) (parsing.◌>>=◌ p q)
  opt_seq first second separate =
      reads_with (F ∪ F') M' (then_reads first second separate) (λ l. refl) (λ l h. rw or_none at h)

  -- both may be empty
  pub opt_opt : Reads F M true n G W p → ((a : A) → Reads F' M' true n (H a) (V a) (q a)) → apart M F' ≡ true
      → Reads (F ∪ F') (M' ∪ M) true n (G >>= H) (W >>= V) (parsing.◌>>=◌ p q)
  opt_opt first second separate = then_reads first second separate

module _ {A B : Type 0} {F M : Kinds} {n : ℕ} {G W : Grammar A} {p : Parser A} where
  -- what is read, as another value
  pub end : Reads F M false n G W p → (f : A → B)
      → Reads F M false n (G >>= λ a. Nothing (f a)) (W >>= λ a. Nothing (f a))
      (parsing.◌>>=◌ p (λ a. nothing_at (f a)))
  end first f =
      reads_with F M
      (then_reads_deep first (λ a. nothing_reads (f a) n) (λ l in_more in_none. cc) (inl (omega arith)))
      (λ l. or_none (F (kind_of l))) (λ l h. h)

  -- the same of what may be empty
  pub end_opt : Reads F M true n G W p → (f : A → B)
      → Reads F M true n (G >>= λ a. Nothing (f a)) (W >>= λ a. Nothing (f a))
      (parsing.◌>>=◌ p (λ a. nothing_at (f a)))
  end_opt first f =
      reads_with F M
      (then_reads_deep first (λ a. nothing_reads (f a) n) (λ l in_more in_none. cc) (inl (omega arith)))
      (λ l. or_none (F (kind_of l))) (λ l h. h)

-- in the second set or the third, or in the third
either-twice : (a b : Bool) → ((a || b) || b) ≡ true → (a || b) ≡ true
either-twice true b h = refl
either-twice false true h = refl
either-twice false false h = h

module _ {A : Type 0} {F M : Kinds} {n : ℕ} {G W : Grammar A} {p : Parser A} where
  -- one or more, with commas between them
  pub listed_reads : Reads F M false n G W p → apart none F ≡ true → apart M (kinds.sign Comma) ≡ true
      → Reads F (kinds.sign Comma ∪ M) false n (rules.listed G) (rules.listed W) (parsers.listed_at p)
  listed_reads r begin separate =
      reads_with F (kinds.sign Comma ∪ M)
      (seq_opt r (λ first. end_opt
      (many_reads (seq (sign_reads n Comma) (λ _. r) begin) separate (is_symbol Comma)
      (sign_kind Comma))
      (λ more. first ∷ more))
      separate)
      (λ l. refl) (λ l h. either-twice (kinds.sign Comma (kind_of l)) (M (kind_of l)) h)

  -- in parentheses
  pub in_parens_reads : Reads F M false n G W p → apart none F ≡ true → apart M (kinds.sign Right) ≡ true
      → Reads (kinds.sign Left) none false n (rules.in_parens G) (rules.in_parens W) (parsers.in_parens_at p)
  in_parens_reads r begin separate =
      seq (sign_reads n Left) (λ _. seq r (λ a. end (sign_reads n Right) (λ _. a)) separate) begin

  -- the same of longer lists
  pub in_parens_suc : Reads F M false n G W p → apart none F ≡ true → apart M (kinds.sign Right) ≡ true
      → Reads (kinds.sign Left) none false (suc n) (rules.in_parens G) (rules.in_parens W)
      (parsers.in_parens_at p)
  in_parens_suc r begin separate =
      seq_suc (sign_reads (suc n) Left)
      (λ _. seq r (λ a. end (sign_reads n Right) (λ _. a)) separate) begin
