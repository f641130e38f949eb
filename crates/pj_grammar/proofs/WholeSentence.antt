-- A whole sentence is read exactly: its statement, or the index of the first lexeme that doesn't fit.
use Rattle.std.proofs.Common.{◌≡◌, ℕ, zero, suc, ◌+◌, ◌<◌, ◌≤◌, false}
use Rattle.std.proofs.Common.{List, [], ◌∷◌, ◌++◌, ◌⊎◌, length, take, drop, Result, Ok}
use Rattle.std.proofs.Common.{Err, refl, sym, ap, subst, ◌∙◌, inl, inr, arith}
use Rattle.std.proofs.lemmas.List.{length-append, append-nil, append_assoc, take_at, drop_at}
use Rattle.std.proofs.lemmas.List.{take-take, take-append-drop, append_cancel_right}
use Rattle.std.proofs.lemmas.Bool.{cases_lt}
use Rattle.pj_grammar.specs.declared.types.Statement.{Statement}
use Rattle.pj_grammar.specs.Lexemes.{Lexeme}
use Rattle.pj_grammar.specs.parsing.Parser.{Answer}
use Rattle.pj_grammar.specs.grammar.Values.{value_to}
use Rattle.pj_grammar.specs.grammar.Statements.{sentence, IsStatement}
use Rattle.pj_grammar.specs.parsing.Values.{value_at}
use Rattle.pj_grammar.specs.parsing.Statements.{sentence_at, to_end, whole_sentence}
use Rattle.pj_grammar.specs.SyntaxErrors.{Begins, IsErrorIndex}
use Rattle.pj_grammar.specs.Laws.{OneStatement, OneError, StatementOrError}
use Rattle.pj_grammar.proofs.reads.Reads.{Stops, IsExact, Reads}
use Rattle.pj_grammar.proofs.rules.Depth.{value_reads}
use Rattle.pj_grammar.proofs.rules.Lone.{value_lone}
use Rattle.pj_grammar.proofs.rules.Statements.{sentence_first, sentence_more, sentence_reads}

-- ---- depths

-- a sentence of a depth is read exactly
sentences : (n depth : ℕ) → n ≤ depth
    → Reads sentence_first sentence_more false n (sentence (value_to depth)) (sentence (value_to (suc depth)))
    (sentence_at (value_at n))
sentences n depth le = sentence_reads (value_at n) (value_reads n depth le) (value_lone depth)

-- a sentence of a depth is one of each larger depth
sentence_deeper : (depth deep : ℕ) → depth ≤ deep → (ts : List Lexeme) (s : Statement)
    → sentence (value_to depth) ts s → sentence (value_to deep) ts s
sentence_deeper depth zero le ts s phrase =
    let e : depth ≡ 0 = omega arith in subst (λ (k : ℕ). sentence (value_to k) ts s) e phrase
sentence_deeper depth (suc deep) le ts s phrase =
    elim (cases_lt deep depth) [
      | inl more ↦ let e : depth ≡ suc deep = omega arith in subst (λ (k : ℕ). sentence (value_to k) ts s) e
          phrase
      | inr less ↦ (sentences 0 deep (omega arith)).widens ts s (sentence_deeper depth deep less ts s phrase)
    ]

-- ---- laws

pub one_statement : OneStatement
one_statement ts a b (d, phrase) (d', phrase') =
    (sentences 0 (d + d') (omega arith)).plain.one ts a b
    (sentence_deeper d (d + d') (omega arith) ts a phrase) (sentence_deeper d' (d + d')
    (omega arith) ts b phrase')

-- lexemes that begin a sentence, and fewer
begins_fewer : (front back : List Lexeme) → Begins (front ++ back) → Begins front
begins_fewer front back (more, s, (d, phrase)) = (
  back ++ more,
  s,
  (d, subst (λ (xs : List Lexeme). sentence (value_to d) xs s) (append_assoc front back more) phrase),
)

take_fewer : (a b : ℕ) (ts : List Lexeme) → a ≤ b → Begins (take b ts) → Begins (take a ts)
take_fewer a b ts le begins =
    let front : take a (take b ts) ≡ take a ts = take-take a b ts le in
    let whole : take b ts ≡ take a ts ++ drop a (take b ts) =
    sym (take-append-drop a (take b ts)) ∙ ap (λ (xs : List Lexeme). xs ++ drop a (take b ts)) front in
    begins_fewer (take a ts) (drop a (take b ts)) (subst (λ (xs : List Lexeme). Begins xs) whole begins)

no_later : (ts : List Lexeme) (a b : ℕ) → IsErrorIndex ts a → IsErrorIndex ts b → a < b → ⊥
no_later ts a b p q lt = p.here (omega (arith, q.within)) (take_fewer (suc a) b ts (omega arith) q.before)

pub one_error : OneError
one_error ts a b p q =
    elim (cases_lt a b) [
      | inl lt ↦ absurd (no_later ts a b p q lt)
      | inr le ↦ elim (cases_lt b a) [ inl lt ↦ absurd (no_later ts b a q p lt) | inr le' ↦ omega arith ]
    ]

-- ---- the answers of the parser

-- what a parser of sentences answers, exactly at each depth from the number of lexemes on
abbrev AtEach : List Lexeme → Answer Statement → Type 0
AtEach ts answer = (depth : ℕ) → length ts ≤ depth → IsExact (sentence (value_to depth)) ts answer

at_each : (ts : List Lexeme) → AtEach ts (sentence_at (value_at (length ts)) ts)
at_each ts depth le = (sentences (length ts) depth le).exact ts (omega arith)

-- two prefixes of one list with one rest are the same
same_front : (ts a b rest : List Lexeme) → ts ≡ a ++ rest → ts ≡ b ++ rest → a ≡ b
same_front ts a b rest e h = append_cancel_right a b rest (sym e ∙ h)

-- one lexeme more than a prefix
take_one_more : (read : List Lexeme) (t : Lexeme) (us : List Lexeme)
    → take (suc (length read)) (read ++ t ∷ us) ≡ read ++ t ∷ []
take_one_more read t us =
    ap (take (suc (length read))) (sym (append_assoc read (t ∷ []) us))
    ∙ take_at (read ++ t ∷ []) us (suc (length read)) (omega (arith, length-append read (t ∷ [])))

module _ (ts read rest : List Lexeme) (all : ts ≡ read ++ rest)
    (stops : (depth : ℕ) → length ts ≤ depth → Stops (sentence (value_to depth)) read rest)
    (none : (depth : ℕ) → length ts ≤ depth → (s : Statement) → rest ≡ [] → sentence (value_to depth) read s
    → ⊥)
  where
    -- no sentence begins with what was read and the next lexeme
    no_more : (t : Lexeme) (us more : List Lexeme) (s : Statement) → rest ≡ t ∷ us → IsStatement (read
        ++ t ∷ more) s
        → ⊥
    no_more t us more s is (d, phrase) =
        stops (d + length ts) (omega arith) t us is more s
        (sentence_deeper d (d + length ts) (omega arith) (read ++ t ∷ more) s phrase)

    no_next : (t : Lexeme) (us : List Lexeme) → rest ≡ t ∷ us → Begins (read ++ t ∷ []) → ⊥
    no_next t us is (more, s, phrase) =
        no_more t us more s is
        (subst (λ (xs : List Lexeme). IsStatement xs s) (append_assoc read (t ∷ []) more) phrase)

    here_not : (rest' : List Lexeme) → rest ≡ rest' → length read < length ts
        → Begins (take (suc (length read)) ts) → ⊥
    here_not [] is lt begun =
        let e : length ts ≡ length read =
        ap length all ∙ length-append read rest ∙ rw is (omega arith) in omega arith
    here_not (t ∷ us) is lt begun =
        let whole : ts ≡ read ++ t ∷ us = all ∙ ap (λ (xs : List Lexeme). read ++ xs) is in
        no_next t us is
        (subst (λ (xs : List Lexeme). Begins xs)
        (ap (take (suc (length read))) whole ∙ take_one_more read t us) begun)

    statement_not : (rest' : List Lexeme) → rest ≡ rest' → (s : Statement) → IsStatement ts s → ⊥
    statement_not [] is s (d, phrase) =
        let whole : ts ≡ read = all ∙ ap (λ (xs : List Lexeme). read ++ xs) is ∙ append-nil read in
        none (d + length ts) (omega arith) s is
        (subst (λ (xs : List Lexeme). sentence (value_to (d + length ts)) xs s) whole
        (sentence_deeper d (d + length ts) (omega arith) ts s phrase))
    statement_not (t ∷ us) is s phrase =
        let whole : ts ≡ read ++ t ∷ us = all ∙ ap (λ (xs : List Lexeme). read ++ xs) is in
        no_more t us us s is (subst (λ (xs : List Lexeme). IsStatement xs s) whole phrase)

    -- so the error is at the next lexeme
    is_error : Begins read → (count : ℕ) × IsErrorIndex ts count × (rest ≡ drop count ts)
    is_error begins =
        let front : take (length read) ts ≡ read =
        ap (take (length read)) all ∙ take_at read rest (length read) refl in (
          length read,
          record {
            within = omega (arith, ap length all, length-append read rest);
            before = subst (λ (xs : List Lexeme). Begins xs) (sym front) begins;
            here = here_not rest refl;
            no_statement = statement_not rest refl;
          },
          sym (ap (drop (length read)) all ∙ drop_at read rest (length read) refl),
        )

-- the parser was stuck there
stuck_error : (ts rest : List Lexeme) → AtEach ts (Err rest)
    → (count : ℕ) × IsErrorIndex ts count × (rest ≡ drop count ts)
stuck_error ts rest each =
    let here = each (length ts) (omega arith) in
    is_error ts here.read rest here.all
    (λ depth le. let there = each depth le in
    subst (λ (xs : List Lexeme). Stops (sentence (value_to depth)) xs rest)
    (same_front ts there.read here.read rest there.all here.all) there.stops)
    (λ depth le s is phrase.
    let there = each depth le in
    there.none s (subst (λ (xs : List Lexeme). sentence (value_to depth) xs s)
    (same_front ts here.read there.read rest here.all there.all) phrase))
    (here.next ∷ here.more, here.value, (length ts, here.begins))

-- a sentence was found, and a lexeme stands behind it
found_error : (ts : List Lexeme) (s : Statement) (t : Lexeme) (us : List Lexeme) → AtEach ts (Ok (s, t ∷ us))
    → (count : ℕ) × IsErrorIndex ts count × (t ∷ us ≡ drop count ts)
found_error ts s t us each =
    let here = each (length ts) (omega arith) in
    is_error ts here.read (t ∷ us) here.all
    (λ depth le. let there = each depth le in
    subst (λ (xs : List Lexeme). Stops (sentence (value_to depth)) xs (t ∷ us))
    (same_front ts there.read here.read (t ∷ us) there.all here.all) there.stops)
    (λ depth le s' is phrase. absurd cc) (
      [],
      s,
      (
        length ts,
        subst (λ (xs : List Lexeme). sentence (value_to (length ts)) xs s)
            (sym (append-nil here.read)) here.phrase,
      ),
    )

-- ---- the whole sentence

-- what is read is the statement
pub whole_found : (ts : List Lexeme) (s : Statement) → whole_sentence ts ≡ Ok s → IsStatement ts s
unfolding whole_sentence
whole_found ts s e = go (sentence_at (value_at (length ts)) ts) (at_each ts) e
  where
    go : (answer : Answer Statement) → AtEach ts answer → to_end answer ≡ Ok s → IsStatement ts s
    go (Ok (s', [])) each e =
        let here = each (length ts) (omega arith) in
        let whole : here.read ≡ ts = sym (here.all ∙ append-nil here.read) in
        let same : s' ≡ s = cc in (
          length ts,
          subst (λ (xs : List Lexeme). sentence (value_to (length ts)) xs s) whole
              (subst (λ (v : Statement). sentence (value_to (length ts)) here.read v) same here.phrase),
        )
    go (Ok (s', t ∷ us)) each e = absurd cc
    go (Err rest) each e = absurd cc

-- what isn't read has an error
pub whole_stuck : (ts rest : List Lexeme) → whole_sentence ts ≡ Err rest
    → (count : ℕ) × IsErrorIndex ts count × (rest ≡ drop count ts)
unfolding whole_sentence
whole_stuck ts rest e = go (sentence_at (value_at (length ts)) ts) (at_each ts) e
  where
    go : (answer : Answer Statement) → AtEach ts answer → to_end answer ≡ Err rest
        → (count : ℕ) × IsErrorIndex ts count × (rest ≡ drop count ts)
    go (Ok (s', [])) each e = absurd cc
    go (Ok (s', t ∷ us)) each e =
        let same : t ∷ us ≡ rest = cc in
        let p = found_error ts s' t us each in (p.0, p.1, sym same ∙ p.2)
    go (Err rest') each e =
        let same : rest' ≡ rest = cc in
        let p = stuck_error ts rest' each in (p.0, p.1, sym same ∙ p.2)

-- so lexemes are a statement, or have an error
pub statement_or_error : StatementOrError
statement_or_error ts = go (whole_sentence ts) refl
  where
    go : (answer : Result Statement (List Lexeme)) → whole_sentence ts ≡ answer
        → ((s : Statement) × IsStatement ts s) ⊎ ((at : ℕ) × IsErrorIndex ts at)
    go (Ok s) e = inl (s, whole_found ts s e)
    go (Err rest) e = let p = whole_stuck ts rest e in inr (p.0, p.1)
