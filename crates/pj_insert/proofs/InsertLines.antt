-- An INSERT that bytes spell is the line of the body's tokens.
use Rattle.std.proofs.Common.{◌≡◌, ℕ, ◌+◌, ◌-◌, ◌≤◌, true, List, [], ◌∷◌, ◌++◌, length, take, drop}
use Rattle.std.proofs.Common.{Option, Some, None, refl, sym, ap, ◌∙◌, inl, inr, arith}
use Rattle.std.proofs.Common.{append_assoc, append-nil, length-append, codes}
use Rattle.std.specs.Prelude.{slice_range}
use Rattle.std.specs.Borrow.{Bor}
use Rattle.std.specs.Option.{unwrap_or}
use Rattle.std.specs.List.{AllByRecursion}
use Rattle.std.proofs.lemmas.List.{take_at, drop_at}
use Rattle.pj_value.specs.declared.value.Value.{Value}
use Rattle.pj_lex.specs.declared.token.Symbol.TheVariants.{Semicolon}
use Rattle.pj_lex.specs.declared.token.Token.{Token}
use Rattle.pj_lex.specs.declared.token.TokenKind.TheVariants as kinds
use Rattle.pj_lex.specs.Bytes.{IsBlank}
use Rattle.pj_lex.specs.Tokens.{Lead}
use Rattle.pj_lex.specs.FirstToken.{IsFound}
use Rattle.pj_grammar.specs.declared.types.Statement.{Statement}
use Rattle.pj_grammar.specs.declared.types.Statement.TheVariants as statements
use Rattle.pj_grammar.specs.Lexemes.{Lexeme, word, number, text, symbol, lexeme_of, lexeme, lexemes, is_word}
use Rattle.pj_grammar.specs.Lexemes.{spells}
use Rattle.pj_grammar.specs.grammar.Ebnf.{optional}
use Rattle.pj_grammar.specs.grammar.Words.{keyword, name, sign, listed, in_parens}
use Rattle.pj_grammar.specs.grammar.Values.{value_to}
use Rattle.pj_grammar.specs.grammar.Statements.{row, target, insert, sentence}
use Rattle.pj_grammar.specs.SyntaxErrors.{BeginsInsert}
use Rattle.pj_insert.specs.Inserts.{text_size, IsInsert, ArePrefix, SpellsPrefix, IsIntoPrefix}
use Rattle.pj_insert.proofs.PrefixLemmas.{prefix_within, prefix_then, prefix_nothing, prefix_left}
use Rattle.pj_insert.proofs.PrefixLemmas.{prefix_right}
use Rattle.pj_insert.proofs.PrefixLemmas.{ArePrefix-append, semicolon_prefix}

-- ---- the rule of INSERT

module _ (most : ℕ) (body b1 b2 b3 b4 : List ℕ) (table : List ℕ) (columns : Option (List (List ℕ)))
    (rows : List (List Value)) where
  -- an INSERT is spelled by its parts
  pub insert_prefix : IsIntoPrefix body table b1
      → SpellsPrefix 0 (optional (in_parens (listed name))) b1 columns b2
      → SpellsPrefix 0 (keyword (codes "VALUES")) b2 tt b3 → SpellsPrefix most (listed row) b3 rows b4
      → SpellsPrefix most insert body (statements.Insert table columns rows) b4
  insert_prefix into named values listed_rows =
      let goal : SpellsPrefix most target into.into (table, columns) b2 =
      prefix_right
      (prefix_then (prefix_within most into.three)
      (prefix_then (prefix_within most named) (prefix_nothing most (table, columns) b2))) in
      prefix_then (prefix_within most into.one)
      (prefix_then (prefix_within most into.two)
      (prefix_then goal
      (prefix_then (prefix_within most values)
      (prefix_then listed_rows (prefix_nothing most (statements.Insert table columns rows) b4)))))

-- a word's lexeme that spells INSERT
begins_word : (t : Lexeme) → is_word (spells (codes "INSERT")) t ≡ true
    → (bytes : List ℕ) × (t ≡ word bytes) × (spells (codes "INSERT") bytes ≡ true)
begins_word (word bytes) is = (bytes, refl, is)
begins_word (number n) is = absurd cc
begins_word (text bytes) is = absurd cc
begins_word (symbol s) is = absurd cc

-- the lexemes of an INSERT begin with that word
begins_insert : (ts us : List Lexeme) (s : Statement) → insert ts s → BeginsInsert (ts ++ us)
begins_insert ts us s w =
    let first = begins_word w.one.lexeme w.one.passes in (
      first.0,
      w.back ++ us,
      ap (λ (x : List Lexeme). x ++ us) (w.all ∙ ap (λ (x : List Lexeme). x ++ w.back) w.one.only)
          ∙ ap (λ (t : Lexeme). t ∷ (w.back ++ us)) first.1,
      first.2,
    )

-- ---- tokens with their offsets

-- the bytes of a token lie where it says
slice-at : (prefix blanks bytes more : List ℕ)
    → slice_range (prefix ++ (blanks ++ (bytes ++ more))) (length prefix + length blanks)
    (length prefix + length blanks + length bytes)
    ≡ bytes
slice-at prefix blanks bytes more =
    let at = length prefix + length blanks in
    let whole : prefix ++ (blanks ++ (bytes ++ more)) ≡ (prefix ++ blanks) ++ (bytes ++ more) =
    sym (append_assoc prefix blanks (bytes ++ more)) in
    let behind : drop at (prefix ++ (blanks ++ (bytes ++ more))) ≡ bytes ++ more =
    ap (drop at) whole ∙ drop_at (prefix ++ blanks) (bytes ++ more) at (length-append prefix blanks) in
    ap (take (at + length bytes - at)) behind ∙ take_at bytes more (at + length bytes - at) (omega arith)

-- the tokens of lexemes that bytes of the body spell, from this offset on
record Made (most : ℕ) (body : List ℕ) (here : ℕ) (bytes : List ℕ) (ts : List Lexeme)
    (rest : List ℕ) : Type 0 where
  tokens : List Token
  there : ℕ
  lead : Lead here bytes tokens there rest
  are : lexemes body tokens ≡ ts
  short : AllByRecursion (λ token. text_size token.kind ≤ most) tokens

make : (most : ℕ) (body prefix bytes : List ℕ) (here : ℕ) (ts : List Lexeme) (rest : List ℕ)
    → body ≡ prefix ++ bytes → here ≡ length prefix → ArePrefix most bytes ts rest
    → Made most body here bytes ts rest
make most body prefix bytes here [] rest whole position same =
    record { tokens = []; there = here; lead = (refl, same); are = refl; short = tt }
make most body prefix bytes here (t ∷ ts) rest whole position (kind, own, more, stands, is, short, others) =
    let at = here + length stands.blanks in
    let end = here + length stands.blanks + length own in
    let token : Token = record { kind = kind; at = at; end = end } in
    let all : body ≡ prefix ++ (stands.blanks ++ (own ++ more)) =
    whole ∙ ap (λ (x : List ℕ). prefix ++ x) stands.whole in
    let next : body ≡ (prefix ++ (stands.blanks ++ own)) ++ more =
    all ∙ ap (λ (x : List ℕ). prefix ++ x) (sym (append_assoc stands.blanks own more))
    ∙ sym (append_assoc prefix (stands.blanks ++ own) more) in
    let reach : end ≡ length (prefix ++ (stands.blanks ++ own)) =
    omega (
      arith,
      position,
      length-append prefix (stands.blanks ++ own),
      length-append stands.blanks own,
    ) in
    let made = make most body (prefix ++ (stands.blanks ++ own)) more end ts rest next reach others in
    let slice : slice_range body at end ≡ own = rw (all, position) (slice-at prefix stands.blanks own more) in
    let one : lexeme body token ≡ t = ap (λ (x : List ℕ). lexeme_of x kind) slice ∙ sym is in
    record {
      tokens = token ∷ made.tokens;
      there = made.there;
      lead = (
        more,
        record { text = own; stands = stands; at = refl; end = refl },
        made.lead,
      );
      are = rw (one, made.are) refl;
      short = (short, made.short);
    }

-- ---- the whole body

-- a body that spells a statement up to its end is the INSERT of that statement
is_insert : (most : ℕ) (body rest : List ℕ) (s : Statement)
    → (spelled : SpellsPrefix most (sentence (value_to 0)) body s rest) → IsBlank rest
    → BeginsInsert spelled.ts
    → IsInsert most body s
is_insert most body rest s spelled blank begins =
    let made = make most body [] body 0 spelled.ts rest refl refl spelled.all in
    record {
      tokens = made.tokens;
      are = (made.there, rest, made.lead, blank);
      first = rw made.are begins;
      spelled = (0, rw made.are spelled.word);
      short = made.short;
    }

-- an INSERT, and a semicolon or none
module _ (most : ℕ) (body behind end : List ℕ) (s : Statement) (signed : Option (Unit {0}))
    (spelled : SpellsPrefix most insert body s behind)
    (ended : SpellsPrefix most (optional (sign Semicolon)) behind signed end) where
  -- they are a sentence
  whole_sentence : SpellsPrefix most (sentence (value_to 0)) body s end
  whole_sentence = record {
    ts = spelled.ts ++ ended.ts;
    all = ArePrefix-append most spelled.ts ended.ts body behind end spelled.all ended.all;
    word = record {
      front = spelled.ts;
      back = ended.ts;
      found = s;
      all = refl;
      one = inr (inl spelled.word);
      other = record {
        front = ended.ts;
        back = [];
        found = signed;
        all = sym (append-nil ended.ts);
        one = ended.word;
        other = record { empty = refl; is = refl };
      };
    };
  }

  -- of the whole body where nothing but blanks is behind them
  with_end : IsBlank end → IsInsert most body s
  unfolding whole_sentence
  with_end blank =
      is_insert most body end s whole_sentence blank (begins_insert spelled.ts ended.ts s spelled.word)

-- an INSERT, a semicolon or none, and blanks
pub whole_insert : (most : ℕ) (body : List ℕ) (behind : Bor (List ℕ)) (semicolon : Option (Bor (List ℕ)))
    (s : Statement)
    → SpellsPrefix most insert body s behind.now
    → IsFound (kinds.Symbol Semicolon) behind.now semicolon
    → IsBlank (unwrap_or semicolon behind).now → IsInsert most body s
whole_insert most body behind None s spelled signed blank =
    with_end most body behind.now behind.now s None spelled
    (prefix_right (prefix_nothing most None behind.now)) blank
whole_insert most body behind (Some more) s spelled signed blank =
    with_end most body behind.now more.now s (Some tt) spelled
    (prefix_left
    (prefix_then (semicolon_prefix most behind.now more.now signed) (prefix_nothing most (Some tt) more.now)))
    blank
