-- What bytes spell, put together from what their parts spell.
use Rattle.std.proofs.Common.{◌≡◌, ℕ, ◌≤◌, Bool, true, List, [], ◌∷◌, ◌++◌, Option, Some, None, IfSome, refl}
use Rattle.std.proofs.Common.{sym, ap, ◌∙◌}
use Rattle.std.proofs.Common.{◌<◌, length, inl, inr, arith, append_assoc, append-nil, length-append}
use Rattle.std.specs.Borrow.{Bor}
use Rattle.pj_lex.specs.declared.token.Symbol.{Symbol}
use Rattle.pj_lex.specs.declared.token.Symbol.TheVariants.{Left, Right, Comma, Semicolon}
use Rattle.pj_lex.specs.declared.token.TokenKind.{TokenKind}
use Rattle.pj_lex.specs.declared.token.TokenKind.TheVariants as kinds
use Rattle.pj_lex.specs.Tokens.{StandsFirst}
use Rattle.pj_lex.specs.FirstToken.{HasFirst, IsFound}
use Rattle.pj_lex.proofs.TokenPrefix.{begins_token}
use Rattle.pj_lex.proofs.BodyTokens.{some_bytes}
use Rattle.pj_grammar.specs.Lexemes.{Lexeme, lexeme_of, no_value, is_symbol}
use Rattle.pj_grammar.specs.grammar.Ebnf.{Grammar, One, Nothing, ◌>>=◌, ◌or◌, many}
use Rattle.pj_grammar.specs.grammar.Words.{sign, behind, listed, in_parens}
use Rattle.pj_insert.specs.Inserts.{text_size, ArePrefix, SpellsPrefix}

-- what may be found, where a token that is found says more
pub if_found : {P : List ℕ → Type 0} (kind : TokenKind) (bytes : List ℕ)
    → ((more : List ℕ) → HasFirst kind bytes more → P more)
    → (o : Option (Bor (List ℕ))) → IsFound kind bytes o → IfSome o (λ more. P more.now)
if_found kind bytes says None none = tt
if_found kind bytes says (Some more) has = says more.now has

-- ---- lists of lexemes

-- some lexemes and those behind them
pub ArePrefix-append : (most : ℕ) (ts us : List Lexeme) (a b c : List ℕ) → ArePrefix most a ts b
    → ArePrefix most b us c
    → ArePrefix most a (ts ++ us) c
ArePrefix-append most [] us a b c same rest = rw (← same) rest
ArePrefix-append most (t ∷ ts) us a b c (kind, text, more, stands, is, short, others) rest =
    (kind, text, more, stands, is, short, ArePrefix-append most ts us more b c others rest)

-- a limit that is no lower
ArePrefix-within : (fewer most : ℕ) → fewer ≤ most → (ts : List Lexeme) (a b : List ℕ)
    → ArePrefix fewer a ts b
    → ArePrefix most a ts b
ArePrefix-within fewer most le [] a b same = same
ArePrefix-within fewer most le (t ∷ ts) a b (kind, text, more, stands, is, short, others) =
    (kind, text, more, stands, is, omega (arith, short, le), ArePrefix-within fewer most le ts more b others)

-- ---- lengths

-- the bytes behind a token are fewer
stands-shorter : (bytes text more : List ℕ) (kind : TokenKind) → StandsFirst bytes kind text more
    → length more < length bytes
stands-shorter bytes text more kind s =
    omega (
      arith,
      ap length s.whole,
      length-append s.blanks (text ++ more),
      length-append text more,
      some_bytes text (begins_token kind text s.spelled),
    )

-- those behind some tokens are no more
ArePrefix-shorter : (most : ℕ) (ts : List Lexeme) (a b : List ℕ) → ArePrefix most a ts b
    → length b ≤ length a
ArePrefix-shorter most [] a b same = omega (arith, ap length same)
ArePrefix-shorter most (t ∷ ts) a b (kind, text, more, stands, is, short, others) =
    omega (arith, stands-shorter a text more kind stands, ArePrefix-shorter most ts more b others)

-- those behind a token and others are fewer
pub shorter : {A : Type 0} {rule : Grammar A} (most : ℕ) (kind : TokenKind) (a b c : List ℕ) (value : A)
    → HasFirst kind a b → SpellsPrefix most rule b value c → length c < length a
shorter most kind a b c value (text, stands) s =
    omega (arith, stands-shorter a text b kind stands, ArePrefix-shorter most s.ts b c s.all)

-- ---- rules

pub prefix_within : {A : Type 0} {rule : Grammar A} (most : ℕ) {a b : List ℕ} {value : A}
    → SpellsPrefix 0 rule a value b → SpellsPrefix most rule a value b
prefix_within most {a} {b} s =
    record { ts = s.ts; all = ArePrefix-within 0 most (omega arith) s.ts a b s.all; word = s.word }

-- one token
pub prefix_one : {A : Type 0} (most : ℕ) (test : Lexeme → Bool) (view : Lexeme → A) (kind : TokenKind)
    (bytes text more : List ℕ) → StandsFirst bytes kind text more → text_size kind ≤ most
    → test (lexeme_of text kind) ≡ true
    → SpellsPrefix most (One test view) bytes (view (lexeme_of text kind)) more
prefix_one most test view kind bytes text more stands short passes =
    record {
      ts = lexeme_of text kind ∷ [];
      all = (kind, text, more, stands, refl, short, refl);
      word = record { lexeme = lexeme_of text kind; only = refl; passes = passes; taken = refl };
    }

-- no token
pub prefix_nothing : {A : Type 0} (most : ℕ) (value : A) (bytes : List ℕ)
    → SpellsPrefix most (Nothing value) bytes value bytes
prefix_nothing most value bytes =
    record { ts = []; all = refl; word = record { empty = refl; is = refl } }

-- one rule behind the other
pub prefix_then : {A B : Type 0} {most : ℕ} {first : Grammar A} {second : A → Grammar B}
    {a b c : List ℕ} {x : A} {y : B}
    → SpellsPrefix most first a x b → SpellsPrefix most (second x) b y c → SpellsPrefix most
    (first >>= second) a y c
prefix_then {most = most} {a = a} {b = b} {c = c} {x = x} s r =
    record {
      ts = s.ts ++ r.ts;
      all = ArePrefix-append most s.ts r.ts a b c s.all r.all;
      word = record { front = s.ts; back = r.ts; found = x; all = refl; one = s.word; other = r.word };
    }

-- by one rule or the other
pub prefix_left : {A : Type 0} {most : ℕ} {one other : Grammar A} {a b : List ℕ} {x : A}
    → SpellsPrefix most one a x b → SpellsPrefix most (one or other) a x b
prefix_left s = record { ts = s.ts; all = s.all; word = inl s.word }

pub prefix_right : {A : Type 0} {most : ℕ} {one other : Grammar A} {a b : List ℕ} {x : A}
    → SpellsPrefix most other a x b → SpellsPrefix most (one or other) a x b
prefix_right s = record { ts = s.ts; all = s.all; word = inr s.word }

-- ---- signs

sign_prefix : (most : ℕ) (symbol : Symbol) (bytes more : List ℕ)
    → is_symbol symbol (lexeme_of [] (kinds.Symbol symbol)) ≡ true
    → HasFirst (kinds.Symbol symbol) bytes more → SpellsPrefix most (sign symbol) bytes tt more
sign_prefix most symbol bytes more is (text, stands) =
    prefix_one most (is_symbol symbol) no_value (kinds.Symbol symbol) bytes text more stands (omega arith) is

pub left_prefix : (most : ℕ) (bytes more : List ℕ) → HasFirst (kinds.Symbol Left) bytes more
    → SpellsPrefix most (sign Left) bytes tt more
left_prefix most bytes more = sign_prefix most Left bytes more refl

pub right_prefix : (most : ℕ) (bytes more : List ℕ) → HasFirst (kinds.Symbol Right) bytes more
    → SpellsPrefix most (sign Right) bytes tt more
right_prefix most bytes more = sign_prefix most Right bytes more refl

pub comma_prefix : (most : ℕ) (bytes more : List ℕ) → HasFirst (kinds.Symbol Comma) bytes more
    → SpellsPrefix most (sign Comma) bytes tt more
comma_prefix most bytes more = sign_prefix most Comma bytes more refl

pub semicolon_prefix : (most : ℕ) (bytes more : List ℕ) → HasFirst (kinds.Symbol Semicolon) bytes more
    → SpellsPrefix most (sign Semicolon) bytes tt more
semicolon_prefix most bytes more = sign_prefix most Semicolon bytes more refl

-- in parentheses
pub parens_prefix : {A : Type 0} {most : ℕ} {rule : Grammar A} {bytes inside behind more : List ℕ} {value : A}
    → HasFirst (kinds.Symbol Left) bytes inside → SpellsPrefix most rule inside value behind
    → HasFirst (kinds.Symbol Right) behind more → SpellsPrefix most (in_parens rule) bytes value more
parens_prefix {most = most} {bytes = bytes} {inside = inside} {behind = last} {more = more}
    {value = value} l s r =
    prefix_then (left_prefix most bytes inside l)
    (prefix_then s (prefix_then (right_prefix most last more r) (prefix_nothing most value more)))

-- ---- lists

-- the first of a list
pub listed_one : {A : Type 0} {most : ℕ} {rule : Grammar A} {bytes rest : List ℕ} {value : A}
    → SpellsPrefix most rule bytes value rest → SpellsPrefix most (listed rule) bytes (value ∷ []) rest
listed_one {most = most} {rest = rest} {value = value} s =
    prefix_then s
    (prefix_then (record { ts = []; all = refl; word = refl }) (prefix_nothing most (value ∷ []) rest))

-- one more of many
many-push : {A : Type 0} (rule : Grammar A) (ts us : List Lexeme) (values : List A) (value : A)
    → many rule ts values → rule us value → many rule (ts ++ us) (values ++ value ∷ [])
many-push rule ts us [] value none word = (us, [], rw none (sym (append-nil us)), word, refl)
many-push rule ts us (v ∷ vs) value (prefix, back, all, one, others) word = (
  prefix,
  back ++ us,
  ap (λ (x : List Lexeme). x ++ us) all ∙ append_assoc prefix back us,
  one,
  many-push rule back us vs value others word,
)

-- one more of a list
listed-push : {A : Type 0} (rule : Grammar A) (ts us : List Lexeme) (values : List A) (value : A)
    → listed rule ts values → behind (sign Comma) rule us value
    → listed rule (ts ++ us) (values ++ value ∷ [])
listed-push rule ts us values value w word =
    record {
      front = w.front;
      back = w.back ++ us;
      found = w.found;
      all = ap (λ (x : List Lexeme). x ++ us) w.all ∙ append_assoc w.front w.back us;
      one = w.one;
      other = record {
        front = w.other.front ++ us;
        back = [];
        found = w.other.found ++ value ∷ [];
        all =
            ap (λ (x : List Lexeme). x ++ us)
            (w.other.all ∙ ap (λ (x : List Lexeme). w.other.front ++ x) w.other.other.empty
            ∙ append-nil w.other.front)
            ∙ sym (append-nil (w.other.front ++ us));
        one = many-push (behind (sign Comma) rule) w.other.front us w.other.found value w.other.one word;
        other = record {
          empty = refl;
          is = ap (λ x. x ++ value ∷ []) w.other.other.is;
        };
      };
    }

-- a comma and one more of a list
pub listed_more : {A : Type 0} {most : ℕ} {rule : Grammar A} {bytes mid inside rest : List ℕ}
    {values : List A} {value : A}
    → SpellsPrefix most (listed rule) bytes values mid → HasFirst (kinds.Symbol Comma) mid inside
    → SpellsPrefix most rule inside value rest → SpellsPrefix most (listed rule) bytes (values
    ++ value ∷ []) rest
listed_more {most = most} {rule = rule} {bytes = bytes} {mid = mid} {inside = inside} {rest = rest}
    {values = values} {value = value} s comma one =
    let c = comma_prefix most mid inside comma in
    let next : SpellsPrefix most (behind (sign Comma) rule) mid value rest = prefix_then c one in
    record {
      ts = s.ts ++ next.ts;
      all = ArePrefix-append most s.ts next.ts bytes mid rest s.all next.all;
      word = listed-push rule s.ts next.ts values value s.word next.word;
    }
