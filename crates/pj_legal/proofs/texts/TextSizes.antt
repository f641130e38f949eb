-- No text of a body is longer than the body: each piece has a byte at least.
use Rattle.std.proofs.Common.{◌≡◌, ℕ, zero, suc, ◌+◌, ◌<◌, ◌≤◌, List, [], ◌∷◌, ◌++◌, length, get_or}
use Rattle.std.proofs.Common.{inl, inr, refl, arith, length-append, zero-le}
use Rattle.pj_lex.specs.declared.token.Token.{Token}
use Rattle.pj_lex.specs.declared.token.TokenKind.{TokenKind}
use Rattle.pj_lex.specs.declared.token.TokenKind.TheVariants as kinds
use Rattle.pj_lex.specs.Tokens.{IsPiece, ArePieces, Spells, IsFirst, Lead, AreTokens}
use Rattle.pj_lex.proofs.TextPieces.{IsEscape, escape_forms}
use Rattle.pj_legal.specs.Bodies.{text_limit, HasLongText}

escape_some : (piece : List ℕ) (b : ℕ) → IsEscape piece b → 1 ≤ length piece
escape_some piece b (inl x) = rw x.0 (omega arith)
escape_some piece b (inr x) = rw x.1 (omega arith)

piece_some : (piece : List ℕ) (b : ℕ) → IsPiece piece b → 1 ≤ length piece
piece_some piece b (inl x) = rw x.0 (omega arith)
piece_some piece b (inr x) = escape_some piece b (escape_forms piece b x)

length-pieces : (bytes text : List ℕ) → ArePieces bytes text → length text ≤ length bytes
length-pieces bytes [] x = zero-le
length-pieces bytes (b ∷ text) x =
    let one = piece_some x.0 b x.3 in
    let more = length-pieces x.1 text x.4 in
    let both : length bytes ≡ length x.0 + length x.1 = rw x.2 (length-append x.0 x.1) in omega arith

-- a text is shorter than its spelling
length-text : (kind : TokenKind) (bytes text : List ℕ) → kind ≡ kinds.Text text → Spells kind bytes
    → length text ≤ length bytes
length-text kinds.Word bytes text e s = absurd (cc)
length-text (kinds.Number n) bytes text e s = absurd (cc)
length-text (kinds.Symbol symbol) bytes text e s = absurd (cc)
length-text (kinds.Text t) bytes text e s =
    let same : t ≡ text = cc in
    let pieces : length t ≤ length s.0 = length-pieces s.0 t s.2 in
    let all : length bytes ≡ 1 + (length s.0 + 1) = rw (s.1, length-append s.0 (39 ∷ [])) (omega arith) in
    let here : length t ≡ length text = rw same refl in omega arith

-- a token's bytes, and those behind it, lie in the bytes
length-first : (here : ℕ) (bytes : List ℕ) (token : Token) (more : List ℕ)
    → (first : IsFirst here bytes token more) → length first.text + length more ≤ length bytes
length-first here bytes token more first =
    let all : length bytes ≡ length first.stands.blanks + (length first.text + length more) =
    rw (
      first.stands.whole,
      length-append first.stands.blanks (first.text ++ more),
      length-append first.text more,
    ) refl in
    omega arith

length-text_at : (here : ℕ) (bytes : List ℕ) (tokens : List Token) (there : ℕ) (rest : List ℕ)
    (at : ℕ) (token : Token) (text : List ℕ)
    → Lead here bytes tokens there rest → at < length tokens → get_or tokens at token ≡ token
    → token.kind ≡ kinds.Text text → length text ≤ length bytes
length-text_at here bytes [] there rest at token text lead l e is = absurd (omega arith)
length-text_at here bytes (t ∷ ts) there rest zero token text lead l e is =
    let kind : t.kind ≡ kinds.Text text = cc in
    let own = length-text t.kind lead.1.text text kind lead.1.stands.spelled in
    let whole = length-first here bytes t lead.0 lead.1 in omega arith
length-text_at here bytes (t ∷ ts) there rest (suc at) token text lead l e is =
    let behind = length-text_at t.end lead.0 ts there rest at token text lead.2 (omega arith) e is in
    let whole = length-first here bytes t lead.0 lead.1 in omega arith

-- a body that has a long text is long
pub HasLongText-long : (body : List ℕ) (tokens : List Token) → AreTokens body tokens → HasLongText tokens
    → text_limit < length body
HasLongText-long body tokens are long =
    let inside =
    length-text_at 0 body tokens are.0 are.1 long.0 long.1 long.4.0 are.2 long.2 long.3 long.4.1 in
    let limit = long.4.2 in omega arith
