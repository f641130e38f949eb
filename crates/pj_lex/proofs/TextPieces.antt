-- The pieces of a text: what is read of them is spelled so, and what is spelled so is read.
use Rattle.std.proofs.Common.{◌≡◌, ◌≢◌, ℕ, false, cond, eqb, List, [], ◌∷◌, ◌++◌}
use Rattle.std.proofs.Common.{Option, Some, None, Contains, get_or, drop, refl}
use Rattle.std.proofs.Common.{sym, ap, ◌∙◌, ◌⊎◌, inl, inr, arith, append_assoc}
use Rattle.std.proofs.lemmas.Bool.{eqb-true, eqb-false}
use Rattle.std.proofs.lemmas.Option.{none-some}
use Rattle.std.proofs.lemmas.List.{append-nil}
use Rattle.std.proofs.lemmas.List.Elements.{All-contains, All-from_recursion}
use Rattle.std.specs.List.{AllByRecursion}
use Rattle.pj_lex.specs.Tokens.{escapes, IsPiece, ArePieces, StopsAt}
use Rattle.pj_lex.specs.TokenReading.{escaped, Pieces, Closed, BadEscape, NoEnd}
use Rattle.pj_lex.specs.TokenReading.{with_prefix, with_escape, pieces_at}
use Rattle.pj_lex.proofs.TokenBytes.{cases, choice}

-- ---- escapes

-- the byte is tested for another one
escape_case : (c k v b : ℕ) (rest : Option ℕ) → cond (eqb c k) (Some v) rest ≡ Some b
    → Contains escapes (92 ∷ k ∷ [], v) → (rest ≡ Some b → Contains escapes (92 ∷ c ∷ [], b))
    → Contains escapes (92 ∷ c ∷ [], b)
escape_case c k v b rest e is others =
    elim (choice (eqb c k) (Some v) rest (Some b) e) [
      | inl h ↦ let same : v ≡ b = cc in rw (eqb-true c k h.0, ← same) is
      | inr h ↦ others h.1
    ]

-- what is read as an escape is one
pub escaped-is : (c b : ℕ) → escaped c ≡ Some b → Contains escapes (92 ∷ c ∷ [], b)
escaped-is c b e =
    escape_case c 39 39 b _ e (1, omega arith, refl) (λ e.
    escape_case c 92 92 b _ e (2, omega arith, refl) (λ e.
    escape_case c 116 9 b _ e (3, omega arith, refl) (λ e.
    escape_case c 110 10 b _ e (4, omega arith, refl) (λ e.
    escape_case c 114 13 b _ e (5, omega arith, refl) (λ e.
    escape_case c 48 0 b _ e (6, omega arith, refl) (λ e. absurd cc))))))

-- a backslash and a byte, which is read as this one
abbrev pub IsBackslashed : List ℕ → ℕ → Type 0
IsBackslashed piece b = (c : ℕ) × (piece ≡ 92 ∷ c ∷ []) × (escaped c ≡ Some b)

-- two quotes, or a backslash and a byte
abbrev pub IsEscape : List ℕ → ℕ → Type 0
IsEscape piece b = ((piece ≡ 39 ∷ 39 ∷ []) × (b ≡ 39)) ⊎ IsBackslashed piece b

-- each escape is one of these
pub escape_forms : (piece : List ℕ) (b : ℕ) → Contains escapes (piece, b) → IsEscape piece b
escape_forms piece b is =
    let forms : AllByRecursion (λ (x : List ℕ × ℕ). IsEscape x.0 x.1) escapes = (
      inl (refl, refl),
      (
        inr (39, refl, refl),
        (
          inr (92, refl, refl),
          (
            inr (116, refl, refl),
            (inr (110, refl, refl), (inr (114, refl, refl), (inr (48, refl, refl), tt))),
          ),
        ),
      ),
    ) in
    All-contains (λ (x : List ℕ × ℕ). IsEscape x.0 x.1) escapes (piece, b)
    (All-from_recursion (λ (x : List ℕ × ℕ). IsEscape x.0 x.1) escapes forms) is

-- ---- what is read is spelled

-- no piece begins these bytes
abbrev pub BeginsNoPiece : List ℕ → Type 0
BeginsNoPiece bytes = (piece back : List ℕ) (byte : ℕ) → bytes ≡ piece ++ back → IsPiece piece byte → ⊥

-- what the bytes inside a text are, by what is read of them
abbrev pub AreRead : List ℕ → Pieces → Type 0
AreRead bytes (Closed text rest) =
    (pieces : List ℕ) × (bytes ≡ pieces ++ 39 ∷ rest) × ArePieces pieces text × StopsAt (λ b. eqb b 39) rest
AreRead bytes (BadEscape stuck) =
    (pieces : List ℕ) × (text : List ℕ) × (more : List ℕ) × (bytes ≡ pieces ++ 92 ∷ more)
    × (stuck ≡ 92 ∷ more) × ArePieces pieces text × BeginsNoPiece (92 ∷ more)
AreRead bytes NoEnd = (text : List ℕ) × ArePieces bytes text

-- with a piece more before them
AreRead-piece : (piece bytes : List ℕ) (b : ℕ) (read : Pieces) → IsPiece piece b → AreRead bytes read
    → AreRead (piece ++ bytes) (with_prefix (b ∷ []) read)
AreRead-piece piece bytes b (Closed text rest) is (pieces, whole, are, stops) = (
  piece ++ pieces,
  ap (λ (x : List ℕ). piece ++ x) whole ∙ sym (append_assoc piece pieces (39 ∷ rest)),
  (piece, pieces, refl, is, are),
  stops,
)
AreRead-piece piece bytes b (BadEscape stuck) is (pieces, text, more, whole, at, are, none) = (
  piece ++ pieces,
  b ∷ text,
  more,
  ap (λ (x : List ℕ). piece ++ x) whole ∙ sym (append_assoc piece pieces (92 ∷ more)),
  at,
  (piece, pieces, refl, is, are),
  none,
)
AreRead-piece piece bytes b NoEnd is (text, are) = (b ∷ text, (piece, bytes, refl, is, are))

-- the first byte, if there is one
abbrev first : List ℕ → ℕ
first bytes = get_or bytes 0 0

-- a backslash is no plain byte
no_plain : (bs piece back : List ℕ) (byte : ℕ) → 92 ∷ bs ≡ piece ++ back → piece ≡ byte ∷ [] → byte ≢ 92 → ⊥
no_plain bs piece back byte e one differs =
    let whole : 92 ∷ bs ≡ byte ∷ back = e ∙ ap (λ (p : List ℕ). p ++ back) one in
    let same : byte ≡ 92 = sym (ap first whole) in
    differs same

-- nor is it an escape, if the byte behind it isn't one
no_form : (bs piece back : List ℕ) (byte : ℕ) → ((c : ℕ) (cs : List ℕ) → bs ≡ c ∷ cs → escaped c ≡ None)
    → 92 ∷ bs ≡ piece ++ back → IsEscape piece byte → ⊥
no_form bs piece back byte unknown e (inl quotes) =
    let whole : 92 ∷ bs ≡ 39 ∷ 39 ∷ back = e ∙ ap (λ (p : List ℕ). p ++ back) quotes.0 in
    let heads : ◌≡◌ {A = ℕ} 92 39 = ap first whole in
    omega arith
no_form bs piece back byte unknown e (inr (c, two, some)) =
    let whole : 92 ∷ bs ≡ 92 ∷ c ∷ back = e ∙ ap (λ (p : List ℕ). p ++ back) two in
    let rest : bs ≡ c ∷ back = ap (drop 1) whole in
    none-some byte (sym (unknown c back rest) ∙ some)

-- no piece begins with a backslash before a byte that is no escape
no_escape : (bs : List ℕ) → ((c : ℕ) (cs : List ℕ) → bs ≡ c ∷ cs → escaped c ≡ None) → BeginsNoPiece (92 ∷ bs)
no_escape bs unknown =
    λ piece back byte e is. elim is [
      | inl p ↦ no_plain bs piece back byte e p.0 p.2
      | inr p ↦ no_form bs piece back byte unknown e (escape_forms piece byte p)
    ]

-- a byte other than quote and backslash is a piece
plain : (b : ℕ) → eqb b 39 ≡ false → eqb b 92 ≡ false → IsPiece (b ∷ []) b
plain b quote backslash = inl (refl, eqb-false b 39 quote, eqb-false b 92 backslash)

-- two quotes are a piece
quoted : IsPiece (39 ∷ 39 ∷ []) 39
quoted = inr (0, omega arith, refl)

-- what is read behind a backslash is a piece, or none begins there
escape_read : (c : ℕ) (bs : List ℕ) (o : Option ℕ) (read : Pieces) → escaped c ≡ o → AreRead bs read
    → AreRead (92 ∷ c ∷ bs) (with_escape (92 ∷ c ∷ bs) o read)
escape_read c bs None read none are = (
  [],
  [],
  c ∷ bs,
  refl,
  refl,
  refl,
  no_escape (c ∷ bs) (λ d ds e. let same : c ≡ d = cc in rw (← same) none),
)
escape_read c bs (Some b) read is are = AreRead-piece (92 ∷ c ∷ []) bs b read (inr (escaped-is c b is)) are

-- the pieces that are read stand there
pub pieces_are_read : (bytes : List ℕ) → AreRead bytes (pieces_at bytes)
unfolding pieces_at
pieces_are_read [] = ([], refl)
pieces_are_read (b ∷ []) =
    elim (cases (eqb b 39)) [
      | inl quote ↦ rw (eqb-true b 39 quote) ([], refl, refl, tt)
      | inr other ↦
          elim (cases (eqb b 92)) [
            | inl backslash ↦
                rw (eqb-true b 92 backslash)
                ([], [], [], refl, refl, refl, no_escape [] (λ c cs e. absurd cc))
            | inr byte ↦ rw (other, byte) (b ∷ [], (b ∷ [], [], refl, plain b other byte, refl))
          ]
    ]
pieces_are_read (b ∷ c ∷ bs) =
    elim (cases (eqb b 39)) [
      | inl quote ↦
          elim (cases (eqb c 39)) [
            | inl second ↦
                rw (eqb-true b 39 quote, eqb-true c 39 second)
                (AreRead-piece (39 ∷ 39 ∷ []) bs 39 (pieces_at bs) quoted (pieces_are_read bs))
            | inr last ↦ rw (eqb-true b 39 quote, last) ([], refl, refl, last)
          ]
      | inr other ↦
          elim (cases (eqb b 92)) [
            | inl backslash ↦
                rw (eqb-true b 92 backslash)
                (escape_read c bs (escaped c) (pieces_at bs) refl (pieces_are_read bs))
            | inr byte ↦
                rw (other, byte)
                (AreRead-piece (b ∷ []) (c ∷ bs) b (pieces_at (c ∷ bs)) (plain b other byte)
                (pieces_are_read (c ∷ bs)))
          ]
    ]

-- ---- what is spelled is read

-- no bytes before them change nothing
with_prefix-nil : (read : Pieces) → with_prefix [] read ≡ read
with_prefix-nil (Closed text rest) = refl
with_prefix-nil (BadEscape stuck) = refl
with_prefix-nil NoEnd = refl

-- a byte before the bytes of a prefix
with_prefix-cons : (b : ℕ) (text : List ℕ) (read : Pieces)
    → with_prefix (b ∷ []) (with_prefix text read) ≡ with_prefix (b ∷ text) read
with_prefix-cons b text (Closed more rest) = refl
with_prefix-cons b text (BadEscape stuck) = refl
with_prefix-cons b text NoEnd = refl

-- a plain byte is read as itself
byte_piece : (b : ℕ) (rest : List ℕ) → eqb b 39 ≡ false → eqb b 92 ≡ false
    → pieces_at (b ∷ rest) ≡ with_prefix (b ∷ []) (pieces_at rest)
unfolding pieces_at
byte_piece b [] quote backslash = rw (quote, backslash) refl
byte_piece b (c ∷ rest) quote backslash = rw (quote, backslash) refl

-- an escape is read as its byte
escape_piece : (c b : ℕ) (rest : List ℕ) → escaped c ≡ Some b
    → pieces_at (92 ∷ c ∷ rest) ≡ with_prefix (b ∷ []) (pieces_at rest)
unfolding pieces_at
escape_piece c b rest e = ap (λ (o : Option ℕ). with_escape (92 ∷ c ∷ rest) o (pieces_at rest)) e

-- two quotes are read as one
quotes_piece : (rest : List ℕ) → pieces_at (39 ∷ 39 ∷ rest) ≡ with_prefix (39 ∷ []) (pieces_at rest)
unfolding pieces_at
quotes_piece rest = refl

-- unlike numbers are found unequal
pub isnt : (a b : ℕ) → a ≢ b → eqb a b ≡ false
isnt a b differs = elim (cases (eqb a b)) [ inl e ↦ absurd (differs (eqb-true a b e)) | inr e ↦ e ]

-- a piece at the start is read as its byte
pieces_at-piece : (piece rest : List ℕ) (b : ℕ) → IsPiece piece b
    → pieces_at (piece ++ rest) ≡ with_prefix (b ∷ []) (pieces_at rest)
pieces_at-piece piece rest b (inl (one, quote, backslash)) =
    ap (λ (p : List ℕ). pieces_at (p ++ rest)) one ∙ byte_piece b rest (isnt b 39 quote) (isnt b 92 backslash)
pieces_at-piece piece rest b (inr is) =
    elim (escape_forms piece b is) [
      | inl (two, byte) ↦
          ap (λ (p : List ℕ). pieces_at (p ++ rest)) two ∙ quotes_piece rest
          ∙ ap (λ (x : ℕ). with_prefix (x ∷ []) (pieces_at rest)) (sym byte)
      | inr (c, two, some) ↦ ap (λ (p : List ℕ). pieces_at (p ++ rest)) two ∙ escape_piece c b rest some
    ]

-- pieces are read as their text
pub pieces_at-pieces : (text pieces rest : List ℕ) → ArePieces pieces text
    → pieces_at (pieces ++ rest) ≡ with_prefix text (pieces_at rest)
pieces_at-pieces [] pieces rest none =
    ap (λ (p : List ℕ). pieces_at (p ++ rest)) none ∙ sym (with_prefix-nil (pieces_at rest))
pieces_at-pieces (b ∷ text) pieces rest (piece, more, whole, is, are) =
    ap (λ (p : List ℕ). pieces_at (p ++ rest)) whole
    ∙ ap pieces_at (append_assoc piece more rest)
    ∙ pieces_at-piece piece (more ++ rest) b is
    ∙ ap (with_prefix (b ∷ [])) (pieces_at-pieces text more rest are)
    ∙ with_prefix-cons b text (pieces_at rest)

-- a quote with none behind it ends the text
closes : (rest : List ℕ) → StopsAt (λ b. eqb b 39) rest → pieces_at (39 ∷ rest) ≡ Closed [] rest
unfolding pieces_at
closes [] stops = refl
closes (c ∷ rest) stops = rw stops refl

-- a quote ends the text
pub pieces_at-closed : (text pieces rest : List ℕ) → ArePieces pieces text → StopsAt (λ b. eqb b 39) rest
    → pieces_at (pieces ++ 39 ∷ rest) ≡ Closed text rest
pieces_at-closed text pieces rest are stops =
    pieces_at-pieces text pieces (39 ∷ rest) are ∙ ap (with_prefix text) (closes rest stops)
    ∙ ap (λ (t : List ℕ). Closed t rest) (append-nil text)

-- a backslash with which no piece begins is a bad escape
no_piece : (bs : List ℕ) → BeginsNoPiece (92 ∷ bs) → pieces_at (92 ∷ bs) ≡ BadEscape (92 ∷ bs)
unfolding pieces_at
no_piece [] none = refl
no_piece (c ∷ bs) none = by_escape (escaped c) refl
  where
    by_escape : (o : Option ℕ) → escaped c ≡ o
        → with_escape (92 ∷ c ∷ bs) (escaped c) (pieces_at bs) ≡ BadEscape (92 ∷ c ∷ bs)
    by_escape None e = ap (λ (o : Option ℕ). with_escape (92 ∷ c ∷ bs) o (pieces_at bs)) e
    by_escape (Some b) e = absurd (none (92 ∷ c ∷ []) bs b refl (inr (escaped-is c b e)))

-- a backslash with which no piece begins is a bad escape
pub pieces_at-bad : (text pieces more : List ℕ) → ArePieces pieces text → BeginsNoPiece (92 ∷ more)
    → pieces_at (pieces ++ 92 ∷ more) ≡ BadEscape (92 ∷ more)
pieces_at-bad text pieces more are none =
    pieces_at-pieces text pieces (92 ∷ more) are ∙ ap (with_prefix text) (no_piece more none)

-- where the bytes end a text has no end
nothing : pieces_at [] ≡ NoEnd
unfolding pieces_at
nothing = refl

-- pieces up to the end have no end
pub pieces_at-no_end : (text pieces : List ℕ) → ArePieces pieces text → pieces_at pieces ≡ NoEnd
pieces_at-no_end text pieces are =
    ap pieces_at (sym (append-nil pieces)) ∙ pieces_at-pieces text pieces [] are
    ∙ ap (with_prefix text) nothing
