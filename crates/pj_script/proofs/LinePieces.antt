-- The first piece is what stands before the first line feed.
use Rattle.std.proofs.Common.{◌≡◌, ℕ, suc, ◌+◌, ◌-◌, ◌<◌, Bool, true, false, not, List, []}
use Rattle.std.proofs.Common.{◌∷◌, ◌==◌, length, take, drop, refl, sym, ap, ◌∙◌, arith}
use Rattle.std.specs.List.{prefix_len}
use Rattle.std.proofs.lemmas.List.{nil_from_length, take_rest}
use Rattle.pj_script.specs.Lines.{pieces, onto_first}

-- how many bytes stand before the first line feed
abbrev pub piece_len : List ℕ → ℕ
piece_len bytes = prefix_len (λ b. not (b == 10)) bytes

-- the pieces are the first one, and those of the bytes behind its line feed
abbrev pub IsCut : List ℕ → Type 0
IsCut bytes = pieces bytes ≡ take (piece_len bytes) bytes ∷ pieces (drop 1 (drop (piece_len bytes) bytes))

-- a byte goes onto the first piece, or is the line feed behind an empty one
pieces-cons : (b : ℕ) (bs : List ℕ) (feed : Bool) → (b == 10) ≡ feed
    → onto_first b (pieces bs) ≡ (b ∷ take (piece_len bs) bs) ∷ pieces (drop 1 (drop (piece_len bs) bs))
    → IsCut (b ∷ bs)
pieces-cons b bs true e more = rw e refl
pieces-cons b bs false e more =
    let one : 1 + piece_len bs ≡ suc (piece_len bs) = omega arith in rw (e, one) more

pub pieces-cut : (b : ℕ) (bs : List ℕ) → IsCut (b ∷ bs)
pieces-cut b [] = pieces-cons b [] (b == 10) refl refl
pieces-cut b (c ∷ cs) = pieces-cons b (c ∷ cs) (b == 10) refl (ap (onto_first b) (pieces-cut c cs))

pieces-cut_some : (bytes : List ℕ) → 0 < length bytes → IsCut bytes
pieces-cut_some [] some = absurd (omega arith)
pieces-cut_some (b ∷ bs) some = pieces-cut b bs

-- the last piece ends where the bytes end
pub pieces-last : (bytes : List ℕ) (len : ℕ) (prefix behind : List ℕ) → 0 < length bytes
    → len ≡ piece_len bytes → prefix ≡ take len bytes → behind ≡ drop len bytes → length behind < 1
    → pieces bytes ≡ prefix ∷ pieces behind
pieces-last bytes len prefix behind some len-is prefix-is behind-is none =
    let nil : behind ≡ [] = nil_from_length behind (omega arith) in
    let rest : drop len bytes ≡ [] = sym behind-is ∙ nil in
    rw (prefix-is, nil) (pieces-cut_some bytes some ∙ rw (← len-is, rest) refl)

-- another piece ends at a line feed
pub pieces-next : (bytes : List ℕ) (len : ℕ) (prefix behind : List ℕ) → 0 < length bytes
    → len ≡ piece_len bytes → prefix ≡ take len bytes → behind ≡ drop len bytes
    → pieces bytes ≡ prefix ∷ pieces (take (length behind - 1) (drop 1 behind))
pieces-next bytes len prefix behind some len-is prefix-is behind-is =
    rw (take_rest behind 1, prefix-is, behind-is) (pieces-cut_some bytes some ∙ rw (← len-is) refl)
