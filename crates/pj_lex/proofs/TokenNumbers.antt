-- The number of digits that are read one after the other.
use Rattle.std.proofs.Common.{◌≡◌, ℕ, ◌+◌, ◌-◌, ◌*◌, ◌<◌, ◌≤◌, ltb, cond, List, [], ◌∷◌, Some, None}
use Rattle.std.proofs.Common.{length, get_or, take, drop, refl, sym, ap, ◌∙◌, inl, inr, arith}
use Rattle.std.specs.List.{fold}
use Rattle.std.proofs.lemmas.Bool.{cases_lt, le-ltb, lt-ltb}
use Rattle.std.proofs.lemmas.List.{take-append-drop}
use Rattle.std.proofs.lemmas.List.Sums.{fold-append, fold_more}
use Rattle.pj_lex.specs.Tokens.{digits_value}

-- one more digit
abbrev pub with_digit : ℕ → ℕ → ℕ
with_digit n b = 10 * n + (b - 48)

-- more digits make no smaller number
grows : (n : ℕ) (bytes : List ℕ) → n ≤ fold with_digit n bytes
grows n [] = omega arith
grows n (b ∷ bs) = let h = grows (with_digit n b) bs in omega arith

-- a digit and those before it make no larger number than all of them
pub digits_value_grows : (bytes : List ℕ) (i : ℕ) → i < length bytes
    → with_digit (digits_value (take i bytes)) (get_or bytes i 0) ≤ digits_value bytes
digits_value_grows bytes i lt =
    let more : digits_value (take (i + 1) bytes)
    ≡ with_digit (digits_value (take i bytes)) (get_or bytes i 0) =
    fold_more with_digit 0 bytes i 0 lt in
    let all : digits_value bytes ≡ fold with_digit (digits_value (take (i + 1) bytes)) (drop (i + 1) bytes) =
    ap digits_value (sym (take-append-drop (i + 1) bytes))
    ∙ fold-append with_digit 0 (take (i + 1) bytes) (drop (i + 1) bytes) in
    omega (arith, grows (digits_value (take (i + 1) bytes)) (drop (i + 1) bytes))

-- a number that is too large
pub too_large : (n limit : ℕ) → limit ≤ n → None ≡ cond (ltb n limit) (Some n) None
too_large n limit le = rw (le-ltb n limit le) refl

-- a number that isn't
pub small : (n limit : ℕ) → n < limit → Some n ≡ cond (ltb n limit) (Some n) None
small n limit lt = rw (lt-ltb n limit lt) refl

-- what is not below is at least as large
pub not_below : (a b : ℕ) → (a < b → ⊥) → b ≤ a
not_below a b h = elim (cases_lt a b) [ inl lt ↦ absurd (h lt) | inr le ↦ le ]
