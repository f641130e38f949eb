-- Lemmas on whole transfers.
use Rattle.std.proofs.Common.{◌≡◌, ℕ, ◌+◌, ◌<◌, ◌≤◌, List, ◌++◌, Option, None, Some, IfSome, sym}
use Rattle.std.proofs.Common.{ap, subst, ◌∙◌, length, take, take_at, refl, length-append, arith}
use Rattle.std.specs.Io.KnownBytes.{Appends, Consumes, IsAtEnd}
use Rattle.std.proofs.KnownBytes.{Consumes-trans, Consumes-whole}
use Rattle.pj_io.specs.Transfers.{AppendsPart, TookTooMuch, TookAtMost}

-- one more piece stays within the limit
pub TookAtMost-more : (limit : ℕ) (a b c : Option (List ℕ)) (bytes piece : List ℕ) → Consumes a b bytes
    → Consumes b c piece → length bytes + length piece ≤ limit
    → TookAtMost limit a c
TookAtMost-more limit a b c bytes piece p q fits =
    (bytes ++ piece, omega (arith, length-append bytes piece), Consumes-trans a b c bytes piece p q)

-- one more piece goes past the limit by one
pub TookTooMuch-more : (limit : ℕ) (a b c : Option (List ℕ)) (bytes piece : List ℕ) → Consumes a b bytes
    → Consumes b c piece → length bytes + length piece ≡ limit + 1
    → TookTooMuch limit a c
TookTooMuch-more limit a b c bytes piece p q past =
    (bytes ++ piece, length-append bytes piece ∙ past, Consumes-trans a b c bytes piece p q)

-- where too much was taken, more was there
pub TookTooMuch-larger : (limit : ℕ) (a b : Option (List ℕ)) → TookTooMuch limit a b
    → IfSome a (λ xs. limit < length xs)
TookTooMuch-larger limit None b t = tt
TookTooMuch-larger limit (Some xs) None t = absurd t.2
TookTooMuch-larger limit (Some xs) (Some ys) t = omega (arith, t.1, ap length t.2, length-append t.0 ys)

-- a source that is at its end gave all that it told
pub Consumes-told : (a b : Option (List ℕ)) (bytes : List ℕ) → Consumes a b bytes → IsAtEnd b
    → IfSome a (λ xs. bytes ≡ xs)
Consumes-told a b bytes p end = Consumes-whole a b bytes (λ xs. bytes ≡ xs) p end refl

-- where bytes are left, what was appended so far is a proper prefix of all
pub AppendsPart-prefix : (a b : Option (List ℕ)) (all done rest : List ℕ) → all ≡ done ++ rest
    → 0 < length rest → Appends a b done → AppendsPart a b all
AppendsPart-prefix a b all done rest e more p = (
  length done,
  omega (arith, more, ap length e, length-append done rest),
  subst (Appends a b) (sym (ap (take (length done)) e ∙ take_at done rest (length done) refl)) p,
)
