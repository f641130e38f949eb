-- Texts without some byte: what parts texts is in none of them, so the parts can be read.
use Rattle.std.proofs.Common.{◌≡◌, ℕ, ◌+◌, ◌/◌, ◌%◌, ◌<◌, ◌≤◌, ◌++◌, zero, suc, false, ltb, List, [], ◌∷◌}
use Rattle.std.proofs.Common.{sym, refl, ◌∙◌, arith}
use Rattle.std.specs.Prelude.{Contains, ◌==◌}
use Rattle.std.specs.List.{AllByRecursion}
use Rattle.std.specs.Fmt.{decimal, digits, digits_onto, digit_glyph}
use Rattle.std.proofs.lemmas.Bool.{false≢true, cond_both, ltb-true, lt-ltb}

-- no byte of the text is this one
abbrev pub IsFree : ℕ → List ℕ → Type 0
IsFree c text = AllByRecursion (λ b. b ≡ c → ⊥) text

-- a text is free of what it doesn't contain
pub IsFree-from : (c : ℕ) (text : List ℕ) → (Contains text c → ⊥) → IsFree c text
IsFree-from c [] none = tt
IsFree-from c (b ∷ bs) none = (
  (λ same. none (0, omega arith, same)),
  IsFree-from c bs (λ there. none (suc there.0, omega (arith, there.1), there.2)),
)

-- two texts without the byte, one after the other
pub IsFree-append : (c : ℕ) (xs ys : List ℕ) → IsFree c xs → IsFree c ys → IsFree c (xs ++ ys)
IsFree-append c [] ys first last = last
IsFree-append c (x ∷ xs) ys first last = (first.0, IsFree-append c xs ys first.1 last)

-- where two texts are the same, so are their parts before and behind the first byte of this kind
pub parts_are_same : (c : ℕ) (xs ys ms ns : List ℕ) → IsFree c xs → IsFree c ys
    → xs ++ (c ∷ ms) ≡ ys ++ (c ∷ ns) → (xs ≡ ys) × (ms ≡ ns)
parts_are_same c [] [] ms ns first last same = (refl, cc)
parts_are_same c [] (y ∷ ys) ms ns first last same = absurd (last.0 (cc))
parts_are_same c (x ∷ xs) [] ms ns first last same = absurd (first.0 (cc))
parts_are_same c (x ∷ xs) (y ∷ ys) ms ns first last same =
    let head : x ≡ y = cc in
    let tail : xs ++ (c ∷ ms) ≡ ys ++ (c ∷ ns) = cc in
    let rest : (xs ≡ ys) × (ms ≡ ns) = parts_are_same c xs ys ms ns first.1 last.1 tail in
    (let others : xs ≡ ys = rest.0 in cc, rest.1)

-- no digit
abbrev pub IsNoDigit : ℕ → Type 0
IsNoDigit c = (b : ℕ) → 48 ≤ b → b ≤ 57 → b ≡ c → ⊥

-- a byte that is no digit is none of a number's
IsFree-digits_onto : (c k n : ℕ) (bytes : List ℕ) → IsNoDigit c → IsFree c bytes
    → IsFree c (digits_onto k 10 false n bytes)
IsFree-digits_onto c zero n bytes none free = free
IsFree-digits_onto c (suc k) n bytes none free =
    cond_both (n / 10 == 0) (digit_glyph false (n % 10) ∷ bytes)
    (digits_onto k 10 false (n / 10) (digit_glyph false (n % 10) ∷ bytes)) (IsFree c)
    (λ last. more) (λ others. IsFree-digits_onto c k (n / 10) (digit_glyph false (n % 10) ∷ bytes) none more)
  where
    within : (48 ≤ digit_glyph false (n % 10)) × (digit_glyph false (n % 10) ≤ 57)
    within =
        cond_both (ltb (n % 10) 10) (48 + n % 10) (87 + n % 10) (λ b. (48 ≤ b) × (b ≤ 57))
        (λ small. (omega arith, omega (arith, ltb-true (n % 10) 10 small)))
        (λ big. absurd (false≢true (sym big ∙ lt-ltb (n % 10) 10 (omega arith))))

    more : IsFree c (digit_glyph false (n % 10) ∷ bytes)
    more = (none (digit_glyph false (n % 10)) within.0 within.1, free)

-- so with a number's text
pub IsFree-number : (c n : ℕ) → IsNoDigit c → IsFree c (decimal n)
unfolding digits
IsFree-number c n none = IsFree-digits_onto c 64 n [] none tt

-- and a byte below the digits
pub IsFree-decimal : (c n : ℕ) → c < 48 → IsFree c (decimal n)
IsFree-decimal c n low = IsFree-number c n (λ b first last same. omega (arith, low, first, same))

-- a byte below the digits is in no text of digits and what stands above them
pub IsFree-high : (c : ℕ) (text : List ℕ) → c < 48 → AllByRecursion (λ b. 48 ≤ b) text → IsFree c text
IsFree-high c [] low high = tt
IsFree-high c (b ∷ bs) low high =
    ((λ same. omega (arith, low, high.0, same)), IsFree-high c bs low high.1)

-- no two texts are one of which the first alone is free of a byte
pub one_is_free : (c : ℕ) (text other more : List ℕ) → IsFree c text → text ≡ other ++ (c ∷ more) → ⊥
one_is_free c [] [] more free same = absurd (cc)
one_is_free c [] (o ∷ other) more free same = absurd (cc)
one_is_free c (b ∷ text) [] more free same = free.0 (cc)
one_is_free c (b ∷ text) (o ∷ other) more free same =
    let rest : text ≡ other ++ (c ∷ more) = cc in one_is_free c text other more free.1 rest
