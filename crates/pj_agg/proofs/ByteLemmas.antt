-- The bytes of numbers, of values and of states.
use Rattle.std.proofs.Common.{◌≡◌, ℕ, zero, suc, ◌+◌, ◌-◌, ◌<◌, ◌≤◌, List, [], ◌∷◌, ◌++◌, length, get_or, take, drop}
use Rattle.std.proofs.Common.{Fits, w8, w64, refl, sym, ap, ◌∙◌, arith, length-append, length-drop}
use Rattle.std.proofs.Math.Seq.{take-append_seam}
use Rattle.std.specs.Int.{from_le_bytes}
use Rattle.std.specs.List.{AllByRecursion}
use Rattle.std.proofs.lemmas.List.{take-append-drop, take-take, drop-take, length-take-le}
use Rattle.std.proofs.lemmas.Nat.{from_le_bytes-to_le_bytes_8}
use Rattle.pj_value.specs.declared.value.Kind.TheVariants as kinds
use Rattle.pj_value.specs.declared.value.Value.TheVariants as values
use Rattle.pj_value.specs.Summaries.{IsOfKind, number_bytes, value_bytes}

-- bytes at each place
pub bytes-by_place : (bytes : List ℕ) → ((i : ℕ) → Fits w8 (get_or bytes i 0))
    → AllByRecursion (λ b. b < 256) bytes
bytes-by_place [] h = tt
bytes-by_place (b ∷ bytes) h =
    let first : Fits w8 b = h zero in (omega arith, bytes-by_place bytes (λ i. h (suc i)))

-- bytes to which some were added are still there where these and more are
pub take-kept : (old more mid new : List ℕ) → mid ≡ old ++ more → take (length mid) new ≡ mid
    → take (length old) new ≡ old
take-kept old more mid new e kept =
    sym (take-take (length old) (length mid) new (omega (arith, ap length e, length-append old more)))
    ∙ ap (take (length old)) (kept ∙ e) ∙ take-append_seam old more

-- ---- numbers

-- eight bytes are one number
pub number_bytes-equal : (m n : ℕ) → m < 18446744073709551616 → n < 18446744073709551616
    → number_bytes m ≡ number_bytes n → m ≡ n
number_bytes-equal m n l k e =
    sym (from_le_bytes-to_le_bytes_8 m l) ∙ ap (from_le_bytes w64) e ∙ from_le_bytes-to_le_bytes_8 n k

-- a number at the front, and what stands behind it
pub number-front : (n : ℕ) (rest : List ℕ) → take 8 (number_bytes n ++ rest) ≡ number_bytes n
number-front n rest = refl

pub number-behind : (n : ℕ) (rest : List ℕ) → drop 8 (number_bytes n ++ rest) ≡ rest
number-behind n rest = refl

pub length-number_bytes : (n : ℕ) → length (number_bytes n) ≡ 8
length-number_bytes n = refl

pub number-split : (m n : ℕ) (xs ys : List ℕ) → m < 18446744073709551616 → n < 18446744073709551616
    → number_bytes m ++ xs ≡ number_bytes n ++ ys → (m ≡ n) × (xs ≡ ys)
number-split m n xs ys l k e = (number_bytes-equal m n l k (ap (take 8) e), ap (drop 8) e)

-- ---- texts

-- bytes of a part
take-bytes : (n : ℕ) (bytes : List ℕ) → AllByRecursion (λ b. b < 256) bytes
    → AllByRecursion (λ b. b < 256) (take n bytes)
take-bytes zero bytes a = tt
take-bytes (suc n) [] a = tt
take-bytes (suc n) (b ∷ bytes) a = (a.0, take-bytes n bytes a.1)

drop-bytes : (n : ℕ) (bytes : List ℕ) → AllByRecursion (λ b. b < 256) bytes
    → AllByRecursion (λ b. b < 256) (drop n bytes)
drop-bytes zero bytes a = a
drop-bytes (suc n) [] a = tt
drop-bytes (suc n) (b ∷ bytes) a = drop-bytes n bytes a.1

take-parts : (m n : ℕ) (bytes : List ℕ) → take m bytes ++ take n (drop m bytes) ≡ take (m + n) bytes
take-parts m n bytes =
    (λ i. sym (take-take m (m + n) bytes (omega arith)) i ++ sym (drop-take m n bytes) i)
    ∙ take-append-drop m (take (m + n) bytes)

-- the text behind its length
pub text-front : (len : ℕ) (bytes : List ℕ) → AllByRecursion (λ b. b < 256) bytes → 8 ≤ length bytes
    → len ≤ length bytes - 8 → number_bytes len ≡ take 8 bytes
    → IsOfKind kinds.Text (values.Text (take len (drop 8 bytes)))
    × (value_bytes (values.Text (take len (drop 8 bytes))) ≡ take (8 + len) bytes)
text-front len bytes a l k e =
    let t = take len (drop 8 bytes) in
    let long : length t ≡ len = length-take-le len (drop 8 bytes) (omega (arith, length-drop 8 bytes)) in (
      (refl, take-bytes len (drop 8 bytes) (drop-bytes 8 bytes a)),
      ap (λ n. number_bytes n ++ t) long ∙ ap (λ bs. bs ++ t) e ∙ take-parts 8 len bytes,
    )
