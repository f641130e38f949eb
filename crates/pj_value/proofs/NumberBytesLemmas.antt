-- Facts about numbers and their bytes.
use Rattle.std.proofs.Common.{◌≡◌, ℕ, zero, suc, ◌+◌, ◌*◌, ◌/◌, ◌%◌, ◌^◌, ◌<◌, List, [], ◌∷◌, length}
use Rattle.std.proofs.Common.{refl, sym, ap, subst, ◌∙◌, arith}
use Rattle.std.proofs.Math.Nat.{div-div-eq-div-mul, div-one, pow-succ'}
use Rattle.std.specs.Int.{byte_at, bytes_low_first}
use Rattle.pj_value.specs.NumberBytes.{AreBytes, number_in_bytes}

-- a byte by its place
byte_at-pow : (i n : ℕ) → byte_at i n ≡ n / 256 ^ i % 256
byte_at-pow zero n = ap (λ x. x % 256) (sym (div-one n))
byte_at-pow (suc i) n = refl

-- the next byte is that of the number without its lowest byte
byte_at-next : (i n : ℕ) → byte_at (suc i) n ≡ byte_at i (n / 256)
byte_at-next i n =
    ap (λ x. x % 256) (ap (λ x. n / x) (pow-succ' 256 i) ∙ sym (div-div-eq-div-mul n 256 (256 ^ i)))
    ∙ sym (byte_at-pow i (n / 256))

bytes_low_first-next : (i k n : ℕ) → bytes_low_first (suc i) k n ≡ bytes_low_first i k (n / 256)
bytes_low_first-next i zero n = refl
bytes_low_first-next i (suc k) n = λ d. byte_at-next i n d ∷ bytes_low_first-next (suc i) k n d

-- the bytes of a number are its lowest one and those of what is left
pub bytes_low_first-more : (k n : ℕ)
    → bytes_low_first 0 (suc k) n ≡ n % 256 ∷ bytes_low_first 0 k (n / 256)
bytes_low_first-more k n = ap (λ bs. n % 256 ∷ bs) (bytes_low_first-next 0 k n)

-- as many as are asked for
pub length-bytes_low_first : (i k n : ℕ) → length (bytes_low_first i k n) ≡ k
length-bytes_low_first i zero n = refl
length-bytes_low_first i (suc k) n = ap suc (length-bytes_low_first (suc i) k n)

-- each of them is a byte
pub AreBytes-bytes_low_first : (k n : ℕ) → AreBytes (bytes_low_first 0 k n)
AreBytes-bytes_low_first zero n = tt
AreBytes-bytes_low_first (suc k) n =
    subst AreBytes (sym (bytes_low_first-more k n)) (omega arith, AreBytes-bytes_low_first k (n / 256))

-- and they are the number
pub number_in_bytes-bytes_low_first : (k n : ℕ) → n < 256 ^ k → number_in_bytes (bytes_low_first 0 k n) ≡ n
number_in_bytes-bytes_low_first zero n l = omega arith
number_in_bytes-bytes_low_first (suc k) n l =
    let fits : n < 256 * 256 ^ k = rw pow-succ' at l in
    ap number_in_bytes (bytes_low_first-more k n)
    ∙ ap (λ m. n % 256 + 256 * m) (number_in_bytes-bytes_low_first k (n / 256) (omega arith)) ∙ omega arith

-- bytes are those of their number
pub bytes_low_first-number_in_bytes : (bytes : List ℕ) → AreBytes bytes
    → bytes_low_first 0 (length bytes) (number_in_bytes bytes) ≡ bytes
bytes_low_first-number_in_bytes [] a = refl
bytes_low_first-number_in_bytes (b ∷ bs) a =
    let low : (b + 256 * number_in_bytes bs) % 256 ≡ b = omega (arith, a.0) in
    let rest : (b + 256 * number_in_bytes bs) / 256 ≡ number_in_bytes bs = omega (arith, a.0) in
    bytes_low_first-more (length bs) (b + 256 * number_in_bytes bs)
    ∙ (λ d. low d ∷ (ap (bytes_low_first 0 (length bs)) rest ∙ bytes_low_first-number_in_bytes bs a.1) d)

-- and their number is below 256 to the power of their length
pub number_in_bytes-below : (bytes : List ℕ) → AreBytes bytes → number_in_bytes bytes < 256 ^ length bytes
number_in_bytes-below [] a = omega arith
number_in_bytes-below (b ∷ bs) a = rw pow-succ' (omega (arith, a.0, number_in_bytes-below bs a.1))
