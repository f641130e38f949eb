-- Numbers of eight bytes each, one behind the other.
use Rattle.std.proofs.Common.{◌≡◌, ℕ, zero, suc, ◌+◌, ◌-◌, ◌*◌, ◌^◌, ◌<◌, ◌≤◌, List, [], ◌∷◌, ◌++◌, length}
use Rattle.std.proofs.Common.{get_or, take, drop, refl, sym, ap, subst, ◌∙◌, arith, length-drop}
use Rattle.std.specs.List.{AllByRecursion, flat_map}
use Rattle.std.specs.Int.{bytes_low_first}
use Rattle.std.proofs.lemmas.List.{take-take, drop-take, drop-drop, drop_at, length-take-le}
use Rattle.std.proofs.lemmas.Grind.{same_number_lists}
use Rattle.byteorder.specs.Endian.{IsRead, little_from, little_number}
use Rattle.byteorder.specs.Numbers.{little_from-cons}
use Rattle.pj_value.specs.NumberBytes.{AreBytes, number_in_bytes}
use Rattle.pj_value.specs.Summaries.{number_bytes}
use Rattle.pj_value.proofs.NumberBytesLemmas.{bytes_low_first-number_in_bytes, number_in_bytes-below}
use Rattle.pj_value.proofs.NumberBytesLemmas.{number_in_bytes-bytes_low_first}
use Rattle.pj_layout.specs.Damage.{numbers_in}
use Rattle.pj_layout.proofs.ByteLemmas.{AreBytes-take, AreBytes-drop, take-next}

-- ---- as they are read

little_from-none : (i n : ℕ) → little_from i n [] ≡ 0
little_from-none i zero = refl
little_from-none i (suc n) = omega (arith, little_from-none (suc i) n)

-- the first bytes are their number
pub little_number-is : (n : ℕ) (bytes : List ℕ) → little_number n bytes ≡ number_in_bytes (take n bytes)
little_number-is zero bytes = refl
little_number-is (suc n) [] = omega (arith, little_from-none 1 n)
little_number-is (suc n) (b ∷ bytes) =
    ap (λ x. b + 256 * x) (little_from-cons 0 n b bytes ∙ little_number-is n bytes)

pub length-numbers_in : (k : ℕ) (bytes : List ℕ) → length (numbers_in k bytes) ≡ k
length-numbers_in zero bytes = refl
length-numbers_in (suc k) bytes = ap suc (length-numbers_in k (drop 8 bytes))

-- a number by its index
numbers_in-by_index : (k : ℕ) (bytes : List ℕ) (i : ℕ) → i < k
    → get_or (numbers_in k bytes) i 0 ≡ number_in_bytes (take 8 (drop (8 * i) bytes))
numbers_in-by_index zero bytes i l = absurd (omega arith)
numbers_in-by_index (suc k) bytes zero l = refl
numbers_in-by_index (suc k) bytes (suc i) l =
    let moved : 8 + 8 * i ≡ 8 * suc i = omega arith in
    numbers_in-by_index k (drop 8 bytes) i (omega arith)
    ∙ ap (λ bs. number_in_bytes (take 8 bs)) (drop-drop (8 * i) 8 bytes ∙ ap (λ n. drop n bytes) moved)

-- numbers that were read in one call
pub numbers_in-read : (k : ℕ) (bytes ns : List ℕ) → length ns ≡ k
    → IsRead little_number 8 (take (8 * k) bytes) ns → ns ≡ numbers_in k bytes
numbers_in-read k bytes ns e h =
    same_number_lists ns (numbers_in k bytes) (e ∙ sym (length-numbers_in k bytes))
    (λ i l.
    let m = 8 * k - 8 * i in
    let all : 8 * k ≡ 8 * i + m = omega (arith, e) in
    let part : take 8 (drop (8 * i) (take (8 * k) bytes)) ≡ take 8 (drop (8 * i) bytes) =
    ap (λ n. take 8 (drop (8 * i) (take n bytes))) all ∙ ap (take 8) (drop-take (8 * i) m bytes)
    ∙ take-take 8 m (drop (8 * i) bytes) (omega (arith, e)) in
    h i l ∙ little_number-is 8 (drop (8 * i) (take (8 * k) bytes)) ∙ ap number_in_bytes part
    ∙ sym (numbers_in-by_index k bytes i (omega (arith, e))))

-- ---- as they are spelled

pub length-spelled : (ns : List ℕ) → length (flat_map number_bytes ns) ≡ 8 * length ns
length-spelled [] = refl
length-spelled (n ∷ ns) = omega (arith, length-spelled ns)

-- the numbers that stand in bytes are spelled by these bytes
pub numbers_in-spelled : (k : ℕ) (bytes : List ℕ) → AreBytes bytes → 8 * k ≤ length bytes
    → flat_map number_bytes (numbers_in k bytes) ≡ take (8 * k) bytes
numbers_in-spelled zero bytes a l = refl
numbers_in-spelled (suc k) bytes a l =
    let long : length (take 8 bytes) ≡ 8 = length-take-le 8 bytes (omega arith) in
    let first : number_bytes (number_in_bytes (take 8 bytes)) ≡ take 8 bytes =
    ap (λ n. bytes_low_first 0 n (number_in_bytes (take 8 bytes))) (sym long)
    ∙ bytes_low_first-number_in_bytes (take 8 bytes) (AreBytes-take 8 bytes a) in
    let rest =
    numbers_in-spelled k (drop 8 bytes) (AreBytes-drop 8 bytes a) (omega (arith, length-drop 8 bytes)) in
    let all : 8 + 8 * k ≡ 8 * suc k = omega arith in
    (λ i. first i ++ rest i) ∙ take-next 8 (8 * k) bytes ∙ ap (λ n. take n bytes) all

-- and they are of 64 bits
pub numbers_in-fit : (k : ℕ) (bytes : List ℕ) → AreBytes bytes → 8 * k ≤ length bytes
    → AllByRecursion (λ n. n < 18446744073709551616) (numbers_in k bytes)
numbers_in-fit zero bytes a l = tt
numbers_in-fit (suc k) bytes a l =
    let long : length (take 8 bytes) ≡ 8 = length-take-le 8 bytes (omega arith) in (
      subst (λ n. number_in_bytes (take 8 bytes) < 256 ^ n) long
          (number_in_bytes-below (take 8 bytes) (AreBytes-take 8 bytes a)),
      numbers_in-fit k (drop 8 bytes) (AreBytes-drop 8 bytes a) (omega (arith, length-drop 8 bytes)),
    )

-- numbers that are spelled in bytes stand there
pub numbers_in-of_spelled : (ns rest : List ℕ) → AllByRecursion (λ n. n < 18446744073709551616) ns
    → numbers_in (length ns) (flat_map number_bytes ns ++ rest) ≡ ns
numbers_in-of_spelled [] rest a = refl
numbers_in-of_spelled (n ∷ ns) rest a =
    λ i. number_in_bytes-bytes_low_first 8 n a.0 i ∷ numbers_in-of_spelled ns rest a.1 i

pub drop-spelled : (ns rest : List ℕ) → drop (8 * length ns) (flat_map number_bytes ns ++ rest) ≡ rest
drop-spelled ns rest =
    ap (λ n. drop n (flat_map number_bytes ns ++ rest)) (sym (length-spelled ns))
    ∙ drop_at (flat_map number_bytes ns) rest (length (flat_map number_bytes ns)) refl
