-- What is cut from bytes.
use Rattle.std.proofs.Common.{◌≡◌, ℕ, zero, suc, ◌+◌, List, [], ◌∷◌, ◌++◌, get_or, take, drop}
use Rattle.std.proofs.Common.{Fits, w8, sym, ◌∙◌, arith}
use Rattle.std.specs.List.{AllByRecursion}
use Rattle.std.proofs.lemmas.List.{take-append-drop, take-take, drop-take}
use Rattle.pj_value.specs.NumberBytes.{AreBytes}

-- bytes by their index
pub AreBytes-by_index : (bytes : List ℕ) → ((i : ℕ) → Fits w8 (get_or bytes i 0)) → AreBytes bytes
AreBytes-by_index [] h = tt
AreBytes-by_index (b ∷ bytes) h =
    let first : Fits w8 b = h zero in (omega arith, AreBytes-by_index bytes (λ i. h (suc i)))

-- what is cut from bytes is of bytes
pub AreBytes-take : (n : ℕ) (bytes : List ℕ) → AreBytes bytes → AreBytes (take n bytes)
AreBytes-take zero bytes a = tt
AreBytes-take (suc n) [] a = tt
AreBytes-take (suc n) (b ∷ bytes) a = (a.0, AreBytes-take n bytes a.1)

pub AreBytes-drop : (n : ℕ) (bytes : List ℕ) → AreBytes bytes → AreBytes (drop n bytes)
AreBytes-drop zero bytes a = a
AreBytes-drop (suc n) [] a = tt
AreBytes-drop (suc n) (b ∷ bytes) a = AreBytes-drop n bytes a.1

-- a prefix and what comes next are a longer prefix
pub take-next : {X : Type 0} (m n : ℕ) (xs : List X) → take m xs ++ take n (drop m xs) ≡ take (m + n) xs
take-next m n xs =
    (λ i. sym (take-take m (m + n) xs (omega arith)) i ++ sym (drop-take m n xs) i)
    ∙ take-append-drop m (take (m + n) xs)

-- what holds of each element holds of each in a range
pub All-range : {X : Type 0} (P : X → Type 0) (from n : ℕ) (xs : List X) → AllByRecursion P xs
    → AllByRecursion P (take n (drop from xs))
All-range P zero zero xs a = tt
All-range P zero (suc n) [] a = tt
All-range P zero (suc n) (x ∷ xs) a = (a.0, All-range P zero n xs a.1)
All-range P (suc from) zero [] a = tt
All-range P (suc from) (suc n) [] a = tt
All-range P (suc from) n (x ∷ xs) a = All-range P from n xs a.1

-- what holds of each element, and of one more, holds of each with it behind the others
pub All-push : {X : Type 0} (P : X → Type 0) (xs : List X) (x : X) → AllByRecursion P xs → P x
    → AllByRecursion P (xs ++ x ∷ [])
All-push P [] x a p = (p, tt)
All-push P (y ∷ xs) x a p = (a.0, All-push P xs x a.1 p)
