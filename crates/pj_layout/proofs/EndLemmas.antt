-- Texts one behind the other, and where they end.
use Rattle.std.proofs.Common.{◌≡◌, ℕ, zero, suc, ◌+◌, ◌<◌, true, List, [], ◌∷◌, ◌++◌, length, map, take}
use Rattle.std.proofs.Common.{refl, sym, ap, ◌∙◌, arith, add-one, length-append}
use Rattle.std.specs.Prelude.{nat_le}
use Rattle.std.specs.List.{AllByRecursion, range_with_len}
use Rattle.std.proofs.lemmas.Bool.{and_from, le-leb}
use Rattle.std.proofs.lemmas.List.{append_assoc, append-nil}
use Rattle.pj_layout.specs.Granules.{joined, text_ends}
use Rattle.pj_layout.specs.Damage.{never_fall, last_end}

-- where texts end, of which the first begins here
abbrev pub ends_from : ℕ → List (List ℕ) → List ℕ
ends_from here [] = []
ends_from here (t ∷ ts) = (here + length t) ∷ ends_from (here + length t) ts

-- ---- two ways to say where texts end

map-next : (f g : ℕ → ℕ) → ((k : ℕ) → f (k + 1) ≡ g k) → (a n : ℕ)
    → map f (range_with_len (a + 1) n) ≡ map g (range_with_len a n)
map-next f g h a zero = refl
map-next f g h a (suc n) = λ i. h a i ∷ map-next f g h (a + 1) n i

-- one text more in front
joined-next : (here k : ℕ) (t : List ℕ) (ts : List (List ℕ))
    → here + length (joined (take (k + 1) (t ∷ ts))) ≡ here + length t + length (joined (take k ts))
joined-next here k t ts =
    ap (λ n. here + length (joined (take n (t ∷ ts)))) (add-one k)
    ∙ omega (arith, length-append t (joined (take k ts)))

ends_from-by_index : (f : ℕ → ℕ) (here : ℕ) (ts : List (List ℕ))
    → ((k : ℕ) → f k ≡ here + length (joined (take k ts)))
    → map f (range_with_len 1 (length ts)) ≡ ends_from here ts
ends_from-by_index f here [] h = refl
ends_from-by_index f here (t ∷ ts) h =
    let next = λ (k : ℕ). here + length t + length (joined (take k ts)) in
    let first : f 1 ≡ here + length t = h 1 ∙ ap (λ s. here + length s) (append-nil t) in
    let rest = map-next f next (λ k. h (k + 1) ∙ joined-next here k t ts) 1 (length ts) in
    λ i. first i ∷ (rest ∙ ends_from-by_index next (here + length t) ts (λ k. refl)) i

pub text_ends-is : (ts : List (List ℕ)) → text_ends ts ≡ ends_from 0 ts
text_ends-is ts = ends_from-by_index (λ k. length (joined (take k ts))) 0 ts (λ k. omega arith)

-- ---- one text more behind

pub joined-push : (ts : List (List ℕ)) (t : List ℕ) → joined (ts ++ t ∷ []) ≡ joined ts ++ t
joined-push [] t = append-nil t
joined-push (s ∷ ts) t = ap (λ bs. s ++ bs) (joined-push ts t) ∙ sym (append_assoc s (joined ts) t)

ends_from-push : (here : ℕ) (ts : List (List ℕ)) (t : List ℕ)
    → ends_from here (ts ++ t ∷ []) ≡ ends_from here ts ++ (here + length (joined ts) + length t) ∷ []
ends_from-push here [] t =
    let same : here + length t ≡ here + 0 + length t = omega arith in ap (λ n. n ∷ []) same
ends_from-push here (s ∷ ts) t =
    let last : here + length s + length (joined ts) + length t ≡ here + length (s ++ joined ts) + length t =
    omega (arith, length-append s (joined ts)) in
    ap (λ es. (here + length s) ∷ es) (ends_from-push (here + length s) ts t
    ∙ ap (λ n. ends_from (here + length s) ts ++ n ∷ []) last)

pub text_ends-push : (ts : List (List ℕ)) (t : List ℕ)
    → text_ends (ts ++ t ∷ []) ≡ text_ends ts ++ (length (joined ts) + length t) ∷ []
text_ends-push ts t =
    let last : 0 + length (joined ts) + length t ≡ length (joined ts) + length t = omega arith in
    text_ends-is (ts ++ t ∷ []) ∙ ends_from-push 0 ts t
    ∙ (λ i. sym (text_ends-is ts) i ++ last i ∷ [])

-- ---- ends never fall

pub never_fall-ends_from : (here : ℕ) (ts : List (List ℕ)) → never_fall (here ∷ ends_from here ts) ≡ true
never_fall-ends_from here [] = refl
never_fall-ends_from here (t ∷ ts) =
    let end = here + length t in
    and_from (nat_le here end) (never_fall (end ∷ ends_from end ts)) (le-leb here end (omega arith))
    (never_fall-ends_from end ts)

pub last_end-ends_from : (here : ℕ) (ts : List (List ℕ))
    → last_end here (ends_from here ts) ≡ here + length (joined ts)
last_end-ends_from here [] = omega arith
last_end-ends_from here (t ∷ ts) =
    last_end-ends_from (here + length t) ts ∙ omega (arith, length-append t (joined ts))

-- ends are no more than the length of all texts
pub ends_from-fit : (here : ℕ) (ts : List (List ℕ)) → here + length (joined ts) < 18446744073709551616
    → AllByRecursion (λ n. n < 18446744073709551616) (ends_from here ts)
ends_from-fit here [] l = tt
ends_from-fit here (t ∷ ts) l =
    let more = length-append t (joined ts) in
    (omega (arith, more), ends_from-fit (here + length t) ts (omega (arith, more)))

pub length-ends_from : (here : ℕ) (ts : List (List ℕ)) → length (ends_from here ts) ≡ length ts
length-ends_from here [] = refl
length-ends_from here (t ∷ ts) = ap suc (length-ends_from (here + length t) ts)

pub length-text_ends : (ts : List (List ℕ)) → length (text_ends ts) ≡ length ts
length-text_ends ts = ap length (text_ends-is ts) ∙ length-ends_from 0 ts
