-- Facts about blocks of numbers.
use Rattle.std.proofs.Common.{◌≡◌, ℕ, zero, suc, ◌+◌, ◌<◌, List, [], ◌∷◌, ◌++◌, length, get_or, set, map}
use Rattle.std.proofs.Common.{take, drop, replicate}
use Rattle.std.proofs.Common.{refl, ap, arith, add-one}
use Rattle.std.specs.List.{zip}
use Rattle.std.specs.Simd.Lanes.{zip2}

-- a function of each pair
pub map-zip : {X Y Z : Type 0} (f : X → Y → Z) (xs : List X) (ys : List Y)
    → map (λ (p : X × Y). f p.0 p.1) (zip xs ys) ≡ zip2 f xs ys
map-zip f [] ys = refl
map-zip f (x ∷ xs) [] = refl
map-zip f (x ∷ xs) (y ∷ ys) = ap (λ zs. f x y ∷ zs) (map-zip f xs ys)

-- one value for all
pub map-replicate : {X Y : Type 0} (f : X → Y) (n : ℕ) (x : X) → map f (replicate n x) ≡ replicate n (f x)
map-replicate f zero x = refl
map-replicate f (suc n) x = ap (λ zs. f x ∷ zs) (map-replicate f n x)

zip2_over_suc : {X Y : Type 0} (f : X → Y → X) (xs : List X) (ys : List Y) (i : ℕ) (x : X) (y : Y)
    → i < length xs → i < length ys → x ≡ get_or (zip2 f (take i xs) ys ++ drop i xs) i x → y ≡ get_or ys i y
    → set (zip2 f (take i xs) ys ++ drop i xs) i (f x y) ≡ zip2 f (take (suc i) xs) ys ++ drop (suc i) xs
zip2_over_suc f [] ys i x y l m g h = absurd (omega arith)
zip2_over_suc f (a ∷ xs) [] i x y l m g h = absurd (omega arith)
zip2_over_suc f (a ∷ xs) (b ∷ ys) zero x y l m g h = (cc)
zip2_over_suc f (a ∷ xs) (b ∷ ys) (suc i) x y l m g h =
    ap (λ zs. f a b ∷ zs) (zip2_over_suc f xs ys i x y (omega arith) (omega arith) g h)

-- one more row is computed in its place
pub zip2_over_more : {X Y : Type 0} (f : X → Y → X) (xs zs : List X) (ys : List Y) (i : ℕ) (x : X) (y : Y)
    → i < length xs → i < length ys → zs ≡ zip2 f (take i xs) ys ++ drop i xs → x ≡ get_or zs i x
    → y ≡ get_or ys i y
    → set zs i (f x y) ≡ zip2 f (take (i + 1) xs) ys ++ drop (i + 1) xs
zip2_over_more f xs zs ys i x y l m e g h = rw (add-one, e) (zip2_over_suc f xs ys i x y l m (rw e at g) h)
