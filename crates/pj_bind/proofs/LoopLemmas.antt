-- Loops that push what a function gives of each element.
use Rattle.std.proofs.Common.{◌≡◌, ℕ, ◌+◌, ◌<◌, ◌≤◌, List, [], ◌∷◌, ◌++◌, length, map, take, get_or, ap, sym, ◌∙◌}
use Rattle.std.proofs.lemmas.List.{map_more, take_all}

module _ {X Y : Type 0} (f : X → Y) (xs : List X) (i : ℕ) where
  -- one more is pushed
  pub mapped-more : (x : X) (ys zs : List Y) (y : Y) → i < length xs → x ≡ get_or xs i x
      → ys ≡ map f (take i xs) → y ≡ f x → zs ≡ ys ++ y ∷ [] → zs ≡ map f (take (i + 1) xs)
  mapped-more x ys zs y within read before here pushed =
      pushed ∙ ap (λ (l : List Y). l ++ y ∷ []) before
      ∙ ap (λ (z : Y). map f (take i xs) ++ z ∷ []) (here ∙ ap f read)
      ∙ sym (map_more f xs i x within)

  -- each was pushed
  pub mapped-all : (ys : List Y) → length xs ≤ i → ys ≡ map f (take i xs) → ys ≡ map f xs
  mapped-all ys all before = before ∙ ap (map f) (take_all i xs all)
