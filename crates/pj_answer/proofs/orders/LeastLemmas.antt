-- The least element of a list, by a total order that tells elements apart.
use Rattle.std.proofs.Common.{◌≡◌, Bool, true, false, List, [], ◌∷◌, refl, sym, ap, ◌∙◌, true≢false}
use Rattle.std.specs.Prelude.{if◌then◌else◌, fold}
use Rattle.std.specs.declared.cmp.Ordering.{Ordering}
use Rattle.std.specs.declared.cmp.Ordering.TheVariants.{Less, Equal, Greater}
use Rattle.std.specs.Ordering.{is_lt, is_gt, ordering_reverse}
use Rattle.std.specs.Cmp.{IsTotalOrder}
use Rattle.std.proofs.lemmas.Cmp.{upto, tied_itself}
use Rattle.pj_answer.proofs.Shuffles.{Shuffle, none, keep, flip, join}

-- a total order that ties equal elements alone
pub record IsExactOrder {X : Type 0} (cmp : X → X → Ordering) : Type 0 where
  pub total : IsTotalOrder cmp
  pub exact : (x y : X) → cmp x y ≡ Equal → x ≡ y

-- the lesser of two elements
abbrev pub lesser_by : {X : Type 0} → (X → X → Ordering) → X → X → X
lesser_by cmp a b = if is_lt (cmp b a) then b else a

module _ {X : Type 0} (cmp : X → X → Ordering) (o : IsExactOrder cmp) where
  -- the first is no greater than the second
  abbrev IsUpTo : X → X → Type 0
  IsUpTo x y = is_gt (cmp x y) ≡ false

  IsUpTo-trans : (x y z : X) → IsUpTo x y → IsUpTo y z → IsUpTo x z
  IsUpTo-trans = upto o.total

  -- neither is greater than the other
  level : (r s : Ordering) → r ≡ ordering_reverse s → is_gt r ≡ false → is_gt s ≡ false → r ≡ Equal
  level r Less e h k = absurd (true≢false (sym (ap is_gt e) ∙ h))
  level r Equal e h k = e
  level r Greater e h k = absurd (true≢false k)

  IsUpTo-both : (x y : X) → IsUpTo x y → IsUpTo y x → x ≡ y
  IsUpTo-both x y h k = o.exact x y (level (cmp x y) (cmp y x) (o.total.antisymm x y) h k)

  -- where one is less than the other, and where it isn't
  below : (r s : Ordering) → s ≡ ordering_reverse r → is_lt r ≡ true → is_gt r ≡ false
  below Less s e h = refl
  below Equal s e h = absurd (true≢false (sym h))
  below Greater s e h = absurd (true≢false (sym h))

  above : (r s : Ordering) → s ≡ ordering_reverse r → is_lt r ≡ false → is_gt s ≡ false
  above Less s e h = absurd (true≢false h)
  above Equal s e h = ap is_gt e
  above Greater s e h = ap is_gt e

  IsUpTo-itself : (x : X) → IsUpTo x x
  IsUpTo-itself x = ap is_gt (tied_itself o.total x)

  -- the lesser of two is up to each of them, and what is up to both is up to it
  lesser-first : (a b : X) → IsUpTo (lesser_by cmp a b) a
  lesser-first a b = by (is_lt (cmp b a)) refl
    where
      by : (t : Bool) → is_lt (cmp b a) ≡ t → IsUpTo (if t then b else a) a
      by true e = below (cmp b a) (cmp a b) (o.total.antisymm a b) e
      by false e = IsUpTo-itself a

  lesser-second : (a b : X) → IsUpTo (lesser_by cmp a b) b
  lesser-second a b = by (is_lt (cmp b a)) refl
    where
      by : (t : Bool) → is_lt (cmp b a) ≡ t → IsUpTo (if t then b else a) b
      by true e = IsUpTo-itself b
      by false e = above (cmp b a) (cmp a b) (o.total.antisymm a b) e

  lesser-greatest : (a b c : X) → IsUpTo c a → IsUpTo c b → IsUpTo c (lesser_by cmp a b)
  lesser-greatest a b c h k = by (is_lt (cmp b a))
    where
      by : (t : Bool) → IsUpTo c (if t then b else a)
      by true = k
      by false = h

  -- the lesser of two doesn't depend on their order
  lesser-comm : (a b : X) → lesser_by cmp a b ≡ lesser_by cmp b a
  lesser-comm a b = IsUpTo-both _ _ (half a b) (half b a)
    where
      half : (a b : X) → IsUpTo (lesser_by cmp a b) (lesser_by cmp b a)
      half a b = lesser-greatest b a (lesser_by cmp a b) (lesser-second a b) (lesser-first a b)

  -- nor does the least of three
  lesser-flip : (a b c : X) → lesser_by cmp (lesser_by cmp a b) c ≡ lesser_by cmp (lesser_by cmp a c) b
  lesser-flip a b c = IsUpTo-both _ _ (half a b c) (half a c b)
    where
      half : (a b c : X) → IsUpTo (lesser_by cmp (lesser_by cmp a b) c) (lesser_by cmp (lesser_by cmp a c) b)
      half a b c =
          let two = lesser_by cmp a b in
          let all = lesser_by cmp two c in
          let up = lesser-first two c in
          lesser-greatest (lesser_by cmp a c) b all
          (lesser-greatest a c all (IsUpTo-trans all two a up (lesser-first a b)) (lesser-second two c))
          (IsUpTo-trans all two b up (lesser-second a b))

  -- the least of an element and a list doesn't depend on the order of the list
  pub fold-shuffled : {xs ys : List X} (a : X) → Shuffle xs ys
      → fold (lesser_by cmp) a xs ≡ fold (lesser_by cmp) a ys
  fold-shuffled a none = refl
  fold-shuffled a (keep {x} s) = fold-shuffled (lesser_by cmp a x) s
  fold-shuffled a (flip {x} {y} {xs}) = ap (λ b. fold (lesser_by cmp) b xs) (lesser-flip a x y)
  fold-shuffled a (join s t) = fold-shuffled a s ∙ fold-shuffled a t

  -- the least of a list, and this one where it is empty
  abbrev pub least_or : X → List X → X
  least_or d [] = d
  least_or d (x ∷ xs) = fold (lesser_by cmp) x xs

  -- the least of a list doesn't depend on its order
  pub least_or-shuffled : {xs ys : List X} (d : X) → Shuffle xs ys → least_or d xs ≡ least_or d ys
  least_or-shuffled d none = refl
  least_or-shuffled d (keep {x} s) = fold-shuffled x s
  least_or-shuffled d (flip {x} {y} {xs}) = ap (λ b. fold (lesser_by cmp) b xs) (lesser-comm x y)
  least_or-shuffled d (join s t) = least_or-shuffled d s ∙ least_or-shuffled d t
