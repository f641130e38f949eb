-- The order of values is total, and ties equal values alone; so is that of rows.
use Rattle.std.proofs.Common.{◌≡◌, true, List, [], ◌∷◌, refl, sym, ap, true≢false}
use Rattle.std.specs.declared.cmp.Ordering.{Ordering}
use Rattle.std.specs.declared.cmp.Ordering.TheVariants.{Less, Equal, Greater}
use Rattle.std.specs.Ordering.{nat_cmp, is_eq, ordering_reverse, ordering_then, flip_args}
use Rattle.std.specs.Cmp.Lexicographic.{slice_cmp}
use Rattle.std.proofs.lemmas.Cmp.{ranked, nat_cmp_total, nat_list_cmp_total}
use Rattle.std.proofs.lemmas.Cmp.{lists_total, back_total, tied_itself}
use Rattle.pj_value.specs.declared.value.Value.{Value}
use Rattle.pj_value.specs.declared.value.Value.TheVariants as values
use Rattle.pj_value.specs.Order.{value_cmp}
use Rattle.pj_value.specs.Aggregates.{same_value}
use Rattle.pj_answer.specs.Answers.{same_row}
use Rattle.pj_answer.proofs.orders.LeastLemmas.{IsExactOrder}
use Rattle.pj_answer.proofs.OnceLemmas.{DecidesEqual}

-- ---- orders that tie equal elements alone

-- of numbers
nat_cmp_exact : IsExactOrder nat_cmp
nat_cmp_exact = record { total = nat_cmp_total; exact = λ x y e. ranked x y Equal (sym e) }

-- one order and then another tie where both do
both_tie : (r s : Ordering) → ordering_then r s ≡ Equal → (r ≡ Equal) × (s ≡ Equal)
both_tie Less s e = absurd (true≢false (sym (ap is_eq e)))
both_tie Equal s e = (refl, e)
both_tie Greater s e = absurd (true≢false (sym (ap is_eq e)))

module _ {X : Type 0} (cmp : X → X → Ordering) (o : IsExactOrder cmp) where
  -- lists tie where their elements do
  lists_exact : (xs ys : List X) → slice_cmp cmp xs ys ≡ Equal → xs ≡ ys
  lists_exact [] [] e = refl
  lists_exact [] (y ∷ ys) e = absurd (true≢false (sym (ap is_eq e)))
  lists_exact (x ∷ xs) [] e = absurd (true≢false (sym (ap is_eq e)))
  lists_exact (x ∷ xs) (y ∷ ys) e =
      let tie = both_tie (cmp x y) (slice_cmp cmp xs ys) e in
      λ i. o.exact x y tie.0 i ∷ lists_exact xs ys tie.1 i

  -- of lists
  pub IsExactOrder-lists : IsExactOrder (slice_cmp cmp)
  IsExactOrder-lists = record { total = lists_total o.total; exact = lists_exact }

  -- the other way round
  pub IsExactOrder-back : IsExactOrder (flip_args cmp)
  IsExactOrder-back = record { total = back_total o.total; exact = λ x y e. sym (o.exact y x e) }

  -- elements that tie
  tie_is : (x y : X) (r : Ordering) → cmp x y ≡ r → is_eq r ≡ true → x ≡ y
  tie_is x y Less e h = absurd (true≢false (sym h))
  tie_is x y Equal e h = o.exact x y e
  tie_is x y Greater e h = absurd (true≢false (sym h))

  -- whether elements tie decides whether they are equal
  pub DecidesEqual-ties : DecidesEqual (λ x y. is_eq (cmp x y))
  DecidesEqual-ties = record {
    itself = λ x. ap is_eq (tied_itself o.total x);
    equal = λ x y. tie_is x y (cmp x y) refl;
  }

-- ---- values

value_cmp-turned : (v w : Value) → value_cmp v w ≡ ordering_reverse (value_cmp w v)
value_cmp-turned (values.Num a) (values.Num b) = nat_cmp_total.antisymm a b
value_cmp-turned (values.Num a) (values.Text b) = refl
value_cmp-turned (values.Text a) (values.Num b) = refl
value_cmp-turned (values.Text a) (values.Text b) = nat_list_cmp_total.antisymm a b

value_cmp-trans : (v w u : Value) → value_cmp v w ≡ Less → value_cmp w u ≡ Less → value_cmp v u ≡ Less
value_cmp-trans (values.Num a) (values.Num b) (values.Num c) h k = nat_cmp_total.trans a b c h k
value_cmp-trans (values.Num a) (values.Num b) (values.Text c) h k = refl
value_cmp-trans (values.Num a) (values.Text b) (values.Num c) h k = absurd (cc)
value_cmp-trans (values.Num a) (values.Text b) (values.Text c) h k = refl
value_cmp-trans (values.Text a) (values.Num b) u h k = absurd (cc)
value_cmp-trans (values.Text a) (values.Text b) (values.Num c) h k = k
value_cmp-trans (values.Text a) (values.Text b) (values.Text c) h k = nat_list_cmp_total.trans a b c h k

value_cmp-congr : (v w u : Value) → value_cmp v w ≡ Equal → value_cmp v u ≡ value_cmp w u
value_cmp-congr (values.Num a) (values.Num b) (values.Num c) h = nat_cmp_total.congr a b c h
value_cmp-congr (values.Num a) (values.Num b) (values.Text c) h = refl
value_cmp-congr (values.Num a) (values.Text b) u h = absurd (cc)
value_cmp-congr (values.Text a) (values.Num b) u h = absurd (cc)
value_cmp-congr (values.Text a) (values.Text b) (values.Num c) h = refl
value_cmp-congr (values.Text a) (values.Text b) (values.Text c) h = nat_list_cmp_total.congr a b c h

value_cmp-tie : (v w : Value) → value_cmp v w ≡ Equal → v ≡ w
value_cmp-tie (values.Num a) (values.Num b) h = ap (λ n. values.Num n) (nat_cmp_exact.exact a b h)
value_cmp-tie (values.Num a) (values.Text b) h = absurd (cc)
value_cmp-tie (values.Text a) (values.Num b) h = absurd (cc)
value_cmp-tie (values.Text a) (values.Text b) h =
    ap (λ t. values.Text t) (lists_exact nat_cmp nat_cmp_exact a b h)

-- the order of values is total, and ties equal values alone
pub value_cmp_exact : IsExactOrder value_cmp
value_cmp_exact = record {
  total = record { antisymm = value_cmp-turned; trans = value_cmp-trans; congr = value_cmp-congr };
  exact = value_cmp-tie;
}

-- the test of values decides whether they are equal
pub same_value_decides : DecidesEqual same_value
same_value_decides = DecidesEqual-ties value_cmp value_cmp_exact

-- the test of rows decides whether they are equal
pub same_row_decides : DecidesEqual same_row
same_row_decides = DecidesEqual-ties (slice_cmp value_cmp) (IsExactOrder-lists value_cmp value_cmp_exact)
