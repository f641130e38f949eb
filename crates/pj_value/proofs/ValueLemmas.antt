-- Values that are the same are equal.
use Rattle.std.proofs.Common.{◌≡◌, true, refl, sym, ap, ◌∙◌, true≢false}
use Rattle.std.specs.declared.cmp.Ordering.{Ordering}
use Rattle.std.specs.declared.cmp.Ordering.TheVariants.{Less, Equal, Greater}
use Rattle.std.specs.Ordering.{is_eq, flip_args}
use Rattle.std.specs.FinMap.{IsAntisymmetric, nat_cmp-IsAntisymmetric, slice_cmp-IsAntisymmetric}
use Rattle.std.proofs.lemmas.Cmp.{tied_itself}
use Rattle.pj_value.specs.declared.value.Value.{Value}
use Rattle.pj_value.specs.declared.value.Value.TheVariants as values
use Rattle.pj_value.specs.Order.{value_cmp}
use Rattle.pj_value.specs.Aggregates.{same_value}
use Rattle.pj_value.proofs.OrderLemmas.{value_total}

-- the order ties equal values alone
pub value_exact : IsAntisymmetric value_cmp
value_exact (values.Num m) (values.Num n) e = ap (λ n. values.Num n) (nat_cmp-IsAntisymmetric m n e)
value_exact (values.Num m) (values.Text t) e = (cc)
value_exact (values.Text s) (values.Num n) e = (cc)
value_exact (values.Text s) (values.Text t) e =
    ap (λ t. values.Text t) (slice_cmp-IsAntisymmetric nat_cmp-IsAntisymmetric s t e)

-- and so does the order turned round
pub value_exact_back : IsAntisymmetric (flip_args value_cmp)
value_exact_back v w e = sym (value_exact w v e)

pub same_value-itself : (v : Value) → same_value v v ≡ true
same_value-itself v = ap is_eq (tied_itself value_total v)

pub same_value-equal : (v w : Value) → same_value v w ≡ true → v ≡ w
same_value-equal v w = from (value_cmp v w) refl
  where
    from : (r : Ordering) → value_cmp v w ≡ r → is_eq r ≡ true → v ≡ w
    from Less e h = absurd (true≢false (sym h))
    from Equal e h = value_exact v w e
    from Greater e h = absurd (true≢false (sym h))

-- no value is less than itself, nor are two less than each other
pub less_itself : (v : Value) → value_cmp v v ≡ Less → ⊥
less_itself v e = true≢false (sym (same_value-itself v) ∙ ap is_eq e)

pub less_both : (v w : Value) → value_cmp v w ≡ Less → value_cmp w v ≡ Less → ⊥
less_both v w e f = less_itself v (value_total.trans v w v e f)
