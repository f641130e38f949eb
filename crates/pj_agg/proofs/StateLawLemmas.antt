-- Laws of states.
use Rattle.std.proofs.Common.{◌≡◌, ℕ, ◌%◌, ◌^◌, ◌<◌, ◌≤◌, Bool, true, false, Some, None, List}
use Rattle.std.proofs.Common.{[], ◌∷◌, ◌++◌, length, refl, sym, ap, subst, ◌∙◌, arith, true≢false, length-append}
use Rattle.std.specs.Prelude.{if◌then◌else◌, replicate}
use Rattle.std.specs.List.{AllByRecursion, flat_map}
use Rattle.std.specs.List.Sorted.{IsPermutation}
use Rattle.std.specs.Ordering.{is_lt}
use Rattle.std.proofs.lemmas.List.{append_assoc, length-replicate}
use Rattle.std.proofs.lemmas.List.Elements.{All-replicate, recursion_from_All}
use Rattle.std.proofs.lemmas.List.Sorted.{IsPermutation-append_comm}
use Rattle.std.proofs.lemmas.Cmp.{tied_itself}
use Rattle.pj_value.specs.declared.value.Kind.{Kind}
use Rattle.pj_value.specs.declared.value.Kind.TheVariants as kinds
use Rattle.pj_value.specs.declared.value.Value.{Value}
use Rattle.pj_value.specs.declared.value.Value.TheVariants as values
use Rattle.pj_value.specs.declared.value.AggKind.{AggKind}
use Rattle.pj_value.specs.declared.value.AggKind.TheVariants as aggregates
use Rattle.pj_value.specs.Order.{value_cmp}
use Rattle.pj_value.specs.Aggregates.{default, has_value, lesser, greater}
use Rattle.pj_value.specs.Summaries.{Summary, Number, Extreme, Distinct, Stands, extreme_of}
use Rattle.pj_value.specs.Summaries.{IsOfKind, IsSummary, number_bytes, value_bytes, state_bytes}
use Rattle.pj_value.specs.SummaryLaws.{HasLength, HasLengths}
use Rattle.pj_value.proofs.OrderLemmas.{value_total}
use Rattle.pj_value.proofs.ExtremeLemmas.{chosen, least-same, greatest-same, least-append, greatest-append}
use Rattle.pj_value.proofs.ExtremeLemmas.{least-in, greatest-in}
use Rattle.pj_value.proofs.OneSummaryLemmas.{Stands-is, summary_of, summary_of-permutation}
use Rattle.pj_value.proofs.SummaryBytesLemmas.{bytes_apart}
use Rattle.pj_agg.proofs.ListLemmas.{has_value-known}
use Rattle.pj_agg.proofs.ReadLemmas.{value_bytes-long}

-- ---- each summary stands for values

default-of_kind : (kind : Kind) → IsOfKind kind (default kind)
default-of_kind kinds.Num = (refl, omega arith)
default-of_kind kinds.Text = (refl, tt)

as_many : (n : ℕ) (v : Value) → n < 18446744073709551616 → n ≡ length (replicate n v) % 2 ^ 64
as_many n v l = let long = length-replicate n v in omega arith

pub stands-some : (agg : AggKind) (kind : Kind) (s : Summary) → IsSummary agg kind s
    → (vs : List Value) × Stands agg s vs × AllByRecursion (IsOfKind kind) vs
stands-some aggregates.Count kind (Number n) h = (
  replicate n (default kind),
  as_many n (default kind) h,
  recursion_from_All (IsOfKind kind) (replicate n (default kind))
      (All-replicate (IsOfKind kind) n (default kind) (default-of_kind kind)),
)
stands-some aggregates.Count kind (Extreme found) h = absurd h
stands-some aggregates.Count kind (Distinct found) h = absurd h
stands-some aggregates.Sum kind (Number n) h =
    (values.Num n ∷ [], omega (arith, h.0), ((sym h.1, h.0), tt))
stands-some aggregates.Sum kind (Extreme found) h = absurd h
stands-some aggregates.Sum kind (Distinct found) h = absurd h
stands-some aggregates.Min kind (Number n) h = absurd h
stands-some aggregates.Min kind (Extreme None) h = ([], refl, tt)
stands-some aggregates.Min kind (Extreme (Some v)) h = (v ∷ [], refl, (h, tt))
stands-some aggregates.Min kind (Distinct found) h = absurd h
stands-some aggregates.Max kind (Number n) h = absurd h
stands-some aggregates.Max kind (Extreme None) h = ([], refl, tt)
stands-some aggregates.Max kind (Extreme (Some v)) h = (v ∷ [], refl, (h, tt))
stands-some aggregates.Max kind (Distinct found) h = absurd h
stands-some aggregates.UniqExact kind (Number n) h = absurd h
stands-some aggregates.UniqExact kind (Extreme found) h = absurd h
stands-some aggregates.UniqExact kind (Distinct found) h = (found, (h.0, λ u. refl), h.1)

-- ---- the least and the greatest value

-- what there is, is in the list
pub least-has : (v : Value) (vs : List Value) → Some v ≡ extreme_of lesser vs → has_value v vs ≡ true
least-has v [] e = absurd (cc)
least-has v (u ∷ us) e =
    let same : v ≡ _ = (cc) in subst (λ x. has_value x (u ∷ us) ≡ true) (sym same) (least-in u us)

pub greatest-has : (v : Value) (vs : List Value) → Some v ≡ extreme_of greater vs → has_value v vs ≡ true
greatest-has v [] e = absurd (cc)
greatest-has v (u ∷ us) e =
    let same : v ≡ _ = (cc) in subst (λ x. has_value x (u ∷ us) ≡ true) (sym same) (greatest-in u us)

-- one that is chosen before a value is not behind it
not_behind : (v w : Value) (t : Bool) → is_lt (value_cmp w v) ≡ t → Some v ≡ Some (if t then w else v)
    → t ≡ false
not_behind v w true e f =
    let same : v ≡ w = (cc) in
    absurd (true≢false (sym e ∙ ap (λ u. is_lt (value_cmp u v)) (sym same)
    ∙ ap is_lt (tied_itself value_total v)))
not_behind v w false e f = refl

not_before : (v w : Value) (t : Bool) → is_lt (value_cmp v w) ≡ t → Some v ≡ Some (if t then w else v)
    → t ≡ false
not_before v w true e f =
    let same : v ≡ w = (cc) in
    absurd (true≢false (sym e ∙ ap (λ u. is_lt (value_cmp v u)) (sym same)
    ∙ ap is_lt (tied_itself value_total v)))
not_before v w false e f = refl

-- a value of the list once more leaves it, so it was chosen before each
pub least-upto : (v w : Value) (vs : List Value) → Some v ≡ extreme_of lesser vs → has_value w vs ≡ true
    → is_lt (value_cmp w v) ≡ false
least-upto v w vs e h =
    not_behind v w (is_lt (value_cmp w v)) refl
    (e ∙ least-same vs (vs ++ w ∷ []) (has_value-known w vs h) ∙ least-append vs (w ∷ [])
    ∙ ap (λ o. chosen lesser o (Some w)) (sym e))

pub greatest-upto : (v w : Value) (vs : List Value) → Some v ≡ extreme_of greater vs → has_value w vs ≡ true
    → is_lt (value_cmp v w) ≡ false
greatest-upto v w vs e h =
    not_before v w (is_lt (value_cmp v w)) refl
    (e ∙ greatest-same vs (vs ++ w ∷ []) (has_value-known w vs h) ∙ greatest-append vs (w ∷ [])
    ∙ ap (λ o. chosen greater o (Some w)) (sym e))

-- none is of no values
pub extreme_of-none : (choose : Value → Value → Value) (vs : List Value) → None ≡ extreme_of choose vs
    → vs ≡ []
extreme_of-none choose [] e = refl
extreme_of-none choose (v ∷ vs) e = absurd (cc)

-- ---- what is made by joining

-- values in another order have one summary
pub one-permuted : (agg : AggKind) (a b : Summary) (vs ws : List Value) → IsPermutation vs ws
    → Stands agg a vs → Stands agg b ws → a ≡ b
one-permuted agg a b vs ws p h k =
    Stands-is agg a vs h ∙ summary_of-permutation agg vs ws p ∙ sym (Stands-is agg b ws k)

pub one-turned : (agg : AggKind) (a b : Summary) (vs ws : List Value) → Stands agg a (vs ++ ws)
    → Stands agg b (ws ++ vs) → a ≡ b
one-turned agg a b vs ws = one-permuted agg a b (vs ++ ws) (ws ++ vs) (IsPermutation-append_comm vs ws)

pub one-of_three : (agg : AggKind) (a b : Summary) (us vs ws : List Value) → Stands agg a ((us ++ vs) ++ ws)
    → Stands agg b (us ++ (vs ++ ws)) → a ≡ b
one-of_three agg a b us vs ws h k =
    Stands-is agg a ((us ++ vs) ++ ws) h ∙ ap (summary_of agg) (append_assoc us vs ws)
    ∙ sym (Stands-is agg b (us ++ (vs ++ ws)) k)

-- ---- bytes

HasLength-from_bytes : (v : Value) → length (value_bytes v) < 18446744073709551616 → HasLength v
HasLength-from_bytes (values.Num n) l = tt
HasLength-from_bytes (values.Text t) l = omega (arith, l, length-append (number_bytes (length t)) t)

-- values are no more than their bytes, and no text is longer than these
lengths-from_bytes : (vs : List Value) → length (flat_map value_bytes vs) < 18446744073709551616
    → (length vs ≤ length (flat_map value_bytes vs)) × AllByRecursion HasLength vs
lengths-from_bytes [] l = (omega arith, tt)
lengths-from_bytes (v ∷ vs) l =
    let apart = length-append (value_bytes v) (flat_map value_bytes vs) in
    let rest = lengths-from_bytes vs (omega (arith, apart, l)) in (
      omega (arith, apart, rest.0, value_bytes-long v),
      (HasLength-from_bytes v (omega (arith, apart, l)), rest.1),
    )

pub HasLengths-from_bytes : (s : Summary) → length (state_bytes s) < 18446744073709551616 → HasLengths s
HasLengths-from_bytes (Number n) l = tt
HasLengths-from_bytes (Extreme found) l = tt
HasLengths-from_bytes (Distinct found) l =
    let apart = length-append (number_bytes (length found)) (flat_map value_bytes found) in
    let each = lengths-from_bytes found (omega (arith, apart, l)) in
    (omega (arith, apart, l, each.0), each.1)

pub bytes-tell : (agg : AggKind) (kind : Kind) (a b : Summary) → IsSummary agg kind a → IsSummary agg kind b
    → length (state_bytes a) < 18446744073709551616 → state_bytes a ≡ state_bytes b → a ≡ b
bytes-tell agg kind a b p q l e =
    bytes_apart agg kind a b p q (HasLengths-from_bytes a l)
    (HasLengths-from_bytes b (subst (λ bs. length bs < 18446744073709551616) e l)) e
