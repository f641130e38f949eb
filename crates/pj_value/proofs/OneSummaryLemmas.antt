-- The one summary of values: in another order, of two lists one behind the other, and what it is finished to.
use Rattle.std.proofs.Common.{◌≡◌, ◌+◌, ◌%◌, ◌^◌, List, [], ◌∷◌, ◌++◌, length, map, sum, refl, sym, ap}
use Rattle.std.proofs.Common.{subst, ◌∙◌, arith, length-append}
use Rattle.std.specs.List.{AllByRecursion}
use Rattle.std.specs.List.Sorted.{IsPermutation}
use Rattle.std.proofs.lemmas.List.{map-append}
use Rattle.std.proofs.lemmas.List.Sums.{sum_by-append}
use Rattle.std.proofs.lemmas.List.Sorted.{length_permutation, IsPermutation-map, sum_by-IsPermutation}
use Rattle.pj_value.specs.declared.value.Kind.{Kind}
use Rattle.pj_value.specs.declared.value.Kind.TheVariants as kinds
use Rattle.pj_value.specs.declared.value.Value.{Value}
use Rattle.pj_value.specs.declared.value.Value.TheVariants as values
use Rattle.pj_value.specs.declared.value.AggKind.{AggKind}
use Rattle.pj_value.specs.declared.value.AggKind.TheVariants as aggregates
use Rattle.pj_value.specs.Aggregates.{number_in, has_value, aggregate, lesser, greater}
use Rattle.pj_value.specs.Summaries.{Summary, Number, Extreme, Distinct, HaveSameValues, extreme_of}
use Rattle.pj_value.specs.Summaries.{Stands, finished, IsOfKind, IsSummary}
use Rattle.pj_value.proofs.MemberLemmas.{HaveSameValues-append, has_value-permutation}
use Rattle.pj_value.proofs.MemberLemmas.{has_value-all, all-has_value}
use Rattle.pj_value.proofs.ExtremeLemmas.{chosen, least-append, greatest-append, least-same, greatest-same}
use Rattle.pj_value.proofs.ExtremeLemmas.{least-in, greatest-in}
use Rattle.pj_value.proofs.RisingLemmas.{Rises-equal}
use Rattle.pj_value.proofs.InOrderLemmas.{in_order, has_value-in_order, Rises-in_order, length-in_order}

-- ---- the one summary of values

-- the summary of values under an aggregate
abbrev pub summary_of : AggKind → List Value → Summary
summary_of aggregates.Count vs = Number (length vs % 2 ^ 64)
summary_of aggregates.Sum vs = Number (sum (map number_in vs) % 2 ^ 64)
summary_of aggregates.Min vs = Extreme (extreme_of lesser vs)
summary_of aggregates.Max vs = Extreme (extreme_of greater vs)
summary_of aggregates.UniqExact vs = Distinct (in_order vs)

-- it stands for them
pub Stands-summary_of : (agg : AggKind) (vs : List Value) → Stands agg (summary_of agg vs) vs
Stands-summary_of aggregates.Count vs = refl
Stands-summary_of aggregates.Sum vs = refl
Stands-summary_of aggregates.Min vs = refl
Stands-summary_of aggregates.Max vs = refl
Stands-summary_of aggregates.UniqExact vs = (Rises-in_order vs, λ u. has_value-in_order u vs)

-- and none beside it
pub Stands-is : (agg : AggKind) (s : Summary) (vs : List Value) → Stands agg s vs → s ≡ summary_of agg vs
Stands-is aggregates.Count (Number n) vs e = ap (λ m. Number m) e
Stands-is aggregates.Count (Extreme found) vs e = absurd e
Stands-is aggregates.Count (Distinct found) vs e = absurd e
Stands-is aggregates.Sum (Number n) vs e = ap (λ m. Number m) e
Stands-is aggregates.Sum (Extreme found) vs e = absurd e
Stands-is aggregates.Sum (Distinct found) vs e = absurd e
Stands-is aggregates.Min (Number n) vs e = absurd e
Stands-is aggregates.Min (Extreme found) vs e = ap (λ f. Extreme f) e
Stands-is aggregates.Min (Distinct found) vs e = absurd e
Stands-is aggregates.Max (Number n) vs e = absurd e
Stands-is aggregates.Max (Extreme found) vs e = ap (λ f. Extreme f) e
Stands-is aggregates.Max (Distinct found) vs e = absurd e
Stands-is aggregates.UniqExact (Number n) vs e = absurd e
Stands-is aggregates.UniqExact (Extreme found) vs e = absurd e
Stands-is aggregates.UniqExact (Distinct found) vs e =
    ap (λ f. Distinct f)
    (Rises-equal found (in_order vs) e.0 (Rises-in_order vs) (λ u. e.1 u ∙ sym (has_value-in_order u vs)))

-- lists with one summary are stood for alike
pub Stands-same : (agg : AggKind) (s : Summary) (vs ws : List Value) → summary_of agg vs ≡ summary_of agg ws
    → Stands agg s vs → Stands agg s ws
Stands-same agg s vs ws e h =
    subst (λ t. Stands agg t ws) (sym (Stands-is agg s vs h ∙ e)) (Stands-summary_of agg ws)

-- ---- in another order

HaveSameValues-in_order : (vs ws : List Value) → HaveSameValues vs ws → in_order vs ≡ in_order ws
HaveSameValues-in_order vs ws s =
    Rises-equal (in_order vs) (in_order ws) (Rises-in_order vs) (Rises-in_order ws)
    (λ u. has_value-in_order u vs ∙ s u ∙ sym (has_value-in_order u ws))

pub summary_of-permutation : (agg : AggKind) (vs ws : List Value) → IsPermutation vs ws
    → summary_of agg vs ≡ summary_of agg ws
summary_of-permutation aggregates.Count vs ws p =
    ap (λ n. Number (n % 2 ^ 64)) (sym (length_permutation vs ws p))
summary_of-permutation aggregates.Sum vs ws p =
    let moved = IsPermutation-map number_in vs ws p in
    ap (λ n. Number (n % 2 ^ 64))
    (sym (sum_by-IsPermutation (λ n. n) (map number_in vs) (map number_in ws) moved))
summary_of-permutation aggregates.Min vs ws p =
    ap (λ f. Extreme f) (least-same vs ws (has_value-permutation vs ws p))
summary_of-permutation aggregates.Max vs ws p =
    ap (λ f. Extreme f) (greatest-same vs ws (has_value-permutation vs ws p))
summary_of-permutation aggregates.UniqExact vs ws p =
    ap (λ f. Distinct f) (HaveSameValues-in_order vs ws (has_value-permutation vs ws p))

-- ---- two lists one behind the other

-- the totals
pub total-append : (vs ws : List Value)
    → sum (map number_in (vs ++ ws)) ≡ sum (map number_in vs) + sum (map number_in ws)
total-append vs ws =
    ap sum (map-append number_in vs ws) ∙ sum_by-append (λ n. n) (map number_in vs) (map number_in ws)

-- the summary goes by the two summaries
pub summary_of-append : (agg : AggKind) (vs vs' ws ws' : List Value)
    → summary_of agg vs ≡ summary_of agg vs' → summary_of agg ws ≡ summary_of agg ws'
    → summary_of agg (vs ++ ws) ≡ summary_of agg (vs' ++ ws')
summary_of-append aggregates.Count vs vs' ws ws' e f =
    let m : length vs % 2 ^ 64 ≡ length vs' % 2 ^ 64 = (cc) in
    let n : length ws % 2 ^ 64 ≡ length ws' % 2 ^ 64 = (cc) in
    let a = length-append vs ws in
    let b = length-append vs' ws' in
    ap (λ n. Number n) (omega arith)
summary_of-append aggregates.Sum vs vs' ws ws' e f =
    let m : sum (map number_in vs) % 2 ^ 64 ≡ sum (map number_in vs') % 2 ^ 64 = (cc) in
    let n : sum (map number_in ws) % 2 ^ 64 ≡ sum (map number_in ws') % 2 ^ 64 = (cc) in
    let a = total-append vs ws in
    let b = total-append vs' ws' in
    ap (λ n. Number n) (omega arith)
summary_of-append aggregates.Min vs vs' ws ws' e f =
    let m : extreme_of lesser vs ≡ extreme_of lesser vs' = (cc) in
    let n : extreme_of lesser ws ≡ extreme_of lesser ws' = (cc) in
    ap (λ f. Extreme f)
    (least-append vs ws ∙ (λ i. chosen lesser (m i) (n i)) ∙ sym (least-append vs' ws'))
summary_of-append aggregates.Max vs vs' ws ws' e f =
    let m : extreme_of greater vs ≡ extreme_of greater vs' = (cc) in
    let n : extreme_of greater ws ≡ extreme_of greater ws' = (cc) in
    ap (λ f. Extreme f)
    (greatest-append vs ws ∙ (λ i. chosen greater (m i) (n i)) ∙ sym (greatest-append vs' ws'))
summary_of-append aggregates.UniqExact vs vs' ws ws' e f =
    let m : in_order vs ≡ in_order vs' = (cc) in
    let n : in_order ws ≡ in_order ws' = (cc) in
    ap (λ f. Distinct f)
    (HaveSameValues-in_order (vs ++ ws) (vs' ++ ws')
    (HaveSameValues-append vs vs' ws ws' (same vs vs' m) (same ws ws' n)))
  where
    same : (us ts : List Value) → in_order us ≡ in_order ts → HaveSameValues us ts
    same us ts g u = sym (has_value-in_order u us) ∙ (λ i. has_value u (g i)) ∙ has_value-in_order u ts

pub Stands-append : (agg : AggKind) (a b c : Summary) (vs vs' ws ws' : List Value)
    → Stands agg a vs → Stands agg a vs' → Stands agg b ws → Stands agg b ws'
    → Stands agg c (vs ++ ws) → Stands agg c (vs' ++ ws')
Stands-append agg a b c vs vs' ws ws' p p' q q' =
    Stands-same agg c (vs ++ ws) (vs' ++ ws')
    (summary_of-append agg vs vs' ws ws' (sym (Stands-is agg a vs p) ∙ Stands-is agg a vs' p')
    (sym (Stands-is agg b ws q) ∙ Stands-is agg b ws' q'))

-- ---- what it is finished to, and that it is a summary of the kind

finished-summary_of : (agg : AggKind) (kind : Kind) (vs : List Value)
    → finished kind (summary_of agg vs) ≡ aggregate agg kind vs
finished-summary_of aggregates.Count kind vs = refl
finished-summary_of aggregates.Sum kind vs = refl
finished-summary_of aggregates.Min kind [] = refl
finished-summary_of aggregates.Min kind (v ∷ vs) = refl
finished-summary_of aggregates.Max kind [] = refl
finished-summary_of aggregates.Max kind (v ∷ vs) = refl
finished-summary_of aggregates.UniqExact kind vs = ap (λ n. values.Num (n % 2 ^ 64)) (length-in_order vs)

pub finished-is : (agg : AggKind) (kind : Kind) (s : Summary) (vs : List Value) → Stands agg s vs
    → finished kind s ≡ aggregate agg kind vs
finished-is agg kind s vs h = ap (finished kind) (Stands-is agg s vs h) ∙ finished-summary_of agg kind vs

IsSummary-summary_of : (agg : AggKind) (kind : Kind) (vs : List Value) → AllByRecursion (IsOfKind kind) vs
    → (agg ≡ aggregates.Sum → kind ≡ kinds.Num) → IsSummary agg kind (summary_of agg vs)
IsSummary-summary_of aggregates.Count kind vs a f = omega arith
IsSummary-summary_of aggregates.Sum kind vs a f = (omega arith, f refl)
IsSummary-summary_of aggregates.Min kind [] a f = tt
IsSummary-summary_of aggregates.Min kind (v ∷ vs) a f =
    has_value-all (IsOfKind kind) (v ∷ vs) a _ (least-in v vs)
IsSummary-summary_of aggregates.Max kind [] a f = tt
IsSummary-summary_of aggregates.Max kind (v ∷ vs) a f =
    has_value-all (IsOfKind kind) (v ∷ vs) a _ (greatest-in v vs)
IsSummary-summary_of aggregates.UniqExact kind vs a f = (
  Rises-in_order vs,
  all-has_value (IsOfKind kind) (in_order vs)
      (λ u h. has_value-all (IsOfKind kind) vs a u (sym (has_value-in_order u vs) ∙ h)),
)

pub IsSummary-from_Stands : (agg : AggKind) (kind : Kind) (s : Summary) (vs : List Value) → Stands agg s vs
    → AllByRecursion (IsOfKind kind) vs → (agg ≡ aggregates.Sum → kind ≡ kinds.Num) → IsSummary agg kind s
IsSummary-from_Stands agg kind s vs h a f =
    subst (IsSummary agg kind) (sym (Stands-is agg s vs h)) (IsSummary-summary_of agg kind vs a f)
