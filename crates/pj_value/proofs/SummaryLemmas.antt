-- What a crate of states cites: summaries of one list behind another, and lists that rise.
use Rattle.std.proofs.Common.{◌≡◌, ℕ, ◌+◌, ◌%◌, ◌^◌, ◌||◌, List, ◌++◌, sym, ◌∙◌, arith, length-append}
use Rattle.std.specs.Prelude.{Option}
use Rattle.pj_value.specs.declared.value.Value.{Value}
use Rattle.pj_value.specs.declared.value.AggKind.TheVariants as aggregates
use Rattle.pj_value.specs.Aggregates.{has_value, lesser, greater}
use Rattle.pj_value.specs.Summaries.{Number, Extreme, Distinct, Rises, Stands}
pub use Rattle.pj_value.proofs.ValueLemmas.{same_value-itself, same_value-equal}
pub use Rattle.pj_value.proofs.MemberLemmas.{has_value-append, has_value-left, has_value-right}
pub use Rattle.pj_value.proofs.MemberLemmas.{has_value-either, has_value-first, has_value-later}
pub use Rattle.pj_value.proofs.MemberLemmas.{has_value-cases, has_value-none, has_value-all, all-has_value}
pub use Rattle.pj_value.proofs.MemberLemmas.{has_value-permutation, HaveSameValues-append}
pub use Rattle.pj_value.proofs.MemberLemmas.{has_value-from_Contains, Contains-from_has_value}
pub use Rattle.pj_value.proofs.ExtremeLemmas.{chosen, least-append, greatest-append}
pub use Rattle.pj_value.proofs.ExtremeLemmas.{least-same, greatest-same}
pub use Rattle.pj_value.proofs.RisingLemmas.{IsBelow, AreBelow, Rises-head, Rises-tail, Rises-cons}
pub use Rattle.pj_value.proofs.RisingLemmas.{Rises-append, Rises-left, Rises-right, Rises-apart, Rises-push}
pub use Rattle.pj_value.proofs.RisingLemmas.{Rises-between, Rises-insert, Rises-from_neighbours}
pub use Rattle.pj_value.proofs.RisingLemmas.{Rises-from_sorted, sorted-from_Rises, Rises-equal}
pub use Rattle.pj_value.proofs.OneSummaryLemmas.{total-append, summary_of, Stands-summary_of, Stands-is}
pub use Rattle.pj_value.proofs.OneSummaryLemmas.{Stands-same}

-- ---- two summaries, one for each of two lists, and the summary of both

pub Stands-count_append : (m n : ℕ) (vs ws : List Value) → Stands aggregates.Count (Number m) vs
    → Stands aggregates.Count (Number n) ws → Stands aggregates.Count (Number ((m + n) % 2 ^ 64)) (vs ++ ws)
Stands-count_append m n vs ws e f = let l = length-append vs ws in omega arith

pub Stands-sum_append : (m n : ℕ) (vs ws : List Value) → Stands aggregates.Sum (Number m) vs
    → Stands aggregates.Sum (Number n) ws → Stands aggregates.Sum (Number ((m + n) % 2 ^ 64)) (vs ++ ws)
Stands-sum_append m n vs ws e f = let t = total-append vs ws in omega arith

pub Stands-min_append : (a b : Option Value) (vs ws : List Value) → Stands aggregates.Min (Extreme a) vs
    → Stands aggregates.Min (Extreme b) ws → Stands aggregates.Min (Extreme (chosen lesser a b)) (vs ++ ws)
Stands-min_append a b vs ws e f = (λ i. chosen lesser (e i) (f i)) ∙ sym (least-append vs ws)

pub Stands-max_append : (a b : Option Value) (vs ws : List Value) → Stands aggregates.Max (Extreme a) vs
    → Stands aggregates.Max (Extreme b) ws → Stands aggregates.Max (Extreme (chosen greater a b)) (vs ++ ws)
Stands-max_append a b vs ws e f = (λ i. chosen greater (e i) (f i)) ∙ sym (greatest-append vs ws)

pub Stands-distinct_append : (found more all vs ws : List Value)
    → Stands aggregates.UniqExact (Distinct found) vs
    → Stands aggregates.UniqExact (Distinct more) ws → Rises all
    → ((v : Value) → has_value v all ≡ (has_value v found || has_value v more))
    → Stands aggregates.UniqExact (Distinct all) (vs ++ ws)
Stands-distinct_append found more all vs ws e f r h =
    (r, λ v. h v ∙ (λ i. e.1 v i || f.1 v i) ∙ sym (has_value-append v vs ws))
