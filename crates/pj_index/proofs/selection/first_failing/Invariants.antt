use Rattle.std.proofs.Common.{◌≡◌, ℕ, Bool, true, false, ◌<◌, ◌≤◌, ◌-◌}
use Rattle.pj_index.specs.Splits.{Computes, Falls}
use Rattle.pj_index.proofs.selection.first_failing.Given as goal

abbrev pub invariant-halves : goal.invariant-halves
invariant-halves g l =
    record {
      ordered : l.from ≤ l.to;
      within : l.to ≤ l.len;
      before : (holds : ℕ → Bool) → Computes (goal.F-post g l.test) holds l.len → Falls holds l.len
          → (number : ℕ) → number < l.from → holds number ≡ true;
      behind : (holds : ℕ → Bool) → Computes (goal.F-post g l.test) holds l.len → Falls holds l.len
          → (number : ℕ) → l.to ≤ number → number < l.len → holds number ≡ false;
    }

abbrev pub decreases-halves : goal.decreases-halves
decreases-halves g l = l.to - l.from
