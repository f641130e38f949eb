-- Where a test of numbers stops to hold. No public contract cites this file.
use Rattle.std.specs.Prelude.{◌≡◌, ℕ, ◌<◌, ◌≤◌, Bool, true, false}

-- calls at the numbers below `len` answer by the test
abbrev pub Computes : (ℕ → Bool → Type 0) → (ℕ → Bool) → ℕ → Type 0
Computes answers holds len =
    (number : ℕ) (answer : Bool) → number < len → answers number answer → answer ≡ holds number

-- where the test holds of a number, it holds of those below it
abbrev pub Falls : (ℕ → Bool) → ℕ → Type 0
Falls holds len = (i j : ℕ) → i ≤ j → j < len → holds j ≡ true → holds i ≡ true

-- of the numbers below `len` the test holds of those before a place, and of no other
pub record SplitsAt (holds : ℕ → Bool) (len place : ℕ) : Type 0 where
  pub within : place ≤ len
  pub before : (number : ℕ) → number < place → holds number ≡ true
  pub behind : (number : ℕ) → place ≤ number → number < len → holds number ≡ false
