-- How counts of reads rise. A count is a u64, and stands still at the last one.
use Rattle.std.specs.Prelude.{ℕ, ◌+◌, ◌-◌, ◌^◌, ◌≤◌, min, max}

-- a count after n more; where these pass the last u64, it stops there
abbrev pub risen : ℕ → ℕ → ℕ
risen count n = max count (min (count + n) (2 ^ 64 - 1))

-- a count rose by n at most, and didn't fall
abbrev pub RoseAtMost : ℕ → ℕ → ℕ → Type 0
RoseAtMost n before now = (before ≤ now) × (now ≤ before + n)
