-- How the first in an order are found without sorting all: of indexes, or of rows. No public contract cites this
-- file.
use Rattle.std.specs.Prelude.{◌≡◌, ℕ, ◌≤◌, Bool, not, List, ◌++◌, Option, IfSome}
use Rattle.std.specs.List.{All, count_by}
use Rattle.std.specs.List.Sorted.{IsPermutation, IsSortedBy}
use Rattle.pj_answer.specs.Rows.{first_of}

-- the first of these in an arrangement by an order, as many as LIMIT says
pub record AreFirst {X : Type 0} (before : X → X → Bool) (limit : Option ℕ) (xs out : List X) : Type 0 where
  pub arrangement : List X
  pub all : IsPermutation xs arrangement
  pub ordered : IsSortedBy before arrangement
  pub first : out ≡ first_of limit arrangement

-- as many of these as are asked for don't come after this one
abbrev pub IsBehind : {X : Type 0} → (X → X → Bool) → ℕ → List X → X → Type 0
IsBehind before most xs x = most ≤ count_by (λ y. not (before x y)) xs

-- of those seen, all are kept that can be among the first, and the worst is one that need not be kept
pub record KeepsFirst {X : Type 0} (before : X → X → Bool) (most : ℕ) (seen kept : List X) (worst : Option X)
    : Type 0 where
  pub dropped : List X
  pub all : IsPermutation seen (kept ++ dropped)
  pub behind : All (IsBehind before most kept) dropped
  pub bound : IfSome worst (IsBehind before most kept)
