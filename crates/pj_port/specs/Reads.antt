-- What a read gives.
use Rattle.std.specs.Prelude.{ℕ, List}

-- the bytes that a read gave, and their offset in the blob
pub record ReadBytes : Type 0 where
  pub at : ℕ
  pub bytes : List ℕ
