-- What a history tells of a part, without its blobs (docs/MODEL.md, "Part records").
use Rattle.std.specs.Prelude.{ℕ, Bool, List, filter, map}
use Rattle.pj_value.specs.declared.value.Value.{Value}

-- a row of a part, and whether it is living; a row that isn't is masked
pub record PartRow : Type 0 where
  pub row : List Value
  pub living : Bool

-- a part of a table: its number, the first and the last of its blocks, how often it was merged, the last
-- mutation that it had, its rows in the order in which they came, and the projections that it has copies of
pub record PartRecord : Type 0 where
  pub number : ℕ
  pub min : ℕ
  pub max : ℕ
  pub level : ℕ
  pub field : ℕ
  pub base : List PartRow
  pub ids : List ℕ

-- the rows of a part that aren't masked
abbrev pub living : PartRecord → List (List Value)
living part = map (λ r. r.row) (filter (λ r. r.living) part.base)
