-- Sources and sinks in memory: what they hold, and which of their calls fail.
use Rattle.std.specs.Prelude.{ℕ, Bool, ◌==◌, List, if◌then◌else◌}
use Rattle.std.specs.List.{list_any}
use Rattle.pj_io.specs.Faults.{raised}

-- the calls of one object: the numbers of those that are to fail, from 1, and how many were made and failed
pub record Calls : Type 0 where
  pub fail : List ℕ
  pub made : ℕ
  pub faults : ℕ

-- the next call is one of those that fail
abbrev pub is_due : Calls → Bool
is_due c = list_any (λ n. n == raised c.made) c.fail

-- the calls after the next one
abbrev pub after_call : Calls → Calls
after_call c = record c { made = raised c.made; faults = if is_due c then raised c.faults else c.faults }

-- a source: the bytes that are left, and the most that a call moves
pub record Supply : Type 0 where
  pub left : List ℕ
  pub piece : ℕ
  pub calls : Calls

-- a sink: the bytes that were taken, and the most that a call moves
pub record Store : Type 0 where
  pub taken : List ℕ
  pub piece : ℕ
  pub calls : Calls
