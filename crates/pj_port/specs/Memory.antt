-- Ports in memory: what was read through them, and which of their calls fail.
use Rattle.std.specs.Prelude.{ℕ, Option}
use Rattle.pj_io.specs.Memory.{Calls}
use Rattle.pj_port.specs.Reads.{ReadBytes}

-- a port whose calls never fail: how many of them were reads, and what the last of these gave
pub record SureUse : Type 0 where
  pub reads : ℕ
  pub last : Option ReadBytes

-- a port whose calls fail by their numbers: its calls, how many of them were reads, and what the last read
-- that didn't fail gave
pub record MemoryUse : Type 0 where
  pub calls : Calls
  pub reads : ℕ
  pub last : Option ReadBytes
