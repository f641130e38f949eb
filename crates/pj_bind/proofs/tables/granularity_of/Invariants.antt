use Rattle.std.proofs.Common.{◌≡◌, take}
use Rattle.pj_bind.specs.Tables.{granularity_of}
use Rattle.pj_bind.proofs.tables.granularity_of.Given as goal

abbrev pub invariant-settings : goal.invariant-settings
invariant-settings l = l.rows ≡ granularity_of (take l.setting-index l.settings)
