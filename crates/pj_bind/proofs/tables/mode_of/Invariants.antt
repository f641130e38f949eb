use Rattle.std.proofs.Common.{◌≡◌, take}
use Rattle.pj_bind.specs.Tables.{mode_of}
use Rattle.pj_bind.proofs.tables.mode_of.Given as goal

abbrev pub invariant-settings : goal.invariant-settings
invariant-settings l = l.mode ≡ mode_of (take l.setting-index l.settings)
