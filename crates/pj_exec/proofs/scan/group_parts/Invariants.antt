use Rattle.std.proofs.Common.{◌≡◌, take}
use Rattle.pj_port.specs.Counts.{risen}
use Rattle.pj_exec.specs.Scans.{granules_in}
use Rattle.pj_exec.specs.Layout.{StandsForParts}
use Rattle.pj_exec.proofs.scan.group_parts.Given as goal

abbrev pub invariant-scan : goal.invariant-scan
invariant-scan g l = record {
  stands : StandsForParts g.P.Blob.Kept.told l.table l.columns l.query l.parts l.index l.groups;
  faults : g.P.Port.faults l.port ≡ g.P.Port.faults l.fn.port;
  reads : g.P.Port.reads l.port
      ≡ risen (g.P.Port.reads l.fn.port) (granules_in l.columns (take l.index l.parts));
}
