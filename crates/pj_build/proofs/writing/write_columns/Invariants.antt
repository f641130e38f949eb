use Rattle.std.proofs.Common.{◌≡◌, map}
use Rattle.std.specs.List.{range_with_len}
use Rattle.pj_value.specs.Rows.{column_of}
use Rattle.pj_build.specs.Written.{AreWrittenColumns}
use Rattle.pj_build.proofs.writing.write_columns.Given as goal

abbrev pub invariant-columns : goal.invariant-columns
invariant-columns g l = record {
  written : AreWrittenColumns g.P.Blob.Kept.told g.P.Blob.Kept.size l.granularity l.files.items
      (map (column_of l.rows) (range_with_len 0 l.at));
  faults : g.P.Port.faults l.port ≡ g.P.Port.faults l.fn.port;
  reads : g.P.Port.reads l.port ≡ g.P.Port.reads l.fn.port;
  last : g.P.Port.last l.port ≡ g.P.Port.last l.fn.port;
}
