use Rattle.std.proofs.Common.{◌≡◌, take}
use Rattle.std.specs.List.{AllByRecursion}
use Rattle.pj_layout.specs.Granules.{HasGranule}
use Rattle.pj_layout.specs.Blobs.{chunks, blob, marks}
use Rattle.pj_layout.proofs.blob.write_column.Given as goal

abbrev pub invariant-granules : goal.invariant-granules
invariant-granules l = record {
  bytes : l.bytes.items ≡ blob (take l.index (chunks l.granularity l.column));
  marks : l.marks.items ≡ marks (take l.index (chunks l.granularity l.column));
  whole : AllByRecursion HasGranule (take l.index (chunks l.granularity l.column));
}
