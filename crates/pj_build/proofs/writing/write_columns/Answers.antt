use Rattle.std.proofs.Common.{◌+◌, map, sym, subst, ◌∙◌}
use Rattle.std.specs.List.{range_with_len}
use Rattle.pj_value.specs.Rows.{column_of}
use Rattle.pj_build.specs.Written.{IsWrittenColumn, AreWrittenColumns}
use Rattle.pj_build.proofs.WrittenLemmas.{written-push}
use Rattle.pj_build.proofs.writing.write_columns.Goals as goal

pub columns-preserved : goal.columns-preserved
columns-preserved g c =
    let told = g.P.Blob.Kept.told in
    let size = g.P.Blob.Kept.size in
    let file = c.in_ok-write_file.field-0 in
    record {
      written = subst
          (λ files. AreWrittenColumns told size c.args.granularity files
          (map (column_of c.args.rows.now) (range_with_len 0 (c.columns.at + 1))))
          (sym c.in_ok-push.ensures.items)
          (written-push told size c.args.granularity c.columns.files.items file (column_of c.args.rows.now)
          c.columns.at c.columns.invariant.written
          (subst (IsWrittenColumn told size c.args.granularity file) c.column.ensures c.in_ok-write_file.ensures.written));
      faults = c.in_ok-write_file.ensures.calm (λ h. (cc)) ∙ c.columns.invariant.faults;
      reads = c.in_ok-write_file.ensures.reads ∙ c.columns.invariant.reads;
      last = c.in_ok-write_file.ensures.last ∙ c.columns.invariant.last;
    }
