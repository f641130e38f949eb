use Rattle.std.proofs.Common.{◌<◌, length, arith, ap, sym, ◌∙◌}
use Rattle.std.proofs.lemmas.Slice.Zip.{AllZip-long}
use Rattle.pj_value.specs.Rows.{KindedRows, value_at}
use Rattle.pj_value.specs.Columns.{values_of}
use Rattle.pj_value.proofs.RowsLemmas.{length-rows_of, len_at, value_at-rows_of}
use Rattle.pj_value.proofs.rows.Rows.cell.Goals as goal

pub index-requires : goal.index-requires
index-requires c =
    omega (arith, AllZip-long _ _ _ c.self.invariant, ap (λ (r : KindedRows). length r.kinds) c.self.view_is)

pub cell-requires : goal.cell-requires
cell-requires c =
    let l : c.args.column < length c.self.inside.columns.items =
    omega (
      arith,
      AllZip-long _ _ _ c.self.invariant,
      ap (λ (r : KindedRows). length r.kinds) c.self.view_is,
    ) in
    omega (
      arith,
      len_at _ _ _ c.args.column c.index.result.now c.self.invariant l c.index.ensures,
      ap (λ (r : KindedRows). length r.rows) c.self.view_is,
      length-rows_of (values_of c.self.inside.columns.items) c.self.inside.len,
    )

pub returns : goal.returns
returns c =
    let l : c.args.column < length c.self.inside.columns.items =
    omega (
      arith,
      AllZip-long _ _ _ c.self.invariant,
      ap (λ (r : KindedRows). length r.kinds) c.self.view_is,
    ) in
    let m : c.args.row < c.self.inside.len =
    omega (
      arith,
      ap (λ (r : KindedRows). length r.rows) c.self.view_is,
      length-rows_of (values_of c.self.inside.columns.items) c.self.inside.len,
    ) in
    c.cell.ensures
    ∙ sym (value_at-rows_of c.self.inside.columns.items c.self.inside.len c.args.row c.args.column
    c.index.result.now m l c.index.ensures)
    ∙ ap (λ (r : KindedRows). value_at r.rows c.args.row c.args.column) c.self.view_is
