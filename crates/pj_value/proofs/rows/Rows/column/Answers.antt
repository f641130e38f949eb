use Rattle.std.proofs.Common.{◌<◌, length, arith, ap, ◌∙◌}
use Rattle.std.proofs.lemmas.Slice.Zip.{AllZip-long}
use Rattle.pj_value.specs.Rows.{KindedRows, column_of}
use Rattle.pj_value.proofs.GatherLemmas.{column_of-rows}
use Rattle.pj_value.proofs.rows.Rows.column.Goals as goal

pub index-requires : goal.index-requires
index-requires c =
    omega (arith, AllZip-long _ _ _ c.self.invariant, ap (λ (r : KindedRows). length r.kinds) c.self.view_is)

pub returns : goal.returns
returns c =
    let l : c.args.at < length c.self.inside.columns.items =
    omega (
      arith,
      AllZip-long _ _ _ c.self.invariant,
      ap (λ (r : KindedRows). length r.kinds)
          c.self.view_is,
    ) in
    column_of-rows c.self.inside.len c.self.inside.kinds.items c.self.inside.columns.items c.args.at
    c.index.result.now c.self.invariant l c.index.ensures
    ∙ ap (λ (r : KindedRows). column_of r c.args.at) c.self.view_is
