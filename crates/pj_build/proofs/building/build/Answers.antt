use Rattle.std.proofs.Common.{◌≡◌, sym, subst, ◌∙◌}
use Rattle.pj_value.specs.Order.{IsSortedBy}
use Rattle.pj_build.specs.Living.{AgreesLiving}
use Rattle.pj_build.specs.Written.{IsWritten}
use Rattle.pj_build.proofs.LivingLemmas.{agrees-written}
use Rattle.pj_build.proofs.building.build.Goals as goal

pub returns-clause-agrees : goal.returns-clause-agrees
returns-clause-agrees g c =
    let told = g.P.Blob.Kept.told in
    let size = g.P.Blob.Kept.size in
    let table = c.args.table.now in
    let rows = c.args.rows.now.rows in
    let sorted = c.in_ok-sorted.sorted in
    let key : c.as_slice-key.result.now ≡ table.key = c.as_slice-key.ensures in
    subst (AgreesLiving told size table rows) (sym c.draft_of.ensures)
    (agrees-written told size table rows sorted c.in_ok-base.base
    c.written_columns_are_formed.ensures c.indexes_of_keys_are_formed.ensures c.requires.table
    (c.in_ok-sorted.ensures.kinds ∙ c.requires.kinds) c.kinds-kinds.ensures.shape
    (subst (λ key. IsSortedBy key rows sorted.rows) key c.in_ok-sorted.ensures.sorted)
    (subst (λ key. IsWritten told size table.granularity key sorted c.in_ok-base.base) key
    c.in_ok-base.ensures.written))
