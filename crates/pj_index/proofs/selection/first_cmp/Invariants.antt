use Rattle.std.proofs.Common.{◌≡◌, [], get_or, drop}
use Rattle.pj_index.proofs.CutLemmas.{cut_cmp}
use Rattle.pj_index.proofs.selection.first_cmp.Given as goal

abbrev pub invariant-columns : goal.invariant-columns
invariant-columns l =
    cut_cmp (get_or l.firsts.rows l.granule []) l.bound
    ≡ cut_cmp (drop l.column (get_or l.firsts.rows l.granule [])) (drop l.column l.bound)
