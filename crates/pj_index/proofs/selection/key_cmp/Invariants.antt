use Rattle.std.proofs.Common.{◌≡◌, drop}
use Rattle.pj_index.proofs.CutLemmas.{cut_cmp}
use Rattle.pj_index.proofs.selection.key_cmp.Given as goal

abbrev pub invariant-values : goal.invariant-values
invariant-values l = cut_cmp l.key l.bound ≡ cut_cmp (drop l.at l.key) (drop l.at l.bound)
