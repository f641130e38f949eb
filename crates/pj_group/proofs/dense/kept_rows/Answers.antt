use Rattle.pj_group.proofs.dense.kept_rows.Goals as goal

pub returns-clause-kept : goal.returns-clause-kept
returns-clause-kept c = record {
  within = c.in_ok-indexes.ensures.within;
  whole = λ e. c.in_ok-indexes.ensures.all (c.keeps_all.ensures e);
}
