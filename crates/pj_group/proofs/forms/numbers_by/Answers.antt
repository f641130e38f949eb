use Rattle.std.proofs.Common.{◌∙◌, subst}
use Rattle.pj_group.specs.Numbers.{AreNumbers, keys_of_rows}
use Rattle.pj_group.proofs.RegroupLemmas.{keys_of_rows-columns}
use Rattle.pj_group.proofs.forms.numbers_by.Goals as goal

pub returns : goal.returns
returns c =
    let indexes = c.args.kept.now.indexes in
    subst
    (λ rows. AreNumbers c.args.keys.now.keys rows c.numbered.new.keys.keys c.in_ok-numbers.numbers)
    ((λ i. keys_of_rows (c.as_slice.ensures.value i) ((c.len.ensures ∙ indexes.ok.0) i))
    ∙ keys_of_rows-columns c.args.rows.now indexes.items c.args.exprs.now c.in_ok-columns.columns.items
    c.in_ok-columns.ensures)
    c.in_ok-numbers.ensures
