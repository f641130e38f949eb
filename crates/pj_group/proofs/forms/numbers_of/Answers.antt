use Rattle.std.proofs.Common.{ℕ, map, replicate, ap, sym, ◌∙◌, subst}
use Rattle.std.specs.List.{range_with_len}
use Rattle.std.proofs.lemmas.List.{length-map}
use Rattle.pj_value.specs.Rows.{rows_at}
use Rattle.pj_group.specs.declared.forms.Form.{Form}
use Rattle.pj_answer.specs.Answers.{key_of}
use Rattle.pj_group.specs.Forms.{Regroups}
use Rattle.pj_group.specs.Numbers.{AreNumbers}
use Rattle.pj_group.specs.Standing.{HoldsGroups}
use Rattle.pj_group.proofs.RegroupLemmas.{regroups-each, regroups-one, regroups-by}
use Rattle.pj_group.proofs.forms.numbers_of.Goals as goal

pub returns-in_ok-numbers-in-Each : goal.returns-in_ok-numbers-in-Each
returns-in_ok-numbers-in-Each c = λ before old h.
    let q = c.args.query.now in
    let n = c.in_ok-numbers-in-Each.numbers in
    let indexes = c.args.kept.now.indexes in
    let more = rows_at c.args.rows.now.rows indexes.items in
    let long = c.len-len.ensures ∙ indexes.ok.0 ∙ sym (length-map indexes.items _) in
    subst (Regroups q n before more old) (sym c.in-Each.is)
    (regroups-each q n before more old (subst (λ (f : Form). HoldsGroups q before f old) c.in-Each.is h)
    c.in_ok-numbers-in-Each.ensures.groups
    (c.in_ok-numbers-in-Each.ensures.openings ∙ ap (range_with_len 0) long))

pub returns-in_ok-numbers-in-One : goal.returns-in_ok-numbers-in-One
returns-in_ok-numbers-in-One c = λ before old h.
    let q = c.args.query.now in
    let n = c.in_ok-numbers-in-One.numbers in
    let indexes = c.args.kept.now.indexes in
    let more = rows_at c.args.rows.now.rows indexes.items in
    let long = c.len-len.ensures ∙ indexes.ok.0 ∙ sym (length-map indexes.items _) in
    subst (Regroups q n before more old) (sym c.in-One.is)
    (regroups-one q n before more old (subst (λ (f : Form). HoldsGroups q before f old) c.in-One.is h)
    (c.in_ok-numbers-in-One.ensures.groups ∙ ap (λ (m : ℕ). replicate {A = ℕ} m 0) long)
    c.in_ok-numbers-in-One.ensures.openings)

pub returns-in_ok-numbers-in-By : goal.returns-in_ok-numbers-in-By
returns-in_ok-numbers-in-By c = λ before old h.
    let q = c.args.query.now in
    let n = c.in_ok-numbers-in-By.numbers in
    let more = rows_at c.args.rows.now.rows c.args.kept.now.indexes.items in
    let keys = c.in-By.keys in
    let found = c.numbers_by.new.keys in
    regroups-by q n before more old keys found
    (subst (λ (f : Form). HoldsGroups q before f old) c.in-By.is h)
    (subst (λ exprs. AreNumbers keys.keys (map (key_of exprs) more) found.keys n) c.as_slice.ensures
    c.in_ok-numbers-in-By.ensures)
