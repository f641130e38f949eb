use Rattle.std.proofs.Common.{◌≡◌, map, sym, ◌∙◌}
use Rattle.pj_group.specs.Indexes.{key_values, is_before}
use Rattle.pj_group.proofs.LeastLemmas.{AreFirst-none}
use Rattle.pj_group.proofs.OrderLemmas.{indexes_ranked}
use Rattle.pj_group.proofs.indexes.first_by.Goals as goal

pub returns-in-Some-eq0 : goal.returns-in-Some-eq0
returns-in-Some-eq0 c =
    let keys = map key_values c.args.keys.now in
    let none : c.in-Some-eq0.field-0 ≡ 0 = sym c.in-Some-eq0.field-0-is ∙ c.in-Some-eq0.field-0-test in
    rw (c.in-Some-eq0.is, none, c.new.ensures.items)
    (AreFirst-none (is_before keys) (indexes_ranked keys) c.args.indexes.items)
