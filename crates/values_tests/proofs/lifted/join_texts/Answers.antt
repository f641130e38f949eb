use Rattle.pj_value.specs.declared.value.Kind.TheVariants as kinds
use Rattle.values_tests.proofs.lifted.join_texts.Goals as goal

pub join-requires-clause-kind : goal.join-requires-clause-kind
join-requires-clause-kind c = (kinds.Text, c.requires.kind, c.in_ok-other.ensures.kind)
