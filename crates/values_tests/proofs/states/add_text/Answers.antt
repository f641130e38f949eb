use Rattle.pj_value.specs.declared.value.Kind.TheVariants as kinds
use Rattle.values_tests.proofs.states.add_text.Goals as goal

pub returns-clause-kind : goal.returns-clause-kind
returns-clause-kind c = c.add.ensures.kind kinds.Text c.requires
