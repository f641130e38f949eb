use Rattle.std.proofs.Common.{ℕ, Option, unwrap_or, ap, ◌∙◌, arith}
use Rattle.pj_bind.specs.Names.{Name}
use Rattle.pj_bind.specs.Meanings.{column_number}
use Rattle.pj_bind.proofs.LoopLemmas.{mapped-more, mapped-all}
use Rattle.pj_bind.proofs.tables.key_of.Goals as goal

pub names-preserved : goal.names-preserved
names-preserved c =
    mapped-more (λ (name : Name). unwrap_or (column_number c.args.columns.now name) 0) c.args.key.now
    c.names.name-index c.name-item.result c.names.numbers.items _ _ (omega arith) c.name-item.is
    c.names.invariant (c.unwrap_or.ensures ∙ ap (λ (at : Option ℕ). unwrap_or at 0) c.column_number.ensures)
    c.in_ok-push.ensures.items

pub returns : goal.returns
returns c =
    mapped-all (λ (name : Name). unwrap_or (column_number c.args.columns.now name) 0) c.args.key.now
    c.names.name-index c.names.numbers.items (omega arith) c.names.invariant
