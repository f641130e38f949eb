use Rattle.std.proofs.Common.{sym, ◌∙◌, arith}
use Rattle.pj_value.proofs.OrderLemmas.{key_cmp-more, then-decided}
use Rattle.pj_value.proofs.sorting.rows_cmp.Goals as goal

pub returns-in_default-cell_cmp : goal.returns-in_default-cell_cmp
returns-in_default-cell_cmp c =
    sym (c.keys.invariant
    ∙ key_cmp-more c.args.columns.now c.args.keys.now c.keys.key-index c.args.a c.args.b c.in-Some.column.now
    c.cell_cmp.result (omega arith)
    c.in-Some.ensures.lookup.3.0 c.in-Some.ensures.lookup.1
    (c.cell_cmp.ensures ∙ rw (c.cell_or_zero.ensures, c.cell_or_zero-in-keys.ensures))
    ∙ then-decided c.cell_cmp.result _ c.in_default-cell_cmp.not-Equal)

pub keys-preserved : goal.keys-preserved
keys-preserved c =
    c.keys.invariant
    ∙ key_cmp-more c.args.columns.now c.args.keys.now c.keys.key-index c.args.a c.args.b c.in-Some.column.now
    _ (omega arith)
    c.in-Some.ensures.lookup.3.0 c.in-Some.ensures.lookup.1
    (c.in-Equal.ensures ∙ rw (c.cell_or_zero.ensures, c.cell_or_zero-in-keys.ensures))
