use Rattle.std.proofs.Common.{sym, ◌∙◌, rules, tests, bytes_eq}
use Rattle.std.proofs.lemmas.Iterator.{YieldsList-from_slice}
use Rattle.std.proofs.lemmas.Iterator.Search.{any_from_yields_List}
use Rattle.pj_expr.specs.declared.table.ColumnDef.{ColumnDef}
use Rattle.pj_bind.proofs.NameLemmas.{list_any-map}
use Rattle.pj_bind.proofs.names.is_column.Goals as goal

pub returns : goal.returns
returns c =
    any_from_yields_List (λ (column : ColumnDef). bytes_eq column.name c.args.name.now) _ _ c.any.result
    c.any.ensures.ran
    (YieldsList-from_slice {s = c.iter.result} c.args.columns.now (cc)) (λ x b q k. search (rules, tests))
    ∙ sym (list_any-map (λ other. bytes_eq other c.args.name.now) (λ (column : ColumnDef). column.name)
    c.args.columns.now)
