use Rattle.std.proofs.Common.{◌≡◌, List, Some, sym, ap, ◌∙◌}
use Rattle.std.proofs.lemmas.Result.{err_from_is_err_and}
use Rattle.pj_expr.specs.declared.query.Query.{Query}
use Rattle.pj_expr.specs.declared.table.ColumnDef.{ColumnDef}
use Rattle.pj_expr.specs.declared.table.Table.{Table}
use Rattle.pj_grammar.specs.declared.types.TreeSelect.{TreeSelect}
use Rattle.pj_bind.specs.Names.{first_unknown}
use Rattle.pj_bind.specs.Filling.{column_names}
use Rattle.pj_bind.specs.Queries.{column_names_of, query_of}
use Rattle.pj_bind.specs.Causes.{First}
use Rattle.pj_bind.specs.Binding.{AreKnown, asked_of, select_causes}
use Rattle.pj_bind.specs.Faults.{IsMisfit}
use Rattle.pj_bind.proofs.FaultLemmas.{IsFault-weaker, select-misfit}
use Rattle.pj_bind.proofs.binding.query_over.Goals as goal

pub returns-in_err-check_query-clause-refused : goal.returns-in_err-check_query-clause-refused
returns-in_err-check_query-clause-refused c =
    let table : Table = c.args.table.now in
    let select : TreeSelect = c.args.select.now in
    let query : Query = c.in-Some-2.query in
    let known : AreKnown table select =
    sym (c.in_default.ensures
    ∙ ap (λ (defs : List ColumnDef). first_unknown (column_names defs) (column_names_of select))
    c.as_slice-columns.ensures) in
    let made : query_of table.columns select ≡ Some query =
    sym (ap (λ (defs : List ColumnDef). query_of defs select) c.as_slice-columns.ensures)
    ∙ sym c.in_ok-query.ensures ∙ c.in-Some-2.is in
    let p = err_from_is_err_and c.from_residual-in_err-check_query.result c.from_residual-in_err-check_query.ensures.1 in
    rw (p.1, p.2)
    (IsFault-weaker (IsMisfit table query) (First (asked_of table (select_causes select))) _
    (select-misfit table select query known made) c.in_err-check_query.ensures.refused)
