use Rattle.std.proofs.Common.{◌<◌, length, refl, arith}
use Rattle.std.proofs.lemmas.Option.{slice_get_within}
use Rattle.std.proofs.lemmas.Result.{err_from_is_err_and}
use Rattle.pj_expr.specs.declared.table.Table.{Table}
use Rattle.pj_grammar.specs.declared.types.Statement.TheVariants as statements
use Rattle.pj_grammar.specs.declared.types.TreeSelect.{TreeSelect}
use Rattle.pj_bind.specs.Causes.{First}
use Rattle.pj_bind.specs.Binding.{select_causes, asked_of, IsFormRefusal}
use Rattle.pj_bind.proofs.AtLemmas.{First-causes_at}
use Rattle.pj_bind.proofs.FaultLemmas.{IsFault-weaker}
use Rattle.pj_bind.proofs.TableLemmas.{IsTableAt-read}
use Rattle.pj_bind.proofs.binding.select_from.Goals as goal

pub returns-in_err-query-clause-refused : goal.returns-in_err-query-clause-refused
returns-in_err-query-clause-refused c =
    let select : TreeSelect = c.args.select.now in
    let table : Table = c.index-tables-number.result in
    let p = err_from_is_err_and c.from_residual.result c.from_residual.ensures.1 in
    let h = c.in_err-query.ensures.refused in
    rw (p.1, p.2)
    (IsFault-weaker (First (asked_of table (select_causes select)))
    (IsFormRefusal c.args.tables.now (statements.Select select)) _
    (First-causes_at c.args.tables.now select.table c.in-Some.number table
    (IsTableAt-read c.args.tables.now select.table c.in-Some.number table c.in-Some.ensures
    c.index-tables-number.is) (select_causes select)) h)

pub overflow_cast-result : goal.overflow_cast-result
overflow_cast-result c =
    let at = c.in-Some.ensures in
    let within : c.in-Some.number < length c.args.tables.now =
    slice_get_within c.args.tables.now c.in-Some.number at.0 at.1.0 in
    omega (arith, c.requires.few)

pub returns-clause-bound : goal.returns-clause-bound
returns-clause-bound c = (
  c.in-Some.number,
  c.index-tables-number.result,
  IsTableAt-read c.args.tables.now c.args.select.now.table c.in-Some.number c.index-tables-number.result
      c.in-Some.ensures c.index-tables-number.is,
  (c.in_ok-query.query, c.in_ok-query.ensures.asks, refl),
)
