use Rattle.std.proofs.Common.{◌<◌, length, ap, arith}
use Rattle.std.proofs.lemmas.Option.{slice_get_within}
use Rattle.std.proofs.lemmas.Result.{err_from_is_err_and}
use Rattle.pj_expr.specs.declared.table.Table.{Table}
use Rattle.pj_grammar.specs.declared.types.Statement.TheVariants as statements
use Rattle.pj_bind.specs.declared.types.Bound.TheVariants as bounds
use Rattle.pj_bind.specs.Causes.{First}
use Rattle.pj_bind.specs.Binding.{insert_causes, asked_of, IsFormRefusal}
use Rattle.pj_bind.proofs.AtLemmas.{First-causes_at}
use Rattle.pj_bind.proofs.FaultLemmas.{IsFault-weaker}
use Rattle.pj_bind.proofs.TableLemmas.{IsTableAt-read}
use Rattle.pj_bind.proofs.binding.insert.Goals as goal

pub returns-in_err-rows-clause-refused : goal.returns-in_err-rows-clause-refused
returns-in_err-rows-clause-refused c =
    let name = c.args.name.now in
    let listed = c.args.listed.now in
    let rows = c.args.rows.now in
    let table : Table = c.index-tables-number.result in
    let p = err_from_is_err_and c.from_residual.result c.from_residual.ensures.1 in
    let h = c.in_err-rows.ensures.refused in
    rw (p.1, p.2)
    (IsFault-weaker (First (asked_of table (insert_causes listed rows)))
    (IsFormRefusal c.args.tables.now (statements.Insert name listed rows)) _
    (First-causes_at c.args.tables.now name c.in-Some.number table
    (IsTableAt-read c.args.tables.now name c.in-Some.number table c.in-Some.ensures
    c.index-tables-number.is) (insert_causes listed rows)) h)

pub overflow_cast-result : goal.overflow_cast-result
overflow_cast-result c =
    let at = c.in-Some.ensures in
    let within : c.in-Some.number < length c.args.tables.now =
    slice_get_within c.args.tables.now c.in-Some.number at.0 at.1.0 in
    omega (arith, c.requires.few)

pub returns-clause-bound : goal.returns-clause-bound
returns-clause-bound c = (
  c.in-Some.number,
  c.index-tables-number.result,
  IsTableAt-read c.args.tables.now c.args.name.now c.in-Some.number c.index-tables-number.result
      c.in-Some.ensures c.index-tables-number.is,
  c.in_ok-rows.ensures.columns,
  c.in_ok-rows.ensures.fill,
  ap (bounds.Insert c.in-Some.number) c.in_ok-rows.ensures.rows,
)
