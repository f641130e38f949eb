use Rattle.std.proofs.Common.{◌<◌, length, ap, arith}
use Rattle.std.proofs.lemmas.List.{length-map}
use Rattle.std.proofs.lemmas.List.Elements.{All-weaker}
use Rattle.pj_expr.specs.declared.expr.Expr.TheVariants as exprs
use Rattle.pj_block.proofs.RowLemmas.{number_at}
use Rattle.pj_block.proofs.ColumnLemmas.{numbers_at-Column}
use Rattle.pj_block.proofs.block.Block.numbers.Goals as goal

pub numbers_at-requires : goal.numbers_at-requires
numbers_at-requires c =
    let rows = c.in-At.rows.now.rows in
    let numbers = c.numbers_in-in-At.result.now in
    All-weaker (λ at. at < length rows) (λ at. at < length numbers)
    (λ at l.
    omega (
      arith,
      l,
      ap length c.numbers_in-in-At.ensures,
      length-map rows (number_at (exprs.Column c.args.column)),
    ))
    c.in-At.indexes.now (rw c.in-At.is at c.requires.within)

pub returns-in_ok-found-in-At : goal.returns-in_ok-found-in-At
returns-in_ok-found-in-At c =
    let indexes = c.in-At.indexes.now in
    rw (c.in-At.is, c.in_ok-found-in-At.ensures)
    (numbers_at-Column c.in-At.rows.now.rows indexes c.args.column c.numbers_in-in-At.result.now
    c.numbers_in-in-At.ensures)
