-- How groups are found by the indexes of their rows. No public contract cites this file.
use Rattle.std.specs.Prelude.{ℕ, ◌+◌, Bool, not, List, [], length, map, drop, slice_index_or}
use Rattle.std.specs.List.{filter, range_with_len}
use Rattle.pj_value.specs.declared.value.Value.{Value}
use Rattle.pj_value.specs.Rows.{KindedRows, rows_at}
use Rattle.pj_expr.specs.declared.expr.Expr.{Expr}
use Rattle.pj_expr.specs.Eval.{eval}
use Rattle.pj_answer.specs.Answers.{Row, same_row, has_row}
use Rattle.pj_answer.specs.Rows.{of_kinds}

-- the values of an expression for rows
abbrev pub values_for : List Row → Expr → List Value
values_for rows e = map (λ row. eval e row) rows

-- whether the row at an index comes again behind it
abbrev pub comes_again : List Row → ℕ → Bool
comes_again rows at = has_row (slice_index_or rows at []) (drop (at + 1) rows)

-- the indexes of the rows that don't come again
abbrev pub last_indexes : List Row → List ℕ
last_indexes rows = filter (λ at. not (comes_again rows at)) (range_with_len 0 (length rows))

-- the indexes of the rows that are the same as the row at an index
abbrev pub indexes_like : List Row → ℕ → List ℕ
indexes_like rows at =
    filter (λ k. same_row (slice_index_or rows at []) (slice_index_or rows k []))
    (range_with_len 0 (length rows))

-- the rows whose keys are the same as the key at an index
abbrev pub group_like : KindedRows → List Row → ℕ → KindedRows
group_like held keys at = of_kinds held.kinds (rows_at held.rows (indexes_like keys at))
