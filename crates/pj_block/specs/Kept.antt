-- The rows that satisfy a condition, by their indexes.
use Rattle.std.specs.Prelude.{ℕ, List, [], length, slice_index_or}
use Rattle.std.specs.List.{filter, range_with_len}
use Rattle.pj_value.specs.declared.value.Value.{Value}
use Rattle.pj_expr.specs.declared.cond.Cond.{Cond}
use Rattle.pj_expr.specs.Eval.{holds}

-- the indexes of the rows that satisfy a condition, ascending
abbrev pub kept_indexes : Cond → List (List Value) → List ℕ
kept_indexes c rows = filter (λ at. holds c (slice_index_or rows at [])) (range_with_len 0 (length rows))
