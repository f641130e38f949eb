-- Tables: their names, the kinds of their columns, and which may be made (docs/MODEL.md, "Histories").
use Rattle.std.specs.Prelude.{◌<◌, ◌≤◌, ℕ, List, length, map}
use Rattle.std.specs.List.{AllByRecursion}
use Rattle.pj_value.specs.declared.value.Kind.{Kind}
use Rattle.pj_expr.specs.declared.table.Table.{Table}

-- the names of the tables
abbrev pub names : List Table → List (List ℕ)
names tables = map (λ table. table.name) tables

-- the kinds of a table's columns
abbrev pub kinds_of : Table → List Kind
kinds_of table = map (λ column. column.kind) table.columns

-- how many rows a granule may have
abbrev pub granule_limit : ℕ
granule_limit = 65536

-- the table has a key, of columns that are there, and granules of at least one row and not too many
pub record TableFits (table : Table) : Type 0 where
  pub keyed : 1 ≤ length table.key
  pub within : AllByRecursion (λ index. index < length table.columns) table.key
  pub some_rows : 1 ≤ table.granularity
  pub few_rows : table.granularity ≤ granule_limit
