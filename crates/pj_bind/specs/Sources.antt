-- What fills the columns of a table in an INSERT with a list. No public contract cites this file.
use Rattle.std.specs.Prelude.{◌≡◌, ℕ, List, length, map}
use Rattle.std.specs.List.{position}
use Rattle.std.specs.Str.{bytes_eq}
use Rattle.pj_value.specs.declared.value.Kind.{Kind}
use Rattle.pj_value.specs.declared.value.Value.{Value}
use Rattle.pj_value.specs.Values.{kind_of}
use Rattle.pj_expr.specs.declared.table.ColumnDef.{ColumnDef}
use Rattle.pj_bind.specs.declared.filling.Source.{Source}
use Rattle.pj_bind.specs.Names.{Name}
use Rattle.pj_bind.specs.Filling.{literal_or_default}

-- what fills a column: the literal at the index of its name in the list
abbrev pub source_of : List Name → ColumnDef → Source
source_of names column = record {
  kind = column.kind;
  index = position (λ name. bytes_eq name column.name) names;
}

-- the kinds of columns
abbrev pub source_kinds : List Source → List Kind
source_kinds sources = map (λ source. source.kind) sources

-- what sources give of a row of literals
abbrev pub filled_from : List Source → List Value → List Value
filled_from sources row = map (λ source. literal_or_default source.kind row source.index) sources

-- a row has so many literals, and they are of the columns' kinds
pub record FillsFrom (sources : List Source) (width : ℕ) (row : List Value) : Type 0 where
  pub as_many : length row ≡ width
  pub of_kinds : map kind_of (filled_from sources row) ≡ source_kinds sources
