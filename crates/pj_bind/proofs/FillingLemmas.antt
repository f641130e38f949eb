-- Rows that sources fill are those that the names fill.
use Rattle.std.proofs.Common.{◌≡◌, List, [], ◌∷◌, length, map, refl, sym, ap, ◌∙◌, Result, Ok, Err, IfOk}
use Rattle.std.specs.List.{AllByRecursion}
use Rattle.pj_value.specs.declared.value.Value.{Value}
use Rattle.pj_value.specs.Values.{kind_of}
use Rattle.pj_expr.specs.declared.table.ColumnDef.{ColumnDef}
use Rattle.pj_bind.specs.Names.{Name}
use Rattle.pj_bind.specs.Filling.{value_for, filled_row, column_kinds, FillsRow}
use Rattle.pj_bind.specs.Sources.{source_of, source_kinds, filled_from, FillsFrom}

pub kinds-sources : (names : List Name) (columns : List ColumnDef)
    → source_kinds (map (source_of names) columns) ≡ column_kinds columns
kinds-sources names [] = refl
kinds-sources names (column ∷ columns) =
    ap (λ kinds. column.kind ∷ kinds) (kinds-sources names columns)

-- a row
filled-sources : (columns : List ColumnDef) (names : List Name) (row : List Value)
    → filled_from (map (source_of names) columns) row ≡ filled_row columns names row
filled-sources [] names row = refl
filled-sources (column ∷ columns) names row =
    ap (λ values. value_for names row column ∷ values) (filled-sources columns names row)

-- rows
pub filled-rows : (columns : List ColumnDef) (names : List Name) (rows : List (List Value))
    → map (filled_from (map (source_of names) columns)) rows ≡ map (filled_row columns names) rows
filled-rows columns names [] = refl
filled-rows columns names (row ∷ rows) =
    ap (λ filled. filled ∷ map (filled_from (map (source_of names) columns)) rows)
    (filled-sources columns names row)
    ∙ ap (λ more. filled_row columns names row ∷ more) (filled-rows columns names rows)

-- a row that fits the sources
fills-row : (columns : List ColumnDef) (names : List Name) (row : List Value)
    → FillsFrom (map (source_of names) columns) (length names) row → FillsRow columns names row
fills-row columns names row fills = record {
  as_many = fills.as_many;
  of_kinds =
      ap (map kind_of) (sym (filled-sources columns names row)) ∙ fills.of_kinds
      ∙ kinds-sources names columns;
}

row-fills : (columns : List ColumnDef) (names : List Name) (row : List Value)
    → FillsRow columns names row → FillsFrom (map (source_of names) columns) (length names) row
row-fills columns names row fills = record {
  as_many = fills.as_many;
  of_kinds =
      ap (map kind_of) (filled-sources columns names row) ∙ fills.of_kinds
      ∙ sym (kinds-sources names columns);
}

-- rows that fit them
fill-rows : (columns : List ColumnDef) (names : List Name) (rows : List (List Value))
    → AllByRecursion (FillsFrom (map (source_of names) columns) (length names)) rows
    → AllByRecursion (FillsRow columns names) rows
fill-rows columns names [] all = tt
fill-rows columns names (row ∷ rows) (one, all) =
    (fills-row columns names row one, fill-rows columns names rows all)

pub rows-fill : (columns : List ColumnDef) (names : List Name) (rows : List (List Value))
    → AllByRecursion (FillsRow columns names) rows
    → AllByRecursion (FillsFrom (map (source_of names) columns) (length names)) rows
rows-fill columns names [] all = tt
rows-fill columns names (row ∷ rows) (one, all) =
    (row-fills columns names row one, rows-fill columns names rows all)

-- and where rows were made of them
pub fill-made : {T E : Type 0} (columns : List ColumnDef) (names : List Name) (rows : List (List Value))
    (made : Result T E)
    → IfOk made (λ x. AllByRecursion (FillsFrom (map (source_of names) columns) (length names)) rows)
    → IfOk made (λ x. AllByRecursion (FillsRow columns names) rows)
fill-made columns names rows (Ok x) all = fill-rows columns names rows all
fill-made columns names rows (Err e) none = none
