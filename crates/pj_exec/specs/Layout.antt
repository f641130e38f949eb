-- What the functions below the public call say of groups and parts. No public contract cites this file.
use Rattle.std.specs.Prelude.{◌≡◌, ℕ, Option, List, map, take}
use Rattle.std.specs.List.{AllZip, flat_map}
use Rattle.pj_value.specs.declared.value.Value.{Value}
use Rattle.pj_value.specs.Columns.{values_at}
use Rattle.pj_value.specs.Rows.{KindedRows, HaveKinds}
use Rattle.pj_expr.specs.declared.table.Table.{Table}
use Rattle.pj_expr.specs.declared.query.Query.{Query}
use Rattle.pj_expr.specs.Tables.{kinds_of}
use Rattle.pj_part.specs.declared.part.Part.{Part}
use Rattle.pj_part.specs.Formed.{kinds_at}
use Rattle.pj_part.specs.Agreement.{HoldsRows}
use Rattle.pj_read.specs.Spans.{base_of}
use Rattle.pj_group.specs.declared.groups.Groups.{Groups}
use Rattle.pj_group.specs.Standing.{StandsFor}

-- rows with their values in these columns alone
abbrev pub cut_to : List ℕ → List (List Value) → List (List Value)
cut_to columns rows = map (λ row. values_at row columns) rows

-- the rows of parts of a table, with their values in these columns alone
abbrev pub cut_rows : Table → List ℕ → List (List (List Value)) → KindedRows
cut_rows table columns all =
    record { kinds = kinds_at (kinds_of table) columns; rows = flat_map (cut_to columns) all }

module _ {B : Type 0} (told : B → Option (List ℕ)) (table : Table) where
  -- the base of a part of a table holds these rows
  abbrev pub HoldsPart : Part B → List (List Value) → Type 0
  HoldsPart part rows =
      HoldsRows told table.granularity table.key (base_of part)
      (record { kinds = kinds_of table; rows = rows })

  -- groups of rows in some columns: where the bases of these parts hold rows, those of the first parts, so
  -- many
  pub record StandsForParts (columns : List ℕ) (q : Query) (parts : List (Part B)) (count : ℕ)
      (groups : Groups) : Type 0 where
    pub seen : List (List Value)
    pub shape : HaveKinds (kinds_at (kinds_of table) columns) seen
    pub stands : StandsFor q (kinds_at (kinds_of table) columns) seen groups
    pub held : (all : List (List (List Value))) → AllZip HoldsPart parts all
        → seen ≡ flat_map (cut_to columns) (take count all)
