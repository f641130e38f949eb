-- Whether rows fill columns.
use Rattle.std.proofs.Common.{◌≡◌, List, length, map, Option, Some, None, refl, inl, inr}
use Rattle.pj_value.specs.declared.value.Kind.{Kind}
use Rattle.pj_value.specs.declared.value.Kind.TheVariants as kinds
use Rattle.pj_value.specs.declared.value.Value.{Value}
use Rattle.pj_value.specs.Values.{kind_of}
use Rattle.pj_expr.specs.declared.table.ColumnDef.{ColumnDef}
use Rattle.pj_bind.specs.Names.{Name}
use Rattle.pj_bind.specs.Filling.{filled_row, column_kinds, FillsRow, FillColumns}
use Rattle.pj_bind.proofs.decided.Decided.{Decided, decided-both, decided-by, decided-nat, decided-list}
use Rattle.pj_bind.proofs.decided.Decided.{decided-all}

-- equal kinds
pub decided-kind : (a b : Kind) → Decided (a ≡ b)
decided-kind kinds.Num kinds.Num = inl refl
decided-kind kinds.Num kinds.Text = inr (λ e. cc)
decided-kind kinds.Text kinds.Num = inr (λ e. cc)
decided-kind kinds.Text kinds.Text = inl refl

decided-kinds : (a b : List Kind) → Decided (a ≡ b)
decided-kinds a b = decided-list decided-kind a b

-- a row
decided-FillsRow : (columns : List ColumnDef) (names : List Name) (row : List Value)
    → Decided (FillsRow columns names row)
decided-FillsRow columns names row =
    decided-by {P = (length row ≡ length names)
    × (map kind_of (filled_row columns names row) ≡ column_kinds columns)}
    (λ both. record { as_many = both.0; of_kinds = both.1 })
    (λ fills. (fills.as_many, fills.of_kinds))
    (decided-both (decided-nat (length row) (length names))
    (decided-kinds (map kind_of (filled_row columns names row)) (column_kinds columns)))

-- rows
pub decided-FillColumns : (columns : List ColumnDef) (listed : Option (List Name)) (rows : List (List Value))
    → Decided (FillColumns columns listed rows)
decided-FillColumns columns None rows =
    decided-all (λ row. decided-kinds (map kind_of row) (column_kinds columns)) rows
decided-FillColumns columns (Some names) rows = decided-all (decided-FillsRow columns names) rows
