-- The values that stand in bytes which aren't damaged. No public contract cites this file.
use Rattle.std.specs.Prelude.{ℕ, ◌-◌, ◌*◌, List, [], ◌∷◌, drop, take}
use Rattle.pj_value.specs.declared.value.Kind.{Kind}
use Rattle.pj_value.specs.declared.value.Kind.TheVariants as kinds
use Rattle.pj_value.specs.Columns.{KindedValues, column_of_numbers, column_of_texts}
use Rattle.pj_layout.specs.Damage.{numbers_in}

-- the texts in bytes that begin here, by where each ends
abbrev pub texts_in : ℕ → List ℕ → List ℕ → List (List ℕ)
texts_in here [] bytes = []
texts_in here (end ∷ ends) bytes = take (end - here) bytes ∷ texts_in end ends (drop (end - here) bytes)

-- so many values of a kind in the bytes behind the number of rows
abbrev pub values_in : Kind → ℕ → List ℕ → KindedValues
values_in kinds.Num rows bytes = column_of_numbers (numbers_in rows bytes)
values_in kinds.Text rows bytes = column_of_texts (texts_in 0 (numbers_in rows bytes) (drop (8 * rows) bytes))
