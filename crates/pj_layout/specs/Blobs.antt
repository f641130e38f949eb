-- A blob: the granules of a column side by side, and the marks that tell where each of them stands
-- (docs/FORMATS.md, "Granules").
use Rattle.std.specs.Prelude.{ℕ, ◌+◌, ◌*◌, ◌/◌, ◌%◌, min, List, [], ◌∷◌, drop, flat_map, length, map, take}
use Rattle.std.specs.Prelude.{slice_range}
use Rattle.std.specs.List.{range_with_len}
use Rattle.pj_value.specs.declared.value.Value.{Value}
use Rattle.pj_value.specs.Columns.{KindedValues}
use Rattle.pj_layout.specs.declared.blob.Mark.{Mark}
use Rattle.pj_layout.specs.Granules.{granule}

-- the values of a column from one index to before another
abbrev pub column_range : KindedValues → ℕ → ℕ → KindedValues
column_range column from to = record column { values = slice_range column.values from to }

-- how many chunks of so many values each these values make; the last may have fewer
abbrev pub chunk_count : ℕ → List Value → ℕ
chunk_count granularity vs = length vs / granularity + min 1 (length vs % granularity)

-- a chunk of the values of a column, by its index
abbrev pub chunk : ℕ → KindedValues → ℕ → KindedValues
chunk granularity column at =
    record column { values = take granularity (drop (at * granularity) column.values) }

-- the chunks of a column, in order; a column without values has none
abbrev pub chunks : ℕ → KindedValues → List KindedValues
chunks granularity column =
    map (chunk granularity column) (range_with_len 0 (chunk_count granularity column.values))

-- the granules of some columns side by side
abbrev pub blob : List KindedValues → List ℕ
blob columns = flat_map granule columns

-- the marks of granules side by side, the first of which begins here
abbrev pub marks_from : ℕ → List KindedValues → List Mark
marks_from here [] = []
marks_from here (c ∷ cs) =
    record { at = here; size = length (granule c); rows = length c.values }
    ∷ marks_from (here + length (granule c)) cs

-- the marks of the granules in a blob
abbrev pub marks : List KindedValues → List Mark
marks columns = marks_from 0 columns
