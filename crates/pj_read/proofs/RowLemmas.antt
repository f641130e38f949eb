-- Rows of a span: how many they are, and that columns which were read make them.
use Rattle.std.proofs.Common.{◌≡◌, ℕ, zero, suc, ◌-◌, ◌*◌, ◌<◌, ◌≤◌, min, ◌⊎◌, inl, inr, List, [], ◌∷◌, length, map, drop, get_or, replicate}
use Rattle.std.proofs.Common.{Option, true, false, ◌==◌, refl, sym, ap, subst, ◌∙◌, arith, length-take, length-drop}
use Rattle.std.proofs.Math.Nat.{mul-le-mul_right}
use Rattle.std.specs.Prelude.{IfSome}
use Rattle.std.specs.List.{All, AllByRecursion, AllZip, range_with_len}
use Rattle.std.proofs.lemmas.Grind.{div_ceil_times}
use Rattle.std.proofs.lemmas.Bool.{eqb-true}
use Rattle.std.proofs.lemmas.List.{same_lists, length-map, get_or-map}
use Rattle.std.proofs.lemmas.List.FromFn.{length-map-range_with_len, get_or-map-range_with_len}
use Rattle.std.proofs.lemmas.Simd.{map-map}
use Rattle.pj_value.specs.declared.value.Kind.{Kind}
use Rattle.pj_value.specs.declared.value.Kind.TheVariants as kinds
use Rattle.pj_value.specs.declared.value.Value.{Value}
use Rattle.pj_value.specs.declared.value.Value.TheVariants as values
use Rattle.pj_value.specs.Columns.{KindedValues, values_at, kinds_of, values_of, row_at, rows_of, no_values}
use Rattle.pj_value.specs.Rows.{KindedRows, column_of, value_in, rows_in, rows_joined, rows_of_no_columns}
use Rattle.pj_expr.specs.declared.table.Table.{Table}
use Rattle.pj_expr.specs.Tables.{TableFits}
use Rattle.pj_expr.specs.Tables as tables
use Rattle.pj_layout.specs.declared.blob.Mark.{Mark}
use Rattle.pj_index.specs.declared.keys.Span.{Span}
use Rattle.pj_part.specs.declared.part.ColumnFile.{ColumnFile}
use Rattle.pj_part.specs.declared.part.Part.{Part}
use Rattle.pj_part.specs.Formed.{granule_count, granule_rows, kinds_at, IsFormedColumn, IsFormed}
use Rattle.pj_part.specs.Agreement.{columns_of, HoldsColumn}
use Rattle.pj_part.specs.Laws.{GranulesLieInTheirBlobs, WrittenColumnsAreFormed}
use Rattle.pj_read.specs.Spans.{base_of, in_span, span_rows, picked}
use Rattle.pj_read.specs.Layout.{no_mark, IsReadable}
use Rattle.pj_read.proofs.GranuleLemmas.{marks-rows}

-- ---- how many rows

-- one number is at most another, or above it
side : (a b : ℕ) → (a ≤ b) ⊎ (b < a)
side zero b = inl (omega arith)
side (suc a) zero = inr (omega arith)
side (suc a) (suc b) = elim (side a b) [ inl l ↦ inl (omega (arith, l)) | inr l ↦ inr (omega (arith, l)) ]

-- marks of so many granules
pub marks-count : (granularity rows : ℕ) (ms : List Mark)
    → map (λ (m : Mark). m.rows) ms ≡ granule_rows granularity rows
    → length ms ≡ granule_count granularity rows
marks-count granularity rows ms e =
    sym (length-map ms (λ (m : Mark). m.rows)) ∙ ap length e
    ∙ length-map-range_with_len (λ at. min granularity (rows - at * granularity)) 0 (granule_count granularity rows)

-- where all rows are in one granule, a span has all of them or none
one-granule : (granularity rows from to : ℕ) → rows < granularity → from ≤ to → to ≤ 1
    → min (to * rows) rows - from * rows ≡ min (to * granularity) rows - from * granularity
one-granule granularity rows zero zero l m n = omega arith
one-granule granularity rows zero (suc zero) l m n = omega arith
one-granule granularity rows (suc zero) (suc zero) l m n = omega arith
one-granule granularity rows zero (suc (suc to)) l m n = absurd (omega (arith, n))
one-granule granularity rows (suc zero) zero l m n = absurd (omega (arith, m))
one-granule granularity rows (suc zero) (suc (suc to)) l m n = absurd (omega (arith, n))
one-granule granularity rows (suc (suc from)) to l m n = absurd (omega (arith, m, n))

-- fewer rows than a granule may have are in one granule
few-granules : (granularity rows to : ℕ) → rows < granularity → to ≤ granule_count granularity rows → to ≤ 1
few-granules granularity rows to l m =
    let count = granule_count granularity rows in
    let round = (div_ceil_times rows granularity (omega (arith, l))).1 in
    elim (side to 1) [
      | inl small ↦ small
      | inr big ↦
          let up : 2 * granularity ≤ count * granularity = mul-le-mul_right granularity (omega (arith, big, m)) in
          absurd (omega (arith, round, up, l))
    ]

-- so the first granule tells how many rows a span has
first-tells : (granularity rows from to : ℕ) → from ≤ to → to ≤ granule_count granularity rows
    → min (to * min granularity rows) rows - from * min granularity rows
    ≡ min (to * granularity) rows - from * granularity
first-tells granularity rows from to l m =
    elim (side granularity rows) [
      | inl many ↦
          let each : min granularity rows ≡ granularity = omega (arith, many) in
          ap (λ n. min (to * n) rows - from * n) each
      | inr few ↦
          let each : min granularity rows ≡ rows = omega (arith, few) in
          ap (λ n. min (to * n) rows - from * n) each
          ∙ one-granule granularity rows from to few l (few-granules granularity rows to few m)
    ]

pub marks-tell : (granularity rows from to : ℕ) (ms : List Mark) → from ≤ to → to ≤ length ms
    → map (λ (m : Mark). m.rows) ms ≡ granule_rows granularity rows
    → min (to * (get_or ms 0 no_mark).rows) rows - from * (get_or ms 0 no_mark).rows
    ≡ min (to * granularity) rows - from * granularity
marks-tell granularity rows zero zero [] l m e = omega arith
marks-tell granularity rows zero (suc to) [] l m e = absurd (omega (arith, m))
marks-tell granularity rows (suc from) to [] l m e = absurd (omega (arith, l, m))
marks-tell granularity rows from to (mark ∷ ms) l m e =
    let first : mark.rows ≡ min granularity rows =
    marks-rows granularity rows (mark ∷ ms) 0 no_mark e (omega arith)
    ∙ ap (min granularity) (omega arith) in
    ap (λ n. min (to * n) rows - from * n) first
    ∙ first-tells granularity rows from to l (omega (arith, m, marks-count granularity rows (mark ∷ ms) e))

-- ---- formed columns

module _ {B : Type 0} (size : B → ℕ) where
  -- formed columns can be read
  pub all-readable : (granularity rows to : ℕ) (files : List (ColumnFile B)) → GranulesLieInTheirBlobs size
      → to ≤ granule_count granularity rows
      → AllByRecursion (IsFormedColumn size granularity rows) files → AllByRecursion (IsReadable size to) files
  all-readable granularity rows to [] lie l formed = tt
  all-readable granularity rows to (file ∷ files) lie l formed = (
    record {
      within = lie granularity rows file formed.0;
      many = omega (arith, l, marks-count granularity rows file.marks formed.0.granules);
    },
    all-readable granularity rows to files lie l formed.1,
  )

  -- a held column is formed
  pub held-formed : (told : B → Option (List ℕ)) → ((b : B) → IfSome (told b) (λ bytes. length bytes ≡ size b))
      → WrittenColumnsAreFormed size → (granularity : ℕ) (file : ColumnFile B) (column : KindedValues)
      → 1 ≤ granularity → HoldsColumn told granularity file column
      → IsFormedColumn size granularity (length column.values) file
  held-formed told whole written granularity file column some held =
      written granularity file column some held.marks_are
      (sym (subst (λ o. IfSome o (λ bytes. length bytes ≡ size file.blob)) held.bytes (whole file.blob)))

  -- so columns that are held are formed
  pub all-formed : (told : B → Option (List ℕ)) → ((b : B) → IfSome (told b) (λ bytes. length bytes ≡ size b))
      → WrittenColumnsAreFormed size → (granularity : ℕ) (files : List (ColumnFile B)) (rows : KindedRows)
      → 1 ≤ granularity → AllZip (HoldsColumn told granularity) files (columns_of rows)
      → AllByRecursion (IsFormedColumn size granularity (length rows.rows)) files
  all-formed told whole written granularity files rows some held =
      each files (range_with_len 0 (length rows.kinds)) held
    where
      each : (files : List (ColumnFile B)) (ats : List ℕ)
          → AllZip (HoldsColumn told granularity) files (map (column_of rows) ats)
          → AllByRecursion (IsFormedColumn size granularity (length rows.rows)) files
      each [] ats a = tt
      each (file ∷ files) [] a = absurd a
      each (file ∷ files) (at ∷ ats) a = (
        subst (λ n. IsFormedColumn size granularity n file) (length-map rows.rows (λ row. value_in row at))
            (held-formed told whole written granularity file (column_of rows at) some a.0),
        each files ats a.1,
      )

-- a table has a column
pub some-columns : {B : Type 0} (table : Table) (files : List (ColumnFile B)) → TableFits table
    → map (λ (f : ColumnFile B). f.kind) files ≡ tables.kinds_of table → 0 < length files
some-columns table files fits kinds =
    let columns : 0 < length table.columns = by table.key fits.keyed fits.within in
    omega (
      arith,
      columns,
      sym (length-map files (λ f. f.kind)) ∙ ap length kinds ∙ length-map table.columns (λ c. c.kind),
    )
  where
    by : (key : List ℕ) → 1 ≤ length key → AllByRecursion (λ at. at < length table.columns) key
        → 0 < length table.columns
    by [] l a = absurd (omega (arith, l))
    by (at ∷ key) l a = omega (arith, a.0)

-- the base of a formed part can be read, and has a column
module _ {B : Type 0} (size : B → ℕ) (part : Part B)
    (formed : (table : Table) × TableFits table × IsFormed size table part) where
  pub base-readable : (to : ℕ) → GranulesLieInTheirBlobs size → to ≤ length (base_of part).index.firsts.rows
      → AllByRecursion (IsReadable size to) (base_of part).columns
  base-readable to lie l =
      all-readable size formed.0.granularity (base_of part).rows to (base_of part).columns lie
      (omega (arith, l, formed.2.base.index.granules)) formed.2.base.files

  pub base-some : 0 < length (base_of part).columns
  base-some = some-columns formed.0 (base_of part).columns formed.1 formed.2.base.kinds

-- ---- columns as rows

-- what a test for no item tells
pub is-some : {X : Type 0} (xs : List X) → false ≡ (length xs == 0) → 0 < length xs
is-some [] e = absurd (cc (e))
is-some (x ∷ xs) e = omega arith

pub is-none : {X : Type 0} (xs : List X) → true ≡ (length xs == 0) → xs ≡ []
is-none [] e = refl
is-none (x ∷ xs) e = absurd (omega (arith, eqb-true (length (x ∷ xs)) 0 (sym e)))

module _ (rows : KindedRows) where
  row_at-columns : (columns : List ℕ) (at : ℕ) → at < length rows.rows
      → row_at (values_of (map (column_of rows) columns)) at ≡ values_at (get_or rows.rows at []) columns
  row_at-columns [] at l = refl
  row_at-columns (column ∷ columns) at l =
      λ i. get_or-map (λ row. value_in row column) rows.rows at [] (values.Num 0) l i ∷ row_at-columns columns at l i

  rows_in-columns : (columns : List ℕ) → 0 < length columns
      → rows_in (map (column_of rows) columns) ≡ length rows.rows
  rows_in-columns [] l = absurd (omega (arith, l))
  rows_in-columns (column ∷ columns) l = length-map rows.rows (λ row. value_in row column)

  -- the rows of some columns
  pub rows_joined-columns : (columns : List ℕ) → 0 < length columns
      → rows_joined (map (column_of rows) columns) ≡ picked columns rows
  rows_joined-columns columns l = λ i. record { kinds = kinds-are i; rows = rows-are i }
    where
      cs : List KindedValues
      cs = map (column_of rows) columns

      n : ℕ
      n = length rows.rows

      f : ℕ → List Value
      f = row_at (values_of cs)

      h : List Value → List Value
      h = λ row. values_at row columns

      kinds-are : kinds_of cs ≡ kinds_at rows.kinds columns
      kinds-are = map-map (λ (c : KindedValues). c.kind) (column_of rows) columns

      rows-are : rows_of (values_of cs) (rows_in cs) ≡ map h rows.rows
      rows-are =
          ap (λ m. map f (range_with_len 0 m)) (rows_in-columns columns l)
          ∙ same_lists (map f (range_with_len 0 n)) (map h rows.rows)
          (length-map-range_with_len f 0 n ∙ sym (length-map rows.rows h))
          (λ k d m.
          let p : k < n = omega (arith, length-map-range_with_len f 0 n, m) in
          get_or-map-range_with_len f 0 n k k d p (omega arith) ∙ row_at-columns columns k p
          ∙ sym (get_or-map h rows.rows k [] d p))

-- rows of no columns
abbrev none : List Value
none = []

map-none : {X : Type 0} (xs : List X) → map (λ (x : X). none) xs ≡ replicate (length xs) none
map-none [] = refl
map-none (x ∷ xs) = ap (λ rows. none ∷ rows) (map-none xs)

length-in_span : (granularity : ℕ) (span : Span) (rows : KindedRows)
    → length (in_span granularity span rows).rows ≡ span_rows granularity span (length rows.rows)
length-in_span granularity span rows =
    let a = span.from * granularity in
    let b = span.to * granularity in
    omega (arith, length-take (b - a) (drop a rows.rows), length-drop a rows.rows)

pub picked-none : (granularity : ℕ) (span : Span) (rows : KindedRows)
    → rows_of_no_columns (span_rows granularity span (length rows.rows)) ≡ picked [] (in_span granularity span rows)
picked-none granularity span rows =
    λ i. record {
      kinds = [];
      rows = (ap (λ n. replicate n none) (sym (length-in_span granularity span rows))
          ∙ sym (map-none (in_span granularity span rows).rows)) i;
    }

-- ---- lengths

-- where each column has so many values, there are so many rows
pub rows_in-all : (n : ℕ) (cs : List KindedValues) → 0 < length cs → All (λ (c : KindedValues). length c.values ≡ n) cs
    → rows_in cs ≡ n
rows_in-all n cs l all = all 0 (no_values kinds.Num) l

-- as many columns are read as there are indexes
pub read-some : (columns : List ℕ) (all : List Kind) (cs : List KindedValues) → kinds_of cs ≡ kinds_at all columns
    → 0 < length columns → 0 < length cs
read-some columns all cs e l =
    omega (
      arith,
      l,
      sym (length-map cs (λ (c : KindedValues). c.kind)) ∙ ap length e
          ∙ length-map columns (λ at. get_or all at kinds.Num),
    )
