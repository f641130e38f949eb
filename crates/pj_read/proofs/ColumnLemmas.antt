-- Columns that are read one after the other, by their indexes.
use Rattle.std.proofs.Common.{◌≡◌, ℕ, ◌+◌, ◌-◌, ◌*◌, ◌<◌, ◌≤◌, Option, List, [], ◌∷◌, ◌++◌, length, map, take, drop, get_or}
use Rattle.std.proofs.Common.{sym, ap, subst, ◌∙◌, arith}
use Rattle.std.proofs.Math.Nat.{mul-le-mul_right}
use Rattle.std.specs.List.{AllByRecursion, AllZip}
use Rattle.std.proofs.lemmas.List.{take_more, map-append, get_or-map, drop-map, take-map}
use Rattle.std.proofs.lemmas.List.FromFn.{length-map-range_with_len, get_or-map-range_with_len}
use Rattle.pj_value.specs.declared.value.Kind.TheVariants as kinds
use Rattle.pj_value.specs.Rows.{KindedRows, column_of, value_in}
use Rattle.pj_index.specs.declared.keys.Span.{Span}
use Rattle.pj_part.specs.declared.part.ColumnFile.{ColumnFile}
use Rattle.pj_part.specs.Agreement.{columns_of, HoldsColumn}
use Rattle.pj_read.specs.Spans.{in_span}
use Rattle.pj_read.specs.Layout.{part_in_span}
use Rattle.pj_read.proofs.GranuleLemmas.{AllZip-at, AllZip-length, All-at}

-- one item more
pub map-take_more : {Y : Type 0} (f : ℕ → Y) (xs : List ℕ) (i : ℕ) → i < length xs
    → map f (take (i + 1) xs) ≡ map f (take i xs) ++ f (get_or xs i 0) ∷ []
map-take_more f xs i l = ap (map f) (take_more xs i 0 l) ∙ map-append f (take i xs) (get_or xs i 0 ∷ [])

-- so many reads for one column more
pub reads-more : (len i n : ℕ) → i < len → i * n + n ≤ len * n
reads-more len i n l =
    let up : (i + 1) * n ≤ len * n = mul-le-mul_right n (omega arith) in
    let next : (i + 1) * n ≡ i * n + n = omega arith in
    omega (arith, up, next)

module _ {B : Type 0} (files : List (ColumnFile B)) (at : ℕ) (file : ColumnFile B) (l : at < length files)
    (file_is : file ≡ get_or files at file) where
  -- what holds of each file holds of one
  pub file-is : (P : ColumnFile B → Type 0) → AllByRecursion P files → P file
  file-is P all = subst P (sym file_is) (All-at P files at file all l)

  -- its kind
  pub file-kind : file.kind ≡ get_or (map (λ (f : ColumnFile B). f.kind) files) at kinds.Num
  file-kind =
      ap (λ (f : ColumnFile B). f.kind) file_is
      ∙ sym (get_or-map (λ (f : ColumnFile B). f.kind) files at file kinds.Num l)

  -- and the column that it holds
  pub file-held : (told : B → Option (List ℕ)) (granularity : ℕ) (rows : KindedRows)
      → AllZip (HoldsColumn told granularity) files (columns_of rows)
      → HoldsColumn told granularity file (column_of rows at)
  file-held told granularity rows held =
      let n = length rows.kinds in
      let R = HoldsColumn told granularity in
      let many = AllZip-length R files (columns_of rows) held in
      let len = length-map-range_with_len (column_of rows) 0 n in
      subst (λ f. R f (column_of rows at)) (sym file_is)
      (subst (R (get_or files at file))
      (get_or-map-range_with_len (column_of rows) 0 n at at (column_of rows at) (omega (arith, many, len)) (omega arith))
      (AllZip-at R files (columns_of rows) at file (column_of rows at) held l))

-- a column of the rows in a span
pub column_of-in_span : (granularity : ℕ) (span : Span) (rows : KindedRows) (at : ℕ)
    → part_in_span granularity span.from span.to (column_of rows at) ≡ column_of (in_span granularity span rows) at
column_of-in_span granularity span rows at =
    let a = span.from * granularity in
    let n = span.to * granularity - a in
    ap (λ vs. record { kind = get_or rows.kinds at kinds.Num; values = vs })
    (ap (take n) (drop-map (λ row. value_in row at) a rows.rows)
    ∙ take-map (λ row. value_in row at) n (drop a rows.rows))
