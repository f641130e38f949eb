-- Columns that are written, a blob each.
use Rattle.std.proofs.Common.{◌≡◌, ℕ, ◌+◌, ◌<◌, ◌≤◌, Option, Some, None, List, [], ◌∷◌, ◌++◌, length, map}
use Rattle.std.proofs.Common.{get_or, refl, sym, ap, subst, ◌∙◌, arith}
use Rattle.std.specs.Prelude.{IsSome, IfSome}
use Rattle.std.specs.List.{AllByRecursion, AllZip, range_with_len}
use Rattle.std.proofs.lemmas.List.{length-map, get_or_default, same_lists}
use Rattle.std.proofs.lemmas.List.FromFn.{length-map-range_with_len, get_or-map-range_with_len, map-range_with_len_more}
use Rattle.std.proofs.lemmas.Simd.{map-map}
use Rattle.pj_value.specs.declared.value.Kind.TheVariants as kinds
use Rattle.pj_value.specs.Columns.{KindedValues}
use Rattle.pj_value.specs.Rows.{KindedRows, column_of}
use Rattle.pj_part.specs.declared.part.ColumnFile.{ColumnFile}
use Rattle.pj_part.specs.Formed.{IsFormedColumn}
use Rattle.pj_part.specs.Agreement.{columns_of, HoldsColumn}
use Rattle.pj_part.specs.Laws.{WrittenColumnsAreFormed}
use Rattle.pj_build.specs.Written.{IsWrittenColumn, AreWrittenColumns}

-- ---- columns

-- the columns of rows have their kinds
pub kinds-columns_of : (rows : KindedRows) → map (λ (c : KindedValues). c.kind) (columns_of rows) ≡ rows.kinds
kinds-columns_of rows =
    let n = length rows.kinds in
    let at_place = λ (at : ℕ). get_or rows.kinds at kinds.Num in
    let long : length (map at_place (range_with_len 0 n)) ≡ n = length-map-range_with_len at_place 0 n in
    map-map (λ (c : KindedValues). c.kind) (column_of rows) (range_with_len 0 n)
    ∙ same_lists (map at_place (range_with_len 0 n)) rows.kinds long
    (λ k d l.
    let below : k < n = omega (arith, l, long) in
    get_or-map-range_with_len at_place 0 n k k d below (omega arith)
    ∙ get_or_default rows.kinds k kinds.Num d below)

-- and a value for each row
pub long-columns : (rows : KindedRows) (places : List ℕ)
    → AllByRecursion (λ (c : KindedValues). length c.values ≡ length rows.rows) (map (column_of rows) places)
long-columns rows [] = tt
long-columns rows (at ∷ places) = (length-map rows.rows _, long-columns rows places)

is_told : {X : Type 0} (told : Option X) (x : X) → IfSome told (λ y. y ≡ x) → IsSome told → told ≡ Some x
is_told None x e some = (cc)
is_told (Some y) x e some = ap Some e

-- ---- columns that are written

module _ {B : Type 0} (told : B → Option (List ℕ)) (size : B → ℕ) (granularity : ℕ) where
  -- are one more
  pub written-push : (files : List (ColumnFile B)) (file : ColumnFile B) (f : ℕ → KindedValues) (n : ℕ)
      → AreWrittenColumns told size granularity files (map f (range_with_len 0 n))
      → IsWrittenColumn told size granularity file (f n)
      → AreWrittenColumns told size granularity (files ++ file ∷ []) (map f (range_with_len 0 (n + 1)))
  written-push files file f n w one =
      subst (AreWrittenColumns told size granularity (files ++ file ∷ []))
      (sym (map-range_with_len_more f 0 n n (omega arith)))
      (push files (map f (range_with_len 0 n)) w)
    where
      push : (files : List (ColumnFile B)) (columns : List KindedValues)
          → AreWrittenColumns told size granularity files columns
          → AreWrittenColumns told size granularity (files ++ file ∷ []) (columns ++ f n ∷ [])
      push [] [] w = (one, tt)
      push [] (c ∷ columns) w = absurd w
      push (file ∷ files) [] w = absurd w
      push (file ∷ files) (c ∷ columns) w = (w.0, push files columns w.1)

  -- have their kinds
  pub kinds-written : (files : List (ColumnFile B)) (columns : List KindedValues)
      → AreWrittenColumns told size granularity files columns
      → map (λ (file : ColumnFile B). file.kind) files ≡ map (λ (c : KindedValues). c.kind) columns
  kinds-written [] [] w = refl
  kinds-written [] (c ∷ columns) w = absurd w
  kinds-written (file ∷ files) [] w = absurd w
  kinds-written (file ∷ files) (c ∷ columns) w = λ i. w.0.kind i ∷ kinds-written files columns w.1 i

  -- are formed
  pub formed-written : (n : ℕ) (files : List (ColumnFile B)) (columns : List KindedValues)
      → WrittenColumnsAreFormed size → 1 ≤ granularity
      → AllByRecursion (λ (c : KindedValues). length c.values ≡ n) columns
      → AreWrittenColumns told size granularity files columns
      → AllByRecursion (IsFormedColumn size granularity n) files
  formed-written n [] [] law some long w = tt
  formed-written n [] (c ∷ columns) law some long w = absurd w
  formed-written n (file ∷ files) [] law some long w = absurd w
  formed-written n (file ∷ files) (c ∷ columns) law some long w = (
    subst (λ m. IsFormedColumn size granularity m file) long.0
        (law granularity file c some w.0.marks_are w.0.size_is),
    formed-written n files columns law some long.1 w.1,
  )

  -- and hold their columns, where blobs are told
  pub held-written : (files : List (ColumnFile B)) (columns : List KindedValues) → ((any : B) → IsSome (told any))
      → AreWrittenColumns told size granularity files columns
      → AllZip (HoldsColumn told granularity) files columns
  held-written [] [] all w = tt
  held-written [] (c ∷ columns) all w = absurd w
  held-written (file ∷ files) [] all w = absurd w
  held-written (file ∷ files) (c ∷ columns) all w = (
    record {
      kind = w.0.kind;
      bytes = is_told (told file.blob) _ w.0.bytes (all file.blob);
      whole = w.0.whole;
      marks_are = w.0.marks_are;
    },
    held-written files columns all w.1,
  )
