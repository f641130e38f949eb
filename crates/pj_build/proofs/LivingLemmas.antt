-- A draft whose base is written of sorted rows agrees with each record that has these rows, all living.
use Rattle.std.proofs.Common.{◌≡◌, ℕ, zero, suc, ◌<◌, ◌≤◌, Option, List, [], ◌∷◌, ◌++◌, length, map}
use Rattle.std.proofs.Common.{get_or, refl, sym, ap, subst, ◌∙◌, arith}
use Rattle.std.specs.Prelude.{IsSome, IsTrue}
use Rattle.std.specs.List.{All, AllByRecursion, range_with_len}
use Rattle.std.proofs.lemmas.List.{length-map, get_or-map, get_or_append_left, map-id}
use Rattle.std.specs.List.Sorted.{IsPermutation}
use Rattle.std.specs.Ordering.{is_gt}
use Rattle.std.proofs.lemmas.List.Elements.{All-from_recursion, recursion_from_All}
use Rattle.std.proofs.lemmas.Simd.{map-map}
use Rattle.pj_value.specs.declared.value.Kind.{Kind}
use Rattle.pj_value.specs.declared.value.Value.{Value}
use Rattle.pj_value.specs.declared.value.Value.TheVariants as values
use Rattle.pj_value.specs.Values.{kind_of}
use Rattle.pj_value.specs.Rows.{KindedRows, HaveKinds, rows_at}
use Rattle.pj_value.specs.Order.{row_cmp, key_of, key_cmp, IsSortedBy}
use Rattle.pj_value.proofs.GatherLemmas.{All-below}
use Rattle.pj_expr.specs.declared.table.Table.{Table}
use Rattle.pj_expr.specs.Parts.{PartRow}
use Rattle.pj_expr.specs.Tables as tables
use Rattle.pj_part.specs.declared.part.Sorted.{Sorted}
use Rattle.pj_part.specs.Laid.{alone}
use Rattle.pj_part.specs.Formed.{kinds_at, key_kinds, IsFormedIndex, IsFormedColumn, IsFormedSorted}
use Rattle.pj_part.specs.Agreement.{with_bit, columns_of, index_of, HoldsRows, HoldsBase}
use Rattle.pj_part.specs.Laws.{WrittenColumnsAreFormed, NeverFall, IndexesOfKeysAreFormed}
use Rattle.pj_build.specs.Living.{living_row, AgreesLiving}
use Rattle.pj_build.specs.Written.{IsWritten, fresh_draft}
use Rattle.pj_build.proofs.KeyLemmas.{HaveKinds-keys, NeverFall-keys}
use Rattle.pj_build.proofs.WrittenLemmas.{kinds-columns_of, long-columns, kinds-written, formed-written, held-written}

-- ---- rows with a bit behind each

-- a living row with its bit
abbrev bitten : List Value → List Value
bitten row = row ++ values.Num 1 ∷ []

-- a key that has no more columns than a row is the same of the row with its bit
key_of-bitten : (key : List ℕ) (row : List Value) (n : ℕ) → length row ≡ n → AllByRecursion (λ at. at < n) key
    → key_of key (bitten row) ≡ key_of key row
key_of-bitten [] row n long within = refl
key_of-bitten (at ∷ key) row n long within = λ i.
    get_or_append_left row (values.Num 1 ∷ []) (values.Num 0) at (omega (arith, long, within.0)) i
    ∷ key_of-bitten key row n long within.1 i

-- rows that have kinds have so many values
long-row : (ks : List Kind) (rows : List (List Value)) (k : ℕ) → HaveKinds ks rows → k < length rows
    → length (get_or rows k []) ≡ length ks
long-row ks [] k h l = absurd (omega (arith, l))
long-row ks (row ∷ rows) zero h l = sym (length-map row kind_of) ∙ ap length h.0
long-row ks (row ∷ rows) (suc k) h l = long-row ks rows k h.1 (omega (arith, l))

-- the rows at some indexes, with their bits
rows_at-bitten : (rows : List (List Value)) (indexes : List ℕ)
    → AllByRecursion (λ at. at < length rows) indexes
    → map bitten (rows_at rows indexes) ≡ rows_at (map bitten rows) indexes
rows_at-bitten rows [] within = refl
rows_at-bitten rows (at ∷ indexes) within = λ i.
    sym (get_or-map bitten rows at [] [] within.0) i ∷ rows_at-bitten rows indexes within.1 i

-- rows that are sorted are sorted with their bits
sorted-bitten : (key : List ℕ) (ks : List Kind) (rows out : List (List Value))
    → AllByRecursion (λ at. at < length ks) key → HaveKinds ks out → IsSortedBy key rows out
    → IsSortedBy key (map bitten rows) (map bitten out)
sorted-bitten key ks rows out within have s = record {
  indexes = s.indexes;
  each_once = subst (λ n. IsPermutation (range_with_len 0 n) s.indexes) (sym (length-map rows bitten)) s.each_once;
  rows_are = ap (map bitten) s.rows_are
      ∙ rows_at-bitten rows s.indexes
      (recursion_from_All (λ at. at < length rows) s.indexes (All-below (length rows) s.indexes s.each_once));
  rising = λ i j l m.
      let below : j < length out = omega (arith, m, length-map out bitten) in
      ap is_gt (same i j (omega (arith, l, below)) below) ∙ s.rising i j l below;
  stable = λ i j l m e.
      let below : j < length out = omega (arith, m, length-map out bitten) in
      s.stable i j l below (sym (same i j (omega (arith, l, below)) below) ∙ e);
}
  where
    one : (i : ℕ) → i < length out
        → key_of key (get_or (map bitten out) i []) ≡ key_of key (get_or out i [])
    one i l =
        ap (key_of key) (get_or-map bitten out i [] [] l)
        ∙ key_of-bitten key (get_or out i []) (length ks) (long-row ks out i have l) within

    same : (i j : ℕ) → i < length out → j < length out
        → key_cmp key (get_or (map bitten out) i []) (get_or (map bitten out) j [])
        ≡ key_cmp key (get_or out i []) (get_or out j [])
    same i j l m = λ k. row_cmp (one i l k) (one j m k)

-- ---- rows that are all living

rows-living : (rows : List (List Value)) → map (λ (r : PartRow). r.row) (map living_row rows) ≡ rows
rows-living rows = map-map (λ (r : PartRow). r.row) living_row rows ∙ map-id rows

all-living : (rows : List (List Value)) → AllByRecursion (λ (r : PartRow). IsTrue r.living) (map living_row rows)
all-living [] = tt
all-living (row ∷ rows) = (refl, all-living rows)

sorted-living : (key : List ℕ) (ks : List Kind) (rows out : List (List Value))
    → AllByRecursion (λ at. at < length ks) key → HaveKinds ks out → IsSortedBy key rows out
    → IsSortedBy key (map with_bit (map living_row rows)) (map with_bit (map living_row out))
sorted-living key ks rows out within have s =
    subst (λ bits. IsSortedBy key bits (map with_bit (map living_row out))) (sym (map-map with_bit living_row rows))
    (subst (λ bits. IsSortedBy key (map bitten rows) bits) (sym (map-map with_bit living_row out))
    (sorted-bitten key ks rows out within have s))

-- ---- the draft

-- a table's key is of columns that rows of its kinds have
key-in_kinds : (table : Table) (ks : List Kind) → tables.TableFits table → ks ≡ tables.kinds_of table
    → AllByRecursion (λ at. at < length ks) table.key
key-in_kinds table ks fits e =
    let long : length ks ≡ length table.columns = ap length e ∙ length-map table.columns _ in
    subst (λ n. AllByRecursion (λ at. at < n) table.key) (sym long) fits.within

pub key-within : (table : Table) (ks : List Kind) → tables.TableFits table → ks ≡ tables.kinds_of table
    → All (λ at. at < length ks) table.key
key-within table ks fits e = All-from_recursion (λ at. at < length ks) table.key (key-in_kinds table ks fits e)

module _ {B : Type 0} (told : B → Option (List ℕ)) (size : B → ℕ) where
  -- what is written of rows that never fall is formed
  formed-base : (table : Table) (sorted : KindedRows) (base : Sorted B)
      → WrittenColumnsAreFormed size → IndexesOfKeysAreFormed → 1 ≤ table.granularity
      → sorted.kinds ≡ tables.kinds_of table → HaveKinds sorted.kinds sorted.rows
      → NeverFall (map (key_of table.key) sorted.rows)
      → IsWritten told size table.granularity table.key sorted base
      → IsFormedSorted size (tables.kinds_of table) (key_kinds table) table.granularity base
  formed-base table sorted base column_law index_law some e have rising w =
      let key = table.key in
      let keys = map (key_of key) sorted.rows in
      record {
        kinds = kinds-written told size table.granularity base.columns (columns_of sorted) w.columns
            ∙ kinds-columns_of sorted ∙ e;
        files = subst (λ n. AllByRecursion (IsFormedColumn size table.granularity n) base.columns) (sym w.len)
            (formed-written told size table.granularity (length sorted.rows) base.columns (columns_of sorted)
            column_law some (long-columns sorted (range_with_len 0 (length sorted.kinds))) w.columns);
        index = subst (IsFormedIndex (key_kinds table) table.granularity base.rows) (sym w.index)
            (subst (λ n. IsFormedIndex (key_kinds table) table.granularity n
            (index_of table.granularity (kinds_at sorted.kinds key) keys))
            (length-map sorted.rows (key_of key) ∙ sym w.len)
            (subst (λ ks. IsFormedIndex (kinds_at ks key) table.granularity (length keys)
            (index_of table.granularity (kinds_at sorted.kinds key) keys)) e
            (index_law table.granularity (kinds_at sorted.kinds key) keys some
            (HaveKinds-keys sorted.kinds key sorted.rows have) rising)));
      }

  -- and holds them, where blobs are told
  held-base : (granularity : ℕ) (key : List ℕ) (sorted : KindedRows) (base : Sorted B)
      → ((any : B) → IsSome (told any)) → IsWritten told size granularity key sorted base
      → HoldsRows told granularity key base sorted
  held-base granularity key sorted base all w = record {
    len = w.len;
    columns = held-written told size granularity base.columns (columns_of sorted) all w.columns;
    index = w.index;
  }

  -- a draft agrees where its base is written of rows of a table, sorted
  pub agrees-written : (table : Table) (rows : List (List Value)) (sorted : KindedRows) (base : Sorted B)
      → WrittenColumnsAreFormed size → IndexesOfKeysAreFormed → tables.TableFits table
      → sorted.kinds ≡ tables.kinds_of table → HaveKinds sorted.kinds sorted.rows
      → IsSortedBy table.key rows sorted.rows
      → IsWritten told size table.granularity table.key sorted base
      → AgreesLiving told size table rows (fresh_draft base)
  agrees-written table rows sorted base column_law index_law fits e have s w r is none =
      record {
        own = base;
        base = refl;
        unmasked = refl;
        kept = refl;
        copies = sym none;
        laid = record {
          formed = record {
            base = formed-base table sorted base column_law index_law fits.some_rows e have
                (NeverFall-keys table.key sorted.rows s.rising) w;
            mask = tt;
            sides = tt;
            apart = λ i j d l m. absurd (omega (arith, l, m));
          };
          base = λ all. subst (HoldsBase told table (alone base)) (sym is) (record {
            rows = map living_row sorted.rows;
            sorted = sorted-living table.key sorted.kinds rows sorted.rows
                (key-in_kinds table sorted.kinds fits e) have s;
            held = subst (HoldsRows told table.granularity table.key base)
                (λ i. record { kinds = e i; rows = sym (rows-living sorted.rows) i })
                (held-base table.granularity table.key sorted base all w);
            mask = all-living sorted.rows;
          });
        };
      }
