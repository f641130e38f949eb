-- Parts that agree with their records hold rows, and these are the living rows of the records.
use Rattle.std.proofs.Common.{◌≡◌, ℕ, ◌<◌, ◌==◌, Bool, true, false, Option}
use Rattle.std.proofs.Common.{List, [], ◌∷◌, ◌++◌, length, map, get_or}
use Rattle.std.proofs.Common.{refl, sym, ap, subst, ◌∙◌, arith}
use Rattle.std.specs.Prelude.{if◌then◌else◌, IsTrue, IsSome, option_map}
use Rattle.std.specs.List.{AllByRecursion, AllZip, flat_map, filter, range_with_len}
use Rattle.std.specs.List.Sorted.{IsPermutation}
use Rattle.std.proofs.lemmas.List.{same_lists, map-append, get_or_default}
use Rattle.std.proofs.lemmas.List.FromFn.{length-map-range_with_len, get_or-map-range_with_len}
use Rattle.std.proofs.lemmas.List.Elements.{All-from_recursion, recursion_from_All}
use Rattle.std.proofs.lemmas.List.Sorted.{IsPermutation-refl, IsPermutation-sym, IsPermutation-map}
use Rattle.std.proofs.lemmas.List.Sorted.{IsPermutation-append, All-permutation}
use Rattle.pj_value.specs.declared.value.Value.{Value}
use Rattle.pj_value.specs.declared.value.Value.TheVariants as values
use Rattle.pj_value.specs.Columns.{values_at}
use Rattle.pj_value.specs.Order.{IsSortedBy}
use Rattle.pj_expr.specs.declared.table.Table.{Table}
use Rattle.pj_expr.specs.Parts.{PartRow, PartRecord, living}
use Rattle.pj_part.specs.declared.part.Part.{Part}
use Rattle.pj_part.specs.Laid.{piece_in, laid_of}
use Rattle.pj_part.specs.Agreement.{bit_of, with_bit, HoldsMask, HoldsBase, Agrees}
use Rattle.pj_exec.specs.Scans.{IsUnmasked}
use Rattle.pj_exec.specs.Layout.{cut_to, HoldsPart}

-- ---- rows with their bits

-- a row without its last value
abbrev start : List Value → List Value
start [] = []
start (v ∷ []) = []
start (v ∷ w ∷ vs) = v ∷ start (w ∷ vs)

abbrev is-one : Value → Bool
is-one (values.Num n) = n == 1
is-one (values.Text t) = false

-- whether the last value is 1
abbrev ends-in-one : List Value → Bool
ends-in-one [] = false
ends-in-one (v ∷ []) = is-one v
ends-in-one (v ∷ w ∷ vs) = ends-in-one (w ∷ vs)

start-append : (row : List Value) (b : Value) → start (row ++ b ∷ []) ≡ row
start-append [] b = refl
start-append (v ∷ []) b = refl
start-append (v ∷ w ∷ row) b = ap (λ r. v ∷ r) (start-append (w ∷ row) b)

ends-append : (row : List Value) (b : Value) → ends-in-one (row ++ b ∷ []) ≡ is-one b
ends-append [] b = refl
ends-append (v ∷ []) b = refl
ends-append (v ∷ w ∷ row) b = ends-append (w ∷ row) b

-- a row's bit tells whether it is living
bit-tells : (living : Bool) → is-one (values.Num (if living then 1 else 0)) ≡ living
bit-tells true = refl
bit-tells false = refl

ends-with_bit : (r : PartRow) → ends-in-one (with_bit r) ≡ r.living
ends-with_bit r = ends-append r.row (bit_of r) ∙ bit-tells r.living

starts-with_bit : (rows : List PartRow) → map start (map with_bit rows) ≡ map (λ (r : PartRow). r.row) rows
starts-with_bit [] = refl
starts-with_bit (r ∷ rows) = λ i. start-append r.row (bit_of r) i ∷ starts-with_bit rows i

all-living : (rows : List PartRow) → AllByRecursion (λ r. IsTrue r.living) rows
    → AllByRecursion (λ v. ends-in-one v ≡ true) (map with_bit rows)
all-living [] a = tt
all-living (r ∷ rows) a = (ends-with_bit r ∙ a.0, all-living rows a.1)

-- where all bits are 1, all rows are living
living-all : (rows : List PartRow) → AllByRecursion (λ v. ends-in-one v ≡ true) (map with_bit rows)
    → filter (λ (r : PartRow). r.living) rows ≡ rows
living-all [] a = refl
living-all (r ∷ rows) a =
    let is : r.living ≡ true = sym (ends-with_bit r) ∙ a.0 in
    let rest = filter (λ (r : PartRow). r.living) rows in
    ap (λ b. if b then r ∷ rest else rest) is ∙ ap (λ rs. r ∷ rs) (living-all rows a.1)

-- ---- rows in the key's order

-- the items at all indexes
all-items : {X : Type 0} (xs : List X) (d : X) → map (λ k. get_or xs k d) (range_with_len 0 (length xs)) ≡ xs
all-items {X = X} xs d =
    let f : ℕ → X = λ k. get_or xs k d in
    same_lists (map f (range_with_len 0 (length xs))) xs
    (length-map-range_with_len f 0 (length xs))
    (λ k e l.
    let m : k < length xs = omega (arith, length-map-range_with_len f 0 (length xs), l) in
    get_or-map-range_with_len f 0 (length xs) k k e m (omega arith)
    ∙ get_or_default xs k d e m)

-- sorting moves rows alone
sorted-moves : (key : List ℕ) (rows out : List (List Value)) → IsSortedBy key rows out
    → IsPermutation rows out
sorted-moves key rows out sorted =
    let at : ℕ → List Value = λ k. get_or rows k [] in
    let moved = IsPermutation-map at (range_with_len 0 (length rows)) sorted.indexes sorted.each_once in
    subst (λ xs. IsPermutation xs out) (all-items rows [])
    (subst (IsPermutation (map at (range_with_len 0 (length rows)))) (sym sorted.rows_are) moved)

-- the rows of a record are those that are held, where none of these is masked
rows-living : (key : List ℕ) (base rows : List PartRow)
    → IsSortedBy key (map with_bit base) (map with_bit rows)
    → AllByRecursion (λ r. IsTrue r.living) rows
    → IsPermutation (map (λ (r : PartRow). r.row) rows)
    (map (λ (r : PartRow). r.row) (filter (λ (r : PartRow). r.living) base))
rows-living key base rows sorted a =
    let P : List Value → Type 0 = λ v. ends-in-one v ≡ true in
    let bits = map with_bit in
    let back = IsPermutation-sym (bits base) (bits rows) (sorted-moves key (bits base) (bits rows) sorted) in
    let each = recursion_from_All P (bits base)
    (All-permutation P (bits rows) (bits base) back (All-from_recursion P (bits rows) (all-living rows a))) in
    let same = IsPermutation-map start (bits rows) (bits base) back in
    subst (λ rs. IsPermutation (map (λ (r : PartRow). r.row) rows) (map (λ (r : PartRow). r.row) rs))
    (sym (living-all base each))
    (subst (IsPermutation (map (λ (r : PartRow). r.row) rows)) (starts-with_bit base)
    (subst (λ xs. IsPermutation xs (map start (bits base))) (starts-with_bit rows) same))

-- ---- parts and their records

module _ {B : Type 0} (told : B → Option (List ℕ)) (size : B → ℕ) (table : Table)
    (tell : (any : B) → IsSome (told any)) where
  -- what a part holds, next to its record
  record Held (part : Part B) (r : PartRecord) : Type 0 where
    pub rows : List (List Value)
    pub held : HoldsPart told table part rows
    pub moved : IsPermutation rows (living r)

  part-held : (part : Part B) (r : PartRecord) → IsUnmasked size table part → Agrees told size table part r
      → Held part r
  part-held part r unmasked agrees =
      let base : HoldsBase told table (laid_of part) r.base = agrees.laid.base tell in
      let free : AllByRecursion (λ r. IsTrue r.living) base.rows =
      subst (λ m. HoldsMask told table.granularity (option_map (λ mask. (piece_in mask).sorted) m) base.rows)
      unmasked.unmasked base.mask in
      record {
        rows = map (λ (r : PartRow). r.row) base.rows;
        held = base.held;
        moved = rows-living table.key r.base base.rows base.sorted free;
      }

  -- what parts hold, next to their records
  pub record AllHeld (columns : List ℕ) (parts : List (Part B)) (records : List PartRecord) : Type 0 where
    pub all : List (List (List Value))
    pub held : AllZip (HoldsPart told table) parts all
    pub moved : IsPermutation (flat_map (cut_to columns) all) (cut_to columns (flat_map living records))

  pub parts-held : (columns : List ℕ) (parts : List (Part B)) (records : List PartRecord)
      → AllByRecursion (IsUnmasked size table) parts → AllZip (Agrees told size table) parts records
      → AllHeld columns parts records
  parts-held columns [] [] unmasked agrees = record { all = []; held = tt; moved = IsPermutation-refl [] }
  parts-held columns [] (r ∷ records) unmasked agrees = absurd agrees
  parts-held columns (part ∷ parts) [] unmasked agrees = absurd agrees
  parts-held columns (part ∷ parts) (r ∷ records) unmasked agrees =
      let one = part-held part r unmasked.0 agrees.0 in
      let rest = parts-held columns parts records unmasked.1 agrees.1 in
      let f : List Value → List Value = λ row. values_at row columns in
      record {
        all = one.rows ∷ rest.all;
        held = (one.held, rest.held);
        moved = subst (IsPermutation (cut_to columns one.rows ++ flat_map (cut_to columns) rest.all))
            (sym (map-append f (living r) (flat_map living records)))
            (IsPermutation-append (cut_to columns one.rows) (cut_to columns (living r))
            (flat_map (cut_to columns) rest.all) (cut_to columns (flat_map living records))
            (IsPermutation-map f one.rows (living r) one.moved) rest.moved);
      }
