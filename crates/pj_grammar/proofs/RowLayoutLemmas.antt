-- Facts about rows that lie in one list of values.
use Rattle.std.proofs.Common.{◌≡◌, ℕ, zero, suc, ◌-◌, ◌<◌, ◌≤◌, List, [], ◌∷◌, ◌++◌, length, get_or, drop}
use Rattle.std.proofs.Common.{slice_range, refl, ap, arith, length-append, length-drop}
use Rattle.std.proofs.Common.{drop_of_length-le, le_refl}
use Rattle.std.proofs.lemmas.List.{take-append-le, drop-append-le}
use Rattle.std.proofs.lemmas.Slice.{between_to_end}
use Rattle.pj_value.specs.declared.value.Value.{Value}
use Rattle.pj_grammar.specs.RowLayout.{WithBegun, rows_from, last_end, AreEnds, begin_at}

-- ---- ends

-- no end lies behind the values
pub AreEnds-begin : (from : ℕ) (ends : List ℕ) (len : ℕ) → AreEnds from ends len → from ≤ len
AreEnds-begin from [] len a = a
AreEnds-begin from (end ∷ ends) len a =
    let b = AreEnds-begin end ends len a.1 in let c = a.0 in omega arith

pub last_end-le : (from : ℕ) (ends : List ℕ) (len : ℕ) → AreEnds from ends len → last_end from ends ≤ len
last_end-le from [] len a = a
last_end-le from (end ∷ ends) len a = last_end-le end ends len a.1

-- with more values they are ends still
pub AreEnds-more : (from : ℕ) (ends : List ℕ) (len more : ℕ) → AreEnds from ends len → len ≤ more
    → AreEnds from ends more
AreEnds-more from [] len more a l = omega arith
AreEnds-more from (end ∷ ends) len more a l = (a.0, AreEnds-more end ends len more a.1 l)

-- one more end, behind all values
pub AreEnds-end : (from : ℕ) (ends : List ℕ) (len : ℕ) → AreEnds from ends len
    → AreEnds from (ends ++ len ∷ []) len
AreEnds-end from [] len a = (a, omega arith)
AreEnds-end from (end ∷ ends) len a = (a.0, AreEnds-end end ends len a.1)

pub last_end-end : (from : ℕ) (ends : List ℕ) (len : ℕ) → last_end from (ends ++ len ∷ []) ≡ len
last_end-end from [] len = refl
last_end-end from (end ∷ ends) len = last_end-end end ends len

-- ---- rows

pub length-rows_from : {A : Type 0} (values : List A) (from : ℕ) (ends : List ℕ)
    → length (rows_from values from ends) ≡ length ends
length-rows_from values from [] = refl
length-rows_from values from (end ∷ ends) = ap suc (length-rows_from values end ends)

-- a part that lies before further values
slice-more : {A : Type 0} (values more : List A) (from to : ℕ) → from ≤ to → to ≤ length values
    → slice_range (values ++ more) from to ≡ slice_range values from to
slice-more values more from to l m =
    rw (drop-append-le from values more (omega arith))
    (take-append-le (to - from) (drop from values) more (rw (length-drop from values) (omega arith)))

-- more values change no row
pub rows_from-more : {A : Type 0} (values more : List A) (from : ℕ) (ends : List ℕ)
    → AreEnds from ends (length values) → rows_from (values ++ more) from ends ≡ rows_from values from ends
rows_from-more values more from [] a = refl
rows_from-more values more from (end ∷ ends) a =
    rw (
      slice-more values more from end a.0 (AreEnds-begin end ends (length values) a.1),
      rows_from-more values more end ends a.1,
    ) refl

-- a row that ends with the values stands behind the others
pub rows_from-end : {A : Type 0} (values : List A) (from : ℕ) (ends : List ℕ)
    → rows_from values from (ends ++ length values ∷ [])
    ≡ rows_from values from ends ++ drop (last_end from ends) values ∷ []
rows_from-end values from [] = rw (between_to_end values from (length values) (omega arith)) refl
rows_from-end values from (end ∷ ends) =
    ap (λ rows. slice_range values from end ∷ rows) (rows_from-end values end ends)

-- ---- the row that has begun

-- one more value changes no end
pub AreEnds-push : {A : Type 0} (values : List A) (value : A) (ends : List ℕ) → AreEnds 0 ends (length values)
    → AreEnds 0 ends (length (values ++ value ∷ []))
AreEnds-push values value ends a =
    AreEnds-more 0 ends (length values) (length (values ++ value ∷ [])) a
    (rw (length-append values (value ∷ [])) (omega arith))

-- and belongs to the row that has begun
pub begun-push : (values : List Value) (value : Value) (ends : List ℕ) → AreEnds 0 ends (length values)
    → ◌≡◌ {A = WithBegun}
    (record {
      whole = rows_from (values ++ value ∷ []) 0 ends;
      begun = drop (last_end 0 ends) (values ++ value ∷ []);
    })
    (record { whole = rows_from values 0 ends; begun = drop (last_end 0 ends) values ++ value ∷ [] })
begun-push values value ends a =
    rw (
      rows_from-more values (value ∷ []) 0 ends a,
      drop-append-le (last_end 0 ends) values (value ∷ []) (last_end-le 0 ends (length values) a),
    ) refl

-- it stands behind the whole rows, where it ends
pub whole-end : (values : List Value) (ends : List ℕ)
    → ◌≡◌ {A = WithBegun}
    (record {
      whole = rows_from values 0 (ends ++ length values ∷ []);
      begun = drop (last_end 0 (ends ++ length values ∷ [])) values;
    })
    (record { whole = rows_from values 0 ends ++ drop (last_end 0 ends) values ∷ []; begun = [] })
whole-end values ends =
    rw (
      rows_from-end values 0 ends,
      last_end-end 0 ends (length values),
      drop_of_length-le values (le_refl (length values)),
    ) refl

-- ---- the row at an index

-- a row lies between its begin and its end
pub record IsRowAt {A : Type 0} (values : List A) (from : ℕ) (ends : List ℕ) (at : ℕ) : Type 0 where
  pub row :
      get_or (rows_from values from ends) at []
      ≡ slice_range values (begin_at from ends at) (get_or ends at 0)
  pub order : begin_at from ends at ≤ get_or ends at 0
  pub within : get_or ends at 0 ≤ length values

pub row_at_place : {A : Type 0} (values : List A) (from : ℕ) (ends : List ℕ) (at : ℕ)
    → AreEnds from ends (length values) → at < length ends → IsRowAt values from ends at
row_at_place values from [] at a l = absurd (omega arith)
row_at_place values from (end ∷ ends) zero a l =
    record { row = refl; order = a.0; within = AreEnds-begin end ends (length values) a.1 }
row_at_place values from (end ∷ ends) (suc zero) a l =
    let r = row_at_place values end ends zero a.1 (omega arith) in
    record { row = r.row; order = r.order; within = r.within }
row_at_place values from (end ∷ ends) (suc (suc at)) a l =
    let r = row_at_place values end ends (suc at) a.1 (omega arith) in
    record { row = r.row; order = r.order; within = r.within }
