-- Tables by their names.
use Rattle.std.proofs.Common.{◌≡◌, ℕ, zero, suc, ◌+◌, ◌<◌, List, [], ◌∷◌, ◌++◌, length, take, get_or, Bool}
use Rattle.std.proofs.Common.{eqb, Decides, Some, slice_get, refl, sym, ◌∙◌, ap, subst, ⊎_elim}
use Rattle.std.proofs.Common.{inl, inr, arith}
use Rattle.std.specs.Prelude.{◌⊎◌}
use Rattle.std.specs.List.{Contains}
use Rattle.std.specs.Cmp.Lexicographic.{pointwise}
use Rattle.std.proofs.lemmas.Bool.{cases_lt}
use Rattle.std.proofs.lemmas.List.{map_more, length-map, get_or-map, length-take, get_or-take}
use Rattle.std.proofs.lemmas.List.Elements.{Contains-push_cases}
use Rattle.std.proofs.lemmas.Option.{same_Some, slice_get_within, slice_get-get_or, get_or_from_slice_get}
use Rattle.std.proofs.lemmas.Slice.Eq.{bytes_eq-Decides}
use Rattle.pj_expr.specs.declared.table.Table.{Table}
use Rattle.pj_expr.specs.Tables.{names}
use Rattle.pj_bind.specs.Binding.{IsTableAt, IsUnknown}
use Rattle.pj_bind.specs.Faults.{IsAt}
use Rattle.pj_bind.specs.Laws.{EachIsFirst}
use Rattle.pj_bind.proofs.decided.Decided.{Decided, decided-bytes}

-- `==` on the bytes of two names
pub Decides-names : (r : Bool) (a b : List ℕ) → r ≡ pointwise eqb a b → Decides r (a ≡ b)
Decides-names r a b compared =
    let P : Bool → Type 0 = λ x. Decides x (a ≡ b) in subst P (sym compared) (bytes_eq-Decides a b)

-- where a table has the name, the name is among the names
pub Contains-at : (tables : List Table) (name : List ℕ) (number : ℕ) (table : Table)
    → slice_get tables number ≡ Some table → table.name ≡ name → Contains (names tables) name
Contains-at tables name number table there named =
    let within : number < length tables = slice_get_within tables number table there in
    let read : get_or tables number table ≡ table = get_or_from_slice_get tables number table table there in (
      number,
      (rw (length-map tables (λ (t : Table). t.name)) within),
      get_or-map (λ (t : Table). t.name) tables number table name within ∙ ap (λ (t : Table). t.name) read
          ∙ named,
    )

-- and a number before another one has it too
Contains-before : (tables : List Table) (name : List ℕ) (i j : ℕ) (table : Table)
    → slice_get tables i ≡ Some table → table.name ≡ name → i < j → Contains (names (take j tables)) name
Contains-before tables name i j table there named lt =
    let within : i < length tables = slice_get_within tables i table there in
    let short : i < length (take j tables) = omega (arith, length-take j tables) in
    Contains-at (take j tables) name i table
    (slice_get-get_or (take j tables) i table short
    ∙ ap Some (get_or-take j tables i table lt ∙ get_or_from_slice_get tables i table table there)) named

-- the table that is read there has the name
pub IsTableAt-read : (tables : List Table) (name : List ℕ) (number : ℕ) (table : Table)
    → IsAt tables name number → table ≡ get_or tables number table → IsTableAt tables name number table
IsTableAt-read tables name number table (other, (there, named, before)) read =
    let same : table ≡ other = read ∙ get_or_from_slice_get tables number other table there in
    (there ∙ ap Some (sym same), ap (λ (t : Table). t.name) same ∙ named, before)

-- one more table that has another name
pub IsUnknown-more : (tables : List Table) (name : List ℕ) (i : ℕ) (table : Table) → i < length tables
    → table ≡ get_or tables i table
    → (table.name ≡ name → ⊥) → IsUnknown (take i tables) name → IsUnknown (take (i + 1) tables) name
IsUnknown-more tables name i table within read other unknown among =
    let split : names (take (i + 1) tables) ≡ names (take i tables) ++ table.name ∷ [] =
    map_more (λ (t : Table). t.name) tables i table within
    ∙ ap (λ (t : Table). names (take i tables) ++ t.name ∷ []) (sym read) in
    let P : List (List ℕ) → Type 0 = λ ns. Contains ns name in
    ⊎_elim unknown other (Contains-push_cases (names (take i tables)) table.name name (subst P split among))

-- one more table in front that has another name
IsUnknown-front : (table : Table) (tables : List Table) (name : List ℕ) → (table.name ≡ name → ⊥)
    → IsUnknown tables name → IsUnknown (table ∷ tables) name
IsUnknown-front table tables name other unknown (zero, within, is) = other is
IsUnknown-front table tables name other unknown (suc k, within, is) = unknown (k, omega (arith, within), is)

-- no table has the name, or a first one
pub unknown-or-at : (tables : List Table) (name : List ℕ)
    → IsUnknown tables name ⊎ ((number : ℕ) × IsAt tables name number)
unknown-or-at [] name = inl (λ (among : Contains [] name). omega (arith, among.1))
unknown-or-at (table ∷ tables) name = by (decided-bytes table.name name) (unknown-or-at tables name)
  where
    by : Decided (table.name ≡ name) → IsUnknown tables name ⊎ ((number : ℕ) × IsAt tables name number)
        → IsUnknown (table ∷ tables) name ⊎ ((number : ℕ) × IsAt (table ∷ tables) name number)
    by (inl named) more =
        inr (0, (table, (refl, named, λ (among : Contains [] name). omega (arith, among.1))))
    by (inr other) (inl unknown) = inl (IsUnknown-front table tables name other unknown)
    by (inr other) (inr (number, (found, (there, named, before)))) =
        inr (
          suc number,
          (
            found,
            (
              there,
              named,
              IsUnknown-front table
                  (take number tables) name other before,
            ),
          ),
        )

-- a name with a table isn't unknown
pub IsUnknown-at : (tables : List Table) (name : List ℕ) (number : ℕ) (table : Table)
    → IsTableAt tables name number table → IsUnknown tables name → ⊥
IsUnknown-at tables name number table at unknown = unknown (Contains-at tables name number table at.0 at.1)

-- two first tables of one name have one number
pub number-same : (tables : List Table) (name : List ℕ) (i j : ℕ) (a b : Table) → IsTableAt tables name i a
    → IsTableAt tables name j b → i ≡ j
number-same tables name i j a b first other =
    ⊎_elim (λ lt. absurd (other.2 (Contains-before tables name i j a first.0 first.1 lt)))
    (λ ge. ⊎_elim (λ lt. absurd (first.2 (Contains-before tables name j i b other.0 other.1 lt)))
    (λ le. omega arith) (cases_lt j i)) (cases_lt i j)

-- and are one table
pub table-same : (tables : List Table) (name : List ℕ) (i j : ℕ) (a b : Table) → IsTableAt tables name i a
    → IsTableAt tables name j b → a ≡ b
table-same tables name i j a b first other =
    same_Some a b (sym first.0 ∙ ap (slice_get tables) (number-same tables name i j a b first other)
    ∙ other.0)

-- where no two tables have one name, each is the first of its name
pub each_is_first : EachIsFirst
each_is_first tables number table unique there = (there, refl, none)
  where
    none : IsUnknown (take number tables) table.name
    none (k, within, is) =
        let short : k < length (take number tables) =
        (rw (length-map (take number tables) (λ (t : Table). t.name)) at within) in
        let lt : k < number = omega (arith, short, length-take number tables) in
        let inside : k < length tables = omega (arith, short, length-take number tables) in
        let read : slice_get tables k ≡ Some (get_or tables k table) = slice_get-get_or tables k table inside
        in
        let named : (get_or tables k table).name ≡ table.name =
        ap (λ (t : Table). t.name) (sym (get_or-take number tables k table lt))
        ∙ sym (get_or-map (λ (t : Table). t.name) (take number tables) k table table.name short) ∙ is in
        let same : k ≡ number = unique k number (get_or tables k table) table read there named in
        omega arith
