-- No two tables of a regular history have one name.
use Rattle.std.proofs.Common.{◌≡◌, ℕ, ◌<◌, ◌++◌, length, zero, suc, List, [], ◌∷◌, Some, sym, refl}
use Rattle.std.proofs.Common.{ap, ◌∙◌, subst, inl, inr, arith, append-nil, append_assoc}
use Rattle.std.specs.Prelude.{Contains, slice_get, ◌⊎◌}
use Rattle.std.proofs.lemmas.Option.{same_Some, none-some, slice_get_within, get_or_from_slice_get}
use Rattle.std.proofs.lemmas.List.{length-map, get_or-map}
use Rattle.std.proofs.lemmas.List.Sums.{fold_push}
use Rattle.pj_journal.specs.declared.entry.Entry.{Entry}
use Rattle.pj_journal.specs.declared.entry.What.{What}
use Rattle.pj_journal.specs.declared.entry.What.TheVariants.{Created, Refused, Looked, Begun, Inserted}
use Rattle.pj_expr.specs.declared.table.Table.{Table}
use Rattle.pj_journal.specs.History.{catalog, catalog_on, WhatFits, IsRegularFrom}
use Rattle.pj_expr.specs.Tables.{names}
use Rattle.pj_bind.specs.Laws.{HasUniqueNames}

-- a table's name is one of the names
pub Contains-names : (tables : List Table) (at : ℕ) (table : Table) → slice_get tables at ≡ Some table
    → Contains (names tables) table.name
Contains-names tables at table here = (
  at,
  omega (arith, within, long),
  get_or-map (λ t. t.name) tables at table table.name within
      ∙ ap (λ t. t.name) (get_or_from_slice_get tables at table table here),
)
  where
    within : at < length tables
    within = slice_get_within tables at table here

    long : length (names tables) ≡ length tables
    long = length-map tables (λ t. t.name)

-- an element of a longer list is one of the list, or the last
pub slice_get_push : {X : Type 0} (xs : List X) (x : X) (i : ℕ) (y : X) → slice_get (xs ++ x ∷ []) i ≡ Some y
    → (slice_get xs i ≡ Some y) ⊎ ((i ≡ length xs) × (x ≡ y))
slice_get_push [] x zero y here = inr (refl, same_Some x y here)
slice_get_push [] x (suc i) y here = absurd (none-some y here)
slice_get_push (z ∷ xs) x zero y here = inl here
slice_get_push (z ∷ xs) x (suc i) y here =
    elim (slice_get_push xs x i y here) [ inl old ↦ inl old | inr last ↦ inr (ap suc last.0, last.1) ]

-- a table with a new name
HasUniqueNames-push : (tables : List Table) (table : Table) → HasUniqueNames tables
    → (Contains (names tables) table.name → ⊥) → HasUniqueNames (tables ++ table ∷ [])
HasUniqueNames-push tables table unique new i j a b first other same =
    cases (slice_get_push tables table i a first) (slice_get_push tables table j b other)
  where
    Is : ℕ → Table → Type 0
    Is k t = (slice_get tables k ≡ Some t) ⊎ ((k ≡ length tables) × (table ≡ t))

    held : (k : ℕ) (t : Table) → slice_get tables k ≡ Some t → table.name ≡ t.name → ⊥
    held k t here e = new (subst (Contains (names tables)) (sym e) (Contains-names tables k t here))

    cases : Is i a → Is j b → i ≡ j
    cases (inl old) (inl earlier) = unique i j a b old earlier same
    cases (inl old) (inr last) = absurd (held i a old (ap (λ t. t.name) last.1 ∙ sym same))
    cases (inr last) (inl old) = absurd (held j b old (ap (λ t. t.name) last.1 ∙ same))
    cases (inr last) (inr end) = last.0 ∙ sym end.0

-- a move that fits leaves unique names
HasUniqueNames-on : (place : List Entry) (what : What) → HasUniqueNames (catalog place) → WhatFits place what
    → HasUniqueNames (catalog_on (catalog place) what)
HasUniqueNames-on place (Created table) unique fits = HasUniqueNames-push (catalog place) table unique fits.0
HasUniqueNames-on place Refused unique fits = unique
HasUniqueNames-on place (Looked table) unique fits = unique
HasUniqueNames-on place (Begun table) unique fits = unique
HasUniqueNames-on place (Inserted table block rows) unique fits = unique

-- and so do moves that each fit
pub HasUniqueNames-from : (place h : List Entry) → HasUniqueNames (catalog place) → IsRegularFrom place h
    → HasUniqueNames (catalog (place ++ h))
HasUniqueNames-from place [] unique regular =
    subst (λ es. HasUniqueNames (catalog es)) (sym (append-nil place)) unique
HasUniqueNames-from place (e ∷ es) unique regular =
    subst (λ h. HasUniqueNames (catalog h)) (append_assoc place (e ∷ []) es)
    (HasUniqueNames-from (place ++ e ∷ []) es
    (subst HasUniqueNames (sym (fold_push (λ tables entry. catalog_on tables entry.what) [] place e))
    (HasUniqueNames-on place e.what unique regular.0))
    regular.1)

-- a regular history has unique names
pub HasUniqueNames-regular : (h : List Entry) → IsRegularFrom [] h → HasUniqueNames (catalog h)
HasUniqueNames-regular h regular = HasUniqueNames-from [] h none regular
  where
    none : HasUniqueNames []
    none i j a b first other same = absurd (none-some a first)
