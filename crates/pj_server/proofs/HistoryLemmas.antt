-- A history with one entry more.
use Rattle.std.proofs.Common.{◌≡◌, ℕ, ◌+◌, ◌≤◌, true, false, cond, eqb, List, [], ◌∷◌, ◌++◌, length}
use Rattle.std.proofs.Common.{fold, refl, sym, ap, subst, ◌∙◌, append_assoc, append-nil, arith}
use Rattle.std.proofs.lemmas.List.Sums.{fold_push}
use Rattle.std.proofs.lemmas.Bool.{eq-eqb, ne_eqb}
use Rattle.pj_value.specs.Rows.{KindedRows}
use Rattle.pj_expr.specs.declared.table.Table.{Table}
use Rattle.pj_expr.specs.Parts.{PartRecord}
use Rattle.pj_journal.specs.declared.entry.What.{What}
use Rattle.pj_journal.specs.declared.entry.What.TheVariants.{Created, Refused, Looked, Begun, Inserted}
use Rattle.pj_journal.specs.declared.entry.Entry.{Entry}
use Rattle.pj_journal.specs.History.{catalog, catalog_on, next, next_on, WhatFits, IsRegularFrom, IsRegular}
use Rattle.pj_journal.specs.Parts.{inserted, parts, parts_on}
use Rattle.pj_server.specs.Moves.{ChangesNothing}

pub IsRegularFrom-push : (place xs : List Entry) (e : Entry) → IsRegularFrom place xs
    → WhatFits (place ++ xs) e.what → IsRegularFrom place (xs ++ e ∷ [])
IsRegularFrom-push place [] e h fits = (subst (λ p. WhatFits p e.what) (append-nil place) fits, tt)
IsRegularFrom-push place (x ∷ xs) e h fits = (
  h.0,
  IsRegularFrom-push (place ++ x ∷ []) xs e h.1
      (subst (λ p. WhatFits p e.what) (sym (append_assoc place (x ∷ []) xs)) fits),
)

pub IsRegular-push : (h : List Entry) (e : Entry) → IsRegular h → WhatFits h e.what → IsRegular (h ++ e ∷ [])
IsRegular-push h e regular fits = IsRegularFrom-push [] h e regular fits

pub catalog-push : (h : List Entry) (e : Entry) → catalog (h ++ e ∷ []) ≡ catalog_on (catalog h) e.what
catalog-push h e = fold_push (λ (ts : List Table) (x : Entry). catalog_on ts x.what) [] h e

pub parts-push : (h : List Entry) (e : Entry) (t : ℕ) → parts (h ++ e ∷ []) t ≡ parts_on t (parts h t) e.what
parts-push h e t = fold_push (λ (ps : List PartRecord) (x : Entry). parts_on t ps x.what) [] h e

pub next-push : (h : List Entry) (e : Entry) (t : ℕ) → next (h ++ e ∷ []) t ≡ next_on t (next h t) e.what
next-push h e t = fold_push (λ (n : ℕ) (x : Entry). next_on t n x.what) 1 h e

-- a move that changes neither tables nor rows
pub catalog_on-nothing : (ts : List Table) (w : What) → ChangesNothing w → catalog_on ts w ≡ ts
catalog_on-nothing ts (Created table) h = absurd h
catalog_on-nothing ts Refused h = refl
catalog_on-nothing ts (Looked table) h = refl
catalog_on-nothing ts (Begun table) h = refl
catalog_on-nothing ts (Inserted table block rs) h = absurd h

pub parts_on-nothing : (t : ℕ) (ps : List PartRecord) (w : What) → ChangesNothing w → parts_on t ps w ≡ ps
parts_on-nothing t ps (Created table) h = absurd h
parts_on-nothing t ps Refused h = refl
parts_on-nothing t ps (Looked table) h = refl
parts_on-nothing t ps (Begun table) h = refl
parts_on-nothing t ps (Inserted table block rs) h = absurd h

pub next_on-nothing : (t n : ℕ) (w : What) → ChangesNothing w → next_on t n w ≡ n
next_on-nothing t n (Created table) h = absurd h
next_on-nothing t n Refused h = refl
next_on-nothing t n (Looked table) h = refl
next_on-nothing t n (Begun table) h = refl
next_on-nothing t n (Inserted table block rs) h = absurd h

-- the record of an INSERT stands behind those of its table, and other tables stay
pub parts-inserted_same : (h : List Entry) (e : Entry) (t block : ℕ) (rs : KindedRows)
    → e.what ≡ Inserted t block rs
    → parts (h ++ e ∷ []) t ≡ parts h t ++ inserted (1 + length (parts h t)) block rs.rows ∷ []
parts-inserted_same h e t block rs is =
    let one = inserted (1 + length (parts h t)) block rs.rows in
    parts-push h e t ∙ ap (parts_on t (parts h t)) is
    ∙ ap (λ b. cond b (parts h t ++ one ∷ []) (parts h t)) (eq-eqb t t refl)

pub parts-inserted_other : (h : List Entry) (e : Entry) (t u block : ℕ) (rs : KindedRows)
    → e.what ≡ Inserted u block rs → (u ≡ t → ⊥) → parts (h ++ e ∷ []) t ≡ parts h t
parts-inserted_other h e t u block rs is ne =
    let one = inserted (1 + length (parts h t)) block rs.rows in
    parts-push h e t ∙ ap (parts_on t (parts h t)) is
    ∙ ap (λ b. cond b (parts h t ++ one ∷ []) (parts h t)) (ne_eqb u t ne)

pub next-inserted_same : (h : List Entry) (e : Entry) (t block : ℕ) (rs : KindedRows)
    → e.what ≡ Inserted t block rs → next (h ++ e ∷ []) t ≡ next h t + 1
next-inserted_same h e t block rs is =
    next-push h e t ∙ ap (next_on t (next h t)) is
    ∙ ap (λ b. cond b (next h t + 1) (next h t)) (eq-eqb t t refl)

pub next-inserted_other : (h : List Entry) (e : Entry) (t u block : ℕ) (rs : KindedRows)
    → e.what ≡ Inserted u block rs → (u ≡ t → ⊥) → next (h ++ e ∷ []) t ≡ next h t
next-inserted_other h e t u block rs is ne =
    next-push h e t ∙ ap (next_on t (next h t)) is
    ∙ ap (λ b. cond b (next h t + 1) (next h t)) (ne_eqb u t ne)

-- a number is drawn for each entry at most
next_on-le : (t n : ℕ) (w : What) → next_on t n w ≤ n + 1
next_on-le t n (Created table) = omega arith
next_on-le t n Refused = omega arith
next_on-le t n (Looked table) = omega arith
next_on-le t n (Begun table) = omega arith
next_on-le t n (Inserted table block rs) =
    elim (eqb table t) as (λ b. cond b (n + 1) n ≤ n + 1) [ true ↦ omega arith | false ↦ omega arith ]

next_from-le : (t n : ℕ) (h : List Entry) → fold (λ m e. next_on t m e.what) n h ≤ n + length h
next_from-le t n [] = omega arith
next_from-le t n (e ∷ es) = omega (arith, next_from-le t (next_on t n e.what) es, next_on-le t n e.what)

pub next-le-length : (h : List Entry) (t : ℕ) → next h t ≤ 1 + length h
next-le-length h t = next_from-le t 1 h
