-- A history that is written entry by entry, with the names of its tables so far.
use Rattle.std.proofs.Common.{◌≡◌, ℕ, ◌+◌, ◌<◌, List, [], ◌∷◌, ◌++◌, length, take}
use Rattle.std.proofs.Common.{get_or, refl, sym, ◌∙◌, ap, append_assoc, arith}
use Rattle.std.proofs.lemmas.List.{append-nil, map_push, take_more, length-take-le}
use Rattle.std.proofs.lemmas.List.Sums.{fold-append}
use Rattle.pj_expr.specs.declared.table.Table.{Table}
use Rattle.pj_journal.specs.declared.entry.What.{What}
use Rattle.pj_journal.specs.declared.entry.What.TheVariants as whats
use Rattle.pj_journal.specs.declared.entry.Entry.{Entry}
use Rattle.pj_journal.specs.History.{catalog, catalog_on}
use Rattle.pj_expr.specs.Tables.{names}
use Rattle.pj_legal.specs.Texts.{entry_text, entries_text}

-- one more entry
catalog-push : (h : List Entry) (entry : Entry)
    → catalog (h ++ entry ∷ []) ≡ catalog_on (catalog h) entry.what
catalog-push h entry =
    fold-append (λ (tables : List Table) (e : Entry). catalog_on tables e.what) [] h (entry ∷ [])

-- one more entry that isn't `Created`
catalog_on-other : (tables : List Table) (what : What) → ((table : Table) → what ≡ whats.Created table → ⊥)
    → catalog_on tables what ≡ tables
catalog_on-other tables (whats.Created table) other = absurd (other table refl)
catalog_on-other tables whats.Refused other = refl
catalog_on-other tables (whats.Looked table) other = refl
catalog_on-other tables (whats.Begun table) other = refl
catalog_on-other tables (whats.Inserted table block rows) other = refl

-- one more entry behind others
entries_text-push : (sessions : List (List ℕ)) (place h : List Entry) (entry : Entry)
    → entries_text sessions place (h ++ entry ∷ [])
    ≡ entries_text sessions place h ++ entry_text sessions (length (place ++ h) + 1)
    (names (catalog (place ++ h))) entry
entries_text-push sessions place [] entry =
    let at : List Entry → List ℕ = λ p. entry_text sessions (length p + 1) (names (catalog p)) entry in
    append-nil (at place) ∙ ap at (sym (append-nil place))
entries_text-push sessions place (first ∷ h) entry =
    let at : List Entry → List ℕ = λ p. entry_text sessions (length p + 1) (names (catalog p)) entry in
    let line : List ℕ = entry_text sessions (length place + 1) (names (catalog place)) first in
    let rest : List ℕ = entries_text sessions (place ++ first ∷ []) h in
    ap (λ (text : List ℕ). line ++ text) (entries_text-push sessions (place ++ first ∷ []) h entry)
    ∙ sym (append_assoc line rest (at ((place ++ first ∷ []) ++ h)))
    ∙ ap (λ (p : List Entry). (line ++ rest) ++ at p) (append_assoc place (first ∷ []) h)

-- the entries up to one more
pub entries_text-more : (sessions : List (List ℕ)) (h : List Entry) (i : ℕ) (entry : Entry) → i < length h
    → entry ≡ get_or h i entry
    → entries_text sessions [] (take (i + 1) h)
    ≡ entries_text sessions [] (take i h) ++ entry_text sessions (i + 1) (names (catalog (take i h))) entry
entries_text-more sessions h i entry within read =
    let split : take (i + 1) h ≡ take i h ++ entry ∷ [] =
    take_more h i entry within ∙ ap (λ (e : Entry). take i h ++ e ∷ []) (sym read) in
    ap (entries_text sessions []) split ∙ entries_text-push sessions [] (take i h) entry
    ∙ ap (λ (n : ℕ). entries_text sessions [] (take i h) ++ entry_text sessions (n + 1)
    (names (catalog (take i h))) entry)
    (length-take-le i h (omega arith))

-- the catalog up to one more
catalog-more : (h : List Entry) (i : ℕ) (entry : Entry) → i < length h → entry ≡ get_or h i entry
    → catalog (take (i + 1) h) ≡ catalog_on (catalog (take i h)) entry.what
catalog-more h i entry within read =
    let split : take (i + 1) h ≡ take i h ++ entry ∷ [] =
    take_more h i entry within ∙ ap (λ (e : Entry). take i h ++ e ∷ []) (sym read) in
    ap catalog split ∙ catalog-push (take i h) entry

-- the names of the tables up to one more that is `Created`
pub names-created : (h : List Entry) (i : ℕ) (entry : Entry) (table : Table) → i < length h
    → entry ≡ get_or h i entry → entry.what ≡ whats.Created table
    → names (catalog (take (i + 1) h)) ≡ names (catalog (take i h)) ++ table.name ∷ []
names-created h i entry table within read created =
    ap names (catalog-more h i entry within read ∙ ap (catalog_on (catalog (take i h))) created)
    ∙ map_push (λ (t : Table). t.name) (catalog (take i h)) table

-- the names of the tables up to one more that isn't
pub names-other : (h : List Entry) (i : ℕ) (entry : Entry) → i < length h → entry ≡ get_or h i entry
    → ((table : Table) → entry.what ≡ whats.Created table → ⊥)
    → names (catalog (take (i + 1) h)) ≡ names (catalog (take i h))
names-other h i entry within read other =
    ap names (catalog-more h i entry within read ∙ catalog_on-other (catalog (take i h)) entry.what other)
