-- What the state knows of a table that is there, and of its parts.
use Rattle.std.proofs.Common.{◌≡◌, ℕ, ◌+◌, ◌<◌, ◌≤◌, ◌^◌, zero, suc, Bool, true, false, List, [], ◌∷◌, ◌++◌, length, map, get_or}
use Rattle.std.proofs.Common.{set, Option, Some, None, refl, sym, ap, subst, ◌∙◌, append_assoc, append-nil, arith}
use Rattle.std.specs.Prelude.{IsTrue, Contains}
use Rattle.std.specs.List.{slice_get, AllZip, AllByRecursion}
use Rattle.std.proofs.lemmas.Option.{slice_get_within, none-some, same_Some}
use Rattle.pj_value.specs.Rows.{KindedRows, HaveKinds}
use Rattle.pj_expr.specs.declared.table.Table.{Table}
use Rattle.pj_expr.specs.Tables.{kinds_of, TableFits}
use Rattle.pj_expr.specs.Parts.{PartRecord}
use Rattle.pj_expr.specs.declared.query.Query.{Query}
use Rattle.pj_answer.specs.Answers.{item_kind, Answers}
use Rattle.pj_part.specs.declared.part.Part.{Part}
use Rattle.pj_part.specs.declared.draft.PartDraft.{PartDraft}
use Rattle.pj_part.specs.Agreement.{Agrees}
use Rattle.pj_build.specs.Living.{AgreesLiving}
use Rattle.pj_exec.specs.Scans.{IsUnmasked, living_rows}
use Rattle.pj_journal.specs.declared.entry.What.{What}
use Rattle.pj_journal.specs.declared.entry.What.TheVariants.{Created, Refused, Looked, Begun, Inserted}
use Rattle.pj_journal.specs.declared.entry.Entry.{Entry}
use Rattle.pj_journal.specs.History.{catalog, catalog_on, next, kinds_at, table_rows, WhatFits}
use Rattle.pj_journal.specs.History.{IsRegularFrom, IsRegular}
use Rattle.pj_journal.specs.Parts.{inserted, parts, PartsHoldTheRows}
use Rattle.pj_server.specs.declared.store.Store.{Store}
use Rattle.pj_server.specs.Store.{IsInserted, IsAppended}
use Rattle.pj_server.specs.State.{PartStands, Stands}
use Rattle.pj_legal.specs.Forms.{entry_of, name_of}
use Rattle.pj_legal.specs.Statements.{Request}
use Rattle.pj_server.specs.Moves.{ChangesNothing}
use Rattle.pj_server.specs.Refusals.{name_of as part_name}
use Rattle.pj_server.proofs.HistoryLemmas.{catalog-push, catalog_on-nothing, parts-push, parts_on-nothing}
use Rattle.pj_server.proofs.HistoryLemmas.{next-le-length}
use Rattle.pj_server.proofs.PartLemmas.{part_stands}
use Rattle.pj_server.proofs.StateLemmas.{Stands-inserted}

-- ---- tables fit

abbrev some : {X : Type 0} → X → Option X
some x = Some x

some_is : {X : Type 0} (x y : X) → some x ≡ some y → x ≡ y
some_is x y e = cc

-- what is at an index of a list
get_or-found : {X : Type 0} (xs : List X) (i : ℕ) (x d : X) → slice_get xs i ≡ Some x → get_or xs i d ≡ x
get_or-found [] i x d h = let no : None ≡ some x = h in cc
get_or-found (y ∷ xs) zero x d h = some_is y x h
get_or-found (y ∷ xs) (suc i) x d h = get_or-found xs i x d h

all-push : {X : Type 0} (P : X → Type 0) (xs : List X) (x : X) → AllByRecursion P xs → P x
    → AllByRecursion P (xs ++ x ∷ [])
all-push P [] x h p = (p, tt)
all-push P (y ∷ xs) x h p = (h.0, all-push P xs x h.1 p)

all-found : {X : Type 0} (P : X → Type 0) (xs : List X) (i : ℕ) (x : X) → AllByRecursion P xs
    → slice_get xs i ≡ Some x → P x
all-found P [] i x h at = let no : None ≡ some x = at in absurd cc
all-found P (y ∷ xs) zero x h at = subst P (some_is y x at) h.0
all-found P (y ∷ xs) (suc i) x h at = all-found P xs i x h.1 at

fits_on : (place : List Entry) (what : What) → AllByRecursion TableFits (catalog place) → WhatFits place what
    → AllByRecursion TableFits (catalog_on (catalog place) what)
fits_on place (Created table) all fits = all-push TableFits (catalog place) table all fits.1
fits_on place Refused all fits = all
fits_on place (Looked table) all fits = all
fits_on place (Begun table) all fits = all
fits_on place (Inserted table block rs) all fits = all

fits_from : (place more : List Entry) → AllByRecursion TableFits (catalog place) → IsRegularFrom place more
    → AllByRecursion TableFits (catalog (place ++ more))
fits_from place [] all h =
    subst (λ p. AllByRecursion TableFits (catalog p)) (sym (append-nil place)) all
fits_from place (e ∷ more) all h =
    subst (λ p. AllByRecursion TableFits (catalog p)) (append_assoc place (e ∷ []) more)
    (fits_from (place ++ e ∷ []) more
    (subst (AllByRecursion TableFits) (sym (catalog-push place e)) (fits_on place e.what all h.0)) h.1)

-- the tables of a regular history fit
pub table_fits : (h : List Entry) (t : ℕ) (table : Table) → IsRegular h → slice_get (catalog h) t ≡ Some table
    → TableFits table
table_fits h t table regular at = all-found TableFits (catalog h) t table (fits_from [] h tt regular) at

-- ---- a table and its store

module _ {B : Type 0} (told : B → Option (List ℕ)) (size : B → ℕ) (h : List Entry) (held : List Table)
    (stores : List (Store B)) (t : ℕ) (table : Table) (at : slice_get (catalog h) t ≡ Some table)
    (s : Stands told size h held stores) where
  -- it is one of the catalog's
  pub table_within : t < length held
  table_within =
      let within = slice_get_within (catalog h) t table at in
      let many = ap length s.tables in omega (arith, within, many)

  -- and has a store
  pub store_within : t < length stores
  store_within = omega (arith, table_within, s.one_each)

  -- what stands there is that table
  pub table_is : (all : List Table) (found : Table) → all ≡ held → found ≡ get_or all t found → found ≡ table
  table_is all found same is =
      is ∙ ap (λ ts. get_or ts t found) (same ∙ s.tables) ∙ get_or-found (catalog h) t table found at

  -- its parts, one for each record
  pub parts_live : (store : Store B) → store ≡ get_or stores t store
      → AllZip (PartStands told size table) store.parts.items (parts h t)
  parts_live store is =
      subst (λ x. AllZip (PartStands told size table) x.parts.items (parts h t)) (sym is)
      ((s.each t store store_within).live table at)

  -- its next number
  pub next_is : (store : Store B) → store ≡ get_or stores t store → store.next ≡ next h t
  next_is store is = ap (λ (x : Store B). x.next) is ∙ (s.each t store store_within).number

  -- is no greater than one more than the entries
  pub next_small : (limit : ℕ) → length h ≤ limit → limit < 2 ^ 32 → (d : Store B)
      → (get_or stores t d).next + 1 < 2 ^ 64
  next_small limit few small d =
      omega (arith, few, small, (s.each t d store_within).number, next-le-length h t)

  -- an INSERT commits the part of its draft
  pub Stands-committed : (e : Entry) (rs : KindedRows) (draft : PartDraft B) (part : Part B) (n : ℕ)
      (d put : Store B)
      → e.what ≡ Inserted t d.next rs → rs.kinds ≡ kinds_of table → HaveKinds rs.kinds rs.rows
      → AgreesLiving told size table rs.rows draft
      → d ≡ get_or stores t d → n ≡ length d.parts.items → IsInserted draft (n + 1) d.next part
      → IsAppended part (get_or stores t d) put
      → Stands told size (h ++ e ∷ []) held (set stores t put)
  Stands-committed e rs draft part n d put is kinds shape living d_is n_is made appended =
      let block = d.next in
      let fits : WhatFits h (Inserted t block rs) = (next_is d d_is, (table, at, kinds), shape) in
      let many : n ≡ length (parts h t) =
      n_is ∙ length_zip d.parts.items (parts h t) (parts_live d d_is) in
      let number : n + 1 ≡ 1 + length (parts h t) = omega (arith, many) in
      Stands-inserted told size h e held stores t block rs part d put is
      (subst (WhatFits h) (sym is) fits) store_within appended
      (λ other is_at.
      subst (λ x. PartStands told size x part (inserted (1 + length (parts h t)) block rs.rows))
      (some_is table other (sym at ∙ is_at))
      (part_stands told size table draft part (1 + length (parts h t)) block rs.rows living
      (subst (λ k. IsInserted draft k block part) number made))) s
    where
      length_zip : (ps : List (Part B)) (rs : List PartRecord) → AllZip (PartStands told size table) ps rs
          → length ps ≡ length rs
      length_zip [] [] all = refl
      length_zip [] (r ∷ rs) all = absurd all
      length_zip (p ∷ ps) [] all = absurd all
      length_zip (p ∷ ps) (r ∷ rs) all = ap suc (length_zip ps rs all.1)

-- ---- parts that a SELECT reads

module _ {B : Type 0} (told : B → Option (List ℕ)) (size : B → ℕ) (table : Table) where
  -- they are formed, and have no mask
  pub all_unmasked : (ps : List (Part B)) (rs : List PartRecord) → AllZip (PartStands told size table) ps rs
      → AllByRecursion (IsUnmasked size table) ps
  all_unmasked [] [] all = tt
  all_unmasked [] (r ∷ rs) all = absurd all
  all_unmasked (p ∷ ps) [] all = absurd all
  all_unmasked (p ∷ ps) (r ∷ rs) all = (
    record { formed = all.0.agrees.laid.formed; unmasked = all.0.unmasked },
    all_unmasked ps rs all.1,
  )

  -- and agree with their records
  pub all_agree : (ps : List (Part B)) (rs : List PartRecord) → AllZip (PartStands told size table) ps rs
      → AllZip (Agrees told size table) ps rs
  all_agree [] [] all = tt
  all_agree [] (r ∷ rs) all = absurd all
  all_agree (p ∷ ps) [] all = absurd all
  all_agree (p ∷ ps) (r ∷ rs) all = (all.0.agrees, all_agree ps rs all.1)

-- a part among them has the name of a record
pub name-there : {B : Type 0} (told : B → Option (List ℕ)) (size : B → ℕ) (table : Table) (ps : List (Part B))
    (rs : List PartRecord) → AllZip (PartStands told size table) ps rs → (i : ℕ) (p : Part B)
    → slice_get ps i ≡ Some p → Contains (map name_of rs) (part_name p)
name-there told size table [] rs all i p at = absurd (none-some p at)
name-there told size table (q ∷ ps) [] all i p at = absurd all
name-there told size table (q ∷ ps) (r ∷ rs) all zero p at =
    let same : q ≡ p = same_Some _ _ at in
    let agrees = all.0.agrees in (
      0,
      omega arith,
      (λ k. record {
        min = sym agrees.min k;
        max = sym agrees.max k;
        level = sym agrees.level k;
        field = sym agrees.field k;
      }) ∙ ap part_name same,
    )
name-there told size table (q ∷ ps) (r ∷ rs) all (suc i) p at =
    let rest = name-there told size table ps rs all.1 i p at in
    (suc rest.0, omega (arith, rest.1), rest.2)

-- the living rows of the records of a table are its rows
pub living_rows-table : PartsHoldTheRows → (h : List Entry) (t : ℕ) (table : Table)
    → slice_get (catalog h) t ≡ Some table → living_rows table (parts h t) ≡ table_rows h t
living_rows-table law h t table at =
    let kinds : kinds_of table ≡ kinds_at (slice_get (catalog h) t) = ap kinds_at (sym at) in
    λ i. record { kinds = kinds i; rows = law h t i }

-- ---- a move that changed nothing

-- the tables are as before
pub catalog-noted : (h g : List Entry) (e : Entry) → g ≡ h ++ e ∷ [] → ChangesNothing e.what
    → catalog g ≡ catalog h
catalog-noted h g e grown nothing =
    ap catalog grown ∙ catalog-push h e ∙ catalog_on-nothing (catalog h) e.what nothing

-- a SELECT looked at a table that is there
pub looked_table : (a h : List Entry) (request : Request) (t : ℕ) (table : Table)
    → h ≡ a ++ entry_of request (Looked t) ∷ [] → slice_get (catalog a) t ≡ Some table
    → slice_get (catalog h) t ≡ Some table
looked_table a h request t table grown at =
    ap (λ ts. slice_get ts t) (catalog-noted a h (entry_of request (Looked t)) grown tt) ∙ at

-- and the records
pub parts-noted : (h g : List Entry) (e : Entry) (t : ℕ) → g ≡ h ++ e ∷ [] → ChangesNothing e.what
    → parts g t ≡ parts h t
parts-noted h g e t grown nothing =
    ap (λ x. parts x t) grown ∙ parts-push h e t ∙ parts_on-nothing t (parts h t) e.what nothing

-- the parts that stand in the place of others agree as well, for the table that stands in the place of another
pub all_agree_with : {B : Type 0} (told : B → Option (List ℕ)) (size : B → ℕ) (table found : Table)
    (ps qs : List (Part B)) (rs : List PartRecord) → found ≡ table → qs ≡ ps
    → AllZip (PartStands told size table) ps rs → AllZip (Agrees told size found) qs rs
all_agree_with told size table found ps qs rs same parts_are all =
    subst (λ x. AllZip (Agrees told size x) qs rs) (sym same)
    (subst (λ xs. AllZip (Agrees told size table) xs rs) (sym parts_are) (all_agree told size table ps rs all))

-- a right answer over the living rows of a table's parts is one over the table, whose rows stay at a look
pub read_rightly : PartsHoldTheRows → (a h : List Entry) (request : Request) (t : ℕ) (table found : Table)
    (q : Query) (out : KindedRows)
    → h ≡ a ++ entry_of request (Looked t) ∷ [] → slice_get (catalog a) t ≡ Some table → found ≡ table
    → Answers q (living_rows found (parts h t)) out → Answers q (table_rows a t) out
read_rightly law a h request t table found q out grown at same right =
    let records : parts h t ≡ parts a t = parts-noted a h (entry_of request (Looked t)) t grown tt in
    let held : living_rows found (parts h t) ≡ table_rows a t =
    (λ i. living_rows (same i) (records i)) ∙ living_rows-table law a t table at in
    subst (λ xs. Answers q xs out) held right

-- the kinds of what a query gives over a table are those that its items have at the place of the look
pub kinds_rightly : (a : List Entry) (t : ℕ) (table found : Table) (q : Query) (out : KindedRows)
    → slice_get (catalog a) t ≡ Some table → found ≡ table
    → out.kinds ≡ map (item_kind (kinds_of found)) q.items
    → out.kinds ≡ map (item_kind (table_rows a t).kinds) q.items
kinds_rightly a t table found q out at same kinds =
    let held : kinds_of found ≡ (table_rows a t).kinds = ap kinds_of same ∙ ap kinds_at (sym at) in
    kinds ∙ ap (λ ks. map (item_kind ks) q.items) held

-- blobs that don't tell their bytes
pub untold : (b : Bool) → (IsTrue b → ⊥) → b ≡ false
untold true no_way = absurd (no_way refl)
untold false no_way = refl
