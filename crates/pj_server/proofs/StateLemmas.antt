-- The state stands for its history after each kind of move.
use Rattle.std.proofs.Common.{◌≡◌, ℕ, ◌+◌, ◌<◌, zero, suc, List, [], ◌∷◌, ◌++◌, length, get_or}
use Rattle.std.proofs.Common.{set, Option, Some, refl, sym, ap, subst, ◌∙◌, inl, inr, arith}
use Rattle.std.specs.List.{slice_get, AllZip}
use Rattle.std.proofs.lemmas.Bool.{cases_lt, cases_eq}
use Rattle.std.proofs.lemmas.List.{get_or_append_left, get_or_push, length_push, length-set}
use Rattle.std.proofs.lemmas.List.{get_or-set_same, get_or-set_other}
use Rattle.std.proofs.lemmas.Slice.Zip.{all_zipped_more}
use Rattle.pj_value.specs.Rows.{KindedRows}
use Rattle.pj_expr.specs.declared.table.Table.{Table}
use Rattle.pj_expr.specs.Parts.{PartRecord}
use Rattle.pj_part.specs.declared.part.Part.{Part}
use Rattle.pj_journal.specs.declared.entry.What.TheVariants.{Created, Inserted}
use Rattle.pj_journal.specs.declared.entry.Entry.{Entry}
use Rattle.pj_journal.specs.History.{catalog, catalog_on, next, next_on, WhatFits, IsRegular}
use Rattle.pj_journal.specs.Parts.{inserted, parts, parts_on}
use Rattle.pj_server.specs.declared.store.Store.{Store}
use Rattle.pj_server.specs.Store.{IsAppended, IsSame}
use Rattle.pj_server.specs.State.{PartStands, StoreStands, Stands}
use Rattle.pj_server.specs.Moves.{ChangesNothing}
use Rattle.pj_server.proofs.HistoryLemmas.{IsRegular-push, catalog-push, parts-push}
use Rattle.pj_server.proofs.HistoryLemmas.{next-push, catalog_on-nothing, parts_on-nothing}
use Rattle.pj_server.proofs.HistoryLemmas.{next_on-nothing, parts-inserted_same, parts-inserted_other}
use Rattle.pj_server.proofs.HistoryLemmas.{next-inserted_same, next-inserted_other}

slice_get-push_below : {X : Type 0} (xs : List X) (y : X) (i : ℕ) → i < length xs
    → slice_get (xs ++ y ∷ []) i ≡ slice_get xs i
slice_get-push_below [] y i lt = absurd (omega arith)
slice_get-push_below (x ∷ xs) y zero lt = refl
slice_get-push_below (x ∷ xs) y (suc i) lt = slice_get-push_below xs y i (omega arith)

module _ {B : Type 0} (told : B → Option (List ℕ)) (size : B → ℕ) where
  -- parts stand for their records, where those are equal
  AllZip-same : (table : Table) (ps qs : List (Part B)) (rs ss : List PartRecord) → qs ≡ ps → ss ≡ rs
      → AllZip (PartStands told size table) ps rs → AllZip (PartStands told size table) qs ss
  AllZip-same table ps qs rs ss parts_are records_are all =
      subst (λ xs. AllZip (PartStands told size table) xs ss) (sym parts_are)
      (subst (λ ys. AllZip (PartStands told size table) ps ys) (sym records_are) all)

  -- a store stands for a longer history that changed nothing of its table
  StoreStands-same : (h g : List Entry) (t : ℕ) (store : Store B)
      → ((table : Table) → slice_get (catalog g) t ≡ Some table → slice_get (catalog h) t ≡ Some table)
      → parts g t ≡ parts h t → next g t ≡ next h t
      → StoreStands told size h t store → StoreStands told size g t store
  StoreStands-same h g t store same_table same_parts same_next s = record {
    live = λ table at.
        AllZip-same table store.parts.items store.parts.items (parts h t) (parts g t) refl same_parts
        (s.live table (same_table table at));
    number = s.number ∙ sym same_next;
  }

  -- nothing that the state holds has changed
  pub Stands-same : (h g : List Entry) (held : List Table) (stores : List (Store B)) → catalog g ≡ catalog h
      → ((t : ℕ) → parts g t ≡ parts h t) → ((t : ℕ) → next g t ≡ next h t) → IsRegular g
      → Stands told size h held stores → Stands told size g held stores
  Stands-same h g held stores same_tables same_parts same_next regular s = record {
    regular = regular;
    tables = s.tables ∙ sym same_tables;
    one_each = s.one_each;
    each = λ t d lt.
        StoreStands-same h g t (get_or stores t d) (λ table at. ap (λ ts. slice_get ts t) (sym same_tables) ∙ at)
        (same_parts t) (same_next t) (s.each t d lt);
    later = λ t le. (same_parts t ∙ (s.later t le).0, same_next t ∙ (s.later t le).1);
  }

  pub Stands-noted : (h : List Entry) (e : Entry) (held : List Table) (stores : List (Store B))
      → ChangesNothing e.what → WhatFits h e.what
      → Stands told size h held stores → Stands told size (h ++ e ∷ []) held stores
  Stands-noted h e held stores nothing fits s =
      Stands-same h (h ++ e ∷ []) held stores
      (catalog-push h e ∙ catalog_on-nothing (catalog h) e.what nothing)
      (λ t. parts-push h e t ∙ parts_on-nothing t (parts h t) e.what nothing)
      (λ t. next-push h e t ∙ next_on-nothing t (next h t) e.what nothing)
      (IsRegular-push h e s.regular fits) s

  -- a table was created, and its store has no part
  pub Stands-created : (h : List Entry) (e : Entry) (held : List Table) (stores : List (Store B)) (table : Table)
      (store : Store B)
      → e.what ≡ Created table → WhatFits h e.what
      → store.parts.items ≡ [] → store.next ≡ 1 → Stands told size h held stores
      → Stands told size (h ++ e ∷ []) (held ++ table ∷ []) (stores ++ store ∷ [])
  Stands-created h e held stores table store is fits empty first s =
      let tables : catalog (h ++ e ∷ []) ≡ catalog h ++ table ∷ [] =
      catalog-push h e ∙ ap (catalog_on (catalog h)) is in
      let same_parts : (t : ℕ) → parts (h ++ e ∷ []) t ≡ parts h t =
      λ t. parts-push h e t ∙ ap (parts_on t (parts h t)) is in
      let same_next : (t : ℕ) → next (h ++ e ∷ []) t ≡ next h t =
      λ t. next-push h e t ∙ ap (next_on t (next h t)) is in
      let many : length held ≡ length (catalog h) = ap length s.tables in
      let counts : length (stores ++ store ∷ []) ≡ length (held ++ table ∷ []) =
      omega (arith, length_push stores store, length_push held table, s.one_each) in
      record {
        regular = IsRegular-push h e s.regular fits;
        tables = ap (λ ts. ts ++ table ∷ []) s.tables ∙ sym tables;
        one_each = counts;
        each = λ t d lt. elim (cases_lt t (length stores)) [
          | inl below ↦
              let at : get_or (stores ++ store ∷ []) t d ≡ get_or stores t d =
              get_or_append_left stores (store ∷ []) d t below in
              subst (StoreStands told size (h ++ e ∷ []) t) (sym at)
              (StoreStands-same h (h ++ e ∷ []) t (get_or stores t d)
              (λ other is_at. sym (slice_get-push_below (catalog h) table t (omega (arith, many, s.one_each)))
              ∙ ap (λ ts. slice_get ts t) (sym tables) ∙ is_at)
              (same_parts t) (same_next t) (s.each t d below))
          | inr past ↦
              let there : t ≡ length stores = omega (arith, length_push stores store) in
              let at : get_or (stores ++ store ∷ []) t d ≡ store = get_or_push stores store d t (sym there) in
              let none = s.later t (omega (arith, s.one_each)) in
              subst (StoreStands told size (h ++ e ∷ []) t) (sym at) (record {
                live = λ other is_at.
                    AllZip-same other [] store.parts.items [] (parts (h ++ e ∷ []) t) empty
                    (same_parts t ∙ none.0) tt;
                number = first ∙ sym (same_next t ∙ none.1);
              })
        ];
        later =
            λ t le. let none =
            s.later t (omega (arith, length_push held table)) in
            (same_parts t ∙ none.0, same_next t ∙ none.1);
      }

  -- a store was put in the place of that of a table, which it stands for as well
  pub Stands-put : (h : List Entry) (held : List Table) (stores : List (Store B)) (t : ℕ) (d put : Store B)
      → t < length stores → IsSame (get_or stores t d) put → Stands told size h held stores
      → Stands told size h held (set stores t put)
  Stands-put h held stores t d put there same s = record {
    regular = s.regular;
    tables = s.tables;
    one_each = length-set stores t put ∙ s.one_each;
    each = λ k c lt. elim (cases_eq k t) [
      | inl is ↦
          let one = s.each t d there in
          let at : get_or (set stores t put) k c ≡ put =
          ap (λ i. get_or (set stores t put) i c) is ∙ get_or-set_same stores t put c there in
          let stands : StoreStands told size h t put = record {
            live = λ table is_at.
                AllZip-same table (get_or stores t d).parts.items put.parts.items (parts h t) (parts h t)
                same.parts_are refl (one.live table is_at);
            number = same.next_is ∙ one.number;
          } in
          rw (at, is) stands
      | inr other ↦
          let at : get_or (set stores t put) k c ≡ get_or stores k c =
          get_or-set_other stores t k put c other in
          subst (StoreStands told size h k) (sym at) (s.each k c (omega (arith, length-set stores t put)))
    ];
    later = s.later;
  }

  -- rows were inserted into a table, and a part agrees with the record that they make
  pub Stands-inserted : (h : List Entry) (e : Entry) (held : List Table) (stores : List (Store B)) (t block : ℕ)
      (rs : KindedRows) (part : Part B) (d put : Store B)
      → e.what ≡ Inserted t block rs → WhatFits h e.what
      → t < length stores → IsAppended part (get_or stores t d) put
      → ((table : Table) → slice_get (catalog h) t ≡ Some table
      → PartStands told size table part (inserted (1 + length (parts h t)) block rs.rows))
      → Stands told size h held stores → Stands told size (h ++ e ∷ []) held (set stores t put)
  Stands-inserted h e held stores t block rs part d put is fits there appended fresh s =
      let tables : catalog (h ++ e ∷ []) ≡ catalog h = catalog-push h e ∙ ap (catalog_on (catalog h)) is in
      let before : (k : ℕ) (table : Table) → slice_get (catalog (h ++ e ∷ [])) k ≡ Some table
      → slice_get (catalog h) k ≡ Some table =
      λ k table at. ap (λ ts. slice_get ts k) (sym tables) ∙ at in
      let made = inserted (1 + length (parts h t)) block rs.rows in
      record {
        regular = IsRegular-push h e s.regular fits;
        tables = s.tables ∙ sym tables;
        one_each = length-set stores t put ∙ s.one_each;
        each = λ k c lt. elim (cases_eq k t) [
          | inl same ↦
              let one = s.each t d there in
              let at : get_or (set stores t put) k c ≡ put =
              ap (λ i. get_or (set stores t put) i c) same ∙ get_or-set_same stores t put c there in
              let stands : StoreStands told size (h ++ e ∷ []) t put = record {
                live = λ table is_at.
                    AllZip-same table ((get_or stores t d).parts.items ++ part ∷ []) put.parts.items
                    (parts h t ++ made ∷ []) (parts (h ++ e ∷ []) t) appended.parts_are
                    (parts-inserted_same h e t block rs is)
                    (all_zipped_more (PartStands told size table) (get_or stores t d).parts.items (parts h t) part made
                    (one.live table (before t table is_at)) (fresh table (before t table is_at)));
                number = appended.next_is ∙ ap (λ n. n + 1) one.number ∙ sym (next-inserted_same h e t block rs is);
              } in
              rw (at, same) stands
          | inr other ↦
              let at : get_or (set stores t put) k c ≡ get_or stores k c =
              get_or-set_other stores t k put c other in
              let apart : t ≡ k → ⊥ = λ e'. other (sym e') in
              subst (StoreStands told size (h ++ e ∷ []) k) (sym at)
              (StoreStands-same h (h ++ e ∷ []) k (get_or stores k c) (before k)
              (parts-inserted_other h e k t block rs is apart)
              (next-inserted_other h e k t block rs is apart)
              (s.each k c (omega (arith, length-set stores t put))))
        ];
        later = λ k le.
            let none = s.later k le in
            let apart : t ≡ k → ⊥ = λ e'. absurd (omega (arith, s.one_each)) in (
              parts-inserted_other h e k t block rs is apart ∙ none.0,
              next-inserted_other h e k t block rs is apart ∙ none.1,
            );
      }
