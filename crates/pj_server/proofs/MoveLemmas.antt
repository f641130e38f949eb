-- From what a body means to what its moves are.
use Rattle.std.proofs.Common.{◌≡◌, ℕ, ◌+◌, ◌<◌, Bool, true, false, List, [], ◌∷◌, ◌++◌, length, map, Option, Some, None}
use Rattle.std.proofs.Common.{Result, Ok, Err, refl}
use Rattle.std.proofs.Common.{sym, ap, subst, ◌∙◌, inl, inr, append_assoc, append-nil, arith}
use Rattle.std.specs.Prelude.{IfOk, IfErr, OnOk, Contains, slice_get}
use Rattle.std.specs.List.{AllByRecursion}
use Rattle.std.proofs.lemmas.List.{length_push}
use Rattle.std.proofs.lemmas.Option.{same_Some}
use Rattle.pj_value.specs.declared.value.Value.{Value}
use Rattle.pj_value.specs.Rows.{KindedRows, HaveKinds}
use Rattle.pj_grammar.specs.declared.types.Statement.{Statement}
use Rattle.pj_grammar.specs.declared.types.Statement.TheVariants as statements
use Rattle.pj_grammar.specs.declared.types.TreeSelect.{TreeSelect}
use Rattle.pj_expr.specs.declared.query.Query.{Query}
use Rattle.pj_expr.specs.declared.table.ColumnDef.{ColumnDef}
use Rattle.pj_expr.specs.declared.table.Table.{Table}
use Rattle.pj_expr.specs.Tables.{kinds_of}
use Rattle.pj_expr.specs.Fits.{FitsQuery}
use Rattle.pj_journal.specs.declared.entry.What.{What}
use Rattle.pj_journal.specs.declared.entry.What.TheVariants as whats
use Rattle.pj_journal.specs.declared.entry.Entry.{Entry}
use Rattle.pj_journal.specs.History.{catalog, table_rows}
use Rattle.pj_journal.specs.Log.{Log, IsFull}
use Rattle.pj_journal.specs.Moves.{moves_from}
use Rattle.pj_journal.specs.Parts.{parts}
use Rattle.pj_bind.specs.declared.types.Bound.{Bound}
use Rattle.pj_bind.specs.declared.types.Bound.TheVariants as bounds
use Rattle.pj_bind.specs.declared.types.LimitName.TheVariants.{History}
use Rattle.pj_bind.specs.declared.types.Refusal.{Refusal}
use Rattle.pj_bind.specs.declared.types.Refusal.TheVariants as refusals
use Rattle.pj_bind.specs.declared.types.SourceName.TheVariants.{Base}
use Rattle.pj_bind.specs.declared.binding.BindFault.{BindFault}
use Rattle.pj_bind.specs.declared.binding.BindFault.TheVariants as faults
use Rattle.pj_legal.specs.declared.reply.Reply.{Reply}
use Rattle.pj_legal.specs.declared.reply.Reply.TheVariants as replies
use Rattle.pj_answer.specs.Answers.{item_kind, Answers}
use Rattle.pj_bind.specs.Built.{IsBuilt}
use Rattle.pj_bind.specs.Filling.{column_kinds, filled_row, FillsRow, FillColumns, filled_rows}
use Rattle.pj_grammar.specs.Lexemes.{Lexeme, lexemes}
use Rattle.pj_grammar.specs.grammar.Statements.{IsStatement}
use Rattle.pj_bind.specs.Tables.{table_of}
use Rattle.pj_bind.specs.Laws.{BoundTablesFit}
use Rattle.pj_bind.specs.Binding.{Asks, IsBound, IsRefusal}
use Rattle.pj_bind.specs.Faults.{IsBindFault}
use Rattle.pj_legal.specs.Bodies.{BodyReads, BodyBinds, IsBodyRefusal}
use Rattle.pj_legal.specs.Laws.{HistoryRefusesNoBody}
use Rattle.pj_legal.specs.Statements.{Request, whole}
use Rattle.pj_legal.specs.Forms.{Course, entry_of, no_memory, history_full, store_fault, BoundForm, Form}
use Rattle.pj_legal.specs.Forms.{StopsAfter, MayFail, MovesOn, name_of}
use Rattle.pj_legal.specs.Full.{HasNext}
use Rattle.pj_legal.specs.Run.{IsStep, course}
use Rattle.pj_server.specs.declared.server.By.{By}
use Rattle.pj_part.specs.declared.part.Part.{Part}
use Rattle.pj_exec.specs.declared.fault.SelectFault.{SelectFault}
use Rattle.pj_exec.specs.declared.fault.SelectFault.TheVariants as select_faults
use Rattle.pj_server.specs.Refusals.{name_of as part_name, IsRefusalFor}
use Rattle.pj_server.specs.Moves.{request_of, Adds, BoundFits, BoundStops, Fills, BoundDone}
use Rattle.pj_server.specs.Moves.{Does, Serves, ChangesNothing, IsReadFault}
use Rattle.pj_server.proofs.HistoryLemmas.{catalog-push, catalog_on-nothing}

-- the rows that fill columns have their kinds
filled_kinds : (columns : List ColumnDef) (listed : Option (List (List ℕ))) (rows : List (List Value))
    → FillColumns columns listed rows
    → HaveKinds (column_kinds columns) (filled_rows columns listed rows)
filled_kinds columns None rows fill = fill
filled_kinds columns (Some names) rows fill = each rows fill
  where
    each : (rows : List (List Value)) → AllByRecursion (FillsRow columns names) rows
        → HaveKinds (column_kinds columns) (map (filled_row columns names) rows)
    each [] a = tt
    each (row ∷ rows) a = (a.0.of_kinds, each rows a.1)

-- the query that a SELECT asks for fits its table
asks_fits : (table : Table) (select : TreeSelect) (query : Query) → Asks table select query
    → FitsQuery (kinds_of table) query
asks_fits table select query asks = record { kinds = asks.kinds.kept; groups = asks.groups }

bound_fits : BoundTablesFit → (ts : List Lexeme) (tables : List Table) (statement : Statement) (bound : Bound)
    → IsStatement ts statement → IsBound tables statement bound → BoundFits tables bound
bound_fits fit ts tables (statements.Create name columns projections key settings) bound line (can, is) =
    let table = table_of name columns key settings in
    subst (BoundFits tables) (sym is) (
      can.room.unknown,
      can.room.tables_left,
      fit ts (statements.Create name columns projections key settings) tables table line (can, refl),
    )
bound_fits fit ts tables (statements.Insert name columns rows) bound line
    (place, table, at, named, fill, is) =
    subst (BoundFits tables) (sym is) ((table, at.0, refl), filled_kinds table.columns columns rows fill)
bound_fits fit ts tables (statements.Select select) bound line (place, table, at, (query, asks, is)) =
    subst (BoundFits tables) (sym is) (table, at.0, asks_fits table select query asks)
bound_fits fit ts tables (statements.Explain select) bound line h = absurd h
bound_fits fit ts tables (statements.Delete name filter sets) bound line h = absurd h
bound_fits fit ts tables (statements.Alter name action sets) bound line h = absurd h
bound_fits fit ts tables (statements.Optimize name) bound line h = absurd h
bound_fits fit ts tables (statements.Set sets) bound line h = absurd h
bound_fits fit ts tables (statements.Merge name) bound line h = absurd h
bound_fits fit ts tables (statements.Mutate name) bound line h = absurd h

pub body_fits : BoundTablesFit → (tables : List Table) (body : List ℕ) (bound : Bound)
    → BodyBinds tables body bound → BoundFits tables bound
body_fits fit tables body bound h =
    bound_fits fit (lexemes body h.1.tokens) tables h.0 bound h.1.spelled h.3

-- what was read is bound, or refused, for the tables that the history leaves
pub read_binds : (held tables : List Table) (body : List ℕ) (statement : Statement)
    (r : Result Bound BindFault) → held ≡ tables → BodyReads body statement
    → OnOk r (IsBuilt statement) → IfOk r (IsBound held statement) → IfOk r (BodyBinds tables body)
read_binds held tables body statement (Ok bound) same reads built h =
    (statement, reads, built, subst (λ ts. IsBound ts statement bound) same h)
read_binds held tables body statement (Err fault) same reads built h = tt

pub read_refuses : (held tables : List Table) (body : List ℕ) (statement : Statement)
    (r : Result Bound BindFault) → held ≡ tables → BodyReads body statement
    → IfErr r (IsBindFault held statement) → IfErr r (IsReadFault tables body)
read_refuses held tables body statement (Ok bound) same reads h = tt
read_refuses held tables body statement (Err (faults.Refused refusal)) same reads h =
    inr (statement, reads, subst (λ ts. IsRefusal ts statement refusal) same h)
read_refuses held tables body statement (Err faults.NoMemory) same reads h = tt

-- ---- moves one after the other

pub Adds-nil : (log : Log) → Adds log log []
Adds-nil log = record { grown = sym (append-nil log.entries); limit = refl }

pub Adds-trans : (a b c : Log) (xs ys : List Entry) → Adds a b xs → Adds b c ys → Adds a c (xs ++ ys)
Adds-trans a b c xs ys p q =
    record {
      grown = q.grown ∙ ap (λ es. es ++ ys) p.grown ∙ append_assoc a.entries xs ys;
      limit = q.limit ∙ p.limit;
    }

pub entries-nil : (a b : Log) → Adds a b [] → b.entries ≡ a.entries
entries-nil a b p = p.grown ∙ append-nil a.entries

-- a statement that begins when nothing was added yet
pub Serves-after : (told : Bool) (a b c : Log) (request : Request) (reply : Reply) → Adds a b []
    → Serves told b c request reply → Serves told a c request reply
Serves-after told a b c request reply none h =
    let same = entries-nil a b none in (
      h.0,
      Adds-trans a b c [] h.0 none h.1,
      subst (λ es. IsStep told a.limit es request h.0 reply) same
          (subst (λ l. IsStep told l b.entries request h.0 reply) none.limit h.2),
    )

-- ---- statements that stop before their first move, or are refused by it

no_memory-full : no_memory ≡ history_full → ⊥
no_memory-full same = cc

-- out of memory, though the journal has room
pub serves_no_memory : (told : Bool) (a b : Log) (request : Request) → Adds a b [] → (IsFull a → ⊥)
    → Serves told a b request no_memory
serves_no_memory told a b request none room = (
  [],
  none,
  record {
    form = inr (inr (inl (record { stopped = inl refl; reply = refl })));
    full = λ same. absurd (no_memory-full same);
    always = λ full next. absurd (room (omega (arith, full)));
  },
)

-- a journal with room isn't full
pub below-full : (a : Log) → length a.entries < a.limit → IsFull a → ⊥
below-full a below full = omega arith

pub serves_full : (told : Bool) (a b : Log) (request : Request) → Adds a b [] → IsFull a
    → Serves told a b request history_full
serves_full told a b request none full = (
  [],
  none,
  record {
    form = inr (inr (inr (inl (record { stopped = inl refl; reply = refl }))));
    full = λ same. omega (arith, full);
    always = λ fills next. refl;
  },
)

pub serves_refusal : HistoryRefusesNoBody → (told : Bool) (a b : Log) (request : Request) (refusal : Refusal)
    → IsBodyRefusal (catalog a.entries) request.body refusal → Adds a b (entry_of request whats.Refused ∷ [])
    → Serves told a b request (replies.Refused refusal)
serves_refusal never told a b request refusal refused adds = (
  entry_of request whats.Refused ∷ [],
  adds,
  record {
    form = inl (record {
      place = a.entries;
      refusal = refusal;
      cause = refused;
      moves = refl;
      reply = refl;
    });
    full = λ same. absurd (never (catalog a.entries) request.body
        (subst (IsBodyRefusal (catalog a.entries) request.body) (is_limit refusal same) refused));
    always = λ fills next. absurd next;
  },
)
  where
    is_limit : (r : Refusal) → replies.Refused r ≡ history_full → r ≡ refusals.Limit History
    is_limit r same = cc

-- ---- bound statements

-- the moves don't tell the body
same_form : (told : Bool) (place : List Entry) (line session : ℕ) (one other : List ℕ) (bound : Bound)
    (went : Course)
    → BoundForm told place (whole line session one) bound went
    → BoundForm told place (whole line session other) bound went
same_form told place line session one other (bounds.Create table) went h = h
same_form told place line session one other (bounds.Insert table rs) went h = h
same_form told place line session one other (bounds.Select table query) went h = h

stops_after : (sort : Bound → What → Type 0) (place : List Entry) (request : Request) (bound : Bound)
    (added : List Entry) (reply : Reply)
    → BodyBinds (catalog place) request.body bound → BoundStops sort request bound added
    → StopsAfter sort request (course place added reply)
stops_after sort place request bound added reply binds (inl none) = inl (ap (moves_from place) none)
stops_after sort place request bound added reply binds (inr one) =
    inr (place, bound, one.0, binds, one.1, ap (moves_from place) one.2)

-- what a bound statement did is the form of its body
form_of_bound : (told : Bool) (old : Log) (by : By) (body : List ℕ) (bound : Bound) (added : List Entry)
    (reply : Reply)
    → BodyBinds (catalog old.entries) body bound → BoundDone told old (request_of by) bound added reply
    → Form told (whole by.line by.session body) (course old.entries added reply)
form_of_bound told old by body bound added reply binds (inl done) =
    inr (inl (record {
      place = old.entries;
      bound = bound;
      binds = binds;
      form = same_form told old.entries by.line by.session [] body bound (course old.entries added reply) done;
    }))
form_of_bound told old by body bound added reply binds (inr (inl early)) =
    inr (inr (inl (record {
      stopped =
          stops_after MayFail old.entries (whole by.line by.session body) bound added reply binds early.1;
      reply = ap Some early.0;
    })))
form_of_bound told old by body bound added reply binds (inr (inr (inl early))) =
    inr (inr (inr (inl (record {
      stopped =
          stops_after MovesOn old.entries (whole by.line by.session body) bound added reply binds early.1;
      reply = ap Some early.0;
    }))))
form_of_bound told old by body bound added reply binds (inr (inr (inr (inl early)))) =
    inr (inr (inr (inr (inl (record {
      stopped = (old.entries, bound, early.1.0, binds, early.1.1, ap (moves_from old.entries) early.1.2);
      reply = ap Some early.0;
    })))))
form_of_bound told old by body bound added reply binds (inr (inr (inr (inr met)))) =
    inr (inr (inr (inr (inr (inl (record {
      untold = met.untold;
      place = old.entries;
      table = met.table;
      query = met.query;
      binds = subst (BodyBinds (catalog old.entries) body) met.bound_is binds;
      moves = ap (moves_from old.entries) met.moves;
      part = met.part;
      there = met.there;
      column = met.column;
      granule = met.granule;
      at = met.at;
      reply = ap Some met.reply_is;
    }))))))

-- one that is done tells no full journal
done_not_full : (told : Bool) (place : List Entry) (request : Request) (bound : Bound) (added : List Entry)
    (reply : Reply)
    → BoundForm told place request bound (course place added reply) → reply ≡ history_full → ⊥
done_not_full told place request (bounds.Create table) added reply form same =
    let is : reply ≡ replies.Done = same_Some _ _ form.1 in cc
done_not_full told place request (bounds.Insert table rs) added reply form same =
    let is : reply ≡ replies.Done = same_Some _ _ form.3 in cc
done_not_full told place request (bounds.Select table query) added reply form same =
    let is : reply ≡ replies.Rows form.0 = same_Some _ _ form.4 in cc

-- and has no move to make
done_no_next : (told : Bool) (place : List Entry) (request : Request) (bound : Bound) (went : Course)
    → BoundForm told place request bound went → HasNext went.moves → ⊥
done_no_next told place request (bounds.Create table) went form next = subst HasNext form.0 next
done_no_next told place request (bounds.Insert table rs) went form next = subst HasNext form.2 next
done_no_next told place request (bounds.Select table query) went form next = subst HasNext form.3 next

store_fault-full : store_fault ≡ history_full → ⊥
store_fault-full same = cc

damage-full : (refusal : Refusal) → replies.Refused refusal ≡ history_full → refusal ≡ refusals.Limit History
damage-full refusal same = cc

full_of_bound : (told : Bool) (old : Log) (request : Request) (bound : Bound) (added : List Entry) (reply : Reply)
    → BoundDone told old request bound added reply → reply ≡ history_full → Fills old added
full_of_bound told old request bound added reply (inl done) same =
    absurd (done_not_full told old.entries request bound added reply done same)
full_of_bound told old request bound added reply (inr (inl early)) same =
    absurd (no_memory-full (sym early.0 ∙ same))
full_of_bound told old request bound added reply (inr (inr (inl early))) same = early.2
full_of_bound told old request bound added reply (inr (inr (inr (inl early)))) same =
    absurd (store_fault-full (sym early.0 ∙ same))
full_of_bound told old request bound added reply (inr (inr (inr (inr met)))) same =
    let is = damage-full (refusals.Damaged met.part Base met.column met.granule met.at)
    (sym met.reply_is ∙ same) in cc

always_of_bound : (told : Bool) (old : Log) (request : Request) (bound : Bound) (added : List Entry)
    (reply : Reply)
    → BoundDone told old request bound added reply → Fills old added → HasNext (moves_from old.entries added)
    → reply ≡ history_full
always_of_bound told old request bound added reply (inl done) fills next =
    absurd (done_no_next told old.entries request bound (course old.entries added reply) done next)
always_of_bound told old request bound added reply (inr (inl early)) fills next = absurd (early.2 fills next)
always_of_bound told old request bound added reply (inr (inr (inl early))) fills next = early.0
always_of_bound told old request bound added reply (inr (inr (inr (inl early)))) fills next =
    absurd (early.2 fills next)
always_of_bound told old request bound added reply (inr (inr (inr (inr met)))) fills next =
    absurd (subst (λ xs. HasNext (moves_from old.entries xs)) met.moves next)

pub serves_bound : (told : Bool) (old new : Log) (by : By) (body : List ℕ) (bound : Bound) (reply : Reply)
    → BodyBinds (catalog old.entries) body bound → Does told old new (request_of by) bound reply
    → Serves told old new (whole by.line by.session body) reply
serves_bound told old new by body bound reply binds does = (
  does.0,
  does.1,
  record {
    form = form_of_bound told old by body bound does.0 reply binds does.2;
    full = full_of_bound told old (request_of by) bound does.0 reply does.2;
    always = always_of_bound told old (request_of by) bound does.0 reply does.2;
  },
)

pub does_no_memory : (told : Bool) (a b : Log) (request : Request) (bound : Bound) → length a.entries < a.limit
    → Adds a b []
    → Does told a b request bound no_memory
does_no_memory told a b request bound below none =
    ([], none, inr (inl (refl, inl refl, λ fills next. omega (arith, fills, below))))

pub does_create : (told : Bool) (a b : Log) (request : Request) (table : Table)
    → Adds a b (entry_of request (whats.Created table) ∷ []) → Does told a b request
    (bounds.Create table) replies.Done
does_create told a b request table adds = (entry_of request (whats.Created table) ∷ [], adds, inl (refl, refl))

-- an INSERT began, and the journal was full, or it was out of memory, or it committed
module _ (told : Bool) (a b c : Log) (request : Request) (table : ℕ) (rs : KindedRows)
    (begun : Adds a b (entry_of request (whats.Begun table) ∷ [])) (room : Adds b c []) where
  began : Adds a c (entry_of request (whats.Begun table) ∷ [])
  began = Adds-trans a b c (entry_of request (whats.Begun table) ∷ []) [] begun room

  -- how long the journal is once it began
  long : length b.entries ≡ length a.entries + 1
  long = ap length begun.grown ∙ length_push a.entries (entry_of request (whats.Begun table))

  pub insert_full : IsFull b → Does told a c request (bounds.Insert table rs) history_full
  insert_full full = (
    entry_of request (whats.Begun table) ∷ [],
    began,
    inr (inr (inl (refl, inr (whats.Begun table, refl, refl), omega (arith, long, full, begun.limit)))),
  )

  pub insert_stops : (IsFull b → ⊥) → (d : Log) → Adds c d [] → Does told a d request
      (bounds.Insert table rs) no_memory
  insert_stops room_left d none = (
    entry_of request (whats.Begun table) ∷ [],
    Adds-trans a c d _ [] began none,
    inr (inl (
      refl,
      inr (whats.Begun table, refl, refl),
      (λ fills next. room_left (omega (arith, long, fills, begun.limit))),
    )),
  )

  pub insert_faults : (IsFull b → ⊥) → (d : Log) → Adds c d [] → Does told a d request
      (bounds.Insert table rs) store_fault
  insert_faults room_left d none = (
    entry_of request (whats.Begun table) ∷ [],
    Adds-trans a c d _ [] began none,
    inr (inr (inr (inl (
      refl,
      (whats.Begun table, refl, refl),
      (λ fills next. room_left (omega (arith, long, fills, begun.limit))),
    )))),
  )

  pub insert_commits : (d : Log) (block : ℕ) → Adds c d (entry_of request
      (whats.Inserted table block rs) ∷ [])
      → Does told a d request (bounds.Insert table rs) replies.Done
  insert_commits d block adds = (
    entry_of request (whats.Begun table) ∷ entry_of request (whats.Inserted table block rs) ∷ [],
    Adds-trans a c d _ _ began adds,
    inl (a.entries ++ entry_of request (whats.Begun table) ∷ [], block, refl, refl),
  )

-- the tables are as before once an INSERT began and room was made
pub tables_stay : (a b c : Log) (e : Entry) → ChangesNothing e.what → Adds a b (e ∷ []) → Adds b c []
    → catalog c.entries ≡ catalog a.entries
tables_stay a b c e nothing begun room =
    ap catalog (entries-nil b c room ∙ begun.grown) ∙ catalog-push a.entries e
    ∙ catalog_on-nothing (catalog a.entries) e.what nothing

pub does_select : (told : Bool) (a b : Log) (request : Request) (table : ℕ) (query : Query) (out : KindedRows)
    → (told ≡ true → Answers query (table_rows a.entries table) out)
    → out.kinds ≡ map (item_kind (table_rows a.entries table).kinds) query.items
    → Adds a b (entry_of request (whats.Looked table) ∷ [])
    → Does told a b request (bounds.Select table query) (replies.Rows out)
does_select told a b request table query out right kinds adds = (
  entry_of request (whats.Looked table) ∷ [],
  adds,
  inl (out, right, kinds, refl, refl),
)

-- a SELECT looked, and its parts could not be read
module _ {B : Type 0} (told : Bool) (a b : Log) (request : Request) (table : ℕ) (query : Query)
    (ps : List (Part B)) (adds : Adds a b (entry_of request (whats.Looked table) ∷ [])) where
  pub select_refused : (fault : SelectFault) (refusal : Refusal) → IsRefusalFor ps fault refusal
      → ((index : ℕ) (part : Part B) → slice_get ps index ≡ Some part
      → Contains (map name_of (parts a.entries table)) (part_name part))
      → ((part column granule at : ℕ) → fault ≡ select_faults.Damaged part column granule at → told ≡ false)
      → Does told a b request (bounds.Select table query) (replies.Refused refusal)
  select_refused select_faults.StoreFault refusal is there untold = (
    entry_of request (whats.Looked table) ∷ [],
    adds,
    inr (inr (inr (inl (
      ap replies.Refused is,
      (whats.Looked table, refl, refl),
      (λ fills next. absurd next),
    )))),
  )
  select_refused select_faults.NoMemory refusal is there untold = (
    entry_of request (whats.Looked table) ∷ [],
    adds,
    inr (inl (
      ap replies.Refused is,
      inr (whats.Looked table, refl, refl),
      (λ fills next. absurd next),
    )),
  )
  select_refused (select_faults.Damaged part column granule at) refusal is there untold = (
    entry_of request (whats.Looked table) ∷ [],
    adds,
    inr (inr (inr (inr (record {
      untold = untold part column granule at refl;
      table = table;
      query = query;
      bound_is = refl;
      moves = refl;
      part = part_name is.0;
      there = there part is.0 is.1;
      column = column;
      granule = granule;
      at = at;
      reply_is = ap replies.Refused is.2;
    })))),
  )
