-- The forms of statements: which moves each makes, and which reply it gets (docs/MODEL.md, "Forms of
-- statements"). `told` is whether the blobs of the port tell their bytes: only then can it be said which rows
-- a SELECT found, and else of which kinds they are.
use Rattle.std.specs.Prelude.{◌≡◌, ℕ, ◌⊎◌, Bool, true, false, List, [], ◌∷◌, map, Contains, Option, Some, None}
use Rattle.pj_expr.specs.declared.query.Query.{Query}
use Rattle.pj_expr.specs.Parts.{PartRecord}
use Rattle.pj_value.specs.Rows.{KindedRows}
use Rattle.pj_answer.specs.Answers.{item_kind, Answers}
use Rattle.pj_journal.specs.declared.entry.Actor.TheVariants.{Session}
use Rattle.pj_journal.specs.declared.entry.What.{What}
use Rattle.pj_journal.specs.declared.entry.What.TheVariants as whats
use Rattle.pj_journal.specs.declared.entry.Entry.{Entry}
use Rattle.pj_journal.specs.History.{catalog, table_rows}
use Rattle.pj_journal.specs.Moves.{Move}
use Rattle.pj_journal.specs.Parts.{parts}
use Rattle.pj_bind.specs.declared.types.Bound.{Bound}
use Rattle.pj_bind.specs.declared.types.Bound.TheVariants as bounds
use Rattle.pj_bind.specs.declared.types.LimitName.TheVariants.{History}
use Rattle.pj_bind.specs.declared.types.PartName.{PartName}
use Rattle.pj_bind.specs.declared.types.SourceName.TheVariants.{Base}
use Rattle.pj_bind.specs.declared.types.Refusal.{Refusal}
use Rattle.pj_bind.specs.declared.types.Refusal.TheVariants as refusals
use Rattle.pj_legal.specs.declared.reply.Reply.{Reply}
use Rattle.pj_legal.specs.declared.reply.Reply.TheVariants as replies
use Rattle.pj_legal.specs.Bodies.{BodyBinds, IsBodyRefusal}
use Rattle.pj_legal.specs.Statements.{Request}

-- how a statement went: its moves, in their order, and its reply; none where it never ends
pub record Course : Type 0 where
  pub moves : List Move
  pub reply : Option Reply

-- a move of a statement
abbrev pub entry_of : Request → What → Entry
entry_of request what = record { actor = Session request.session; line = request.line; what = what }

-- the same, with its place
abbrev pub move_of : Request → List Entry → What → Move
move_of request place what = record { place = place; entry = entry_of request what }

-- the reply to a statement that was out of memory
abbrev pub no_memory : Reply
no_memory = replies.Refused refusals.NoMemory

-- and to one that met a full journal
abbrev pub history_full : Reply
history_full = replies.Refused (refusals.Limit History)

-- and to one whose port failed
abbrev pub store_fault : Reply
store_fault = replies.Refused refusals.StoreFault

-- the statement is refused at its place, and does nothing
pub record IsRefused (request : Request) (course : Course) : Type 0 where
  pub place : List Entry
  pub refusal : Refusal
  pub cause : IsBodyRefusal (catalog place) request.body refusal
  pub moves : course.moves ≡ move_of request place whats.Refused ∷ []
  pub reply : course.reply ≡ Some (replies.Refused refusal)

-- the moves of a bound statement, from its place, with its reply
abbrev pub BoundForm : Bool → List Entry → Request → Bound → Course → Type 0
BoundForm told place request (bounds.Create table) course =
    (course.moves ≡ move_of request place (whats.Created table) ∷ []) × (course.reply ≡ Some replies.Done)
BoundForm told place request (bounds.Insert table rows) course =
    (later : List Entry) × (block : ℕ)
    × (course.moves ≡ move_of request place (whats.Begun table)
    ∷ move_of request later (whats.Inserted table block rows) ∷ [])
    × (course.reply ≡ Some replies.Done)
BoundForm told place request (bounds.Select table query) course =
    (out : KindedRows) × (told ≡ true → Answers query (table_rows place table) out)
    × (out.kinds ≡ map (item_kind (table_rows place table).kinds) query.items)
    × (course.moves ≡ move_of request place (whats.Looked table) ∷ [])
    × (course.reply ≡ Some (replies.Rows out))

-- the statement binds at its place, and is done
pub record IsDone (told : Bool) (request : Request) (course : Course) : Type 0 where
  pub place : List Entry
  pub bound : Bound
  pub binds : BodyBinds (catalog place) request.body bound
  pub form : BoundForm told place request bound course

-- the first move of a bound statement
abbrev pub IsFirstMove : Bound → What → Type 0
IsFirstMove (bounds.Create table) what = what ≡ whats.Created table
IsFirstMove (bounds.Insert table rows) what = what ≡ whats.Begun table
IsFirstMove (bounds.Select table query) what = what ≡ whats.Looked table

-- a move after which the statement may still be out of memory, or its port may fail
abbrev pub MayFail : Bound → What → Type 0
MayFail (bounds.Create table) what = ⊥
MayFail (bounds.Insert table rows) what = what ≡ whats.Begun table
MayFail (bounds.Select table query) what = what ≡ whats.Looked table

-- a move after which the statement has another to make
abbrev pub MovesOn : Bound → What → Type 0
MovesOn (bounds.Create table) what = ⊥
MovesOn (bounds.Insert table rows) what = what ≡ whats.Begun table
MovesOn (bounds.Select table query) what = ⊥

-- the statement binds at its place, and has its first move alone, which is of this sort
abbrev pub HasOneMove : (Bound → What → Type 0) → Request → Course → Type 0
HasOneMove sort request course =
    (place : List Entry) × (bound : Bound) × (what : What) × BodyBinds (catalog place) request.body bound
    × sort bound what × (course.moves ≡ move_of request place what ∷ [])

-- no move, or a first one of this sort
abbrev pub StopsAfter : (Bound → What → Type 0) → Request → Course → Type 0
StopsAfter sort request course = (course.moves ≡ []) ⊎ HasOneMove sort request course

-- the statement is answered that it was out of memory, before its first move or behind one that it may stop
-- after
pub record IsStarved (request : Request) (course : Course) : Type 0 where
  pub stopped : StopsAfter MayFail request course
  pub reply : course.reply ≡ Some no_memory

-- the statement is answered that the journal was full, before its first move or behind one that has another
-- to come
pub record IsShutOut (request : Request) (course : Course) : Type 0 where
  pub stopped : StopsAfter MovesOn request course
  pub reply : course.reply ≡ Some history_full

-- the statement is answered that its port failed, behind a move after which it may
pub record IsFaulted (request : Request) (course : Course) : Type 0 where
  pub stopped : HasOneMove MayFail request course
  pub reply : course.reply ≡ Some store_fault

-- the name of a record's part
abbrev pub name_of : PartRecord → PartName
name_of r = record { min = r.min; max = r.max; level = r.level; field = r.field }

-- the statement is a SELECT that met a damaged granule, in the base of a part that the table has at its place, and
-- blobs don't tell their bytes
pub record IsDamaged (told : Bool) (request : Request) (course : Course) : Type 0 where
  pub untold : told ≡ false
  pub place : List Entry
  pub table : ℕ
  pub query : Query
  pub binds : BodyBinds (catalog place) request.body (bounds.Select table query)
  pub moves : course.moves ≡ move_of request place (whats.Looked table) ∷ []
  pub part : PartName
  pub there : Contains (map name_of (parts place table)) part
  pub column : ℕ
  pub granule : ℕ
  pub at : ℕ
  pub reply : course.reply ≡ Some (replies.Refused (refusals.Damaged part Base column granule at))

-- the statement never ends: it has its first move at most
pub record IsLeftOpen (request : Request) (course : Course) : Type 0 where
  pub stopped :
      ((place : List Entry) × (refusal : Refusal) × IsBodyRefusal (catalog place) request.body refusal
      × (course.moves ≡ move_of request place whats.Refused ∷ []))
      ⊎ StopsAfter IsFirstMove request course
  pub reply : course.reply ≡ None

-- the statement went in one of its forms
abbrev pub Form : Bool → Request → Course → Type 0
Form told request course =
    IsRefused request course ⊎ IsDone told request course ⊎ IsStarved request course
    ⊎ IsShutOut request course ⊎ IsFaulted request course ⊎ IsDamaged told request course
    ⊎ IsLeftOpen request course
