-- What a statement's moves do to the journal.
use Rattle.std.specs.Prelude.{◌≡◌, ◌<◌, ℕ, ◌+◌, ◌⊎◌, Bool, false, List, [], ◌∷◌, ◌++◌, length, map, Contains, Some, slice_get}
use Rattle.pj_value.specs.Rows.{HaveKinds}
use Rattle.pj_expr.specs.declared.table.Table.{Table}
use Rattle.pj_expr.specs.declared.query.Query.{Query}
use Rattle.pj_journal.specs.declared.entry.What.{What}
use Rattle.pj_journal.specs.declared.entry.What.TheVariants as whats
use Rattle.pj_journal.specs.declared.entry.Entry.{Entry}
use Rattle.pj_expr.specs.Tables.{kinds_of, TableFits}
use Rattle.pj_expr.specs.Fits.{FitsQuery}
use Rattle.pj_journal.specs.Log.{Log}
use Rattle.pj_journal.specs.Moves.{moves_from}
use Rattle.pj_journal.specs.Parts.{parts}
use Rattle.pj_bind.specs.declared.types.Bound.{Bound}
use Rattle.pj_bind.specs.declared.types.Bound.TheVariants as bounds
use Rattle.pj_bind.specs.declared.types.PartName.{PartName}
use Rattle.pj_bind.specs.declared.types.SourceName.TheVariants.{Base}
use Rattle.pj_bind.specs.declared.types.Refusal.TheVariants.{Damaged}
use Rattle.pj_legal.specs.declared.reply.Reply.{Reply}
use Rattle.pj_legal.specs.declared.reply.Reply.TheVariants.{Refused}
use Rattle.pj_bind.specs.declared.binding.BindFault.{BindFault}
use Rattle.pj_bind.specs.declared.binding.BindFault.TheVariants as faults
use Rattle.pj_bind.specs.Binding.{IsUnknown, table_limit}
use Rattle.pj_legal.specs.Bodies.{IsBodyRefusal}
use Rattle.pj_legal.specs.Statements.{Request, whole}
use Rattle.pj_legal.specs.Forms.{entry_of, name_of, BoundForm, MayFail, MovesOn, no_memory, history_full, store_fault}
use Rattle.pj_legal.specs.Full.{HasNext}
use Rattle.pj_legal.specs.Run.{IsStep, course}
use Rattle.pj_server.specs.declared.server.By.{By}

-- the statement of a session and a line, its body aside
abbrev pub request_of : By → Request
request_of by = whole by.line by.session []

-- these moves were added to the journal, whose limit stays
pub record Adds (old new : Log) (added : List Entry) : Type 0 where
  pub grown : new.entries ≡ old.entries ++ added
  pub limit : new.limit ≡ old.limit

-- the statement made its moves and got its reply
abbrev pub Serves : Bool → Log → Log → Request → Reply → Type 0
Serves told old new request reply =
    (added : List Entry) × Adds old new added × IsStep told old.limit old.entries request added reply

-- the bound statement fits these tables
abbrev pub BoundFits : List Table → Bound → Type 0
BoundFits tables (bounds.Create table) =
    IsUnknown tables table.name × (length tables < table_limit) × TableFits table
BoundFits tables (bounds.Insert number rows) =
    ((table : Table) × (slice_get tables number ≡ Some table) × (rows.kinds ≡ kinds_of table))
    × HaveKinds rows.kinds rows.rows
BoundFits tables (bounds.Select number query) =
    (table : Table) × (slice_get tables number ≡ Some table) × FitsQuery (kinds_of table) query

-- a first move of this sort
abbrev pub BoundMoves : (Bound → What → Type 0) → Request → Bound → List Entry → Type 0
BoundMoves sort request bound added =
    (what : What) × sort bound what × (added ≡ entry_of request what ∷ [])

-- no move, or a first one of this sort
abbrev pub BoundStops : (Bound → What → Type 0) → Request → Bound → List Entry → Type 0
BoundStops sort request bound added = (added ≡ []) ⊎ BoundMoves sort request bound added

-- these entries fill the journal
abbrev pub Fills : Log → List Entry → Type 0
Fills old added = length old.entries + length added ≡ old.limit

-- where these entries fill the journal, the statement has no move to make
abbrev pub LeavesRoom : Log → List Entry → Type 0
LeavesRoom old added = Fills old added → HasNext (moves_from old.entries added) → ⊥

-- a SELECT met a damaged granule, in the base of a part of its table, and blobs don't tell their bytes
pub record MeetsDamage (told : Bool) (place : List Entry) (request : Request) (bound : Bound)
    (added : List Entry) (reply : Reply)
    : Type 0 where
  pub untold : told ≡ false
  pub table : ℕ
  pub query : Query
  pub bound_is : bound ≡ bounds.Select table query
  pub moves : added ≡ entry_of request (whats.Looked table) ∷ []
  pub part : PartName
  pub there : Contains (map name_of (parts place table)) part
  pub column : ℕ
  pub granule : ℕ
  pub at : ℕ
  pub reply_is : reply ≡ Refused (Damaged part Base column granule at)

-- the bound statement made its moves, or stopped early: it was out of memory, or its port failed, and the journal
-- had room for a further move; or the journal was full; or a granule was damaged
abbrev pub BoundDone : Bool → Log → Request → Bound → List Entry → Reply → Type 0
BoundDone told old request bound added reply =
    BoundForm told old.entries request bound (course old.entries added reply)
    ⊎ ((reply ≡ no_memory) × BoundStops MayFail request bound added × LeavesRoom old added)
    ⊎ ((reply ≡ history_full) × BoundStops MovesOn request bound added × Fills old added)
    ⊎ ((reply ≡ store_fault) × BoundMoves MayFail request bound added × LeavesRoom old added)
    ⊎ MeetsDamage told old.entries request bound added reply

-- a bound statement was done
abbrev pub Does : Bool → Log → Log → Request → Bound → Reply → Type 0
Does told old new request bound reply =
    (added : List Entry) × Adds old new added × BoundDone told old request bound added reply

-- the move changes neither tables nor rows
abbrev pub ChangesNothing : What → Type 0
ChangesNothing (whats.Created table) = ⊥
ChangesNothing whats.Refused = Unit {0}
ChangesNothing (whats.Looked table) = Unit {0}
ChangesNothing (whats.Begun table) = Unit {0}
ChangesNothing (whats.Inserted table block rows) = ⊥

-- the body is refused so for these tables, or it was out of memory
abbrev pub IsReadFault : List Table → List ℕ → BindFault → Type 0
IsReadFault tables body (faults.Refused refusal) = IsBodyRefusal tables body refusal
IsReadFault tables body faults.NoMemory = Unit {0}
