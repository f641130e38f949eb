-- Moves: the entries of an actor, each with its place (docs/MODEL.md, "Moves").
use Rattle.std.specs.Prelude.{ℕ, Bool, false, ◌&&◌, ◌==◌, List, [], ◌∷◌, ◌++◌, filter}
use Rattle.std.specs.List.{list_any}
use Rattle.pj_journal.specs.declared.entry.Actor.{Actor}
use Rattle.pj_journal.specs.declared.entry.Actor.TheVariants.{Session, Worker}
use Rattle.pj_journal.specs.declared.entry.Entry.{Entry}

-- an entry, with the history before it
pub record Move : Type 0 where
  pub place : List Entry
  pub entry : Entry

-- the moves that entries are behind a place
abbrev pub moves_from : List Entry → List Entry → List Move
moves_from place [] = []
moves_from place (entry ∷ more) =
    record { place = place; entry = entry } ∷ moves_from (place ++ entry ∷ []) more

-- the moves of a history
abbrev pub moves : List Entry → List Move
moves h = moves_from [] h

-- whether the two are one actor
abbrev pub same_actor : Actor → Actor → Bool
same_actor (Session a) (Session b) = a == b
same_actor (Session a) (Worker b) = false
same_actor (Worker a) (Session b) = false
same_actor (Worker a) (Worker b) = a == b

-- whether the entry is of the actor
abbrev pub is_by : Actor → Entry → Bool
is_by actor entry = same_actor entry.actor actor

-- the moves of an actor, in their order
abbrev pub moves_by : Actor → List Entry → List Move
moves_by actor h = filter (λ move. is_by actor move.entry) (moves h)

-- those of these moves that are for a line
abbrev pub for_line : ℕ → List Move → List Move
for_line line ms = filter (λ move. move.entry.line == line) ms

-- whether the actor has moved for the line
abbrev pub has_moved : Actor → ℕ → List Entry → Bool
has_moved actor line h = list_any (λ entry. is_by actor entry && entry.line == line) h
