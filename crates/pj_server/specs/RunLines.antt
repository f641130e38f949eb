-- Lines of a script that were run, one after the other.
use Rattle.std.specs.Prelude.{◌≡◌, ℕ, Bool, List, map, take, Option}
use Rattle.std.specs.Io.KnownBytes.{Appends}
use Rattle.pj_io.specs.Transfers.{AppendsPart}
use Rattle.pj_script.specs.declared.types.ScriptLine.{ScriptLine}
use Rattle.pj_journal.specs.Log.{Log}
use Rattle.pj_legal.specs.declared.reply.Reply.{Reply}
use Rattle.pj_legal.specs.Statements.{Request, statement_of, Shown}
use Rattle.pj_legal.specs.Run.{Run, shown_at}
use Rattle.pj_legal.specs.Texts.{shown_text, replies_text}
use Rattle.pj_server.specs.declared.ending.End.{End}
use Rattle.pj_server.specs.declared.ending.End.TheVariants as ends
use Rattle.pj_server.specs.PortFaults.{Counted, IsBlamed, AreBlamed}
use Rattle.pj_server.specs.Moves.{Serves}

-- all of a text was written, or a proper prefix of it, by how the write ended
abbrev pub Writes : End → Option (List ℕ) → Option (List ℕ) → List ℕ → Type 0
Writes ends.Finished before after text = Appends before after text
Writes ends.SinkFailed before after text = AppendsPart before after text
Writes ends.NoMemory before after text = AppendsPart before after text
Writes (ends.BadLine line) before after text = ⊥
Writes ends.Usage before after text = ⊥
Writes ends.SourceFailed before after text = ⊥
Writes ends.TooLarge before after text = ⊥

-- a statement was run over a port that had counted so many and has counted so many now, and its reply was written
pub record RunsLine (told : Bool) (end : End) (old new : Log) (names : List (List ℕ)) (request : Request)
    (before after : Option (List ℕ)) (was now : Counted) : Type 0 where
  pub reply : Reply
  pub serves : Serves told old new request reply
  pub blamed : IsBlamed reply was now
  pub written : Writes end before after (shown_text names (shown_at request reply))

-- the first lines were run, and their replies were written
pub record RunsLines (told : Bool) (end : End) (count : ℕ) (old new : Log) (names : List (List ℕ))
    (lines : List ScriptLine) (before after : Option (List ℕ)) (was now : Counted) : Type 0 where
  pub replies : List Shown
  pub run : Run told old.limit old.entries (take count (map statement_of lines)) replies new.entries
  pub limit : new.limit ≡ old.limit
  pub blamed : AreBlamed replies was now
  pub written : Writes end before after (replies_text names replies)
