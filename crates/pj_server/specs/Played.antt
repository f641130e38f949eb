-- What `play` read, wrote and kept, by how it ended (docs/MODEL.md, "The headline"). `told` is whether the blobs of
-- its port tell their bytes; `was` and `now` are what the port had counted before, and what it has after.
use Rattle.std.specs.Prelude.{◌≡◌, ℕ, ◌≤◌, ◌⊎◌, Bool, ◌&&◌, nat_le, List, [], ◌++◌}
use Rattle.std.specs.Prelude.{length, Option, Some, None, if◌then◌else◌, codes}
use Rattle.std.specs.Fmt.{decimal}
use Rattle.std.specs.Io.KnownBytes.{Appends, Consumes, IsAtEnd}
use Rattle.pj_io.specs.Transfers.{AppendsPart, TookTooMuch, TookAtMost}
use Rattle.pj_script.specs.declared.types.ScriptMode.TheVariants.{Play}
use Rattle.pj_script.specs.declared.types.Script.{Script}
use Rattle.pj_script.specs.Lines.{IsScript, IsBadLine}
use Rattle.pj_journal.specs.declared.entry.Entry.{Entry}
use Rattle.pj_legal.specs.Statements.{Shown}
use Rattle.pj_legal.specs.Legal.{IsPlayed}
use Rattle.pj_legal.specs.Full.{KeepsLimit}
use Rattle.pj_legal.specs.Run.{cut}
use Rattle.pj_legal.specs.Texts.{as_line, replies_text, history_text}
use Rattle.pj_server.specs.PortFaults.{Counted, AreBlamed}
use Rattle.pj_server.specs.declared.ending.End.{End}
use Rattle.pj_server.specs.declared.ending.End.TheVariants as ends

-- how many bytes a script may have
abbrev pub script_bytes : ℕ
script_bytes = 16777216

-- how many entries the journal of a program may have
abbrev pub history_entries : ℕ
history_entries = 4294967295

-- these are all the bytes that the source had left
pub record IsRead (before after : Option (List ℕ)) (bytes : List ℕ) : Type 0 where
  pub few : length bytes ≤ script_bytes
  pub consumed : Consumes before after bytes
  pub at_end : IsAtEnd after

-- nothing was run, and nothing was written
pub record DoesNothing (h : List Entry) (before after : Option (List ℕ)) : Type 0 where
  pub none : h ≡ []
  pub quiet : Appends before after []

-- what is written for a bad line
abbrev pub bad_line_text : ℕ → List ℕ
bad_line_text line = as_line (codes "bad script line " ++ decimal line)

-- this line of the bytes is the first bad one, nothing was run, and its text was written
pub record TellsBadLine (line : ℕ) (bytes : List ℕ) (h : List Entry) (before after : Option (List ℕ))
    : Type 0 where
  pub bad : IsBadLine Play bytes line
  pub none : h ≡ []
  pub written : Appends before after (bad_line_text line)

-- a line of the bytes is bad, nothing was run, and a proper prefix of its text was written
pub record TellsPart (bytes : List ℕ) (h : List Entry) (before after : Option (List ℕ)) : Type 0 where
  pub line : ℕ
  pub bad : IsBadLine Play bytes line
  pub none : h ≡ []
  pub written : AppendsPart before after (bad_line_text line)

-- what is written for a script: its replies, and the history's text where it is wanted
abbrev pub output : Bool → Script → List Entry → List Shown → List ℕ
output wanted script h replies =
    replies_text script.names replies ++ (if wanted then history_text script.names h else [])

-- what is written for the first lines: the history's text stands behind the last line alone
abbrev pub output_of_part : ℕ → Bool → Script → List Entry → List Shown → List ℕ
output_of_part lines wanted script h replies =
    output (wanted && nat_le (length script.lines) lines) (cut lines script) h replies

-- the bytes spell a script, the history is legal for it with these replies, as a single thread leaves it,
-- each tells a full journal where it was full, the port's counts rose where replies say so, and the text of
-- these was written
pub record PlaysScript (told : Bool) (limit : ℕ) (wanted : Bool) (bytes : List ℕ) (h : List Entry)
    (before after : Option (List ℕ)) (was now : Counted) : Type 0 where
  pub script : Script
  pub spelled : IsScript Play bytes script
  pub replies : List Shown
  pub played : IsPlayed told script h replies
  pub kept : KeepsLimit limit script h replies
  pub blamed : AreBlamed replies was now
  pub written : Appends before after (output wanted script h replies)

-- the bytes spell a script, the same holds of it cut after some lines, and a proper prefix of the text of
-- that was written
pub record PlaysPart (told : Bool) (limit : ℕ) (wanted : Bool) (bytes : List ℕ) (h : List Entry)
    (before after : Option (List ℕ)) (was now : Counted) : Type 0 where
  pub script : Script
  pub spelled : IsScript Play bytes script
  pub lines : ℕ
  pub replies : List Shown
  pub played : IsPlayed told (cut lines script) h replies
  pub kept : KeepsLimit limit (cut lines script) h replies
  pub blamed : AreBlamed replies was now
  pub written : AppendsPart before after (output_of_part lines wanted script h replies)

-- what holds of the bytes, the history and what was written, by how the run of the bytes ended
abbrev pub RunsSo : End → Bool → ℕ → Bool → List ℕ → List Entry → Option (List ℕ) → Option (List ℕ) → Counted → Counted
    → Type 0
RunsSo ends.Finished told limit wanted bytes h before after was now =
    PlaysScript told limit wanted bytes h before after was now
RunsSo (ends.BadLine line) told limit wanted bytes h before after was now =
    TellsBadLine line bytes h before after
RunsSo ends.SinkFailed told limit wanted bytes h before after was now =
    TellsPart bytes h before after × (now ≡ was)
    ⊎ PlaysPart told limit wanted bytes h before after was now
RunsSo ends.NoMemory told limit wanted bytes h before after was now =
    DoesNothing h before after × (now ≡ was)
    ⊎ TellsPart bytes h before after × (now ≡ was)
    ⊎ PlaysPart told limit wanted bytes h before after was now
RunsSo ends.Usage told limit wanted bytes h before after was now = ⊥
RunsSo ends.SourceFailed told limit wanted bytes h before after was now = ⊥
RunsSo ends.TooLarge told limit wanted bytes h before after was now = ⊥

-- the arguments are taken, all bytes were read, and their run ended so
pub record Reads (end : End) (told : Bool) (wish : Option Bool) (left rest : Option (List ℕ)) (h : List Entry)
    (before after : Option (List ℕ)) (was now : Counted) : Type 0 where
  pub wanted : Bool
  pub wished : wish ≡ Some wanted
  pub bytes : List ℕ
  pub read : IsRead left rest bytes
  pub run : RunsSo end told history_entries wanted bytes h before after was now

-- the arguments are taken
abbrev pub IsTaken : Option Bool → Type 0
IsTaken wish = (wanted : Bool) × (wish ≡ Some wanted)

-- what holds by how the call ended: `left` and `rest` is what the source had left before and after, `before`
-- and `after` what the sink had taken
abbrev pub EndsSo : End → Bool → Option Bool → Option (List ℕ) → Option (List ℕ) → List Entry → Option (List ℕ)
    → Option (List ℕ) → Counted → Counted → Type 0
EndsSo ends.Usage told wish left rest h before after was now =
    (wish ≡ None) × Consumes left rest [] × DoesNothing h before after
EndsSo ends.SourceFailed told wish left rest h before after was now =
    IsTaken wish × TookAtMost script_bytes left rest × DoesNothing h before after
EndsSo ends.TooLarge told wish left rest h before after was now =
    IsTaken wish × TookTooMuch script_bytes left rest × DoesNothing h before after
EndsSo ends.NoMemory told wish left rest h before after was now =
    (Consumes left rest [] × DoesNothing h before after × (now ≡ was))
    ⊎ (IsTaken wish × TookAtMost script_bytes left rest × DoesNothing h before after × (now ≡ was))
    ⊎ Reads ends.NoMemory told wish left rest h before after was now
EndsSo (ends.BadLine line) told wish left rest h before after was now =
    Reads (ends.BadLine line) told wish left rest h before after was now
EndsSo ends.SinkFailed told wish left rest h before after was now =
    Reads ends.SinkFailed told wish left rest h before after was now
EndsSo ends.Finished told wish left rest h before after was now =
    Reads ends.Finished told wish left rest h before after was now

-- with these ends nothing was run
abbrev pub NeverRuns : End → Type 0
NeverRuns ends.Usage = Unit {0}
NeverRuns ends.SourceFailed = Unit {0}
NeverRuns ends.TooLarge = Unit {0}
NeverRuns (ends.BadLine line) = Unit {0}
NeverRuns ends.SinkFailed = ⊥
NeverRuns ends.NoMemory = ⊥
NeverRuns ends.Finished = ⊥
