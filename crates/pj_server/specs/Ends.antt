-- How the parts of a run end. No public contract cites this file.
use Rattle.std.specs.Prelude.{◌≡◌, ℕ, Bool, true, false, List, Option}
use Rattle.std.specs.Io.KnownBytes.{Appends}
use Rattle.pj_io.specs.Transfers.{AppendsPart}
use Rattle.pj_script.specs.declared.types.Script.{Script}
use Rattle.pj_journal.specs.declared.entry.Entry.{Entry}
use Rattle.pj_legal.specs.Statements.{Shown}
use Rattle.pj_legal.specs.Legal.{IsPlayed}
use Rattle.pj_legal.specs.Full.{KeepsLimit}
use Rattle.pj_legal.specs.Run.{cut}
use Rattle.pj_server.specs.declared.ending.End.{End}
use Rattle.pj_server.specs.declared.ending.End.TheVariants as ends
use Rattle.pj_server.specs.PortFaults.{Counted, AreBlamed}
use Rattle.pj_server.specs.Played.{bad_line_text, output, output_of_part}
use Rattle.pj_server.specs.RunLines.{Writes}

-- a bad line was told, or a proper prefix of its text was
abbrev pub TellsLine : End → ℕ → Option (List ℕ) → Option (List ℕ) → Type 0
TellsLine (ends.BadLine told) line before after =
    (told ≡ line) × Appends before after (bad_line_text line)
TellsLine ends.SinkFailed line before after = AppendsPart before after (bad_line_text line)
TellsLine ends.NoMemory line before after = AppendsPart before after (bad_line_text line)
TellsLine ends.Finished line before after = ⊥
TellsLine ends.Usage line before after = ⊥
TellsLine ends.SourceFailed line before after = ⊥
TellsLine ends.TooLarge line before after = ⊥

-- the whole script was played
pub record WholeScript (told : Bool) (limit : ℕ) (wanted : Bool) (script : Script) (h : List Entry)
    (before after : Option (List ℕ)) (was now : Counted) : Type 0 where
  pub replies : List Shown
  pub played : IsPlayed told script h replies
  pub kept : KeepsLimit limit script h replies
  pub blamed : AreBlamed replies was now
  pub written : Appends before after (output wanted script h replies)

-- some of its lines were
pub record PartScript (told : Bool) (limit : ℕ) (wanted : Bool) (script : Script) (h : List Entry)
    (before after : Option (List ℕ)) (was now : Counted) : Type 0 where
  pub lines : ℕ
  pub replies : List Shown
  pub played : IsPlayed told (cut lines script) h replies
  pub kept : KeepsLimit limit (cut lines script) h replies
  pub blamed : AreBlamed replies was now
  pub written : AppendsPart before after (output_of_part lines wanted script h replies)

-- a script was played whole, or in part
abbrev pub ScriptEnds : End → Bool → ℕ → Bool → Script → List Entry → Option (List ℕ) → Option (List ℕ) → Counted
    → Counted → Type 0
ScriptEnds ends.Finished told limit wanted script h before after was now =
    WholeScript told limit wanted script h before after was now
ScriptEnds ends.SinkFailed told limit wanted script h before after was now =
    PartScript told limit wanted script h before after was now
ScriptEnds ends.NoMemory told limit wanted script h before after was now =
    PartScript told limit wanted script h before after was now
ScriptEnds (ends.BadLine line) told limit wanted script h before after was now = ⊥
ScriptEnds ends.Usage told limit wanted script h before after was now = ⊥
ScriptEnds ends.SourceFailed told limit wanted script h before after was now = ⊥
ScriptEnds ends.TooLarge told limit wanted script h before after was now = ⊥

-- the text was written where the lines ended well and it is wanted, and else nothing
abbrev pub FinishesSo : End → End → Bool → Option (List ℕ) → Option (List ℕ) → List ℕ → Type 0
FinishesSo ends.Finished end true before after text = Writes end before after text
FinishesSo ends.Finished end false before after text = (end ≡ ends.Finished) × (after ≡ before)
FinishesSo (ends.BadLine line) end wanted before after text =
    (end ≡ ends.BadLine line) × (after ≡ before)
FinishesSo ends.SinkFailed end wanted before after text = (end ≡ ends.SinkFailed) × (after ≡ before)
FinishesSo ends.NoMemory end wanted before after text = (end ≡ ends.NoMemory) × (after ≡ before)
FinishesSo ends.Usage end wanted before after text = (end ≡ ends.Usage) × (after ≡ before)
FinishesSo ends.SourceFailed end wanted before after text = (end ≡ ends.SourceFailed) × (after ≡ before)
FinishesSo ends.TooLarge end wanted before after text = (end ≡ ends.TooLarge) × (after ≡ before)
