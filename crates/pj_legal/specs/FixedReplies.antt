-- The text of a reply fixes the reply, where the kinds of its columns are known; and so that of all replies
-- fixes them (docs/FORMATS.md).
use Rattle.std.specs.Prelude.{◌≡◌, ℕ, ◌<◌, ◌^◌, Bool, false, List, ◌∷◌, ◌++◌, length}
use Rattle.std.specs.List.{AllByRecursion}
use Rattle.pj_value.specs.declared.value.Value.{Value}
use Rattle.pj_value.specs.declared.value.Value.TheVariants as values
use Rattle.pj_value.specs.Rows.{KindedRows, HaveKinds}
use Rattle.pj_script.specs.declared.types.ScriptMode.{ScriptMode}
use Rattle.pj_script.specs.declared.types.Script.{Script}
use Rattle.pj_script.specs.Lines.{IsName, IsScript}
use Rattle.pj_journal.specs.declared.entry.Entry.{Entry}
use Rattle.pj_legal.specs.declared.reply.Reply.{Reply}
use Rattle.pj_legal.specs.declared.reply.Reply.TheVariants as replies
use Rattle.pj_legal.specs.Statements.{Shown}
use Rattle.pj_legal.specs.Legal.{IsLegal}
use Rattle.pj_legal.specs.Texts.{reply_text, replies_text}
use Rattle.pj_legal.specs.Laws.{IsPlainRefusal, HasSmallOffset}

-- a text, or a number below 2 ^ 64
abbrev pub IsCleanValue : Value → Type 0
IsCleanValue (values.Num n) = n < 2 ^ 64
IsCleanValue (values.Text text) = Unit {0}

-- fewer than 2 ^ 64 rows, each with its values in the kinds of the columns, and each number below 2 ^ 64
pub record AreCleanRows (out : KindedRows) : Type 0 where
  pub few : length out.rows < 2 ^ 64
  pub kinded : HaveKinds out.kinds out.rows
  pub values : AllByRecursion (λ row. AllByRecursion IsCleanValue row) out.rows

-- the rows are clean, and a refusal gives no name with a line feed and no number from 2 ^ 64 on
abbrev pub IsClean : Reply → Type 0
IsClean replies.Done = Unit {0}
IsClean (replies.Rows out) = AreCleanRows out
IsClean (replies.Refused refusal) = IsPlainRefusal refusal × HasSmallOffset refusal

-- where both are rows, their columns have the same kinds
abbrev pub HaveOneShape : Reply → Reply → Type 0
HaveOneShape (replies.Rows out) (replies.Rows other) = out.kinds ≡ other.kinds
HaveOneShape reply other = Unit {0}

-- a text that begins with a reply fixes its line, its name, the reply, and the text behind it, where the
-- kinds of its columns are known
abbrev pub TextFixesReply : Type 0
TextFixesReply =
    (l m : ℕ) (a b : List ℕ) (r s : Reply) (more others : List ℕ) → l < 2 ^ 32 → m < 2 ^ 32 → IsName a
    → IsName b → IsClean r → IsClean s → HaveOneShape r s
    → reply_text l a r ++ more ≡ reply_text m b s ++ others
    → (l ≡ m) × (a ≡ b) × (r ≡ s) × (more ≡ others)

-- the reply is one of the machine: its rows are clean, or a refusal gives no number from 2 ^ 64 on
abbrev pub FitsReply : Reply → Type 0
FitsReply replies.Done = Unit {0}
FitsReply (replies.Rows out) = AreCleanRows out
FitsReply (replies.Refused refusal) = HasSmallOffset refusal

-- among the replies that are legal for a script and a history, their text fixes them
abbrev pub TextFixesReplies : Type 0
TextFixesReplies =
    (told : Bool) (mode : ScriptMode) (bytes : List ℕ) (script : Script) (h : List Entry) (a b : List Shown)
    → length bytes < 2 ^ 31 → IsScript mode bytes script
    → IsLegal told script h a → IsLegal told script h b
    → AllByRecursion (λ shown. FitsReply shown.reply) a → AllByRecursion (λ shown. FitsReply shown.reply) b
    → replies_text script.names a ≡ replies_text script.names b → a ≡ b
