-- The statements of a script, and their replies as they are shown (docs/MODEL.md, "Statements").
use Rattle.std.specs.Prelude.{ℕ, ◌==◌, List, Option, Some, map, filter}
use Rattle.pj_script.specs.declared.types.Act.{Act}
use Rattle.pj_script.specs.declared.types.Act.TheVariants.{Whole}
use Rattle.pj_script.specs.declared.types.ScriptLine.{ScriptLine}
use Rattle.pj_script.specs.declared.types.Script.{Script}
use Rattle.pj_legal.specs.declared.reply.Reply.{Reply}

-- a statement: its line, its session, its body, and the line that shows its reply; none where it never ends
pub record Request : Type 0 where
  pub line : ℕ
  pub session : ℕ
  pub body : List ℕ
  pub shown : Option ℕ

-- the body of an act
abbrev pub body_of : Act → List ℕ
body_of (Whole body) = body

-- a statement that begins and ends on one line
abbrev pub whole : ℕ → ℕ → List ℕ → Request
whole line session body = record { line = line; session = session; body = body; shown = Some line }

-- the statement of a line
abbrev pub statement_of : ScriptLine → Request
statement_of line = whole line.line line.name (body_of line.act)

-- the statements of a script, in the order of its lines
abbrev pub statements : Script → List Request
statements script = map statement_of script.lines

-- those of a session
abbrev pub requests_by : ℕ → List Request → List Request
requests_by session requests = filter (λ request. request.session == session) requests

-- a reply, with the line and the session that show it
pub record Shown : Type 0 where
  pub line : ℕ
  pub session : ℕ
  pub reply : Reply

-- the replies of a session
abbrev pub shown_to : ℕ → List Shown → List Shown
shown_to session replies = filter (λ shown. shown.session == session) replies
