-- Laws over the definitions of this crate, each shown by a function of its own (src/laws.rt).
use Rattle.std.specs.Prelude.{◌≡◌, ℕ, ◌<◌, ◌≤◌, ◌^◌, ◌⊎◌, Bool, true, List, [], ◌∷◌, ◌++◌, length, map}
use Rattle.std.specs.Prelude.{take, Contains}
use Rattle.std.specs.List.{AllByRecursion}
use Rattle.std.specs.Fmt.{decimal}
use Rattle.pj_lex.specs.Laws.{OneList, NoTokensWithABreak, OneBreak}
use Rattle.pj_script.specs.declared.types.Script.{Script}
use Rattle.pj_grammar.specs.declared.types.Statement.{Statement}
use Rattle.pj_script.specs.Lines.{IsName}
use Rattle.pj_grammar.specs.Laws.{OneStatement, OneError}
use Rattle.pj_journal.specs.declared.entry.Entry.{Entry}
use Rattle.pj_expr.specs.declared.table.Table.{Table}
use Rattle.pj_journal.specs.History.{IsRegular, catalog}
use Rattle.pj_legal.specs.declared.reply.Reply.{Reply}
use Rattle.pj_legal.specs.declared.reply.Reply.TheVariants as replies
use Rattle.pj_bind.specs.declared.types.Bound.{Bound}
use Rattle.pj_bind.specs.declared.types.LimitName.TheVariants.{History}
use Rattle.pj_bind.specs.declared.types.Refusal.{Refusal}
use Rattle.pj_bind.specs.declared.types.Refusal.TheVariants.{Syntax, Limit, UnknownTable, TableExists}
use Rattle.pj_bind.specs.declared.types.Refusal.TheVariants.{DuplicateColumn, UnknownIdentifier}
use Rattle.pj_bind.specs.declared.types.Refusal.TheVariants.{StoreFault, Damaged}
use Rattle.pj_bind.specs.declared.types.PartName.{PartName}
use Rattle.pj_bind.specs.declared.types.SourceName.{SourceName}
use Rattle.pj_bind.specs.Laws.{HasUniqueNames}
use Rattle.pj_legal.specs.Statements.{Request, statements, Shown}
use Rattle.pj_legal.specs.Shares.{Rise}
use Rattle.pj_legal.specs.Legal.{IsLegal, IsPlayed}
use Rattle.pj_legal.specs.Full.{KeepsLimit}
use Rattle.pj_legal.specs.Run.{Run, IsStep, shown_at, cut}
use Rattle.pj_legal.specs.Texts.{replies_text, shown_text, reply_text, announced}
use Rattle.pj_legal.specs.Bodies.{BodyReads, IsUnreadable, BodyBinds, IsBodyRefusal}

-- the lines of statements
abbrev pub request_lines : List Request → List ℕ
request_lines requests = map (λ request. request.line) requests

-- each line of the script names a session of it
abbrev pub AreNamed : Script → Type 0
AreNamed script = AllByRecursion (λ line. line.name < length script.names) script.lines

-- a run of a script's statements from nothing on is one of a single thread, and keeps the limit
abbrev pub RunsAreLegal : Type 0
RunsAreLegal =
    (told : Bool) (limit : ℕ) (script : Script) (replies : List Shown) (h : List Entry)
    → Rise 0 (request_lines (statements script)) → AreNamed script
    → Run told limit [] (statements script) replies h → IsRegular h → length h ≤ limit
    → IsPlayed told script h replies × KeepsLimit limit script h replies

-- a run of a script's first statements is one of the script that has no other lines
abbrev pub CutRunsAreLegal : Type 0
CutRunsAreLegal =
    (told : Bool) (limit n : ℕ) (script : Script) (replies : List Shown) (h : List Entry)
    → Rise 0 (request_lines (statements script)) → AreNamed script
    → Run told limit [] (take n (statements script)) replies h → IsRegular h → length h ≤ limit
    → IsPlayed told (cut n script) h replies × KeepsLimit limit (cut n script) h replies

-- a run goes on by one more statement, from where it ended
abbrev pub RunGoesOn : Type 0
RunGoesOn =
    (told : Bool) (limit : ℕ) (place : List Entry) (requests : List Request) (replies : List Shown)
    (mid : List Entry) (request : Request) (added : List Entry) (reply : Reply)
    → Run told limit place requests replies mid → IsStep told limit mid request added reply
    → Run told limit place (requests ++ request ∷ []) (replies ++ shown_at request reply ∷ []) (mid ++ added)

-- the text of one more reply stands behind those of the others
abbrev pub TextsGoOn : Type 0
TextsGoOn =
    (names : List (List ℕ)) (replies : List Shown) (shown : Shown)
    → replies_text names (replies ++ shown ∷ []) ≡ replies_text names replies ++ shown_text names shown

-- the catalog of a regular history has no two tables of one name
abbrev pub NamesAreUnique : Type 0
NamesAreUnique = (h : List Entry) → IsRegular h → HasUniqueNames (catalog h)

-- the laws of tokens and of the grammar, by which a body has one meaning
pub record HasOneMeaning : Type 0 where
  pub one_list : OneList
  pub no_tokens_with_a_break : NoTokensWithABreak
  pub one_break : OneBreak
  pub one_statement : OneStatement
  pub one_error : OneError

-- a body is read as one statement at most
abbrev pub OneBodyReading : Type 0
OneBodyReading = (body : List ℕ) (a b : Statement) → BodyReads body a → BodyReads body b → a ≡ b

-- a body is read as a statement, or can't be read
abbrev pub BodyReadOrNot : Type 0
BodyReadOrNot =
    (body : List ℕ)
    → ((statement : Statement) × BodyReads body statement) ⊎ ((refusal : Refusal) × IsUnreadable body refusal)

-- a body binds, or is refused
abbrev pub BodyBoundOrRefused : Type 0
BodyBoundOrRefused =
    (tables : List Table) (body : List ℕ)
    → ((bound : Bound) × BodyBinds tables body bound)
    ⊎ ((refusal : Refusal) × IsBodyRefusal tables body refusal)

-- a body binds in one way at most
abbrev pub OneBodyBound : Type 0
OneBodyBound =
    (tables : List Table) (body : List ℕ) (a b : Bound) → BodyBinds tables body a → BodyBinds tables body b
    → a ≡ b

-- a body that binds isn't refused
abbrev pub NoBoundBodyIsRefused : Type 0
NoBoundBodyIsRefused =
    (tables : List Table) (body : List ℕ) (bound : Bound) (refusal : Refusal) → BodyBinds tables body bound
    → IsBodyRefusal tables body refusal → ⊥

-- a body is refused in one way at most
abbrev pub OneBodyRefusal : Type 0
OneBodyRefusal =
    (tables : List Table) (body : List ℕ) (a b : Refusal) → IsBodyRefusal tables body a
    → IsBodyRefusal tables body b → a ≡ b

-- no body is refused for a full journal: that cause stands in no body
abbrev pub HistoryRefusesNoBody : Type 0
HistoryRefusesNoBody = (tables : List Table) (body : List ℕ) → IsBodyRefusal tables body (Limit History) → ⊥

-- nor for what befell a port: that it failed, or that a granule is damaged
abbrev pub PortRefusesNoBody : Type 0
PortRefusesNoBody =
    (tables : List Table) (body : List ℕ)
    → (IsBodyRefusal tables body StoreFault → ⊥)
    × ((part : PartName) (source : SourceName) (column granule at : ℕ)
    → IsBodyRefusal tables body (Damaged part source column granule at) → ⊥)

-- numbers of one text in decimal are one
abbrev pub TextsTellNumbers : Type 0
TextsTellNumbers = (m n : ℕ) → m < 2 ^ 64 → n < 2 ^ 64 → decimal m ≡ decimal n → m ≡ n

-- no line feed in the text
abbrev pub IsOneLine : List ℕ → Type 0
IsOneLine text = Contains text 10 → ⊥

-- no line feed in the name that a refusal gives
abbrev pub IsPlainRefusal : Refusal → Type 0
IsPlainRefusal (UnknownTable name) = IsOneLine name
IsPlainRefusal (TableExists name) = IsOneLine name
IsPlainRefusal (DuplicateColumn name) = IsOneLine name
IsPlainRefusal (UnknownIdentifier name) = IsOneLine name
IsPlainRefusal refusal = Unit {0}

-- no line feed in a name that a reply gives
abbrev pub IsPlain : Reply → Type 0
IsPlain (replies.Refused refusal) = IsPlainRefusal refusal
IsPlain reply = Unit {0}

-- no name that a legal reply gives has a line feed
abbrev pub LegalRepliesArePlain : Type 0
LegalRepliesArePlain =
    (told : Bool) (script : Script) (h : List Entry) (replies : List Shown) → IsLegal told script h replies
    → AllByRecursion (λ shown. IsPlain shown.reply) replies

-- it tells of no damaged granule
abbrev pub TellsNoDamage : Reply → Type 0
TellsNoDamage (replies.Refused (Damaged part source column granule at)) = ⊥
TellsNoDamage reply = Unit {0}

-- where blobs tell their bytes, no legal reply tells of a damaged granule
abbrev pub NoDamageWhereTold : Type 0
NoDamageWhereTold =
    (script : Script) (h : List Entry) (replies : List Shown) → IsLegal true script h replies
    → AllByRecursion (λ shown. TellsNoDamage shown.reply) replies

-- from a text that begins with a reply its line and its name can be read, and what it announces where its
-- names have no line feed
abbrev pub RepliesAreToldApart : Type 0
RepliesAreToldApart =
    (l m : ℕ) (a b : List ℕ) (r s : Reply) (more others : List ℕ) → l < 2 ^ 32 → m < 2 ^ 32 → IsName a
    → IsName b
    → reply_text l a r ++ more ≡ reply_text m b s ++ others
    → (l ≡ m) × (a ≡ b) × (IsPlain r → IsPlain s → announced r ≡ announced s)

-- the numbers that a part's name gives are below 2 ^ 64
pub record IsSmallName (part : PartName) : Type 0 where
  pub min : part.min < 2 ^ 64
  pub max : part.max < 2 ^ 64
  pub level : part.level < 2 ^ 64
  pub field : part.field < 2 ^ 64

-- the offset and the other numbers that a refusal gives, if any, are below 2 ^ 64
abbrev pub HasSmallOffset : Refusal → Type 0
HasSmallOffset (Syntax at) = at < 2 ^ 64
HasSmallOffset (Damaged part source column granule at) =
    IsSmallName part × (column < 2 ^ 64) × (granule < 2 ^ 64) × (at < 2 ^ 64)
HasSmallOffset refusal = Unit {0}

-- both are done, have as many rows (below 2 ^ 64), or are refused in the same way
abbrev pub SayTheSame : Reply → Reply → Type 0
SayTheSame replies.Done replies.Done = Unit {0}
SayTheSame (replies.Rows out) (replies.Rows other) =
    length out.rows < 2 ^ 64 → length other.rows < 2 ^ 64 → length out.rows ≡ length other.rows
SayTheSame (replies.Refused refusal) (replies.Refused other) =
    HasSmallOffset refusal → HasSmallOffset other → refusal ≡ other
SayTheSame reply other = ⊥

-- what is announced tells of which kind a reply is, and its refusal
abbrev pub AnnouncementsAreToldApart : Type 0
AnnouncementsAreToldApart = (r s : Reply) → announced r ≡ announced s → SayTheSame r s
