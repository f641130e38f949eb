-- The texts of replies: one after the other, and read back.
use Rattle.std.proofs.Common.{◌≡◌, ℕ, ◌+◌, ◌^◌, ◌<◌, ◌++◌, length}
use Rattle.std.proofs.Common.{true, List, [], ◌∷◌, sym, refl}
use Rattle.std.proofs.Common.{ap, ◌∙◌, subst, arith, append-nil, append_assoc}
use Rattle.std.specs.Prelude.{codes, slice_index}
use Rattle.std.specs.List.{flat_map}
use Rattle.std.specs.Fmt.{decimal}
use Rattle.std.proofs.lemmas.Bool.{false≢true}
use Rattle.std.proofs.lemmas.List.{append_cancel_left}
use Rattle.std.proofs.lemmas.List.Concat.{flat_map-append}
use Rattle.std.proofs.lemmas.Fmt.{decimal_injective}
use Rattle.pj_lex.specs.Bytes.{is_small, AllAre}
use Rattle.pj_script.specs.Lines.{IsName, is_name_byte}
use Rattle.pj_legal.specs.declared.reply.Reply.{Reply}
use Rattle.pj_legal.specs.declared.reply.Reply.TheVariants as replies
use Rattle.pj_bind.specs.declared.types.LimitName.{LimitName}
use Rattle.pj_bind.specs.declared.types.LimitName.TheVariants as limits
use Rattle.pj_bind.specs.declared.types.Refusal.{Refusal}
use Rattle.pj_bind.specs.declared.types.Refusal.TheVariants as refusals
use Rattle.pj_legal.specs.Statements.{Shown}
use Rattle.pj_legal.specs.Texts.{shown_text, replies_text, reply_text, limit_text, refusal_text}
use Rattle.pj_legal.specs.Texts.{announced, following, as_line}
use Rattle.pj_legal.specs.Laws.{IsPlainRefusal, IsPlain, HasSmallOffset, SayTheSame}
use Rattle.pj_legal.proofs.texts.FreeTexts.{IsFree, IsFree-from, IsFree-append, parts_are_same}
use Rattle.pj_legal.proofs.texts.FreeTexts.{IsFree-decimal}
use Rattle.pj_legal.proofs.texts.GranuleTexts.{granule_text, IsFree-granule, granule_text-same}

-- one more reply
pub replies_text-push : (names : List (List ℕ)) (replies : List Shown) (shown : Shown)
    → replies_text names (replies ++ shown ∷ []) ≡ replies_text names replies ++ shown_text names shown
replies_text-push names replies shown =
    flat_map-append (shown_text names) replies (shown ∷ [])
    ∙ ap (λ (text : List ℕ). replies_text names replies ++ text) (append-nil (shown_text names shown))

-- no blank in a name
pub IsFree-name : (name : List ℕ) → IsName name → IsFree 32 name
IsFree-name [] named = absurd named
IsFree-name (b ∷ bs) named =
    ((λ same. false≢true (subst (λ x. is_small x ≡ true) same named.0)), others bs named.1)
  where
    others : (cs : List ℕ) → AllAre is_name_byte cs → IsFree 32 cs
    others [] all = tt
    others (c ∷ cs) all =
        ((λ same. false≢true (subst (λ x. is_name_byte x ≡ true) same all.0)), others cs all.1)

-- no line feed in what a refusal says
IsFree-refusal : (refusal : Refusal) → IsPlainRefusal refusal → IsFree 10 (refusal_text refusal)
IsFree-refusal (refusals.Syntax at) plain =
    IsFree-append 10 (codes "SYNTAX_ERROR ") (decimal at) (omega arith) (IsFree-decimal 10 at (omega arith))
IsFree-refusal (refusals.Limit limits.Tokens) plain = omega arith
IsFree-refusal (refusals.Limit limits.Text) plain = omega arith
IsFree-refusal (refusals.Limit limits.Tables) plain = omega arith
IsFree-refusal (refusals.Limit limits.Columns) plain = omega arith
IsFree-refusal (refusals.Limit limits.History) plain = omega arith
IsFree-refusal (refusals.UnknownTable name) plain =
    IsFree-append 10 (codes "UNKNOWN_TABLE ") name (omega arith) (IsFree-from 10 name plain)
IsFree-refusal (refusals.TableExists name) plain =
    IsFree-append 10 (codes "TABLE_ALREADY_EXISTS ") name (omega arith) (IsFree-from 10 name plain)
IsFree-refusal (refusals.DuplicateColumn name) plain =
    IsFree-append 10 (codes "DUPLICATE_COLUMN ") name (omega arith) (IsFree-from 10 name plain)
IsFree-refusal (refusals.UnknownIdentifier name) plain =
    IsFree-append 10 (codes "UNKNOWN_IDENTIFIER ") name (omega arith) (IsFree-from 10 name plain)
IsFree-refusal refusals.TypeMismatch plain = omega arith
IsFree-refusal refusals.NotAnAggregate plain = omega arith
IsFree-refusal refusals.NotBuilt plain = omega arith
IsFree-refusal refusals.StoreFault plain = omega arith
IsFree-refusal (refusals.Damaged part source column granule at) plain =
    IsFree-append 10 (codes "DAMAGED_PART ") (granule_text part source column granule at) (omega arith)
    (IsFree-granule part source column granule at)
IsFree-refusal refusals.NoMemory plain = omega arith

-- nor in what a reply announces
pub IsFree-announced : (reply : Reply) → IsPlain reply → IsFree 10 (announced reply)
IsFree-announced replies.Done plain = omega arith
IsFree-announced (replies.Rows out) plain =
    IsFree-append 10 (codes "rows ") (decimal (length out.rows)) (omega arith)
    (IsFree-decimal 10 (length out.rows) (omega arith))
IsFree-announced (replies.Refused refusal) plain = IsFree-refusal refusal plain

-- the parts of a reply's text
reply_text-parts : (line : ℕ) (name : List ℕ) (reply : Reply) (more : List ℕ)
    → reply_text line name reply ++ more
    ≡ decimal line ++
    (32 ∷ (name ++ (32 ∷ (announced reply ++ (10 ∷ (flat_map as_line (following reply) ++ more))))))
unfolding reply_text
reply_text-parts line name reply more = simp append_assoc

-- and so they can be read from it
pub reply_text-same : (l m : ℕ) (a b : List ℕ) (r s : Reply) (more others : List ℕ) → l < 2 ^ 32 → m < 2 ^ 32
    → IsName a → IsName b
    → reply_text l a r ++ more ≡ reply_text m b s ++ others
    → (l ≡ m) × (a ≡ b) × (IsPlain r → IsPlain s → announced r ≡ announced s)
reply_text-same l m a b r s more others few many first other same =
    let numbers : (decimal l ≡ decimal m) × (behind_number a r more ≡ behind_number b s others) =
    parts_are_same 32 (decimal l) (decimal m) (behind_number a r more) (behind_number b s others)
    (IsFree-decimal 32 l (omega arith)) (IsFree-decimal 32 m (omega arith))
    (sym (reply_text-parts l a r more) ∙ same ∙ reply_text-parts m b s others) in
    let names : (a ≡ b) × (behind_name r more ≡ behind_name s others) =
    parts_are_same 32 a b (behind_name r more) (behind_name s others) (IsFree-name a first)
    (IsFree-name b other) numbers.1 in (
      decimal_injective l m (omega arith) (omega arith) numbers.0,
      names.0,
      (λ plain too. (parts_are_same 10 (announced r) (announced s) (rest r more) (rest s others)
          (IsFree-announced r plain) (IsFree-announced s too) names.1).0),
    )
  where
    rest : Reply → List ℕ → List ℕ
    rest reply text = flat_map as_line (following reply) ++ text

    behind_name : Reply → List ℕ → List ℕ
    behind_name reply text = announced reply ++ (10 ∷ rest reply text)

    behind_number : List ℕ → Reply → List ℕ → List ℕ
    behind_number name reply text = name ++ (32 ∷ behind_name reply text)

-- a number that the first and the fifth byte make, another for each kind of reply, unknown names aside
abbrev tag : List ℕ → ℕ
tag text = slice_index text 0 + slice_index text 4

-- the name of a limit tells it, by its third byte
limit_text-same : (limit other : LimitName) → limit_text limit ≡ limit_text other → limit ≡ other
limit_text-same limits.Tokens limits.Tokens same = refl
limit_text-same limits.Text limits.Text same = refl
limit_text-same limits.Tables limits.Tables same = refl
limit_text-same limits.Columns limits.Columns same = refl
limit_text-same limits.History limits.History same = refl
limit_text-same limit other same = absurd (omega (arith, ap (λ text. slice_index text 2) same))

-- what a refusal says tells it
refusal_text-same : (refusal other : Refusal) → HasSmallOffset refusal → HasSmallOffset other
    → refusal_text refusal ≡ refusal_text other → refusal ≡ other
refusal_text-same (refusals.Syntax at) (refusals.Syntax there) few many same =
    let places = append_cancel_left (codes "SYNTAX_ERROR ") (decimal at) (decimal there) same in
    ap refusals.Syntax (decimal_injective at there few many places)
refusal_text-same (refusals.Limit limit) (refusals.Limit other) few many same =
    let names = append_cancel_left (codes "LIMIT ") (limit_text limit) (limit_text other) same in
    ap refusals.Limit (limit_text-same limit other names)
refusal_text-same (refusals.UnknownTable name) (refusals.UnknownTable other) few many same =
    ap refusals.UnknownTable (append_cancel_left (codes "UNKNOWN_TABLE ") name other same)
refusal_text-same (refusals.UnknownTable name) (refusals.UnknownIdentifier other) few many same =
    absurd (omega (arith, ap (λ text. slice_index text 8) same))
refusal_text-same (refusals.UnknownIdentifier name) (refusals.UnknownTable other) few many same =
    absurd (omega (arith, ap (λ text. slice_index text 8) same))
refusal_text-same (refusals.TableExists name) (refusals.TableExists other) few many same =
    ap refusals.TableExists (append_cancel_left (codes "TABLE_ALREADY_EXISTS ") name other same)
refusal_text-same (refusals.DuplicateColumn name) (refusals.DuplicateColumn other) few many same =
    ap refusals.DuplicateColumn (append_cancel_left (codes "DUPLICATE_COLUMN ") name other same)
refusal_text-same (refusals.UnknownIdentifier name) (refusals.UnknownIdentifier other) few many same =
    ap refusals.UnknownIdentifier (append_cancel_left (codes "UNKNOWN_IDENTIFIER ") name other same)
refusal_text-same refusals.TypeMismatch refusals.TypeMismatch few many same = refl
refusal_text-same refusals.NotAnAggregate refusals.NotAnAggregate few many same = refl
refusal_text-same refusals.NotBuilt refusals.NotBuilt few many same = refl
refusal_text-same refusals.StoreFault refusals.StoreFault few many same = refl
refusal_text-same (refusals.Damaged part source column granule at)
    (refusals.Damaged part' source' column' granule' at') few many same =
    granule_text-same part part' source source' column column' granule granule' at at' few many
    (append_cancel_left (codes "DAMAGED_PART ") (granule_text part source column granule at)
    (granule_text part' source' column' granule' at') same)
refusal_text-same refusals.NoMemory refusals.NoMemory few many same = refl
refusal_text-same refusal other few many same = absurd (omega (arith, ap tag same))

-- a refusal says neither `ok` nor `rows`
refusal_text-tag : (refusal : Refusal)
    → (tag (refusal_text refusal) ≡ 111 → ⊥) × (tag (refusal_text refusal) ≡ 146 → ⊥)
refusal_text-tag (refusals.Syntax at) = omega arith
refusal_text-tag (refusals.Limit limit) = omega arith
refusal_text-tag (refusals.UnknownTable name) = omega arith
refusal_text-tag (refusals.TableExists name) = omega arith
refusal_text-tag (refusals.DuplicateColumn name) = omega arith
refusal_text-tag (refusals.UnknownIdentifier name) = omega arith
refusal_text-tag refusals.TypeMismatch = omega arith
refusal_text-tag refusals.NotAnAggregate = omega arith
refusal_text-tag refusals.NotBuilt = omega arith
refusal_text-tag refusals.StoreFault = omega arith
refusal_text-tag (refusals.Damaged part source column granule at) = omega arith
refusal_text-tag refusals.NoMemory = omega arith

-- and what a reply announces tells its kind
pub announced-same : (r s : Reply) → announced r ≡ announced s → SayTheSame r s
announced-same replies.Done replies.Done same = tt
announced-same replies.Done (replies.Rows other) same = omega (arith, ap tag same)
announced-same replies.Done (replies.Refused refusal) same = (refusal_text-tag refusal).0 (ap tag (sym same))
announced-same (replies.Rows out) replies.Done same = omega (arith, ap tag same)
announced-same (replies.Rows out) (replies.Rows other) same = λ few many.
    decimal_injective (length out.rows) (length other.rows) few many
    (append_cancel_left (codes "rows ") (decimal (length out.rows)) (decimal (length other.rows)) same)
announced-same (replies.Rows out) (replies.Refused refusal) same =
    (refusal_text-tag refusal).1 (ap tag (sym same))
announced-same (replies.Refused refusal) replies.Done same = (refusal_text-tag refusal).0 (ap tag same)
announced-same (replies.Refused refusal) (replies.Rows other) same =
    (refusal_text-tag refusal).1 (ap tag same)
announced-same (replies.Refused refusal) (replies.Refused other) same =
    λ few many. refusal_text-same refusal other few many same
