-- The refusals of a body: none is for a full journal or for what befell a port, and none gives a name with a
-- line feed.
use Rattle.std.proofs.Common.{ℕ, List, [], ◌∷◌, not, sym, subst, inl, inr}
use Rattle.pj_grammar.specs.declared.types.Statement.{Statement}
use Rattle.pj_grammar.specs.declared.types.Statement.TheVariants as statements
use Rattle.pj_expr.specs.declared.table.Table.{Table}
use Rattle.pj_bind.specs.declared.types.LimitName.TheVariants as limits
use Rattle.pj_bind.specs.declared.types.Refusal.{Refusal}
use Rattle.pj_bind.specs.declared.types.Refusal.TheVariants as refusals
use Rattle.pj_bind.specs.Causes.{Cause, ◌when◌, ◌naming◌}
use Rattle.pj_bind.specs.Names.{Name, is_among, IsFirstRepeat, IsFirstUnknown}
use Rattle.pj_bind.specs.Filling.{column_names, listed_names}
use Rattle.pj_bind.specs.Queries.{column_names_of}
use Rattle.pj_bind.specs.Binding.{new_names, At, causes}
use Rattle.pj_bind.proofs.CauseLemmas.{Each, First-each}
use Rattle.pj_legal.specs.Bodies.{IsUnreadable, IsBodyRefusal}
use Rattle.pj_legal.specs.Laws.{IsOneLine, IsPlainRefusal}
use Rattle.pj_legal.proofs.histories.ListLemmas.{All-front, All-back, All-slice_get, All-find}
use Rattle.pj_legal.proofs.plain.PlainTrees.{ArePlain}
use Rattle.pj_legal.proofs.plain.PlainStatements.{IsPlainStatement}
use Rattle.pj_legal.proofs.plain.PlainLexemes.{plain-body}

-- it is neither for a full journal nor for what befell a port
abbrev pub IsOfBody : Refusal → Type 0
IsOfBody (refusals.Limit limits.History) = ⊥
IsOfBody refusals.StoreFault = ⊥
IsOfBody (refusals.Damaged part source column granule at) = ⊥
IsOfBody refusal = Unit {0}

-- no line feed in a name that it gives, and it is of a body
abbrev pub IsPlainCause : Refusal → Type 0
IsPlainCause refusal = IsPlainRefusal refusal × IsOfBody refusal

-- the refusals of a cause are so
abbrev Gives : Cause → Type 0
Gives cause = (refusal : Refusal) → cause refusal → IsPlainCause refusal

gives_when : (this : Refusal) (fact : Type 0) → (fact → IsPlainCause this) → Gives (this when fact)
gives_when this fact holds refusal h = subst IsPlainCause (sym h.0) (holds h.1)

gives_naming : (telling : Name → Refusal) (fact : Name → Type 0)
    → ((name : Name) → fact name → IsPlainCause (telling name)) → Gives (telling naming fact)
gives_naming telling fact holds refusal h = subst IsPlainCause (sym h.1) (holds h.0 h.2)

gives_at : (tables : List Table) (name : Name) (cause : Table → Cause) → ((table : Table) → Gives
    (cause table))
    → Gives (At tables name cause)
gives_at tables name cause holds refusal h = holds h.1 refusal h.3

-- a form that isn't built
not_built : (fact : Type 0) → Gives (refusals.NotBuilt when fact)
not_built fact = gives_when refusals.NotBuilt fact (λ h. (tt, tt))

-- a name that repeats an earlier one
repeats : (names : List Name) → ArePlain names → Gives (refusals.DuplicateColumn naming IsFirstRepeat names)
repeats names all =
    gives_naming refusals.DuplicateColumn (IsFirstRepeat names)
    (λ name is. (All-slice_get IsOneLine names is.at name all is.there, tt))

-- one that is unknown
unknown : (known names : List Name) → ArePlain names
    → Gives (refusals.UnknownIdentifier naming IsFirstUnknown known names)
unknown known names all =
    gives_naming refusals.UnknownIdentifier (IsFirstUnknown known names)
    (λ name is. (All-find IsOneLine (λ n. not (is_among known n)) names name all is, tt))

-- so are those of each of some causes
record ArePlainCauses (causes : List Cause) : Type 0 where
  each : Each Gives causes

none : ArePlainCauses []
none = record { each = tt }

infixr 2 ◌also◌
-- one cause, and more
◌also◌ : {cause : Cause} {causes : List Cause} → Gives cause → ArePlainCauses causes
    → ArePlainCauses (cause ∷ causes)
one also more = record { each = (one, more.each) }

-- those of a statement whose names are plain
plain-causes : (tables : List Table) (s : Statement) → IsPlainStatement s → ArePlainCauses (causes tables s)
plain-causes tables (statements.Create name columns projections key settings) all =
    not_built _ also gives_when (refusals.TableExists name) _ (λ h. (all.0, tt))
    also gives_when (refusals.Limit limits.Tables) _ (λ h. (tt, tt))
    also gives_when (refusals.Limit limits.Columns) _ (λ h. (tt, tt))
    also repeats (new_names columns) (All-front IsOneLine (new_names columns) key all.1) also repeats key
    of_key
    also unknown (new_names columns) key of_key also none
  where
    of_key : ArePlain key
    of_key = All-back IsOneLine (new_names columns) key all.1
plain-causes tables (statements.Insert name listed rows) all =
    not_built _ also gives_when (refusals.UnknownTable name) _ (λ h. (all.0, tt))
    also gives_at tables name _ (λ table. repeats (listed_names listed) all.1)
    also gives_at tables name _ (λ table. unknown (column_names table.columns) (listed_names listed) all.1)
    also gives_at tables name _ (λ table. gives_when refusals.TypeMismatch _ (λ h. (tt, tt))) also none
plain-causes tables (statements.Select select) all =
    not_built _ also gives_when (refusals.UnknownTable select.table) _ (λ h. (all.0, tt))
    also gives_at tables select.table _
    (λ table. unknown (column_names table.columns) (column_names_of select) all.1)
    also gives_at tables select.table _ (λ table. gives_when refusals.TypeMismatch _ (λ h. (tt, tt)))
    also gives_at tables select.table _ (λ table. gives_when refusals.NotAnAggregate _ (λ h. (tt, tt)))
    also none
plain-causes tables (statements.Explain select) all = not_built _ also none
plain-causes tables (statements.Delete name filter sets) all = not_built _ also none
plain-causes tables (statements.Alter name action sets) all = not_built _ also none
plain-causes tables (statements.Optimize name) all = not_built _ also none
plain-causes tables (statements.Set sets) all = not_built _ also none
plain-causes tables (statements.Merge name) all = not_built _ also none
plain-causes tables (statements.Mutate name) all = not_built _ also none

-- and so is why a body can't be read
plain-unreadable : (body : List ℕ) (refusal : Refusal) → IsUnreadable body refusal → IsPlainCause refusal
plain-unreadable body (refusals.Syntax at) is = (tt, tt)
plain-unreadable body (refusals.Limit limits.Tokens) is = (tt, tt)
plain-unreadable body (refusals.Limit limits.Text) is = (tt, tt)
plain-unreadable body (refusals.Limit limits.Tables) is = absurd is
plain-unreadable body (refusals.Limit limits.Columns) is = absurd is
plain-unreadable body (refusals.Limit limits.History) is = absurd is
plain-unreadable body (refusals.UnknownTable name) is = absurd is
plain-unreadable body (refusals.TableExists name) is = absurd is
plain-unreadable body (refusals.DuplicateColumn name) is = absurd is
plain-unreadable body (refusals.UnknownIdentifier name) is = absurd is
plain-unreadable body refusals.TypeMismatch is = absurd is
plain-unreadable body refusals.NotAnAggregate is = absurd is
plain-unreadable body refusals.NotBuilt is = absurd is
plain-unreadable body refusals.StoreFault is = absurd is
plain-unreadable body (refusals.Damaged part source column granule at) is = absurd is
plain-unreadable body refusals.NoMemory is = absurd is

-- a body's refusal
pub plain-refusal : (tables : List Table) (body : List ℕ) (refusal : Refusal)
    → IsBodyRefusal tables body refusal
    → IsPlainCause refusal
plain-refusal tables body refusal (inl unreadable) = plain-unreadable body refusal unreadable
plain-refusal tables body refusal (inr (s, reads, is)) =
    First-each IsPlainCause (causes tables s) (plain-causes tables s
    (plain-body body s reads)).each refusal is
