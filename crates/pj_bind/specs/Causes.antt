-- Refusals by their causes: the first cause that holds is told (docs/GRAMMAR.md, "The order of refusals").
use Rattle.std.specs.Prelude.{◌≡◌, ◌⊎◌, List, [], ◌∷◌}
use Rattle.pj_bind.specs.declared.types.Refusal.{Refusal}
use Rattle.pj_bind.specs.Names.{Name}

-- a cause, by the refusals that it gives
abbrev pub Cause : Type 1
Cause = Refusal → Type 0

infix 3 ◌when◌ ◌naming◌
-- this refusal, where the fact holds
abbrev pub ◌when◌ : Refusal → Type 0 → Cause
(this when fact) refusal = (refusal ≡ this) × fact

-- a refusal that tells a name, where the fact holds of the name
abbrev pub ◌naming◌ : (Name → Refusal) → (Name → Type 0) → Cause
(telling naming fact) refusal = (name : Name) × (refusal ≡ telling name) × fact name

-- the cause doesn't hold
abbrev pub GivesNone : Cause → Type 0
GivesNone cause = (refusal : Refusal) → cause refusal → ⊥

-- the refusal is given by the first cause that holds
abbrev pub First : List Cause → Refusal → Type 0
First [] refusal = ⊥
First (cause ∷ causes) refusal = cause refusal ⊎ (GivesNone cause × First causes refusal)
