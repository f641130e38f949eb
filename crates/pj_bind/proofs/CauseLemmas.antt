-- The first of a list of causes that holds: it is one, or there is none.
use Rattle.std.proofs.Common.{◌≡◌, List, [], ◌∷◌, sym, ap, ◌∙◌, inl, inr}
use Rattle.std.specs.Prelude.{◌⊎◌}
use Rattle.pj_bind.specs.declared.types.Refusal.{Refusal}
use Rattle.pj_bind.specs.Names.{Name}
use Rattle.pj_bind.specs.Causes.{Cause, ◌when◌, ◌naming◌, GivesNone, First}
use Rattle.pj_bind.proofs.decided.Decided.{Decided, HasOrNone}

-- each of the causes has this
abbrev pub Each : (Cause → Type 0) → List Cause → Type 0
Each P [] = Unit {0}
Each P (cause ∷ causes) = P cause × Each P causes

-- the cause gives one refusal at most
abbrev pub GivesOne : Cause → Type 0
GivesOne cause = (a b : Refusal) → cause a → cause b → a ≡ b

-- ---- one cause

module _ (this : Refusal) (fact : Type 0) where
  -- a cause that gives this refusal alone
  pub when-one : GivesOne (this when fact)
  when-one a b r s = r.0 ∙ sym s.0

  pub when-none : (fact → ⊥) → GivesNone (this when fact)
  when-none not_so a r = not_so r.1

  pub when-decided : Decided fact → HasOrNone (this when fact)
  when-decided (inl holds) = inl (this, (λ i. this, holds))
  when-decided (inr not_so) = inr (when-none not_so)

module _ (telling : Name → Refusal) (fact : Name → Type 0) where
  -- a cause that gives a refusal with a name
  pub naming-one : ((m n : Name) → fact m → fact n → m ≡ n) → GivesOne (telling naming fact)
  naming-one one a b (m, is, r) (n, too, s) = is ∙ ap telling (one m n r s) ∙ sym too

  pub naming-none : ((n : Name) → fact n → ⊥) → GivesNone (telling naming fact)
  naming-none not_so a (n, is, r) = not_so n r

  pub naming-decided : HasOrNone fact → HasOrNone (telling naming fact)
  naming-decided (inl (n, holds)) = inl (telling n, (n, λ i. telling n, holds))
  naming-decided (inr not_so) = inr (naming-none not_so)

-- ---- lists of causes

-- the first refusal is one, where each cause gives one at most
pub First-one : (causes : List Cause) → Each GivesOne causes → GivesOne (First causes)
First-one [] all a b r s = absurd r
First-one (cause ∷ causes) all a b (inl r) (inl s) = all.0 a b r s
First-one (cause ∷ causes) all a b (inl r) (inr s) = absurd (s.0 a r)
First-one (cause ∷ causes) all a b (inr r) (inl s) = absurd (r.0 b s)
First-one (cause ∷ causes) all a b (inr r) (inr s) = First-one causes all.1 a b r.1 s.1

-- there is none where no cause holds
pub First-none : (causes : List Cause) → Each GivesNone causes → GivesNone (First causes)
First-none [] none a r = r
First-none (cause ∷ causes) none a (inl r) = none.0 a r
First-none (cause ∷ causes) none a (inr r) = First-none causes none.1 a r.1

-- there is one, or no cause holds, where each cause holds or doesn't
pub First-or-none : (causes : List Cause) → Each HasOrNone causes
    → ((refusal : Refusal) × First causes refusal) ⊎ Each GivesNone causes
First-or-none [] all = inr tt
First-or-none (cause ∷ causes) all =
    elim (all.0) [
      | inl (refusal, holds) ↦ inl (refusal, inl holds)
      | inr none ↦
          elim (First-or-none causes all.1) [
            | inl (refusal, first) ↦ inl (refusal, inr (none, first))
            | inr more ↦ inr (none, more)
          ]
    ]

-- the first refusal is what each refusal of each cause is
pub First-each : (P : Refusal → Type 0) (causes : List Cause)
    → Each (λ cause. (refusal : Refusal) → cause refusal → P refusal) causes
    → (refusal : Refusal) → First causes refusal → P refusal
First-each P [] all refusal first = absurd first
First-each P (cause ∷ causes) all refusal (inl holds) = all.0 refusal holds
First-each P (cause ∷ causes) all refusal (inr (none, first)) = First-each P causes all.1 refusal first
