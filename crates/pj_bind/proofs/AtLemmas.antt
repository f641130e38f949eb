-- Causes that are asked of the table of a name.
use Rattle.std.proofs.Common.{ℕ, List, [], ◌∷◌, map, subst, inl, inr}
use Rattle.pj_expr.specs.declared.table.Table.{Table}
use Rattle.pj_expr.specs.Tables.{names}
use Rattle.pj_bind.specs.declared.types.Refusal.{Refusal}
use Rattle.pj_bind.specs.declared.types.Refusal.TheVariants.{UnknownTable}
use Rattle.pj_bind.specs.Names.{Name}
use Rattle.pj_bind.specs.Causes.{Cause, GivesNone, First}
use Rattle.pj_bind.specs.Binding.{IsUnknown, IsTableAt, asked_of, At, causes_at}
use Rattle.pj_bind.proofs.decided.Decided.{HasOrNone, decided-not}
use Rattle.pj_bind.proofs.RepeatLemmas.{decided-Contains}
use Rattle.pj_bind.proofs.TableLemmas.{IsUnknown-at, table-same, unknown-or-at}
use Rattle.pj_bind.proofs.CauseLemmas.{Each, GivesOne, when-one, when-none, when-decided}

module _ (tables : List Table) (name : Name) where
  -- one refusal at most
  At-one : (cause : Table → Cause) → ((t : Table) → GivesOne (cause t)) → GivesOne (At tables name cause)
  At-one cause one a b (i, s, here, r) (j, t, there, q) =
      one t a b (subst (λ (x : Table). cause x a) (table-same tables name i j s t here there) r) q

  Each-At-one : (causes : List (Table → Cause)) → ((t : Table) → Each GivesOne (asked_of t causes))
      → Each GivesOne (map (λ cause. At tables name cause) causes)
  Each-At-one [] one = tt
  Each-At-one (cause ∷ causes) one = (At-one cause (λ t. (one t).0), Each-At-one causes (λ t. (one t).1))

  pub causes_at-one : (causes : List (Table → Cause)) → ((t : Table) → Each GivesOne (asked_of t causes))
      → Each GivesOne (causes_at tables name causes)
  causes_at-one causes one =
      (when-one (UnknownTable name) (IsUnknown tables name), Each-At-one causes one)

  -- it holds, or it doesn't
  At-decided : (cause : Table → Cause) → ((t : Table) → HasOrNone (cause t))
      → HasOrNone (At tables name cause)
  At-decided cause d =
      elim (unknown-or-at tables name) [
        | inl unknown ↦ inr (λ a r. IsUnknown-at tables name r.0 r.1 r.2 unknown)
        | inr (i, (s, here)) ↦
            elim (d s) [
              | inl (a, r) ↦ inl (a, (i, s, here, r))
              | inr none ↦
                  inr (λ a r. none a (subst (λ (x : Table). cause x a)
                  (table-same tables name r.0 i r.1 s r.2 here) r.3))
            ]
      ]

  Each-At-decided : (causes : List (Table → Cause)) → ((t : Table) → Each HasOrNone (asked_of t causes))
      → Each HasOrNone (map (λ cause. At tables name cause) causes)
  Each-At-decided [] d = tt
  Each-At-decided (cause ∷ causes) d =
      (At-decided cause (λ t. (d t).0), Each-At-decided causes (λ t. (d t).1))

  pub causes_at-decided : (causes : List (Table → Cause)) → ((t : Table) → Each HasOrNone (asked_of t causes))
      → Each HasOrNone (causes_at tables name causes)
  causes_at-decided causes d = (
    when-decided (UnknownTable name) (IsUnknown tables name)
        (decided-not (decided-Contains (names tables) name)),
    Each-At-decided causes d,
  )

  module _ (i : ℕ) (s : Table) (here : IsTableAt tables name i s) where
    -- it doesn't hold where it doesn't hold of the table
    At-none : (cause : Table → Cause) → GivesNone (cause s) → GivesNone (At tables name cause)
    At-none cause none a r =
        none a (subst (λ (x : Table). cause x a) (table-same tables name r.0 i r.1 s r.2 here) r.3)

    -- nor do several
    Each-At-none : (causes : List (Table → Cause)) → Each GivesNone (asked_of s causes)
        → Each GivesNone (map (λ cause. At tables name cause) causes)
    Each-At-none [] none = tt
    Each-At-none (cause ∷ causes) none = (At-none cause none.0, Each-At-none causes none.1)

    pub causes_at-none : (causes : List (Table → Cause)) → Each GivesNone (asked_of s causes)
        → Each GivesNone (causes_at tables name causes)
    causes_at-none causes none = (
      when-none (UnknownTable name) (IsUnknown tables name) (IsUnknown-at tables name i s here),
      Each-At-none causes none,
    )

    -- those that don't hold don't hold of the table
    pub asked_of-none : (causes : List (Table → Cause))
        → Each GivesNone (map (λ cause. At tables name cause) causes) → Each GivesNone (asked_of s causes)
    asked_of-none [] none = tt
    asked_of-none (cause ∷ causes) none = (λ a r. none.0 a (i, s, here, r), asked_of-none causes none.1)

    -- the first of the table's is the first
    First-At : (causes : List (Table → Cause)) (a : Refusal) → First (asked_of s causes) a
        → First (map (λ cause. At tables name cause) causes) a
    First-At [] a first = first
    First-At (cause ∷ causes) a (inl r) = inl (i, s, here, r)
    First-At (cause ∷ causes) a (inr (none, first)) = inr (At-none cause none, First-At causes a first)

    pub First-causes_at : (causes : List (Table → Cause)) (a : Refusal) → First (asked_of s causes) a
        → First (causes_at tables name causes) a
    First-causes_at causes a first =
        inr (
          when-none (UnknownTable name) (IsUnknown tables name) (IsUnknown-at tables name i s here),
          First-At causes a first,
        )
