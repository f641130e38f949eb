-- Names that repeat, and the first unknown one: which is one, and whether there is any.
use Rattle.std.proofs.Common.{◌≡◌, ℕ, zero, suc, ◌+◌, ◌<◌, ◌≤◌, List, [], length, take, get_or, Some, None}
use Rattle.std.proofs.Common.{slice_get, Contains, sym, ap, ◌∙◌, subst, ⊎_elim, inl, inr, arith}
use Rattle.std.specs.Prelude.{◌⊎◌}
use Rattle.std.specs.List.{list_any}
use Rattle.std.specs.Str.{bytes_eq}
use Rattle.std.proofs.lemmas.Bool.{cases_lt}
use Rattle.std.proofs.lemmas.List.{take-take, length-take, get_or-take, take_all}
use Rattle.std.proofs.lemmas.Option.{none-some, same_Some, slice_get_within, slice_get-get_or}
use Rattle.std.proofs.lemmas.Option.{get_or_from_slice_get}
use Rattle.pj_bind.specs.Names.{Name, first_unknown, IsFirstUnknown, NoneRepeats, IsFirstRepeat}
use Rattle.pj_bind.proofs.decided.Decided.{Decided, HasOrNone, decided-true, decided-by, some-or-none}
use Rattle.pj_bind.proofs.decided.Decided.{none-from}
use Rattle.pj_bind.proofs.NameLemmas.{has-Contains, Contains-has, NoneRepeats-more}

-- whether a name is one of these
pub decided-Contains : (names : List Name) (name : Name) → Decided (Contains names name)
decided-Contains names name =
    decided-by (has-Contains names name) (Contains-has names name)
    (decided-true (list_any (bytes_eq name) names))

-- ---- names that repeat

-- where none repeats, none is the first that does
pub IsFirstRepeat-none : (names : List Name) → NoneRepeats names → (a : Name) → IsFirstRepeat names a → ⊥
IsFirstRepeat-none names none a f = none f.at a f.there f.repeats

-- no name repeats an earlier one before the first that does
IsFirstRepeat-before : (names : List Name) (a b : Name) (f : IsFirstRepeat names a)
    (g : IsFirstRepeat names b) → f.at < g.at → ⊥
IsFirstRepeat-before names a b f g lt =
    let within : f.at < length names = slice_get_within names f.at a f.there in
    let short : f.at < length (take g.at names) = omega (arith, length-take g.at names) in
    let there : slice_get (take g.at names) f.at ≡ Some a =
    slice_get-get_or (take g.at names) f.at a short
    ∙ ap Some (get_or-take g.at names f.at a lt ∙ get_or_from_slice_get names f.at a a f.there) in
    g.before f.at a there
    (subst (λ (xs : List Name). Contains xs a) (sym (take-take f.at g.at names (omega arith))) f.repeats)

-- the first name that repeats is one
pub IsFirstRepeat-one : (names : List Name) (a b : Name) → IsFirstRepeat names a → IsFirstRepeat names b
    → a ≡ b
IsFirstRepeat-one names a b f g =
    ⊎_elim (λ lt. absurd (IsFirstRepeat-before names a b f g lt))
    (λ ge. ⊎_elim (λ lt. absurd (IsFirstRepeat-before names b a g f lt))
    (λ le. let at : f.at ≡ g.at = omega arith in
    same_Some a b (sym f.there ∙ ap (slice_get names) at ∙ g.there))
    (cases_lt g.at f.at))
    (cases_lt f.at g.at)

-- a name repeats among the first so many, or none does
repeats-or-none : (names : List Name) (n : ℕ) → n ≤ length names
    → ((name : Name) × IsFirstRepeat names name) ⊎ NoneRepeats (take n names)
repeats-or-none names zero le =
    inr (λ at name there among.
    omega (arith, among.1, length-take at (take 0 names), length-take 0 names))
repeats-or-none names (suc n) le =
    by (repeats-or-none names n (omega arith)) (decided-Contains (take n names) (get_or names n d))
  where
    d : Name
    d = []

    by : ((name : Name) × IsFirstRepeat names name) ⊎ NoneRepeats (take n names)
        → Decided (Contains (take n names) (get_or names n d))
        → ((name : Name) × IsFirstRepeat names name) ⊎ NoneRepeats (take (suc n) names)
    by (inl found) again = inl found
    by (inr none) (inl again) =
        inl (
          get_or names n d,
          record {
            at = n;
            there = slice_get-get_or names n d (omega arith);
            repeats = again;
            before = none;
          },
        )
    by (inr none) (inr new) =
        let one_more : n + 1 ≡ suc n = omega arith in
        inr (subst (λ (k : ℕ). NoneRepeats (take k names)) one_more
        (NoneRepeats-more names n d (omega arith) none new))

-- a name repeats an earlier one, or none does
IsFirstRepeat-or-none : (names : List Name) → ((name : Name) × IsFirstRepeat names name) ⊎ NoneRepeats names
IsFirstRepeat-or-none names =
    ⊎_elim (λ found. inl found)
    (λ none. inr (subst NoneRepeats (take_all (length names) names (omega arith)) none))
    (repeats-or-none names (length names) (omega arith))

-- the same, of the first that repeats
pub IsFirstRepeat-decided : (names : List Name) → HasOrNone (IsFirstRepeat names)
IsFirstRepeat-decided names =
    ⊎_elim (λ found. inl found) (λ none. inr (IsFirstRepeat-none names none)) (IsFirstRepeat-or-none names)

-- where none is the first that repeats, none repeats
pub NoneRepeats-from_none : (names : List Name) → ((name : Name) → IsFirstRepeat names name → ⊥)
    → NoneRepeats names
NoneRepeats-from_none names not_so =
    ⊎_elim (λ found. absurd (not_so found.0 found.1)) (λ none. none) (IsFirstRepeat-or-none names)

-- ---- names that are unknown

module _ (known names : List Name) where
  -- the first is one
  pub IsFirstUnknown-one : (a b : Name) → IsFirstUnknown known names a → IsFirstUnknown known names b → a ≡ b
  IsFirstUnknown-one a b f g = same_Some a b (sym f ∙ g)

  -- there is none where all are known
  pub IsFirstUnknown-none : first_unknown known names ≡ None → (a : Name) → IsFirstUnknown known names a → ⊥
  IsFirstUnknown-none all a f = none-some a (sym all ∙ f)

  -- there is one or none
  pub IsFirstUnknown-decided : HasOrNone (IsFirstUnknown known names)
  IsFirstUnknown-decided = some-or-none (first_unknown known names)

  -- where there is none, all are known
  pub known-from_none : ((a : Name) → IsFirstUnknown known names a → ⊥) → first_unknown known names ≡ None
  known-from_none not_so = none-from (first_unknown known names) not_so
