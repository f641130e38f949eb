-- Names are numbered as the code looks them up, and each name has one number.
use Rattle.std.proofs.Common.{◌≡◌, ℕ, zero, suc, ◌+◌, ◌≤◌, ◌⊎◌, inl, inr, Bool, true, false, cond, not, List}
use Rattle.std.proofs.Common.{[], ◌∷◌, ◌++◌, nat_lt, length, get_or, Option, Some, None, Result, Ok, Err}
use Rattle.std.proofs.Common.{slice_get, Contains, position, bytes_eq, refl, sym, ap, subst, ◌∙◌, arith}
use Rattle.std.specs.List.{position_or_len}
use Rattle.std.proofs.lemmas.Bool.{true≢false, not-true, ltb-true, ltb-false, lt-ltb}
use Rattle.std.proofs.lemmas.List.{length_push}
use Rattle.std.proofs.lemmas.List.Quantifiers.{position-Some}
use Rattle.std.proofs.lemmas.List.Sums.{prefix_len_passes}
use Rattle.std.proofs.lemmas.Option.{same_Some, slice_get_within, slice_get-get_or, get_or_from_slice_get}
use Rattle.std.proofs.lemmas.Slice.Eq.{bytes_eq-Decides}
use Rattle.pj_script.specs.declared.types.ScriptMode.{ScriptMode}
use Rattle.pj_script.specs.Lines.{Numbers, names_limit}
use Rattle.pj_script.specs.ReadingLines.{number_by, numbered}

-- no name stands at two indices
abbrev pub AreDifferent : List (List ℕ) → Type 0
AreDifferent names =
    (i j : ℕ) (name : List ℕ) → slice_get names i ≡ Some name → slice_get names j ≡ Some name → i ≡ j

-- the index of a name, as the code looks for it
abbrev pub number_among : List (List ℕ) → List ℕ → Option ℕ
number_among names name = position (λ known. bytes_eq known name) names

Contains-get : (names : List (List ℕ)) (i : ℕ) (name : List ℕ) → slice_get names i ≡ Some name
    → Contains names name
Contains-get names i name got =
    (i, slice_get_within names i name got, get_or_from_slice_get names i name name got)

number_among-Some : (names : List (List ℕ)) (name : List ℕ) (i : ℕ) → number_among names name ≡ Some i
    → slice_get names i ≡ Some name
number_among-Some names name i e =
    let found = position-Some (λ known. bytes_eq known name) names i [] e in
    slice_get-get_or names i [] found.0 ∙ ap Some ((bytes_eq-Decides (get_or names i []) name).0 found.1)

cond_none : {A : Type 0} (b : Bool) (x : A) → cond b (Some x) None ≡ None → b ≡ false
cond_none true x e = absurd cc
cond_none false x e = refl

number_among-None : (names : List (List ℕ)) (name : List ℕ) → number_among names name ≡ None
    → Contains names name → ⊥
number_among-None names name e (k, within, is) =
    let len = position_or_len (λ known. bytes_eq known name) names in
    let all : length names ≤ len =
    ltb-false len (length names) (cond_none (nat_lt len (length names)) len e) in
    let other =
    not-true _ (prefix_len_passes (λ known. not (bytes_eq known name)) names k name (omega arith)) in
    true≢false (sym ((bytes_eq-Decides (get_or names k name) name).1 is) ∙ other)

number_cases : (known : Option ℕ) → ((i : ℕ) × (known ≡ Some i)) ⊎ (known ≡ None)
number_cases None = inr refl
number_cases (Some i) = inl (i, refl)

number_among-is : (names : List (List ℕ)) (name : List ℕ) (i : ℕ) → AreDifferent names
    → slice_get names i ≡ Some name → number_among names name ≡ Some i
number_among-is names name i different got =
    elim (number_cases (number_among names name)) [
      | inl found ↦
          found.1 ∙ ap Some (different found.0 i name (number_among-Some names name found.0 found.1) got)
      | inr none ↦ absurd (number_among-None names name none (Contains-get names i name got))
    ]

number_among-new : (names : List (List ℕ)) (name : List ℕ) → (Contains names name → ⊥)
    → number_among names name ≡ None
number_among-new names name new =
    elim (number_cases (number_among names name)) [
      | inl found ↦ absurd (new (Contains-get names found.0 name
          (number_among-Some names name found.0 found.1)))
      | inr none ↦ none
    ]

-- ---- what is read, and what is numbered

-- names are numbered, and they are few enough
abbrev NumbersFew : ScriptMode → List (List ℕ) → List (List ℕ) → List ℕ → ℕ → Type 0
NumbersFew mode before after name number =
    Numbers before after name number × (length after ≤ names_limit mode)

abbrev done : {A : Type 0} → A → Result A ℕ
done x = Ok x

pub ok_is : {A : Type 0} (x y : A) → done x ≡ done y → x ≡ y
ok_is x y e = cc

cond_ok : {A : Type 0} (b : Bool) (x y : A) (n : ℕ) → cond b (Ok x) (Err n) ≡ Ok y → (b ≡ true) × (x ≡ y)
cond_ok true x y n e = (refl, cc)
cond_ok false x y n e = absurd cc

number_by-from : (mode : ScriptMode) (at : ℕ) (names after : List (List ℕ)) (name : List ℕ) (number : ℕ)
    (known : Option ℕ)
    → number_among names name ≡ known → length names ≤ names_limit mode
    → number_by mode at names name known ≡ Ok (after, number) → NumbersFew mode names after name number
number_by-from mode at names after name number (Some i) found few e =
    let P : List (List ℕ) × ℕ → Type 0 = λ x. NumbersFew mode names x.0 name x.1 in
    subst P (ok_is (names, i) (after, number) e) (inl (number_among-Some names name i found, refl), few)
number_by-from mode at names after name number None none few e =
    let both =
    cond_ok (nat_lt (length names) (names_limit mode)) (names ++ name ∷ [], length names)
    (after, number) at e in
    let room = ltb-true (length names) (names_limit mode) both.0 in
    let P : List (List ℕ) × ℕ → Type 0 = λ x. NumbersFew mode names x.0 name x.1 in
    subst P both.1 (
      inr (number_among-None names name none, refl, refl),
      omega
          (arith, length_push names name),
    )

pub Numbers-from : (mode : ScriptMode) (at : ℕ) (names after : List (List ℕ)) (name : List ℕ) (number : ℕ)
    → length names ≤ names_limit mode
    → numbered mode at names name ≡ Ok (after, number)
    → Numbers names after name number × (length after ≤ names_limit mode)
unfolding numbered
Numbers-from mode at names after name number few e =
    number_by-from mode at names after name number (number_among names name) refl few e

pub numbered-is : (mode : ScriptMode) (at : ℕ) (names after : List (List ℕ)) (name : List ℕ) (number : ℕ)
    → AreDifferent names → Numbers names after name number → length after ≤ names_limit mode
    → numbered mode at names name ≡ Ok (after, number)
unfolding numbered
numbered-is mode at names after name number different (inl (got, same)) few =
    rw (number_among-is names name number different got, same) refl
numbered-is mode at names after name number different (inr (new, count, grown)) few =
    let longer : length after ≡ length names + 1 = ap length grown ∙ length_push names name in
    let room : nat_lt (length names) (names_limit mode) ≡ true =
    lt-ltb (length names) (names_limit mode) (omega arith) in
    rw (number_among-new names name new, room, count, grown) refl

-- ---- names stay different

slice_get-push : {A : Type 0} (xs : List A) (y : A) (i : ℕ) (x : A) → slice_get (xs ++ y ∷ []) i ≡ Some x
    → (slice_get xs i ≡ Some x) ⊎ ((i ≡ length xs) × (x ≡ y))
slice_get-push [] y zero x e = inr (refl, sym (same_Some y x e))
slice_get-push [] y (suc i) x e = absurd cc
slice_get-push (z ∷ xs) y zero x e = inl e
slice_get-push (z ∷ xs) y (suc i) x e =
    elim (slice_get-push xs y i x e) [
      | inl prefix ↦ inl prefix
      | inr last ↦ inr (ap suc last.0, last.1)
    ]

AreDifferent-push : (names : List (List ℕ)) (name : List ℕ) → AreDifferent names → (Contains names name → ⊥)
    → AreDifferent (names ++ name ∷ [])
AreDifferent-push names name different new i j x at_i at_j =
    elim (slice_get-push names name i x at_i) [
      | inl old_i ↦ elim (slice_get-push names name j x at_j) [
        | inl old_j ↦ different i j x old_i old_j
        | inr last ↦ absurd (new (Contains-get names i name (old_i ∙ ap Some last.1)))
      ]
      | inr last ↦ elim (slice_get-push names name j x at_j) [
        | inl old_j ↦ absurd (new (Contains-get names j name (old_j ∙ ap Some last.1)))
        | inr also ↦ last.0 ∙ sym also.0
      ]
    ]

pub AreDifferent-numbers : (before after : List (List ℕ)) (name : List ℕ) (number : ℕ) → AreDifferent before
    → Numbers before after name number → AreDifferent after
AreDifferent-numbers before after name number different (inl (got, same)) =
    subst AreDifferent (sym same) different
AreDifferent-numbers before after name number different (inr (new, count, grown)) =
    subst AreDifferent (sym grown) (AreDifferent-push before name different new)

-- ---- a name too many

cond_err : {A : Type 0} (b : Bool) (x : A) (n m : ℕ) → cond b (Ok x) (Err n) ≡ Err m → m ≡ n
cond_err true x n m e = absurd cc
cond_err false x n m e = cc

number_by-err : (mode : ScriptMode) (at : ℕ) (names : List (List ℕ)) (name : List ℕ) (known : Option ℕ)
    (n : ℕ)
    → number_by mode at names name known ≡ Err n → n ≡ at
number_by-err mode at names name (Some i) n e = absurd cc
number_by-err mode at names name None n e =
    cond_err (nat_lt (length names) (names_limit mode)) (names ++ name ∷ [], length names) at n e

pub numbered-err : (mode : ScriptMode) (at : ℕ) (names : List (List ℕ)) (name : List ℕ) (n : ℕ)
    → numbered mode at names name ≡ Err n → n ≡ at
unfolding numbered
numbered-err mode at names name n e = number_by-err mode at names name (number_among names name) n e
