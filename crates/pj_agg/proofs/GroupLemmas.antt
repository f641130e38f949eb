-- Values that are added to groups one by one.
use Rattle.std.proofs.Common.{◌≡◌, ℕ, zero, suc, ◌+◌, ◌-◌, ◌%◌, ◌^◌, ◌<◌, ◌≤◌, true, false, cond, eqb}
use Rattle.std.proofs.Common.{List, [], ◌∷◌, ◌++◌, length, get_or, set, take, replicate}
use Rattle.std.proofs.Common.{refl, sym, ap, ◌∙◌, subst, arith}
use Rattle.std.specs.List.{AllZip}
use Rattle.std.proofs.lemmas.List.{append-nil, append_assoc, take_more, length-take, length_push}
use Rattle.std.proofs.lemmas.Bool.Decides.{nat_tests}
use Rattle.std.proofs.lemmas.Slice.Zip.{all_zipped_more}
use Rattle.pj_value.specs.declared.value.Value.{Value}
use Rattle.pj_agg.specs.Groups.{values_of_group, added_from, added}

-- ---- one value more

values_of_group-push : (group n : ℕ) (v : Value) (ns : List ℕ) (vs : List Value) → length vs ≡ length ns
    → values_of_group group (ns ++ n ∷ []) (vs ++ v ∷ [])
    ≡ values_of_group group ns vs ++ values_of_group group (n ∷ []) (v ∷ [])
values_of_group-push group n v [] [] l = refl
values_of_group-push group n v [] (w ∷ vs) l = absurd (omega arith)
values_of_group-push group n v (m ∷ ns) [] l = absurd (omega arith)
values_of_group-push group n v (m ∷ ns) (w ∷ vs) l =
    let rest = values_of_group-push group n v ns vs (omega arith) in
    elim (eqb m group) as (λ b. cond b (w ∷ values_of_group group (ns ++ n ∷ []) (vs ++ v ∷ []))
    (values_of_group group (ns ++ n ∷ []) (vs ++ v ∷ []))
    ≡ cond b (w ∷ values_of_group group ns vs) (values_of_group group ns vs)
    ++ values_of_group group (n ∷ []) (v ∷ []))
    [ true ↦ ap (λ us. w ∷ us) rest | false ↦ rest ]

-- a value and its number behind others
pub added_from-push : (first n : ℕ) (v : Value) (groups : List (List Value)) (ns : List ℕ) (vs : List Value)
    → length vs ≡ length ns
    → added_from first groups (ns ++ n ∷ []) (vs ++ v ∷ [])
    ≡ added_from first (added_from first groups ns vs) (n ∷ []) (v ∷ [])
added_from-push first n v [] ns vs l = refl
added_from-push first n v (g ∷ groups) ns vs l =
    λ i. (ap (λ us. g ++ us) (values_of_group-push first n v ns vs l)
    ∙ sym (append_assoc g (values_of_group first ns vs) _)) i
    ∷ added_from-push (suc first) n v groups ns vs l i

-- no values
pub added_from-none : (first : ℕ) (groups : List (List Value)) → added_from first groups [] [] ≡ groups
added_from-none first [] = refl
added_from-none first (g ∷ groups) = λ i. append-nil g i ∷ added_from-none (suc first) groups i

-- one more of values with their numbers
pub added-more : (groups : List (List Value)) (ns : List ℕ) (vs : List Value) (i : ℕ) (v : Value)
    → length vs ≡ length ns → i < length ns → v ≡ get_or vs i v
    → added groups (take (i + 1) ns) (take (i + 1) vs)
    ≡ added (added groups (take i ns) (take i vs)) (get_or ns i 0 ∷ []) (v ∷ [])
added-more groups ns vs i v e l r =
    let within : i < length vs = omega arith in
    ap (λ ms. added groups ms (take (i + 1) vs)) (take_more ns i 0 l)
    ∙ ap (λ us. added groups (take i ns ++ get_or ns i 0 ∷ []) us) (take_more vs i v within)
    ∙ ap (λ w. added groups (take i ns ++ get_or ns i 0 ∷ []) (take i vs ++ w ∷ [])) (sym r)
    ∙ added_from-push 0 (get_or ns i 0) v groups (take i ns) (take i vs)
    (omega (arith, length-take i vs, length-take i ns))

-- ---- one value in its group

-- a number below the first group
added_from-below : (first n : ℕ) (v : Value) (groups : List (List Value)) → n < first
    → added_from first groups (n ∷ []) (v ∷ []) ≡ groups
added_from-below first n v [] l = refl
added_from-below first n v (g ∷ groups) l =
    let other : eqb n first ≡ false = grind (arith, nat_tests) in
    λ i. (ap (λ b. g ++ cond b (v ∷ []) []) other ∙ append-nil g) i
    ∷ added_from-below (suc first) n v groups (omega arith) i

-- where R holds of each group and what stands for it, it holds again with a value added on both sides
pub AllZip-added_from : {X : Type 0} (R : X → List Value → Type 0) (first k n : ℕ) (v : Value) (x : X)
    (xs : List X) (groups : List (List Value)) → n ≡ first + k → k < length xs
    → ((d : X) (vs : List Value) → R (get_or xs k d) vs → R x (vs ++ v ∷ [])) → AllZip R xs groups
    → AllZip R (set xs k x) (added_from first groups (n ∷ []) (v ∷ []))
AllZip-added_from R first k n v x [] groups e l h a = absurd (omega arith)
AllZip-added_from R first k n v x (y ∷ xs) [] e l h a = elim a [ ]
AllZip-added_from R first zero n v x (y ∷ xs) (g ∷ groups) e l h a =
    let here : eqb n first ≡ true = grind (arith, nat_tests) in (
      subst (λ b. R x (g ++ cond b (v ∷ []) [])) (sym here) (h y g a.0),
      subst (AllZip R xs) (sym (added_from-below (suc first) n v groups (omega arith))) a.1,
    )
AllZip-added_from R first (suc k) n v x (y ∷ xs) (g ∷ groups) e l h a =
    let other : eqb n first ≡ false = grind (arith, nat_tests) in (
      subst (λ b. R y (g ++ cond b (v ∷ []) [])) (sym other) (subst (R y) (sym (append-nil g)) a.0),
      AllZip-added_from R (suc first) k n v x xs groups (omega arith) (omega arith) h a.1,
    )

-- a value more is counted
pub count-push : (n m : ℕ) (vs : List Value) (v : Value) → n ≡ length vs % 2 ^ 64
    → m ≡ (n + 1) % 18446744073709551616 → m ≡ length (vs ++ v ∷ []) % 2 ^ 64
count-push n m vs v e f = omega (arith, length_push vs v)

-- ---- groups without values

-- one group more
pub AllZip-grown : {X : Type 0} (R : X → List Value → Type 0) (x : X) (xs : List X)
    (groups : List (List Value)) (n : ℕ) → length groups ≤ n → R x []
    → AllZip R xs (groups ++ replicate (n - length groups) [])
    → AllZip R (xs ++ x ∷ []) (groups ++ replicate (suc n - length groups) [])
AllZip-grown R x xs groups n l r a =
    let more : suc n - length groups ≡ suc (n - length groups) = omega arith in
    subst (AllZip R (xs ++ x ∷ []))
    (append_assoc groups (replicate (n - length groups) []) ([] ∷ []) ∙ ap (λ us. groups ++ us) (replicate-more (n - length groups))
    ∙ ap (λ m. groups ++ replicate m []) (sym more))
    (all_zipped_more R xs (groups ++ replicate (n - length groups) []) x [] a r)
  where
    replicate-more : (m : ℕ)
        → ◌≡◌ {A = List (List Value)} (replicate m [] ++ [] ∷ []) (replicate (suc m) [])
    replicate-more zero = refl
    replicate-more (suc m) = ap (λ us. [] ∷ us) (replicate-more m)
