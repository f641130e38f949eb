-- Texts that are cut from bytes by their ends.
use Rattle.std.proofs.Common.{◌≡◌, ℕ, suc, ◌+◌, ◌-◌, ◌<◌, ◌≤◌, true, List, [], ◌∷◌, ◌++◌, length, get_or, take, drop}
use Rattle.std.proofs.Common.{refl, sym, ap, ◌∙◌, arith, length-drop, take-append-drop}
use Rattle.std.specs.List.{AllByRecursion}
use Rattle.std.proofs.lemmas.List.{drop-drop, drop_at, drop_more, length-take-le, nil_from_length, take_at}
use Rattle.pj_value.specs.NumberBytes.{AreBytes}
use Rattle.pj_layout.specs.Granules.{joined}
use Rattle.pj_layout.specs.Damage.{never_fall, last_end}
use Rattle.pj_layout.specs.Reading.{texts_in}
use Rattle.pj_layout.proofs.ByteLemmas.{AreBytes-take, AreBytes-drop}
use Rattle.pj_layout.proofs.RisingLemmas.{never_fall-next, last_end-above}
use Rattle.pj_layout.proofs.EndLemmas.{ends_from}

-- texts that were cut from bytes are of bytes
pub AreBytes-texts_in : (here : ℕ) (ends bytes : List ℕ) → AreBytes bytes
    → AllByRecursion AreBytes (texts_in here ends bytes)
AreBytes-texts_in here [] bytes a = tt
AreBytes-texts_in here (end ∷ ends) bytes a =
    let rest = AreBytes-texts_in end ends (drop (end - here) bytes) (AreBytes-drop (end - here) bytes a) in
    (AreBytes-take (end - here) bytes a, rest)

pub length-texts_in : (here : ℕ) (ends bytes : List ℕ) → length (texts_in here ends bytes) ≡ length ends
length-texts_in here [] bytes = refl
length-texts_in here (end ∷ ends) bytes = ap suc (length-texts_in end ends (drop (end - here) bytes))

-- texts are those between their ends
pub texts_in-ends_from : (here : ℕ) (ts : List (List ℕ)) → texts_in here (ends_from here ts) (joined ts) ≡ ts
texts_in-ends_from here [] = refl
texts_in-ends_from here (t ∷ ts) =
    let end = here + length t in
    let bytes = t ++ joined ts in
    let left = λ (bs : List ℕ). texts_in end (ends_from end ts) bs in
    let long : end - here ≡ length t = omega arith in
    let rest : left (drop (length t) bytes) ≡ ts =
    ap left (drop_at t (joined ts) (length t) refl) ∙ texts_in-ends_from end ts in
    ap (λ n. take n bytes ∷ left (drop n bytes)) long ∙ (λ i. take_at t (joined ts) (length t) refl i ∷ rest i)

-- texts end where they were cut, and are all of the bytes
pub ends_from-texts_in : (here : ℕ) (ends bytes : List ℕ) → never_fall (here ∷ ends) ≡ true
    → last_end here ends ≡ here + length bytes
    → (ends_from here (texts_in here ends bytes) ≡ ends) × (joined (texts_in here ends bytes) ≡ bytes)
ends_from-texts_in here [] bytes h e = (refl, sym (nil_from_length bytes (omega (arith, e))))
ends_from-texts_in here (end ∷ ends) bytes h e =
    let next = never_fall-next here end ends h in
    let above = last_end-above end ends next.1 in
    let long : length (take (end - here) bytes) ≡ end - here =
    length-take-le (end - here) bytes (omega (arith, above, e, next.0)) in
    let there : here + length (take (end - here) bytes) ≡ end = omega (arith, long, next.0) in
    let left : last_end end ends ≡ end + length (drop (end - here) bytes) =
    omega (arith, e, length-drop (end - here) bytes, above, next.0) in
    let rest = ends_from-texts_in end ends (drop (end - here) bytes) next.1 left in (
      (λ i. there i ∷ (ap (λ n. ends_from n (texts_in end ends (drop (end - here) bytes))) there ∙ rest.0) i),
      ap (λ bs. take (end - here) bytes ++ bs) rest.1 ∙ take-append-drop (end - here) bytes,
    )

-- ---- one text after the other

-- what is known of the next end
pub record NextEnd (here : ℕ) (ends : List ℕ) (i : ℕ) : Type 0 where
  pub up : here ≤ get_or ends i 0
  pub within : get_or ends i 0 ≤ last_end here (drop i ends)
  pub rise : never_fall (get_or ends i 0 ∷ drop (i + 1) ends) ≡ true
  pub last : last_end (get_or ends i 0) (drop (i + 1) ends) ≡ last_end here (drop i ends)

pub next_end : (here : ℕ) (ends : List ℕ) (i : ℕ) → i < length ends → never_fall (here ∷ drop i ends) ≡ true
    → NextEnd here ends i
next_end here ends i l h =
    let end = get_or ends i 0 in
    let left : drop i ends ≡ end ∷ drop (i + 1) ends = drop_more ends i 0 l in
    let next = never_fall-next here end (drop (i + 1) ends) (ap (λ es. never_fall (here ∷ es)) (sym left) ∙ h) in
    let last : last_end here (drop i ends) ≡ last_end end (drop (i + 1) ends) = ap (last_end here) left in
    record {
      up = next.0;
      within = omega (arith, last, last_end-above end (drop (i + 1) ends) next.1);
      rise = next.1;
      last = sym last;
    }

-- the next text, of those that are left
pub texts_in-next : (here : ℕ) (ends bytes : List ℕ) (i : ℕ) → i < length ends → here ≤ get_or ends i 0
    → texts_in here (drop i ends) (drop here bytes)
    ≡ take (get_or ends i 0 - here) (drop here bytes)
    ∷ texts_in (get_or ends i 0) (drop (i + 1) ends) (drop (get_or ends i 0) bytes)
texts_in-next here ends bytes i l h =
    let end = get_or ends i 0 in
    let there : here + (end - here) ≡ end = omega (arith, h) in
    ap (λ es. texts_in here es (drop here bytes)) (drop_more ends i 0 l)
    ∙ ap (λ bs. take (end - here) (drop here bytes) ∷ texts_in end (drop (i + 1) ends) bs)
    (drop-drop (end - here) here bytes ∙ ap (λ n. drop n bytes) there)
