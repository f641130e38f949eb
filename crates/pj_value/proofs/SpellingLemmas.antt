-- Facts about bytes that spell a text.
use Rattle.std.proofs.Common.{◌≡◌, ◌≢◌, ℕ, ◌+◌, ◌<◌, Bool, true, false, if◌then◌else◌, ◌==◌, List, [], ◌∷◌}
use Rattle.std.proofs.Common.{◌++◌, length, get_or, take, drop, refl, ap, sym, ◌∙◌, arith, add_assoc, inl}
use Rattle.std.proofs.Common.{inr, ◌⊎◌, Option, Some, None}
use Rattle.std.specs.List.{AllZip, concat}
use Rattle.std.proofs.Math.Seq.{take-append-add, drop-append-add}
use Rattle.std.proofs.lemmas.Bool.{eqb-true, eqb-false}
use Rattle.std.proofs.lemmas.List.{append_assoc, append-nil, length-append, take_more, drop_more}
use Rattle.std.proofs.lemmas.List.{take-append-drop, length-take-le, get_or-append-add, append_cancel_right}
use Rattle.pj_value.specs.Escaping.{escaped, escaped_byte, meaning, IsSpelling, Spells, HasNoLetter}
use Rattle.pj_value.specs.Escaping.{IsBadEscape}
use Rattle.pj_value.specs.Escaping.IsSpelling.{itself, behind_a_backslash}

-- ---- one piece more

AllZip-more : (pieces : List (List ℕ)) (text : List ℕ) (p : List ℕ) (b : ℕ) → AllZip IsSpelling pieces text
    → IsSpelling p b → AllZip IsSpelling (pieces ++ p ∷ []) (text ++ b ∷ [])
AllZip-more [] [] p b a s = (s, tt)
AllZip-more [] (c ∷ text) p b a s = absurd a
AllZip-more (q ∷ pieces) [] p b a s = absurd a
AllZip-more (q ∷ pieces) (c ∷ text) p b a s = (a.0, AllZip-more pieces text p b a.1 s)

concat-more : (pieces : List (List ℕ)) (p : List ℕ) → concat (pieces ++ p ∷ []) ≡ concat pieces ++ p
concat-more [] p = append-nil p
concat-more (q ∷ pieces) p =
    ap (λ rest. q ++ rest) (concat-more pieces p) ∙ sym (append_assoc q (concat pieces) p)

pub Spells-none : Spells [] []
Spells-none = record { pieces = []; joined = refl; each = tt }

pub Spells-more : (written text p : List ℕ) (b : ℕ) → Spells written text → IsSpelling p b
    → Spells (written ++ p) (text ++ b ∷ [])
Spells-more written text p b s one = record {
  pieces = s.pieces ++ p ∷ [];
  joined = concat-more s.pieces p ∙ ap (λ w. w ++ p) s.joined;
  each = AllZip-more s.pieces text p b s.each one;
}

-- a byte that stands for itself
pub Spells-itself : (w t : List ℕ) (i : ℕ) → i < length w → get_or w i 0 ≢ 92 → Spells (take i w) t
    → Spells (take (i + 1) w) (t ++ get_or w i 0 ∷ [])
Spells-itself w t i l n s =
    rw (take_more w i 0 l) (Spells-more (take i w) t (get_or w i 0 ∷ []) (get_or w i 0) s
    (itself (get_or w i 0) n))

-- a backslash and a letter
pub Spells-pair : (w t : List ℕ) (i b : ℕ) → i + 1 < length w → get_or w i 0 ≡ 92
    → meaning (get_or w (i + 1) 0) ≡ Some b → Spells (take i w) t → Spells (take (i + 2) w) (t ++ b ∷ [])
Spells-pair w t i b l e m s =
    let two : i + 2 ≡ (i + 1) + 1 = omega arith in
    let cut : take (i + 2) w ≡ take i w ++ 92 ∷ get_or w (i + 1) 0 ∷ [] =
    ap (λ k. take k w) two ∙ take_more w (i + 1) 0 l ∙ ap (λ front. front ++ get_or w (i + 1) 0 ∷ [])
    (take_more w i 0 (omega arith))
    ∙ append_assoc (take i w) (get_or w i 0 ∷ []) (get_or w (i + 1) 0 ∷ [])
    ∙ ap (λ c. take i w ++ c ∷ get_or w (i + 1) 0 ∷ []) e in
    rw cut (Spells-more (take i w) t (92 ∷ get_or w (i + 1) 0 ∷ []) b s
    (behind_a_backslash (get_or w (i + 1) 0) b m))

-- ---- one reading

-- pieces that begin the same bytes stand for one byte, and end together
same_first : (p q us vs : List ℕ) (a b : ℕ) → IsSpelling p a → IsSpelling q b → p ++ us ≡ q ++ vs
    → (a ≡ b) × (us ≡ vs)
same_first _ _ us vs _ _ (itself a n) (itself b m) e = ((cc), (cc))
same_first _ _ us vs _ _ (itself a n) (behind_a_backslash l b m) e = absurd (n (cc))
same_first _ _ us vs _ _ (behind_a_backslash k a n) (itself b m) e = absurd (m (cc))
same_first _ _ us vs _ _ (behind_a_backslash k a n) (behind_a_backslash l b m) e = ((cc), (cc))

not_empty : (q vs : List ℕ) (b : ℕ) → IsSpelling q b → [] ≡ q ++ vs → ⊥
not_empty _ vs _ (itself b m) e = (cc)
not_empty _ vs _ (behind_a_backslash l b m) e = (cc)

same_text : (ps qs : List (List ℕ)) (s t : List ℕ) → AllZip IsSpelling ps s → AllZip IsSpelling qs t
    → concat ps ≡ concat qs → s ≡ t
same_text [] [] [] [] a b e = refl
same_text [] [] [] (y ∷ t) a b e = absurd b
same_text [] [] (x ∷ s) t a b e = absurd a
same_text [] (q ∷ qs) s [] a b e = absurd b
same_text [] (q ∷ qs) s (y ∷ t) a b e = absurd (not_empty q (concat qs) y b.0 e)
same_text (p ∷ ps) qs [] t a b e = absurd a
same_text (p ∷ ps) [] (x ∷ s) t a b e = absurd (not_empty p (concat ps) x a.0 (sym e))
same_text (p ∷ ps) (q ∷ qs) (x ∷ s) [] a b e = absurd b
same_text (p ∷ ps) (q ∷ qs) (x ∷ s) (y ∷ t) a b e =
    let first = same_first p q (concat ps) (concat qs) x y a.0 b.0 e in
    let rest : s ≡ t = same_text ps qs s t a.1 b.1 first.1 in
    rw (first.0, rest)

-- bytes spell one text at most
pub one_text : (written s t : List ℕ) → Spells written s → Spells written t → s ≡ t
one_text written s t a b = same_text a.pieces b.pieces s t a.each b.each (a.joined ∙ sym b.joined)

-- ---- no text where an escape is bad

-- a piece does not begin at a bad escape
no_piece : (q vs rest : List ℕ) (b : ℕ) → IsSpelling q b → HasNoLetter rest → q ++ vs ≡ 92 ∷ rest → ⊥
no_piece _ vs rest _ (itself b m) n e = m (cc)
no_piece _ vs [] _ (behind_a_backslash l b m) n e = (cc)
no_piece _ vs (k ∷ rest) _ (behind_a_backslash l b m) n e =
    let same : l ≡ k = (cc) in
    let both : Some b ≡ None = sym m ∙ ap meaning same ∙ n in
    (cc)

no_text : (ps qs : List (List ℕ)) (s t rest : List ℕ) → AllZip IsSpelling ps s → AllZip IsSpelling qs t
    → HasNoLetter rest → concat qs ≡ concat ps ++ 92 ∷ rest → ⊥
no_text [] [] s t rest a b n e = (cc)
no_text [] (q ∷ qs) s [] rest a b n e = b
no_text [] (q ∷ qs) s (y ∷ t) rest a b n e = no_piece q (concat qs) rest y b.0 n e
no_text (p ∷ ps) qs [] t rest a b n e = a
no_text (p ∷ ps) [] (x ∷ s) t rest a b n e =
    not_empty p (concat ps ++ 92 ∷ rest) x a.0 (e ∙ append_assoc p (concat ps) (92 ∷ rest))
no_text (p ∷ ps) (q ∷ qs) (x ∷ s) [] rest a b n e = b
no_text (p ∷ ps) (q ∷ qs) (x ∷ s) (y ∷ t) rest a b n e =
    no_text ps qs s t rest a.1 b.1 n (same_first q p (concat qs) (concat ps ++ 92 ∷ rest) y x b.0 a.0
    (e ∙ append_assoc p (concat ps) (92 ∷ rest))).1

-- the bytes up to a bad escape, it, and the others
split : (w : List ℕ) (at : ℕ) (bad : IsBadEscape w at)
    → w ≡ concat (bad.before.1).pieces ++ 92 ∷ drop (at + 1) w
split w at bad =
    sym (take-append-drop at w)
    ∙ ap (λ rest. take at w ++ rest) (drop_more w at 0 bad.inside
    ∙ ap (λ b. b ∷ drop (at + 1) w) bad.backslash)
    ∙ ap (λ front. front ++ 92 ∷ drop (at + 1) w) (sym (bad.before.1).joined)

-- bytes with a bad escape spell no text
pub no_text_with_a_bad_escape : (written text : List ℕ) (at : ℕ) → Spells written text
    → IsBadEscape written at → ⊥
no_text_with_a_bad_escape w text at s bad =
    no_text (bad.before.1).pieces s.pieces bad.before.0 text (drop (at + 1) w) (bad.before.1).each s.each
    bad.letter (s.joined ∙ split w at bad)

-- ---- one bad escape

same_place : (ps qs : List (List ℕ)) (s t us vs : List ℕ) → AllZip IsSpelling ps s → AllZip IsSpelling qs t
    → HasNoLetter us → HasNoLetter vs → concat ps ++ 92 ∷ us ≡ concat qs ++ 92 ∷ vs → concat ps ≡ concat qs
same_place [] [] s t us vs a b m n e = refl
same_place [] (q ∷ qs) s [] us vs a b m n e = absurd b
same_place [] (q ∷ qs) s (y ∷ t) us vs a b m n e =
    absurd (no_piece q (concat qs ++ 92 ∷ vs) us y b.0 m (sym (append_assoc q (concat qs) (92 ∷ vs)) ∙ sym e))
same_place (p ∷ ps) qs [] t us vs a b m n e = absurd a
same_place (p ∷ ps) [] (x ∷ s) t us vs a b m n e =
    absurd (no_piece p (concat ps ++ 92 ∷ us) vs x a.0 n (sym (append_assoc p (concat ps) (92 ∷ us)) ∙ e))
same_place (p ∷ ps) (q ∷ qs) (x ∷ s) [] us vs a b m n e = absurd b
same_place (p ∷ ps) (q ∷ qs) (x ∷ s) (y ∷ t) us vs a b m n e =
    let whole : p ++ (concat ps ++ 92 ∷ us) ≡ q ++ (concat qs ++ 92 ∷ vs) =
    sym (append_assoc p (concat ps) (92 ∷ us)) ∙ e ∙ append_assoc q (concat qs) (92 ∷ vs) in
    let first = same_first p q (concat ps ++ 92 ∷ us) (concat qs ++ 92 ∷ vs) x y a.0 b.0 whole in
    let rest : concat ps ≡ concat qs = same_place ps qs s t us vs a.1 b.1 m n first.1 in
    let pieces : p ≡ q =
    append_cancel_right p q (concat qs ++ 92 ∷ vs) (ap (λ r. p ++ r) (sym first.1) ∙ whole) in
    rw (pieces, rest)

before_long : (w : List ℕ) (at : ℕ) (bad : IsBadEscape w at) → length (concat (bad.before.1).pieces) ≡ at
before_long w at bad = ap length (bad.before.1).joined ∙ length-take-le at w (omega (arith, bad.inside))

-- bytes have one first bad escape at most
pub one_bad_escape : (written : List ℕ) (i j : ℕ) → IsBadEscape written i → IsBadEscape written j → i ≡ j
one_bad_escape w i j a b =
    sym (before_long w i a)
    ∙ ap length (same_place (a.before.1).pieces (b.before.1).pieces a.before.0 b.before.0 (drop (i + 1) w)
    (drop (j + 1) w) (a.before.1).each (b.before.1).each a.letter b.letter (sym (split w i a) ∙ split w j b))
    ∙ before_long w j b

-- ---- a text, or a bad escape

-- a text, or the offset of a bad escape
abbrev Outcome : List ℕ → Type 0
Outcome w = ((text : List ℕ) × Spells w text) ⊎ ((at : ℕ) × IsBadEscape w at)

Spells-behind : (p w t : List ℕ) (b : ℕ) → IsSpelling p b → Spells w t → Spells (p ++ w) (b ∷ t)
Spells-behind p w t b one s =
    record { pieces = p ∷ s.pieces; joined = ap (λ rest. p ++ rest) s.joined; each = (one, s.each) }

-- a piece more in front
IsBadEscape-behind : (p w : List ℕ) (b at : ℕ) → IsSpelling p b → IsBadEscape w at
    → IsBadEscape (p ++ w) (length p + at)
IsBadEscape-behind p w b at one bad = record {
  inside = rw length-append (omega (arith, bad.inside));
  before =
      (b ∷ bad.before.0, rw take-append-add (Spells-behind p (take at w) bad.before.0 b one bad.before.1));
  backslash = get_or-append-add p w at 0 ∙ bad.backslash;
  letter = rw (add_assoc, drop-append-add) bad.letter;
}

in_front : (p w : List ℕ) (b : ℕ) → IsSpelling p b → Outcome w → Outcome (p ++ w)
in_front p w b one (inl (t, s)) = inl (b ∷ t, Spells-behind p w t b one s)
in_front p w b one (inr (at, bad)) = inr (length p + at, IsBadEscape-behind p w b at one bad)

bad_here : (w : List ℕ) → HasNoLetter w → Outcome (92 ∷ w)
bad_here w n =
    inr (0, record { inside = omega arith; before = ([], Spells-none); backslash = refl; letter = n })

-- bytes spell a text, or have a bad escape
pub text_or_bad : (w : List ℕ) → Outcome w
text_or_bad [] = inl ([], Spells-none)
text_or_bad (b ∷ []) = last b (b == 92) refl
  where
    last : (b : ℕ) (q : Bool) → (b == 92) ≡ q → Outcome (b ∷ [])
    last b true e = rw (eqb-true b 92 e) (bad_here [] tt)
    last b false e = in_front (b ∷ []) [] b (itself b (eqb-false b 92 e)) (inl ([], Spells-none))
text_or_bad (b ∷ l ∷ w) = step b l w (b == 92) refl (meaning l) refl (text_or_bad w) (text_or_bad (l ∷ w))
  where
    step : (b l : ℕ) (w : List ℕ) (q : Bool) → (b == 92) ≡ q → (m : Option ℕ) → meaning l ≡ m → Outcome w
        → Outcome (l ∷ w) → Outcome (b ∷ l ∷ w)
    step b l w true e (Some c) f two one =
        rw (eqb-true b 92 e) (in_front (92 ∷ l ∷ []) w c (behind_a_backslash l c f) two)
    step b l w true e None f two one = rw (eqb-true b 92 e) (bad_here (l ∷ w) f)
    step b l w false e m f two one = in_front (b ∷ []) (l ∷ w) b (itself b (eqb-false b 92 e)) one

-- ---- what is written is read

-- each byte is written as a spelling of it
spelled : (b : ℕ) → IsSpelling (escaped_byte b) b
spelled b = by b (b == 92) (b == 9) (b == 10) (b == 13) (b == 0) refl refl refl refl refl
  where
    by : (b : ℕ) (q r s t u : Bool) → (b == 92) ≡ q → (b == 9) ≡ r → (b == 10) ≡ s → (b == 13) ≡ t
        → (b == 0) ≡ u
        → IsSpelling
        (if q then 92 ∷ 92 ∷ [] else
        (if r then 92 ∷ 116 ∷ [] else
        (if s then 92 ∷ 110 ∷ [] else (if t then 92 ∷ 114 ∷ [] else (if u then 92 ∷ 48 ∷ [] else b ∷ []))))) b
    by b true r s t u e f g h k = behind_a_backslash 92 b (ap Some (sym (eqb-true b 92 e)))
    by b false true s t u e f g h k = behind_a_backslash 116 b (ap Some (sym (eqb-true b 9 f)))
    by b false false true t u e f g h k = behind_a_backslash 110 b (ap Some (sym (eqb-true b 10 g)))
    by b false false false true u e f g h k = behind_a_backslash 114 b (ap Some (sym (eqb-true b 13 h)))
    by b false false false false true e f g h k = behind_a_backslash 48 b (ap Some (sym (eqb-true b 0 k)))
    by b false false false false false e f g h k = itself b (eqb-false b 92 e)

-- a text as it is written spells this text
pub Spells-escaped : (text : List ℕ) → Spells (escaped text) text
Spells-escaped [] = Spells-none
Spells-escaped (b ∷ text) =
    Spells-behind (escaped_byte b) (escaped text) text b (spelled b) (Spells-escaped text)
