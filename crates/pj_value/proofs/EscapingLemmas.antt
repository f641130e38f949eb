-- Facts about texts as they are written.
use Rattle.std.proofs.Common.{◌≡◌, ℕ, ◌+◌, List, [], ◌∷◌, ◌++◌, take, drop, length, refl, ap, sym, ◌∙◌}
use Rattle.std.proofs.Common.{take-append-drop, Bool, true, false, if◌then◌else◌, ◌==◌, cond, append_assoc}
use Rattle.std.proofs.Common.{suc, arith}
use Rattle.std.specs.List.{prefix_len}
use Rattle.std.proofs.Math.Seq.{take-add, take-length}
use Rattle.std.proofs.lemmas.List.{take_at}
use Rattle.std.proofs.lemmas.List.Concat.{flat_map-append}
use Rattle.pj_value.specs.Escaping.{escaped, escaped_byte, is_plain}

-- what the first bytes are written as begins what all are written as
pub escaped-take : (text : List ℕ) (i : ℕ)
    → escaped (take i text) ≡ take (length (escaped (take i text))) (escaped text)
escaped-take text i =
    let whole : escaped text ≡ escaped (take i text) ++ escaped (drop i text) =
    ap escaped (sym (take-append-drop i text)) ∙ flat_map-append escaped_byte (take i text) (drop i text) in
    sym (ap (take (length (escaped (take i text)))) whole
    ∙ take_at (escaped (take i text)) (escaped (drop i text)) _ refl)

-- what holds the text of the first bytes, and no more, holds a part of the whole
pub escaped-part : (text before out : List ℕ) (i : ℕ) → out ≡ before ++ escaped (take i text)
    → (n : ℕ) × (out ≡ before ++ take n (escaped text))
escaped-part text before out i e =
    (length (escaped (take i text)), e ∙ ap (λ ys. before ++ ys) (escaped-take text i))

-- a plain byte is written as it is
escaped_byte-plain : (b : ℕ) → is_plain b ≡ true → escaped_byte b ≡ b ∷ []
escaped_byte-plain b = by (b == 92) (b == 9) (b == 10) (b == 13) (b == 0)
  where
    written : Bool → Bool → Bool → Bool → Bool → List ℕ
    written q r s t u =
        if q then 92 ∷ 92 ∷ [] else
        (if r then 92 ∷ 116 ∷ [] else
        (if s then 92 ∷ 110 ∷ [] else (if t then 92 ∷ 114 ∷ [] else (if u then 92 ∷ 48 ∷ [] else b ∷ []))))

    by : (q r s t u : Bool) → (length (written q r s t u) == 1) ≡ true → written q r s t u ≡ b ∷ []
    by true r s t u e = (cc)
    by false true s t u e = (cc)
    by false false true t u e = (cc)
    by false false false true u e = (cc)
    by false false false false true e = (cc)
    by false false false false false e = refl

-- plain bytes are written as they are
escaped-plain : (text : List ℕ)
    → escaped (take (prefix_len is_plain text) text) ≡ take (prefix_len is_plain text) text
escaped-plain [] = refl
escaped-plain (b ∷ text) = by (is_plain b) refl (escaped-plain text)
  where
    by : (q : Bool) → is_plain b ≡ q
        → escaped (take (prefix_len is_plain text) text) ≡ take (prefix_len is_plain text) text
        → escaped (take (cond q (1 + prefix_len is_plain text) 0) (b ∷ text))
        ≡ take (cond q (1 + prefix_len is_plain text) 0) (b ∷ text)
    by true e behind =
        let more : 1 + prefix_len is_plain text ≡ suc (prefix_len is_plain text) = omega arith in
        rw more (ap (λ bs. bs ++ escaped (take (prefix_len is_plain text) text)) (escaped_byte-plain b e)
        ∙ ap (λ ys. b ∷ ys) behind)
    by false e behind = refl

-- a text of plain bytes alone is written as it is
pub escaped-all_plain : (text : List ℕ) → prefix_len is_plain text ≡ length text → escaped text ≡ text
escaped-all_plain text e =
    let whole : take (prefix_len is_plain text) text ≡ text =
    ap (λ k. take k text) e ∙ take-length text in
    rw whole at (escaped-plain text)

-- the text of the first bytes, and the plain bytes behind them
pub escaped-run : (text before out : List ℕ) (at plain : ℕ) → out ≡ before ++ escaped (take at text)
    → plain ≡ prefix_len is_plain (drop at text)
    → out ++ take plain (drop at text) ≡ before ++ escaped (take (at + plain) text)
escaped-run text before out at plain e f =
    let run : escaped (take plain (drop at text)) ≡ take plain (drop at text) =
    rw f (escaped-plain (drop at text)) in
    let both : escaped (take (at + plain) text) ≡ escaped (take at text) ++ take plain (drop at text) =
    ap escaped (take-add at plain text)
    ∙ flat_map-append escaped_byte (take at text) (take plain (drop at text))
    ∙ ap (λ ys. escaped (take at text) ++ ys) run in
    rw (e, both) (append_assoc before (escaped (take at text)) (take plain (drop at text)))

-- the letters that follow a backslash
tab_is_written : escaped (9 ∷ []) ≡ 92 ∷ 116 ∷ []
tab_is_written = refl

backslash_is_written : escaped (92 ∷ []) ≡ 92 ∷ 92 ∷ []
backslash_is_written = refl

others_are_written : escaped (10 ∷ 13 ∷ 0 ∷ 65 ∷ []) ≡ 92 ∷ 110 ∷ 92 ∷ 114 ∷ 92 ∷ 48 ∷ 65 ∷ []
others_are_written = refl
