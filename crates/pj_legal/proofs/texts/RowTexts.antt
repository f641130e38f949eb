-- Rows that are written value by value.
use Rattle.std.proofs.Common.{◌≡◌, ℕ, zero, suc, ◌<◌, List, [], ◌∷◌, ◌++◌, length, map, take}
use Rattle.std.proofs.Common.{get_or, refl, sym, ◌∙◌, ap, append_assoc, arith}
use Rattle.std.specs.List.{flat_map}
use Rattle.std.proofs.lemmas.List.{length-map}
use Rattle.std.proofs.lemmas.List.Elements.{All-from_recursion}
use Rattle.pj_value.specs.declared.value.Kind.{Kind}
use Rattle.pj_value.specs.declared.value.Value.{Value}
use Rattle.pj_value.specs.declared.value.Value.TheVariants as values
use Rattle.pj_value.specs.Rows.{HaveKinds}
use Rattle.pj_value.specs.Values.{kind_of}
use Rattle.pj_legal.specs.Texts.{value_text, row_text, as_line}

-- a row has as many values as there are kinds
pub length-row : (kinds : List Kind) (rows : List (List Value)) (i : ℕ) → HaveKinds kinds rows
    → i < length rows → length (get_or rows i []) ≡ length kinds
length-row kinds rows i shaped within =
    sym (length-map (get_or rows i []) kind_of)
    ∙ ap length (All-from_recursion
    (λ (row : List Value). map kind_of row ≡ kinds) rows shaped i [] within)

-- a value, and a tab behind it
abbrev pub tabbed : Value → List ℕ
tabbed v = value_text v ++ 9 ∷ []

-- a row: its values with a tab behind each, but none behind the last
row_text-last : (row : List Value) (last : ℕ) → length row ≡ suc last
    → row_text row ≡ flat_map tabbed (take last row) ++ value_text (get_or row last (values.Num 0))
row_text-last [] last e = absurd (omega arith)
row_text-last (v ∷ []) zero e = refl
row_text-last (v ∷ []) (suc last) e = absurd (omega arith)
row_text-last (v ∷ w ∷ row) zero e = absurd (omega arith)
row_text-last (v ∷ w ∷ row) (suc last) e =
    ap (λ (rest : List ℕ). value_text v ++ (9 ∷ rest)) (row_text-last (w ∷ row) last (omega arith))
    ∙ sym (append_assoc (value_text v ++ 9 ∷ []) (flat_map tabbed (take last (w ∷ row)))
    (value_text (get_or (w ∷ row) last (values.Num 0)))
    ∙ append_assoc (value_text v) (9 ∷ [])
    (flat_map tabbed (take last (w ∷ row)) ++ value_text (get_or (w ∷ row) last (values.Num 0))))

-- what stands behind `old` once the last value of a row is put, and a line feed
pub row_text-ended : (old out new : List ℕ) (row : List Value) (last : ℕ) → length row ≡ suc last
    → out ≡ old ++ flat_map tabbed (take last row)
    → new ≡ out ++ (value_text (get_or row last (values.Num 0)) ++ 10 ∷ [])
    → new ≡ old ++ as_line (row_text row)
row_text-ended old out new row last e so_far value =
    rw (value, so_far, row_text-last row last e) (simp append_assoc)
