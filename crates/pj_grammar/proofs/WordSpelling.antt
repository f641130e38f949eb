-- A word and its capitals, byte by byte.
use Rattle.std.proofs.Common.{◌≡◌, ℕ, Bool, List, [], ◌∷◌, refl, ap, arith, length, ◌&&◌, eqb}
use Rattle.std.specs.List.{list_all, zip}
use Rattle.pj_lex.specs.Bytes.{upper}
use Rattle.pj_grammar.specs.Lexemes.{spells}

-- byte by byte
pub spells-zip : (word capitals : List ℕ) → length word ≡ length capitals
    → list_all (λ (p : ℕ × ℕ). eqb (upper p.0) p.1) (zip word capitals) ≡ spells capitals word
spells-zip [] [] e = refl
spells-zip [] (y ∷ ys) e = absurd (omega arith)
spells-zip (x ∷ xs) [] e = absurd (omega arith)
spells-zip (x ∷ xs) (y ∷ ys) e = ap (λ (b : Bool). eqb (upper x) y && b) (spells-zip xs ys (omega arith))
