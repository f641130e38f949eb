-- Facts about columns, and about the rows that they hold.
use Rattle.std.proofs.Common.{◌≡◌, ℕ, zero, suc, ◌+◌, ◌<◌, List, [], ◌∷◌, ◌++◌, length, get_or, set, map}
use Rattle.std.proofs.Common.{take, refl, ap, sym, ◌∙◌, arith, add-one}
use Rattle.std.proofs.lemmas.List.{length-map}
use Rattle.pj_value.specs.declared.value.Value.{Value}
use Rattle.pj_value.specs.Values.{kind_of}
use Rattle.pj_value.specs.Columns.{KindedValues, kinds_of}
use Rattle.pj_value.specs.Layout.{joined}

-- ---- columns that are joined with values

pub joined-none : (cs : List KindedValues) → joined cs [] ≡ cs
joined-none [] = refl
joined-none (c ∷ cs) = refl

pub kinds_of-joined : (cs : List KindedValues) (vss : List (List Value))
    → kinds_of (joined cs vss) ≡ kinds_of cs
kinds_of-joined [] vss = refl
kinds_of-joined (c ∷ cs) [] = refl
kinds_of-joined (c ∷ cs) (vs ∷ vss) = ap (λ ks. c.kind ∷ ks) (kinds_of-joined cs vss)

pub length-joined : (cs : List KindedValues) (vss : List (List Value)) → length (joined cs vss) ≡ length cs
length-joined [] vss = refl
length-joined (c ∷ cs) [] = refl
length-joined (c ∷ cs) (vs ∷ vss) = ap (λ n. suc n) (length-joined cs vss)

-- a column with further values
abbrev pub grown : KindedValues → List Value → KindedValues
grown c vs = record c { values = c.values ++ vs }

joined-take_suc : (cs : List KindedValues) (vss : List (List Value)) (i : ℕ)
    (c : KindedValues) (vs : List Value)
    → i < length cs → i < length vss
    → c ≡ get_or (joined cs (take i vss)) i c → vs ≡ get_or vss i vs
    → set (joined cs (take i vss)) i (grown c vs) ≡ joined cs (take (suc i) vss)
joined-take_suc [] vss i c vs l m e f = absurd (omega arith)
joined-take_suc (d ∷ cs) [] i c vs l m e f = absurd (omega arith)
joined-take_suc (d ∷ cs) (ws ∷ vss) zero c vs l m e f =
    rw (e, f) (ap (λ rest. grown d ws ∷ rest) (sym (joined-none cs)))
joined-take_suc (d ∷ cs) (ws ∷ vss) (suc i) c vs l m e f =
    ap (λ rest. grown d ws ∷ rest) (joined-take_suc cs vss i c vs (omega arith) (omega arith) e f)

-- one more column has its values
pub joined-take_more : (held cs : List KindedValues) (vss : List (List Value)) (i : ℕ)
    (c : KindedValues) (vs : List Value)
    → held ≡ joined cs (take i vss) → i < length cs → i < length vss
    → c ≡ get_or held i c → vs ≡ get_or vss i vs
    → set held i (grown c vs) ≡ joined cs (take (i + 1) vss)
joined-take_more held cs vss i c vs h l m e f =
    rw (add-one, h) (joined-take_suc cs vss i c vs l m (rw h at e) f)

-- as many columns as kinds
pub length-same_kinds : (cs ds : List KindedValues) → kinds_of cs ≡ kinds_of ds → length cs ≡ length ds
length-same_kinds cs ds k = sym (length-map cs _) ∙ ap length k ∙ length-map ds _

-- columns of the same kinds have the same kind at an index
pub kind_at : (cs ds : List KindedValues) (i : ℕ) (c d : KindedValues) → kinds_of cs ≡ kinds_of ds
    → i < length cs → c ≡ get_or cs i c → d ≡ get_or ds i d → c.kind ≡ d.kind
kind_at [] ds i c d k l e f = absurd (omega arith)
kind_at (x ∷ cs) [] i c d k l e f = (cc)
kind_at (x ∷ cs) (y ∷ ds) zero c d k l e f = (cc)
kind_at (x ∷ cs) (y ∷ ds) (suc i) c d k l e f = kind_at cs ds i c d (cc) (omega arith) e f

-- ---- a row that has one value for each column

pub length-row : (row : List Value) (cs : List KindedValues) → map kind_of row ≡ kinds_of cs
    → length row ≡ length cs
length-row row cs k = sym (length-map row kind_of) ∙ ap length k ∙ length-map cs _

pub kind_of_row_at : (row : List Value) (cs : List KindedValues) (i : ℕ) (v : Value) (c : KindedValues)
    → map kind_of row ≡ kinds_of cs → i < length row → v ≡ get_or row i v → c ≡ get_or cs i c
    → kind_of v ≡ c.kind
kind_of_row_at [] cs i v c k l e f = absurd (omega arith)
kind_of_row_at (x ∷ row) [] i v c k l e f = (cc)
kind_of_row_at (x ∷ row) (y ∷ cs) zero v c k l e f = (cc)
kind_of_row_at (x ∷ row) (y ∷ cs) (suc i) v c k l e f = kind_of_row_at row cs i v c (cc) (omega arith) e f
