-- Names that are known, unknown, or repeated.
use Rattle.std.proofs.Common.{◌≡◌, ℕ, ◌+◌, ◌<◌, List, [], ◌∷◌, ◌++◌, length, map, take, get_or}
use Rattle.std.proofs.Common.{Bool, true, false, not, cond, ◌||◌, Option, Some, None, Contains}
use Rattle.std.proofs.Common.{refl, sym, ap, ◌∙◌, subst, ⊎_elim, arith}
use Rattle.std.specs.Str.{bytes_eq}
use Rattle.std.specs.Ordering.{is_eq, nat_cmp}
use Rattle.std.specs.Cmp.Lexicographic.{slice_cmp}
use Rattle.std.specs.Option.{option_map, option_or}
use Rattle.std.specs.List.{list_any}
use Rattle.std.proofs.lemmas.Bool.{cases_lt, false≢true}
use Rattle.std.proofs.lemmas.Cmp.{nat_list_eq_equiv}
use Rattle.std.proofs.lemmas.List.{take-take, length-take, get_or-take}
use Rattle.std.proofs.lemmas.List.Folds.{find-append, list_any_more}
use Rattle.std.proofs.lemmas.Map.Text.{is_eq-slice_cmp}
use Rattle.std.proofs.lemmas.Map.Views.{Contains-from_any, list_any-from_Contains}
use Rattle.std.proofs.lemmas.Option.{slice_get_within, slice_get-get_or, get_or_from_slice_get}
use Rattle.std.proofs.lemmas.Slice.Eq.{bytes_eq-Decides}
use Rattle.pj_grammar.specs.declared.types.Tree.{Tree}
use Rattle.pj_grammar.specs.declared.types.Tree.TheVariants as trees
use Rattle.pj_grammar.specs.declared.types.Tree.TheOpen.{Tree-F}
use Rattle.pj_grammar.specs.declared.types.Tree.TheFolds.{fold-roll-Tree}
use Rattle.pj_grammar.specs.declared.types.TreeOp.{TreeOp}
use Rattle.pj_bind.specs.Names.{Name, names_in, names_step, is_among, first_unknown, NoneRepeats}

-- ---- known and unknown

-- whether one of the mapped passes
pub list_any-map : {X Y : Type 0} (p : X → Bool) (h : Y → X) (ys : List Y)
    → list_any p (map h ys) ≡ list_any (λ y. p (h y)) ys
list_any-map p h [] = refl
list_any-map p h (y ∷ ys) = ap (λ b. p (h y) || b) (list_any-map p h ys)

-- the names in an operation's two operands
pub names_in-Pair : (op : TreeOp) (a b : Tree) → names_in (trees.Pair op a b) ≡ names_in a ++ names_in b
names_in-Pair op a b =
    ap names_in (sym (trees.rolls-Pair op a b)) ∙ fold-roll-Tree (List Name) names_step (Tree-F.Pair op a b)

-- what is made of the first of two options that is there
option_map-or : {X Y : Type 0} (f : X → Y) (a b : Option X)
    → option_map f (option_or a b) ≡ option_or (option_map f a) (option_map f b)
option_map-or f None b = refl
option_map-or f (Some x) b = refl

-- the first unknown name of two lists, from that of each
pub first_unknown-append : {X : Type 0} (view : X → Name) (known a b : List Name) (x y r : Option X)
    → r ≡ option_or x y → option_map view x ≡ first_unknown known a
    → option_map view y ≡ first_unknown known b
    → option_map view r ≡ first_unknown known (a ++ b)
first_unknown-append view known a b x y r made first second =
    ap (option_map view) made ∙ option_map-or view x y ∙ ap (λ o. option_or o (option_map view y)) first
    ∙ ap (option_or (first_unknown known a)) second
    ∙ sym (find-append (λ name. not (is_among known name)) a b)

-- ---- repeated

-- a test finds a name that is there
pub has-Contains : (names : List Name) (q : Name) → list_any (bytes_eq q) names ≡ true → Contains names q
has-Contains names q has = Contains-from_any (λ x y. (bytes_eq-Decides x y).0) q names has

pub Contains-has : (names : List Name) (q : Name) → Contains names q → list_any (bytes_eq q) names ≡ true
Contains-has names q among = list_any-from_Contains nat_list_eq_equiv q names among

-- what a negation says
pub not_false : (b x : Bool) → b ≡ not x → b ≡ false → x ≡ true
not_false b true e f = refl
not_false b false e f = sym f ∙ e

-- a name that no test finds is not there
pub new-name : (names : List Name) (q : Name) (b x : Bool) → b ≡ not x → b ≡ true
    → x ≡ list_any (bytes_eq q) names → Contains names q → ⊥
new-name names q b true e f found among = false≢true (sym e ∙ f)
new-name names q b false e f found among = false≢true (found ∙ Contains-has names q among)

-- a choice by a test
cond-or : (b s : Bool) → cond b true s ≡ (s || b)
cond-or true true = refl
cond-or true false = refl
cond-or false true = refl
cond-or false false = refl

-- one more name is seen
pub seen-more : (q : Name) (names : List Name) (i : ℕ) (name d : Name) (before after : Bool)
    → i < length names → name ≡ get_or names i d → before ≡ list_any (bytes_eq q) (take i names)
    → after ≡ cond (is_eq (slice_cmp nat_cmp name q)) true before
    → after ≡ list_any (bytes_eq q) (take (i + 1) names)
seen-more q names i name d before after within read seen updated =
    updated ∙ cond-or (is_eq (slice_cmp nat_cmp name q)) before
    ∙ ap (λ b. before || b) (is_eq-slice_cmp name q ∙ nat_list_eq_equiv.symm name q ∙ ap (bytes_eq q) read)
    ∙ ap (λ b. b || bytes_eq q (get_or names i d)) seen
    ∙ sym (list_any_more (bytes_eq q) names i d within)

-- one more name that is new
pub NoneRepeats-more : (names : List Name) (i : ℕ) (d : Name) → i < length names
    → NoneRepeats (take i names) → (Contains (take i names) (get_or names i d) → ⊥)
    → NoneRepeats (take (i + 1) names)
NoneRepeats-more names i d within once new at name there among =
    let inside : at < length (take (i + 1) names) = slice_get_within (take (i + 1) names) at name there in
    let bound : at < i + 1 = omega (arith, length-take (i + 1) names) in
    let read : get_or names at d ≡ name =
    sym (get_or-take (i + 1) names at d bound)
    ∙ get_or_from_slice_get (take (i + 1) names) at name d there in
    let front : Contains (take at names) name =
    subst (λ (xs : List Name). Contains xs name) (take-take at (i + 1) names (omega arith)) among in
    ⊎_elim
    (λ (lt : at < i).
    let short : at < length (take i names) = omega (arith, length-take i names) in
    once at name
    (slice_get-get_or (take i names) at d short ∙ ap Some (get_or-take i names at d lt ∙ read))
    (subst (λ (xs : List Name). Contains xs name) (sym (take-take at i names (omega arith))) front))
    (λ ge.
    let same : at ≡ i = omega arith in
    new (subst (λ (k : ℕ). Contains (take k names) (get_or names k d)) same
    (subst (λ (n : Name). Contains (take at names) n) (sym read) front)))
    (cases_lt at i)
