-- Facts about a column's values.
use Rattle.std.proofs.Common.{◌≡◌, ◌<◌, ℕ, List, [], ◌∷◌, length, get_or, map, refl}
use Rattle.std.specs.List.{All}
use Rattle.std.proofs.lemmas.List.{get_or-map}
use Rattle.std.proofs.lemmas.List.Elements.{All-head, All-tail}
use Rattle.pj_value.specs.declared.value.Value.{Value}
use Rattle.pj_value.specs.declared.value.Kind.TheVariants as kinds
use Rattle.pj_value.specs.declared.value.Value.TheVariants as values
use Rattle.pj_value.specs.declared.column.Items.{Items}
use Rattle.pj_value.specs.declared.column.Items.TheVariants as items
use Rattle.pj_value.specs.Columns.{AreOfKind, values_at}
use Rattle.pj_value.specs.Layout.{kinded_values}

AreOfKind-numbers : (ns : List ℕ) → AreOfKind kinds.Num (map (λ n. values.Num n) ns)
AreOfKind-numbers [] = tt
AreOfKind-numbers (n ∷ ns) = (refl, AreOfKind-numbers ns)

AreOfKind-texts : (ts : List (List ℕ)) → AreOfKind kinds.Text (map (λ t. values.Text t) ts)
AreOfKind-texts [] = tt
AreOfKind-texts (t ∷ ts) = (refl, AreOfKind-texts ts)

-- what a column holds is of its kind
pub AreOfKind-kinded : (held : Items) → AreOfKind (kinded_values held).kind (kinded_values held).values
AreOfKind-kinded (items.Num numbers) = AreOfKind-numbers numbers.items
AreOfKind-kinded (items.Text texts) = AreOfKind-texts texts.items

-- the values at some indexes, each the value of what stands there
pub values_at-map : {X : Type 0} (f : X → Value) (xs : List X) (d : X) (ps : List ℕ)
    → All (λ at. at < length xs) ps → map f (map (λ at. get_or xs at d) ps) ≡ values_at (map f xs) ps
values_at-map f xs d [] a = refl
values_at-map f xs d (p ∷ ps) a =
    let here : get_or (map f xs) p (values.Num 0) ≡ f (get_or xs p d) =
    get_or-map f xs p d (values.Num 0) (All-head (λ at. at < length xs) p ps a) in
    rw (here, values_at-map f xs d ps (All-tail (λ at. at < length xs) p ps a))
