-- Names in statements: which stand in a tree, which repeat, which are unknown (docs/GRAMMAR.md, "Binding").
use Rattle.std.specs.Prelude.{◌≡◌, ℕ, List, [], ◌∷◌, ◌++◌, Bool, not, take, Option, Some, slice_get}
use Rattle.std.specs.Prelude.{Contains}
use Rattle.std.specs.List.{find, list_any}
use Rattle.std.specs.Str.{bytes_eq}
use Rattle.pj_grammar.specs.declared.types.Tree.{Tree}
use Rattle.pj_grammar.specs.declared.types.Tree.TheOpen.{Tree-F}
use Rattle.pj_grammar.specs.declared.types.Tree.TheFolds.{fold-Tree}

-- a name
abbrev pub Name : Type 0
Name = List ℕ

-- the names in a tree, where those of its parts are known
abbrev pub names_step : Tree-F (List Name) → List Name
names_step (Tree-F.Num n) = []
names_step (Tree-F.Text t) = []
names_step (Tree-F.Name name) = name ∷ []
names_step (Tree-F.IntDiv a d) = a
names_step (Tree-F.Mod a d) = a
names_step (Tree-F.Pair op a b) = a ++ b
names_step (Tree-F.Not a) = a

-- the names in a tree, in the order of the text
abbrev pub names_in : Tree → List Name
names_in tree = fold-Tree (List Name) names_step tree

-- whether a name is one of these
abbrev pub is_among : List Name → Name → Bool
is_among names name = list_any (λ other. bytes_eq other name) names

-- the first of the names that isn't one of the known
abbrev pub first_unknown : List Name → List Name → Option Name
first_unknown known names = find (λ name. not (is_among known name)) names

-- the name is the first of the names that isn't one of the known
abbrev pub IsFirstUnknown : List Name → List Name → Name → Type 0
IsFirstUnknown known names name = first_unknown known names ≡ Some name

-- no name repeats an earlier one
abbrev pub NoneRepeats : List Name → Type 0
NoneRepeats names =
    (at : ℕ) (name : Name) → slice_get names at ≡ Some name → Contains (take at names) name → ⊥

-- the name is the first that repeats an earlier one
pub record IsFirstRepeat (names : List Name) (name : Name) : Type 0 where
  pub at : ℕ
  pub there : slice_get names at ≡ Some name
  pub repeats : Contains (take at names) name
  pub before : NoneRepeats (take at names)
