-- No line feed in the names of a tree.
use Rattle.std.proofs.Common.{◌≡◌, ℕ, zero, suc, List, [], ◌∷◌, fold, subst, sym}
use Rattle.std.specs.Prelude.{Option, Some, None, IfSome}
use Rattle.std.specs.List.{AllByRecursion}
use Rattle.pj_grammar.specs.declared.types.Tree.{Tree}
use Rattle.pj_grammar.specs.declared.types.Tree.TheVariants as trees
use Rattle.pj_grammar.specs.declared.types.Tree.TheOpen.{Tree-F}
use Rattle.pj_grammar.specs.declared.types.Tree.TheFolds.{fold-roll-Tree}
use Rattle.pj_grammar.specs.declared.types.TreeOp.{TreeOp}
use Rattle.pj_grammar.specs.declared.types.TreeOp.TheVariants as ops
use Rattle.pj_grammar.specs.grammar.Ebnf.{Grammar, Nothing, ◌>>=◌, many}
use Rattle.pj_grammar.specs.grammar.Words.{behind}
use Rattle.pj_grammar.specs.grammar.Values.{grouped, quotient, simple_atom, atom, Factor, times, modulo}
use Rattle.pj_grammar.specs.grammar.Values.{applied, factor, product, arith, compared, test}
use Rattle.pj_grammar.specs.grammar.Values.{negated, neg, conj, value_with, value_to}
use Rattle.pj_bind.specs.Names.{Name, names_in, names_step}
use Rattle.pj_legal.specs.Laws.{IsOneLine}
use Rattle.pj_legal.proofs.histories.ListLemmas.{All-append}
use Rattle.pj_legal.proofs.plain.PlainRules.{Gives, give, then, skip, either, several, maybe, enclosed}
use Rattle.pj_legal.proofs.plain.PlainRules.{a_word}

-- no line feed in any of the names
abbrev pub ArePlain : List Name → Type 0
ArePlain names = AllByRecursion IsOneLine names

-- nor in any of the tree's
abbrev pub IsPlainTree : Tree → Type 0
IsPlainTree tree = ArePlain (names_in tree)

-- ---- trees

-- a tree's names are those of its parts
rolled : {tree whole : Tree} {names : List Name} → whole ≡ tree → names_in whole ≡ names → ArePlain names
    → IsPlainTree tree
rolled same are plain = subst IsPlainTree same (subst ArePlain (sym are) plain)

plain-Num : (n : ℕ) → IsPlainTree (trees.Num n)
plain-Num n = rolled (trees.rolls-Num n) (fold-roll-Tree (List Name) names_step (Tree-F.Num n)) tt

plain-Text : (bytes : List ℕ) → IsPlainTree (trees.Text bytes)
plain-Text bytes = rolled (trees.rolls-Text bytes) (fold-roll-Tree (List Name) names_step
    (Tree-F.Text bytes)) tt

plain-Name : (name : Name) → IsOneLine name → IsPlainTree (trees.Name name)
plain-Name name is =
    rolled (trees.rolls-Name name) (fold-roll-Tree (List Name) names_step (Tree-F.Name name)) (is, tt)

plain-IntDiv : (a : Tree) (d : ℕ) → IsPlainTree a → IsPlainTree (trees.IntDiv a d)
plain-IntDiv a d is =
    rolled (trees.rolls-IntDiv a d) (fold-roll-Tree (List Name) names_step (Tree-F.IntDiv a d)) is

plain-Mod : (a : Tree) (d : ℕ) → IsPlainTree a → IsPlainTree (trees.Mod a d)
plain-Mod a d is = rolled (trees.rolls-Mod a d) (fold-roll-Tree (List Name) names_step (Tree-F.Mod a d)) is

plain-Pair : (op : TreeOp) (a b : Tree) → IsPlainTree a → IsPlainTree b → IsPlainTree (trees.Pair op a b)
plain-Pair op a b one other =
    rolled (trees.rolls-Pair op a b) (fold-roll-Tree (List Name) names_step (Tree-F.Pair op a b))
    (All-append IsOneLine (names_in a) (names_in b) one other)

plain-Not : (a : Tree) → IsPlainTree a → IsPlainTree (trees.Not a)
plain-Not a is = rolled (trees.rolls-Not a) (fold-roll-Tree (List Name) names_step (Tree-F.Not a)) is

-- operands of one level
plain-grouped : (op : TreeOp) (first : Tree) (more : List Tree) → IsPlainTree first
    → AllByRecursion IsPlainTree more → IsPlainTree (grouped op first more)
plain-grouped op first [] is all = is
plain-grouped op first (tree ∷ more) is all =
    plain-grouped op (trees.Pair op first tree) more (plain-Pair op first tree is all.0) all.1

-- the tree in a factor, if any
abbrev IsPlainFactor : Factor → Type 0
IsPlainFactor (times tree) = IsPlainTree tree
IsPlainFactor (modulo divisor) = Unit {0}

-- factors
plain-factors : (first : Tree) (more : List Factor) → IsPlainTree first → AllByRecursion IsPlainFactor more
    → IsPlainTree (fold applied first more)
plain-factors first [] is all = is
plain-factors first (times tree ∷ more) is all =
    plain-factors (trees.Pair ops.Mul first tree) more (plain-Pair ops.Mul first tree is all.0) all.1
plain-factors first (modulo divisor ∷ more) is all =
    plain-factors (trees.Mod first divisor) more (plain-Mod first divisor is) all.1

-- a comparison
plain-compared : (left : Tree) (right : Option (TreeOp × Tree)) → IsPlainTree left
    → IfSome right (λ r. IsPlainTree r.1) → IsPlainTree (compared left right)
plain-compared left None is other = is
plain-compared left (Some right) is other = plain-Pair right.0 left right.1 is other

-- opposites
plain-negated : (nots : List (Unit {0})) (tree : Tree) → IsPlainTree tree → IsPlainTree (negated nots tree)
plain-negated [] tree is = is
plain-negated (not ∷ nots) tree is = plain-Not (negated nots tree) (plain-negated nots tree is)

-- ---- rules

-- a rule, and more of its kind behind signs or keywords
level : (op : TreeOp) {rule : Grammar Tree} {between : Grammar (Unit {0})} → Gives IsPlainTree rule
    → Gives IsPlainTree (rule >>= λ first. many (behind between rule) >>= λ more. Nothing
    (grouped op first more))
level op gives =
    then gives (λ first is. then (several (skip (λ _. gives))) (λ more all. give
    (plain-grouped op first more is all)))

module _ (value : Grammar Tree) (gives : Gives IsPlainTree value) where
  -- intDiv "(" value "," positive ")"
  gives-quotient : Gives IsPlainTree (quotient value)
  gives-quotient =
      skip (λ _. skip (λ _. then gives (λ a is. skip (λ _. skip (λ d. skip (λ _. give
      (plain-IntDiv a d is)))))))

  -- number | text | "(" value ")" | name
  gives-simple_atom : Gives IsPlainTree (simple_atom value)
  gives-simple_atom =
      either (skip (λ n. give (plain-Num n))) (either (skip (λ bytes. give (plain-Text bytes)))
      (either (enclosed gives) (then a_word (λ bytes is. give (plain-Name bytes is)))))

  gives-atom : Gives IsPlainTree (atom value)
  gives-atom = either gives-quotient gives-simple_atom

  -- "*" atom | "%" positive
  gives-factor : Gives IsPlainFactor (factor value)
  gives-factor = either (then (skip (λ _. gives-atom)) (λ tree is. give is)) (skip (λ divisor. give tt))

  -- atom {"*" atom | "%" positive}
  gives-product : Gives IsPlainTree (product value)
  gives-product =
      then gives-atom (λ first is. then (several gives-factor) (λ more all. give
      (plain-factors first more is all)))

  -- product {"+" product}
  gives-arith : Gives IsPlainTree (arith value)
  gives-arith = level ops.Add gives-product

  -- arith [comparison arith]
  gives-test : Gives IsPlainTree (test value)
  gives-test =
      then gives-arith (λ left is. then
      (maybe {P = λ (r : TreeOp × Tree). IsPlainTree r.1} (skip (λ op. then gives-arith
      (λ right other. give other))))
      (λ right other. give (plain-compared left right is other)))

  -- {NOT} test
  gives-neg : Gives IsPlainTree (neg value)
  gives-neg = skip (λ nots. then gives-test (λ tree is. give (plain-negated nots tree is)))

  -- neg {AND neg}
  gives-conj : Gives IsPlainTree (conj value)
  gives-conj = level ops.And gives-neg

  -- conj {OR conj}
  gives-value_with : Gives IsPlainTree (value_with value)
  gives-value_with = level ops.Or gives-conj

-- values whose parentheses nest to any depth
pub gives-value_to : (depth : ℕ) → Gives IsPlainTree (value_to depth)
unfolding value_to
gives-value_to zero = skip (λ n. give (plain-Num n))
gives-value_to (suc depth) = gives-value_with (value_to depth) (gives-value_to depth)
