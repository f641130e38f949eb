use Rattle.std.proofs.Common.{◌≡◌, ◌+◌, ◌-◌, ◌*◌}
use Rattle.std.specs.Prelude.{codes}
use Rattle.pj_lex.specs.declared.token.Symbol.TheVariants.{Plus}
use Rattle.pj_grammar.specs.declared.types.TreeOp.TheVariants as ops
use Rattle.pj_grammar.specs.declared.types.Tree.TheVariants as trees
use Rattle.pj_grammar.specs.Lexemes.{is_symbol, is_keyword}
use Rattle.pj_grammar.specs.grammar.Values.{applied}
use Rattle.pj_grammar.specs.parsing.Words.{keyword_at, sign_at, behind_at}
use Rattle.pj_grammar.specs.parsing.Values.{begins_factor, factor_at, product_at, arith_at, neg_at, conj_at}
use Rattle.pj_grammar.specs.parsing.Values.{value_with_at, value_at}
use Rattle.pj_phrase.proofs.ManyLoop.{fold_going}
use Rattle.pj_phrase.proofs.values.trees.+value.Given as goal

abbrev pub decreases-value : goal.decreases-value
decreases-value l = 10 * l.most + 0

abbrev pub decreases-quotient : goal.decreases-quotient
decreases-quotient l = 10 * l.most + 1

abbrev pub decreases-simple_atom : goal.decreases-simple_atom
decreases-simple_atom l = 10 * l.most + 1

abbrev pub decreases-atom : goal.decreases-atom
decreases-atom l = 10 * l.most + 2

abbrev pub decreases-factor : goal.decreases-factor
decreases-factor l = 10 * l.most + 3

abbrev pub decreases-product : goal.decreases-product
decreases-product l = 10 * l.most + 4

abbrev pub decreases-arith : goal.decreases-arith
decreases-arith l = 10 * l.most + 5

abbrev pub decreases-test : goal.decreases-test
decreases-test l = 10 * l.most + 6

abbrev pub decreases-neg : goal.decreases-neg
decreases-neg l = 10 * l.most + 7

abbrev pub decreases-conj : goal.decreases-conj
decreases-conj l = 10 * l.most + 8

abbrev pub decreases-value_with : goal.decreases-value_with
decreases-value_with l = 10 * l.most + 9

abbrev pub invariant-arith-terms : goal.invariant-arith-terms
invariant-arith-terms l =
    fold_going (trees.Pair ops.Add) (is_symbol Plus)
    (behind_at (sign_at Plus) (product_at (value_at l.most))) l.tree
    (l._i-end - l._i) l.rest
    ≡ arith_at (value_at l.most) l.fn.rest

abbrev pub invariant-conj-ands : goal.invariant-conj-ands
invariant-conj-ands l =
    fold_going (trees.Pair ops.And) (is_keyword (codes "AND"))
    (behind_at (keyword_at (codes "AND")) (neg_at (value_at l.most))) l.tree
    (l._i-end - l._i) l.rest
    ≡ conj_at (value_at l.most) l.fn.rest

abbrev pub invariant-value_with-ors : goal.invariant-value_with-ors
invariant-value_with-ors l =
    fold_going (trees.Pair ops.Or) (is_keyword (codes "OR"))
    (behind_at (keyword_at (codes "OR")) (conj_at (value_at l.most))) l.tree
    (l._i-end - l._i) l.rest
    ≡ value_with_at (value_at l.most) l.fn.rest

abbrev pub invariant-product-factors : goal.invariant-product-factors
invariant-product-factors l =
    fold_going applied begins_factor (factor_at (value_at l.most)) l.tree (l._i-end - l._i) l.rest
    ≡ product_at (value_at l.most) l.fn.rest
