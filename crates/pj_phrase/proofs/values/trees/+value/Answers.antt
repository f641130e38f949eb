use Rattle.std.proofs.Common.{◌+◌, ◌-◌, arith, rules}
use Rattle.std.specs.Prelude.{codes}
use Rattle.pj_lex.specs.declared.token.Symbol.TheVariants.{Plus}
use Rattle.pj_grammar.specs.declared.types.TreeOp.TheVariants as ops
use Rattle.pj_grammar.specs.declared.types.Tree.TheVariants as trees
use Rattle.pj_grammar.specs.Lexemes.{is_symbol, is_keyword}
use Rattle.pj_grammar.specs.grammar.Values.{applied}
use Rattle.pj_grammar.specs.parsing.Words.{keyword_at, sign_at}
use Rattle.pj_grammar.specs.parsing.Values.{begins_factor, factor_at, product_at, neg_at, conj_at, value_at}
use Rattle.pj_phrase.proofs.ManyLoop.{fold-step, fold-step_behind}
use Rattle.pj_phrase.proofs.values.trees.+value.Goals as goal

pub arith-terms-preserved : goal.arith-terms-preserved
arith-terms-preserved t c =
    let now = c.len-i-end.result - c.terms._i in
    let next = c.len-i-end.result - (c.terms._i + 1) in
    rw c.in_ok-tree-2.ensures
    (fold-step_behind (trees.Pair ops.Add) (is_symbol Plus) (sign_at Plus) (product_at (value_at c.args.most))
    c.terms.tree c.in_ok-right.right now next _ _ _ _ c.terms.invariant (omega arith) (search rules)
    c.in_ok-behind.ensures c.in_ok-right.ensures)

pub conj-ands-preserved : goal.conj-ands-preserved
conj-ands-preserved t c =
    let now = c.len-i-end.result - c.ands._i in
    let next = c.len-i-end.result - (c.ands._i + 1) in
    rw c.in_ok-tree-2.ensures
    (fold-step_behind (trees.Pair ops.And) (is_keyword (codes "AND")) (keyword_at (codes "AND"))
    (neg_at (value_at c.args.most))
    c.ands.tree c.in_ok-right.right now next _ _ _ _ c.ands.invariant (omega arith) (search rules)
    c.in_ok-behind.ensures c.in_ok-right.ensures)

pub value_with-ors-preserved : goal.value_with-ors-preserved
value_with-ors-preserved t c =
    let now = c.len-i-end.result - c.ors._i in
    let next = c.len-i-end.result - (c.ors._i + 1) in
    rw c.in_ok-tree-2.ensures
    (fold-step_behind (trees.Pair ops.Or) (is_keyword (codes "OR")) (keyword_at (codes "OR"))
    (conj_at (value_at c.args.most))
    c.ors.tree c.in_ok-right.right now next _ _ _ _ c.ors.invariant (omega arith) (search rules)
    c.in_ok-behind.ensures c.in_ok-right.ensures)

pub product-factors-preserved : goal.product-factors-preserved
product-factors-preserved t c =
    let now = c.len-i-end.result - c.factors._i in
    let next = c.len-i-end.result - (c.factors._i + 1) in
    fold-step applied begins_factor (factor_at (value_at c.args.most)) c.factors.tree _ now next _ _ _
    c.factors.invariant (omega arith) (search rules) c.in_ok-tree-2.ensures
