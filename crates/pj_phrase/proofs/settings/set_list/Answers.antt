use Rattle.std.proofs.Common.{◌+◌, ◌-◌, arith, rules}
use Rattle.std.proofs.lemmas.Result.{err_from_is_err_and}
use Rattle.pj_lex.specs.declared.token.Symbol.TheVariants.{Comma}
use Rattle.pj_grammar.specs.Lexemes.{is_symbol, no_value}
use Rattle.pj_grammar.specs.parsing.Settings.{set_at}
use Rattle.pj_phrase.proofs.ManyLoop.{begun-fails, list-step, list-fails, list-ends, list-stops}
use Rattle.pj_phrase.proofs.settings.set_list.Goals as goal
use Rattle.pj_phrase.proofs.settings.set_list.Goals.{else-sets-test, then-sets-test+then-not-begins_symbol}

pub sets-preserved : goal.sets-preserved
sets-preserved c =
    let now = c.len-i-end.result - c.sets._i in
    let next = c.len-i-end.result - (c.sets._i + 1) in
    rw c.in_ok-push-2.ensures.items
    (list-step set_at now next _ _ _ _ _ _ c.sets.invariant (omega arith) (search rules)
    c.in_ok-behind.ensures c.in_ok-one.ensures)

pub returns-in_err-behind : goal.returns-in_err-behind
returns-in_err-behind c =
    let p = err_from_is_err_and c.from_residual-in_err-behind.result c.from_residual-in_err-behind.ensures.1
    in
    rw (p.1, p.2)
    (begun-fails (is_symbol Comma) no_value _ _ _ (search rules) c.in_err-behind.ensures)

pub returns-in_err-one : goal.returns-in_err-one
returns-in_err-one c =
    let p = err_from_is_err_and c.from_residual-in_err-one.result c.from_residual-in_err-one.ensures.1 in
    let now = c.len-i-end.result - c.sets._i in
    let next = c.len-i-end.result - (c.sets._i + 1) in
    rw (p.1, p.2)
    (list-fails set_at now next _ _ _ _ _ c.sets.invariant (omega arith) (search rules)
    c.in_ok-behind.ensures c.in_err-one.ensures)

pub returns : goal.returns
returns c =
    let now = c.len-i-end.result - c.sets._i in
    rw c.from_vec.ensures
    (elim c.sets-test.branch [
      | else-sets-test w ↦
          let no = w.sets-test.false in list-ends set_at now _ _ _ c.sets.invariant (omega arith)
      | then-sets-test+then-not-begins_symbol w ↦
          let no = w.begins_symbol.ensures in list-stops set_at now _ _ _ c.sets.invariant (search rules)
    ])
