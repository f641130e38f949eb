use Rattle.std.proofs.Common.{◌+◌, ◌-◌, arith, rules}
use Rattle.std.proofs.lemmas.Result.{err_from_is_err_and}
use Rattle.pj_lex.specs.declared.token.Symbol.TheVariants.{Comma}
use Rattle.pj_grammar.specs.Lexemes.{is_symbol, no_value}
use Rattle.pj_grammar.specs.parsing.Words.{name_at}
use Rattle.pj_phrase.proofs.ManyLoop.{begun-fails, list-step, list-fails, list-ends, list-stops}
use Rattle.pj_phrase.proofs.tokens.name_lists.names.Goals as goal
use Rattle.pj_phrase.proofs.tokens.name_lists.names.Goals.{else-names-test}
use Rattle.pj_phrase.proofs.tokens.name_lists.names.Goals.{then-names-test+then-not-begins_symbol}

pub names-preserved : goal.names-preserved
names-preserved c =
    let now = c.len-i-end.result - c.names._i in
    let next = c.len-i-end.result - (c.names._i + 1) in
    rw c.in_ok-push-2.ensures.items
    (list-step name_at now next _ _ _ _ _ _ c.names.invariant (omega arith) (search rules)
    c.in_ok-behind.ensures c.in_ok-one.ensures)

pub returns-in_err-behind : goal.returns-in_err-behind
returns-in_err-behind c =
    let p = err_from_is_err_and c.from_residual-in_err-behind.result c.from_residual-in_err-behind.ensures.1
    in
    rw (p.1, p.2)
    (begun-fails (is_symbol Comma) no_value _ _ _ (search rules) c.in_err-behind.ensures)

pub returns-in_err-one : goal.returns-in_err-one
returns-in_err-one c =
    let p = err_from_is_err_and c.from_residual-in_err-one.result c.from_residual-in_err-one.ensures.1 in
    let now = c.len-i-end.result - c.names._i in
    let next = c.len-i-end.result - (c.names._i + 1) in
    rw (p.1, p.2)
    (list-fails name_at now next _ _ _ _ _ c.names.invariant (omega arith) (search rules)
    c.in_ok-behind.ensures c.in_err-one.ensures)

pub returns : goal.returns
returns c =
    let now = c.len-i-end.result - c.names._i in
    rw c.from_vec.ensures
    (elim c.names-test.branch [
      | else-names-test w ↦
          let no = w.names-test.false in list-ends name_at now _ _ _ c.names.invariant (omega arith)
      | then-names-test+then-not-begins_symbol w ↦
          let no = w.begins_symbol.ensures in list-stops name_at now _ _ _ c.names.invariant (search rules)
    ])
