use Rattle.std.proofs.Common.{◌+◌, ◌-◌, arith, rules}
use Rattle.std.proofs.lemmas.Result.{err_from_is_err_and}
use Rattle.pj_sentence.specs.Members.{member_of}
use Rattle.pj_lex.specs.declared.token.Symbol.TheVariants.{Comma}
use Rattle.pj_grammar.specs.Lexemes.{is_symbol, no_value}
use Rattle.pj_grammar.specs.parsing.Values.{value_at}
use Rattle.pj_grammar.specs.parsing.Tables.{member_at}
use Rattle.pj_phrase.proofs.ManyLoop.{begun-fails}
use Rattle.pj_sentence.proofs.MembersLoop.{members-step, members-fails, members-ends, members-stops}
use Rattle.pj_sentence.proofs.creates.members.more_members.Goals as goal
use Rattle.pj_sentence.proofs.creates.members.more_members.Goals.{else-members-test}
use Rattle.pj_sentence.proofs.creates.members.more_members.Goals.{then-members-test+then-not-begins_symbol}

pub members-preserved : goal.members-preserved
members-preserved c =
    let now = c.len-i-end.result - c.members._i in
    let next = c.len-i-end.result - (c.members._i + 1) in
    rw (c.in_ok-put.ensures.columns, c.in_ok-put.ensures.projections)
    (members-step (member_at (value_at c.args.most)) _ _ now next (member_of c.in_ok-one.one) _ _ _ _
    c.members.invariant
    (omega arith) (search rules) c.in_ok-behind.ensures c.in_ok-one.ensures)

pub returns-in_err-behind : goal.returns-in_err-behind
returns-in_err-behind c =
    let p = err_from_is_err_and c.from_residual-in_err-behind.result c.from_residual-in_err-behind.ensures.1
    in
    rw (p.1, p.2)
    (begun-fails (is_symbol Comma) no_value _ _ _ (search rules) c.in_err-behind.ensures)

pub returns-in_err-one : goal.returns-in_err-one
returns-in_err-one c =
    let p = err_from_is_err_and c.from_residual-in_err-one.result c.from_residual-in_err-one.ensures.1 in
    let now = c.len-i-end.result - c.members._i in
    let next = c.len-i-end.result - (c.members._i + 1) in
    rw (p.1, p.2)
    (members-fails (member_at (value_at c.args.most)) _ _ now next _ _ _ _ c.members.invariant
    (omega arith) (search rules) c.in_ok-behind.ensures c.in_err-one.ensures)

pub returns : goal.returns
returns c =
    let now = c.len-i-end.result - c.members._i in
    rw (c.from_vec.ensures, c.from_vec-2.ensures)
    (elim c.members-test.branch [
      | else-members-test w ↦
          let no = w.members-test.false in
          members-ends (member_at (value_at c.args.most)) _ _ now _ _ c.members.invariant (omega arith)
      | then-members-test+then-not-begins_symbol w ↦
          let no = w.begins_symbol.ensures in
          members-stops (member_at (value_at c.args.most)) _ _ now _ _ c.members.invariant (search rules)
    ])
