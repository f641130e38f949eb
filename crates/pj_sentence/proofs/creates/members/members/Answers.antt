use Rattle.std.proofs.lemmas.Result.{err_from_is_err_and}
use Rattle.pj_lex.specs.declared.token.Symbol.TheVariants.{Right, Comma}
use Rattle.pj_grammar.specs.Lexemes.{is_symbol}
use Rattle.pj_grammar.specs.parsing.Parser.{many_at}
use Rattle.pj_grammar.specs.parsing.Words.{sign_at, behind_at}
use Rattle.pj_grammar.specs.parsing.Values.{value_at}
use Rattle.pj_grammar.specs.parsing.Tables.{members_at, member_at}
use Rattle.pj_sentence.proofs.MembersLoop.{members-then, members-read, fails-then}
use Rattle.pj_sentence.proofs.creates.members.members.Goals as goal

pub returns-in_err-rest-2 : goal.returns-in_err-rest-2
unfolding members_at
returns-in_err-rest-2 c =
    let p = err_from_is_err_and c.from_residual-in_err-rest-2.result c.from_residual-in_err-rest-2.ensures.1
    in
    rw (p.1, p.2)
    (fails-then _ (sign_at Right c.in_ok-columns.rest) (c.in_ok-columns.columns, c.in_ok-columns.projections)
    _
    (rw (c.in_ok-rest.ensures, c.in_ok-first.ensures)
    (members-then c.in_ok-first.first (sign_at Right)
    (many_at (is_symbol Comma) (behind_at (sign_at Comma) (member_at
    (value_at c.args.most))) c.in_ok-first.rest)
    (c.in_ok-columns.columns, c.in_ok-columns.projections) c.in_ok-columns.rest c.in_ok-columns.ensures))
    c.in_err-rest-2.ensures)

pub returns : goal.returns
unfolding members_at
returns c =
    rw (c.in_ok-rest.ensures, c.in_ok-first.ensures)
    (members-read c.in_ok-first.first (sign_at Right)
    (many_at (is_symbol Comma) (behind_at (sign_at Comma) (member_at
    (value_at c.args.most))) c.in_ok-first.rest)
    (c.in_ok-columns.columns, c.in_ok-columns.projections) c.in_ok-columns.rest c.in_ok-rest-2.rest
    c.in_ok-columns.ensures c.in_ok-rest-2.ensures)
