use Rattle.std.proofs.Common.{◌-◌, length, arith}
use Rattle.pj_lex.specs.Tokens.{IsFirst}
use Rattle.pj_lex.proofs.BodyTokens.{Lead-next, first-shorter}
use Rattle.pj_lex.proofs.cutting.tokens.Goals as goal

pub tokens-preserved : goal.tokens-preserved
tokens-preserved c =
    let body = c.args.body.now in
    let rest = c.tokens.rest.now in
    let first : IsFirst (length body - length rest) rest c.in-Some.token c.in-Some.behind.now =
    rw c.in-Some.is at c.in_ok-token.ensures in
    record {
      within =
          omega (
            arith,
            c.tokens.invariant.within,
            first-shorter (length body - length rest) rest c.in-Some.behind.now c.in-Some.token first,
          );
      prefix =
          rw c.in_ok-push.ensures.items
          (Lead-next body rest c.in-Some.behind.now c.tokens.tokens.items c.in-Some.token
          c.tokens.invariant.within c.tokens.invariant.prefix first);
    }
