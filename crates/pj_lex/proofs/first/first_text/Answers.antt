use Rattle.pj_lex.proofs.FirstTokens.{text-stands, text-quote, text-none}
use Rattle.pj_lex.proofs.first.first_text.Goals as goal

pub returns-in_default : goal.returns-in_default
returns-in_default c =
    λ text more has.
    let quote = text-quote c.args.bytes.now text more has in
    c.in_default.ensures quote.0 quote.1

pub returns-in-Ok : goal.returns-in-Ok
returns-in-Ok c =
    text-stands c.args.bytes.now c.in-Some.inside.now c.in-Ok.text c.in-Ok.behind.now c.in-Some.ensures
    c.in-Ok.ensures

pub returns-in-Err-At : goal.returns-in-Err-At
returns-in-Err-At c =
    λ text more has.
    text-none c.args.bytes.now c.in-Some.inside.now c.in-Err-At.field-0-0.now text more c.in-Some.ensures
    (rw c.in-Err-At.field-0-is at c.in-Err-At.ensures) has
