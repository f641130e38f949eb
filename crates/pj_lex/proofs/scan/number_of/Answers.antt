use Rattle.std.proofs.Common.{◌≡◌, ◌^◌, ◌≤◌, ◌<◌, take, arith, ap, ◌∙◌}
use Rattle.std.proofs.lemmas.List.{take_all}
use Rattle.pj_lex.specs.Tokens.{digits_value}
use Rattle.pj_lex.proofs.TokenNumbers.{digits_value_grows, too_large, small, not_below}
use Rattle.pj_lex.proofs.scan.number_of.Goals as goal

pub returns-in_err-checked_mul : goal.returns-in_err-checked_mul
returns-in_err-checked_mul c =
    let grows = digits_value_grows c.args.digits.now c.loop-digit.digit-index (omega arith) in
    let large : 2 ^ 64 ≤ digits_value c.args.digits.now =
    omega (arith, c.loop-digit.invariant.so_far, not_below _ _ c.in_err-checked_mul.ensures) in
    c.from_residual.ensures ∙ too_large _ (2 ^ 64) large

pub returns-in_err-number : goal.returns-in_err-number
returns-in_err-number c =
    let grows = digits_value_grows c.args.digits.now c.loop-digit.digit-index (omega arith) in
    let large : 2 ^ 64 ≤ digits_value c.args.digits.now =
    omega (arith, c.loop-digit.invariant.so_far, not_below _ _ c.in_err-number.ensures) in
    c.from_residual-in_err-number.ensures ∙ too_large _ (2 ^ 64) large

pub returns : goal.returns
returns c =
    let whole : take c.loop-digit.digit-index c.args.digits.now ≡ c.args.digits.now =
    take_all _ _ c.loop-digit-test.false in
    let is : c.loop-digit.number ≡ digits_value c.args.digits.now =
    c.loop-digit.invariant.so_far ∙ ap digits_value whole in
    let fits : digits_value c.args.digits.now < 2 ^ 64 = rw (← is) c.loop-digit.invariant.fits in
    rw is (small _ (2 ^ 64) fits)
