use Rattle.std.proofs.Common.{◌≡◌, ◌++◌, sym, ◌∙◌}
use Rattle.std.proofs.lemmas.List.{take-append-drop}
use Rattle.pj_lex.specs.Bytes.{is_digit, after_blanks}
use Rattle.pj_lex.proofs.TokenBytes.{run_passes}
use Rattle.pj_lex.proofs.FirstTokens.{prefix_of, back_of, number-stands, number-some, number-ends}
use Rattle.pj_lex.proofs.FirstTokens.{number-fits}
use Rattle.pj_lex.proofs.first.first_number.Goals as goal

pub returns-then-is_empty : goal.returns-then-is_empty
returns-then-is_empty c =
    λ n more has.
    number-some c.args.bytes.now c.split_at.result.0.now c.split_at.result.1.now n more has
    (prefix_of is_digit c.args.bytes.now c.skip_blanks-bytes.result.now c.split_at.result.0.now
    c.digit_prefix.result c.skip_blanks-bytes.ensures c.digit_prefix.ensures.count
    c.split_at.ensures.front)
    (back_of is_digit c.args.bytes.now c.skip_blanks-bytes.result.now c.split_at.result.1.now
    c.digit_prefix.result c.skip_blanks-bytes.ensures c.digit_prefix.ensures.count
    c.split_at.ensures.back)
    (sym c.is_empty.ensures ∙ c.if-is_empty.true)

pub returns-then-goes_on : goal.returns-then-goes_on
returns-then-goes_on c =
    λ n more has.
    number-ends c.args.bytes.now c.split_at.result.0.now c.split_at.result.1.now n more has
    (prefix_of is_digit c.args.bytes.now c.skip_blanks-bytes.result.now c.split_at.result.0.now
    c.digit_prefix.result c.skip_blanks-bytes.ensures c.digit_prefix.ensures.count
    c.split_at.ensures.front)
    (back_of is_digit c.args.bytes.now c.skip_blanks-bytes.result.now c.split_at.result.1.now
    c.digit_prefix.result c.skip_blanks-bytes.ensures c.digit_prefix.ensures.count
    c.split_at.ensures.back)
    (sym c.goes_on.ensures ∙ c.if-goes_on.true)

pub number_of-requires : goal.number_of-requires
number_of-requires c =
    rw (c.split_at.ensures.front, c.digit_prefix.ensures.count)
    (run_passes is_digit c.skip_blanks-bytes.result.now)

pub returns-in_err-number : goal.returns-in_err-number
returns-in_err-number c =
    rw c.from_residual.ensures
    (λ n more has.
    number-fits c.args.bytes.now c.split_at.result.0.now c.split_at.result.1.now n more has
    (prefix_of is_digit c.args.bytes.now c.skip_blanks-bytes.result.now c.split_at.result.0.now
    c.digit_prefix.result c.skip_blanks-bytes.ensures c.digit_prefix.ensures.count
    c.split_at.ensures.front)
    (back_of is_digit c.args.bytes.now c.skip_blanks-bytes.result.now c.split_at.result.1.now
    c.digit_prefix.result c.skip_blanks-bytes.ensures c.digit_prefix.ensures.count
    c.split_at.ensures.back)
    (sym c.number_of.ensures ∙ c.in_err-number.was))

pub returns : goal.returns
returns c =
    let bytes = c.skip_blanks-bytes.result.now in
    let whole : after_blanks c.args.bytes.now ≡ c.split_at.result.0.now ++ c.split_at.result.1.now =
    sym c.skip_blanks-bytes.ensures
    ∙ rw (c.split_at.ensures.front, c.split_at.ensures.back)
    (sym (take-append-drop c.digit_prefix.result bytes)) in
    number-stands c.args.bytes.now c.split_at.result.0.now c.split_at.result.1.now c.in_ok-number.number whole
    (sym c.is_empty.ensures ∙ c.if-is_empty.false)
    (rw (c.split_at.ensures.front, c.digit_prefix.ensures.count) (run_passes is_digit bytes))
    (sym c.number_of.ensures ∙ c.in_ok-number.was)
    (sym c.goes_on.ensures ∙ c.if-goes_on.false)
