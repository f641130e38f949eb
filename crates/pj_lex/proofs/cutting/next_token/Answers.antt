use Rattle.std.proofs.Common.{◌≡◌, ◌<◌, Ok, Err, length, sym, ap, ◌∙◌, arith}
use Rattle.std.proofs.lemmas.List.{nil_from_length}
use Rattle.std.proofs.lemmas.Bool.Decides.{nat_tests}
use Rattle.pj_lex.specs.Bytes.{after_blanks}
use Rattle.pj_lex.specs.TokenReading.{token_at}
use Rattle.pj_lex.proofs.BodyTokens.{all_blank, not_all_blank, blanks-length, first_is_read}
use Rattle.pj_lex.proofs.BodyTokens.{break_is_read, behind-within, stuck-within}
use Rattle.pj_lex.proofs.cutting.next_token.Goals as goal
use Rattle.pj_lex.proofs.cutting.next_token.Goals.{In-Ok, In-Err-At}

pub returns-then-is_empty : goal.returns-then-is_empty
returns-then-is_empty c =
    let none : length c.skip_blanks-bytes.result.now ≡ 0 = grind (arith, nat_tests) in
    all_blank c.args.rest.now
    (sym c.skip_blanks-bytes.ensures ∙ nil_from_length c.skip_blanks-bytes.result.now none)

pub overflow_sub-at : goal.overflow_sub-at
overflow_sub-at c =
    omega (arith, c.requires, ap length c.skip_blanks-bytes.ensures, blanks-length c.args.rest.now)

some_left : (c : In-Ok) → 0 < length (after_blanks c.args.rest.now)
some_left c =
    not_all_blank c.args.rest.now c.skip_blanks-bytes.result.now c.skip_blanks-bytes.ensures
    (sym c.is_empty.ensures ∙ c.if-is_empty.false)

read : (c : In-Ok) → token_at (after_blanks c.args.rest.now) ≡ Ok (c.in-Ok.kind, c.in-Ok.behind.now)
read c = rw c.skip_blanks-bytes.ensures at c.in-Ok.ensures

pub overflow_sub-end : goal.overflow_sub-end
overflow_sub-end c =
    behind-within c.args.size c.args.rest.now c.requires c.in-Ok.kind c.in-Ok.behind.now (some_left c)
    (read c)

pub returns-in-Ok : goal.returns-in-Ok
returns-in-Ok c =
    rw c.skip_blanks-bytes.ensures
    (first_is_read c.args.size c.args.rest.now c.requires c.in-Ok.kind c.in-Ok.behind.now (some_left c)
    (read c))

left_over : (c : In-Err-At) → 0 < length (after_blanks c.args.rest.now)
left_over c =
    not_all_blank c.args.rest.now c.skip_blanks-bytes.result.now c.skip_blanks-bytes.ensures
    (sym c.is_empty.ensures ∙ c.if-is_empty.false)

stuck : (c : In-Err-At) → token_at (after_blanks c.args.rest.now) ≡ Err c.in-Err-At.bad.now
stuck c = rw c.skip_blanks-bytes.ensures at (rw c.in-Err-At.field-0-is at c.in-Err-At.ensures)

pub overflow_sub-result : goal.overflow_sub-result
overflow_sub-result c =
    rw c.in-Err-At.field-0-is
    (stuck-within c.args.size c.args.rest.now c.requires c.in-Err-At.bad.now (left_over c) (stuck c))

pub returns-in-Err-At : goal.returns-in-Err-At
returns-in-Err-At c =
    rw c.in-Err-At.field-0-is
    (break_is_read c.args.size c.args.rest.now c.requires c.in-Err-At.bad.now (left_over c) (stuck c))
