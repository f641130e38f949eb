use Rattle.std.proofs.Common.{◌≡◌, ◌<◌, ◌^◌, take}
use Rattle.pj_lex.specs.Tokens.{digits_value}
use Rattle.pj_lex.proofs.scan.number_of.Given as goal

abbrev pub invariant-loop-digit : goal.invariant-loop-digit
invariant-loop-digit l =
    record { so_far : l.number ≡ digits_value (take l.digit-index l.digits); fits : l.number < 2 ^ 64 }
