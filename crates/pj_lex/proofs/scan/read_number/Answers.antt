use Rattle.pj_lex.specs.Bytes.{is_digit}
use Rattle.pj_lex.proofs.TokenBytes.{run_passes}
use Rattle.pj_lex.proofs.scan.read_number.Goals as goal

pub number_of-requires : goal.number_of-requires
number_of-requires c =
    rw (c.split_at.ensures.front, c.digit_prefix.ensures.count) (run_passes is_digit c.args.bytes.now)
