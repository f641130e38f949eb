use Rattle.std.proofs.Common.{◌≡◌, length, ◌∙◌, arith}
use Rattle.std.proofs.lemmas.List.{take_at}
use Rattle.pj_layout.proofs.NumberLemmas.{numbers_in-read}
use Rattle.pj_layout.proofs.numbers.read_numbers.Goals as goal

pub returns : goal.returns
returns c =
    let read = c.read_u64_into.new.dst in
    let long : length read ≡ c.args.count = omega (arith, c.in_ok-resize.ensures.len) in
    take_at read _ c.resize.new.self.len (omega (arith, long, c.in_ok-resize.ensures.len))
    ∙ numbers_in-read c.args.count c.args.bytes.now read long c.read_u64_into.ensures
