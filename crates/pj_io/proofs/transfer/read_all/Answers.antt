use Rattle.std.proofs.Common.{◌+◌, arith, rules, length-take-le}
use Rattle.pj_io.proofs.TransferLemmas.{TookAtMost-more, TookTooMuch-more}
use Rattle.pj_io.proofs.transfer.read_all.Goals as goal

pub returns-then-count-allowed-clause-large : goal.returns-then-count-allowed-clause-large
returns-then-count-allowed-clause-large g c = λ _.
    let within = c.pieces.invariant.within in
    let bound = c.in_ok-count.ensures.bound in
    let asked = length-take-le (c.min-room.result + 1) c.pieces.chunk (search rules) in
    let long = c.pieces.bytes.ok.0 in
    let room = c.min-room.ensures in
    let len = c.len.ensures in
    TookTooMuch-more _ _ _ _ _ _ c.pieces.invariant.taken c.in_ok-count.ensures.bytes.0 (omega arith)

pub returns-in_err-extend_from_slice-clause-small :
    goal.returns-in_err-extend_from_slice-clause-small
returns-in_err-extend_from_slice-clause-small g c = λ _.
    let within = c.pieces.invariant.within in
    let bound = c.in_ok-count.ensures.bound in
    TookAtMost-more _ _ _ _ _ _ c.pieces.invariant.taken c.in_ok-count.ensures.bytes.0 (omega arith)
