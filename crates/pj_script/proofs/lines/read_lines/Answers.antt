use Rattle.std.proofs.Common.{◌≡◌, [], Some, None, arith, rules}
use Rattle.std.proofs.lemmas.Result.{err_from_is_err_and}
use Rattle.std.proofs.lemmas.List.{nil_from_length, append-nil}
use Rattle.pj_script.proofs.LineLoop.{with_prefix-read, fails_at_piece, reads_all}
use Rattle.pj_script.proofs.lines.read_lines.Goals as goal

pub returns-in_err-line : goal.returns-in_err-line
returns-in_err-line c =
    let p = err_from_is_err_and c.from_residual.result c.from_residual.ensures.1 in
    rw (
      p.1,
      p.2,
    ) (fails_at_piece _ _ _ c.pieces.lines.items _ c.pieces.rest.now _ c.next_piece.result.1.now
    c.in_err-line.field-0.0 c.pieces.invariant.read c.next_piece.ensures.cut
    c.in_err-line.ensures.line)

pub pieces-preserved-in_ok-push : goal.pieces-preserved-in_ok-push
pieces-preserved-in_ok-push c = record {
  room = omega (arith, c.pieces.invariant.room, c.next_piece.ensures.shorter);
  few = c.in_ok-line.ensures.few;
  read =
      rw c.in_ok-push.ensures.items
      (with_prefix-read _ _ _ c.read_line.new.names.items c.pieces.lines.items c.pieces.rest.now _
      c.next_piece.result.1.now
      (Some c.in-Some.line) _ c.pieces.invariant.read c.next_piece.ensures.cut
      (rw (← c.in-Some.is) c.in_ok-line.ensures.line));
}

pub pieces-preserved : goal.pieces-preserved
pieces-preserved c =
    let none = c.in_default.is in
    record {
      room = omega (arith, c.pieces.invariant.room, c.next_piece.ensures.shorter);
      few = c.in_ok-line.ensures.few;
      read =
          rw append-nil at
          (with_prefix-read _ _ _ c.read_line.new.names.items c.pieces.lines.items c.pieces.rest.now
          c.next_piece.result.0.now c.next_piece.result.1.now None _ c.pieces.invariant.read
          c.next_piece.ensures.cut
          (rw (← none) c.in_ok-line.ensures.line));
    }

pub returns : goal.returns
returns c =
    let none : c.pieces.rest.now ≡ [] = nil_from_length c.pieces.rest.now (search rules) in
    rw (c.from_vec.ensures, c.from_vec-2.ensures)
    (reads_all _ _ _ c.pieces.lines.items _ c.pieces.rest.now c.pieces.invariant.read none)
