use Rattle.std.proofs.Common.{◌≡◌, ◌+◌, ◌≤◌, [], length, vec_len}
use Rattle.pj_script.specs.Lines.{pieces, names_limit}
use Rattle.pj_script.specs.ReadingLines.{lines_at}
use Rattle.pj_script.proofs.LineLoop.{with_prefix}
use Rattle.pj_script.proofs.lines.read_lines.Given as goal

abbrev pub invariant-pieces : goal.invariant-pieces
invariant-pieces l = record {
  room : l.number + length l.rest ≤ length l.bytes;
  few : vec_len l.names ≤ names_limit l.mode;
  read : with_prefix l.lines.items (lines_at l.mode (l.number + 1) l.names.items (pieces l.rest))
      ≡ lines_at l.mode 1 [] (pieces l.bytes);
}

abbrev pub decreases-pieces : goal.decreases-pieces
decreases-pieces l = length l.rest
