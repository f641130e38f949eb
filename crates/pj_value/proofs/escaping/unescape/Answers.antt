use Rattle.std.proofs.Common.{arith}
use Rattle.pj_value.proofs.SpellingLemmas.{Spells-itself, Spells-pair}
use Rattle.pj_value.proofs.escaping.unescape.Goals as goal

pub pieces-preserved-then-byte-ne92 : goal.pieces-preserved-then-byte-ne92
pieces-preserved-then-byte-ne92 c = record {
  inside = omega arith;
  spelled = rw c.in_ok-push.ensures.items (Spells-itself c.args.text.now c.pieces.read.items c.pieces.at
      (omega arith) c.if-byte-ne92.true c.pieces.invariant.spelled);
}

pub pieces-preserved : goal.pieces-preserved
pieces-preserved c = record {
  inside = omega (arith, c.in-Some.ensures.some.0);
  spelled = rw c.in_ok-push-2.ensures.items
      (Spells-pair c.args.text.now c.pieces.read.items c.pieces.at c.in-Some.meant
      c.in-Some.ensures.some.0 c.if-byte-ne92.false c.in-Some.ensures.some.1 c.pieces.invariant.spelled);
}
