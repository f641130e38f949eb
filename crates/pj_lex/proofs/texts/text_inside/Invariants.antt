use Rattle.std.proofs.Common.{◌≡◌, length}
use Rattle.pj_lex.specs.TokenReading.{pieces_at, with_prefix}
use Rattle.pj_lex.proofs.texts.text_inside.Given as goal

abbrev pub invariant-pieces : goal.invariant-pieces
invariant-pieces l = with_prefix l.text.items (pieces_at l.rest) ≡ pieces_at l.inside

abbrev pub decreases-pieces : goal.decreases-pieces
decreases-pieces l = length l.rest
