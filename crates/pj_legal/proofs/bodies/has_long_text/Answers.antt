use Rattle.std.proofs.Common.{length, arith, lt-ltb, ltb-true}
use Rattle.pj_legal.proofs.texts.TextSizes.{HasLongText-long}
use Rattle.pj_legal.proofs.bodies.has_long_text.Goals as goal

pub returns-else-body-gt-TEXT : goal.returns-else-body-gt-TEXT
returns-else-body-gt-TEXT c = (
  λ is. absurd (omega (arith, ltb-true 65535 (length c.args.body.now) is, c.if-body-gt-TEXT.false)),
  λ long. lt-ltb _ _ (HasLongText-long c.args.body.now c.args.tokens.now c.requires long),
)
