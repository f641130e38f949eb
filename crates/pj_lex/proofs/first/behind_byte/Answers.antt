use Rattle.std.proofs.Common.{sym, ◌∙◌}
use Rattle.pj_lex.proofs.FirstTokens.{by_first}
use Rattle.pj_lex.proofs.first.behind_byte.Goals as goal

pub returns-in-len1-up : goal.returns-in-len1-up
returns-in-len1-up c =
    sym c.skip_blanks.ensures
    ∙ by_first c.skip_blanks.result.now c.args.byte c.in-len1-up.len_at_least c.if-first-byte.true
