use Rattle.std.proofs.Common.{sym, ◌∙◌}
use Rattle.pj_value.proofs.EscapingLemmas.{escaped-all_plain}
use Rattle.pj_value.proofs.escaping.escape.Goals as goal

pub returns-then-plain_len-text-clause-ok : goal.returns-then-plain_len-text-clause-ok
returns-then-plain_len-text-clause-ok c =
    rw (escaped-all_plain c.args.text.now (sym c.plain_len.ensures.plain ∙ c.if-plain_len-text.true))
    c.in_ok-extend_from_slice.ensures.items
