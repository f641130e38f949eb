use Rattle.pj_value.proofs.SpellingLemmas.{one_text, no_text_with_a_bad_escape, one_bad_escape, text_or_bad}
use Rattle.pj_value.proofs.escaping.text_or_bad_escape.Goals as goal

pub returns-clause-one_text : goal.returns-clause-one_text
returns-clause-one_text c = one_text

pub returns-clause-not_both : goal.returns-clause-not_both
returns-clause-not_both c = no_text_with_a_bad_escape

pub returns-clause-one_offset : goal.returns-clause-one_offset
returns-clause-one_offset c = one_bad_escape

pub returns-clause-some : goal.returns-clause-some
returns-clause-some c = text_or_bad
