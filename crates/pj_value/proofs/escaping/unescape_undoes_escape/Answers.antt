use Rattle.pj_value.specs.Escaping.{escaped}
use Rattle.pj_value.proofs.SpellingLemmas.{one_text, Spells-escaped}
use Rattle.pj_value.proofs.escaping.unescape_undoes_escape.Goals as goal

pub returns : goal.returns
returns c =
    λ text. (Spells-escaped text, λ other s. one_text (escaped text) other text s (Spells-escaped text))
