use Rattle.pj_agg.specs.States.{kept_value}
use Rattle.pj_agg.proofs.ChoiceLemmas.{whole-least}
use Rattle.pj_agg.proofs.min_state.MinStateState.decode.Goals as goal

pub returns-clause-whole : goal.returns-clause-whole
returns-clause-whole c =
    whole-least c.args.kind (kept_value c.in_ok-kept.kept) c.in_ok-kept.ensures.whole
