use Rattle.pj_agg.specs.States.{kept_value}
use Rattle.pj_agg.proofs.ChoiceLemmas.{whole-greatest}
use Rattle.pj_agg.proofs.max_state.MaxStateState.decode.Goals as goal

pub returns-clause-whole : goal.returns-clause-whole
returns-clause-whole c =
    whole-greatest c.args.kind (kept_value c.in_ok-kept.kept) c.in_ok-kept.ensures.whole
