use Rattle.std.proofs.Common.{subst}
use Rattle.std.proofs.lemmas.Result.{on_ok_weaker}
use Rattle.pj_value.specs.declared.value.AggKind.TheVariants as aggregates
use Rattle.pj_value.specs.Summaries.{Extreme, IsSummary}
use Rattle.pj_agg.specs.States.{kept_kind, kept_value}
use Rattle.pj_agg.proofs.ChoiceLemmas.{whole-least}
use Rattle.pj_agg.proofs.min_state.MinStateState.encode.Goals as goal

pub returns-clause-whole : goal.returns-clause-whole
returns-clause-whole c =
    let kept = c.args.self.now.kept in
    on_ok_weaker c.encode.result
    (λ h kind e. subst (λ k. IsSummary aggregates.Min k (Extreme (kept_value kept))) e
    (whole-least (kept_kind kept) (kept_value kept) h)) c.encode.ensures.whole
