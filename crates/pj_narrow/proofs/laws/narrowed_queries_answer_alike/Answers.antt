use Rattle.pj_narrow.proofs.AnswerLemmas.{narrowed_queries_fit, narrowed_items_keep_their_kinds, narrowed_queries_answer_alike}
use Rattle.pj_narrow.proofs.laws.narrowed_queries_answer_alike.Goals as goal

pub returns : goal.returns
returns c = record {
  fits = narrowed_queries_fit;
  kinds = narrowed_items_keep_their_kinds;
  answers = narrowed_queries_answer_alike;
}
