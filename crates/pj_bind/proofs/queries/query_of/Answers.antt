use Rattle.pj_bind.proofs.QueryLemmas.{query_of-with}
use Rattle.pj_bind.proofs.queries.query_of.Goals as goal

pub returns : goal.returns
returns c =
    query_of-with c.args.columns.now c.args.select.now c.in_ok-shown.shown c.in_ok-arranged.arranged
    c.zip.result c.query_with.result c.in_ok-shown.ensures c.in_ok-arranged.ensures c.zip.ensures
    c.query_with.ensures
