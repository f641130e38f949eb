use Rattle.std.proofs.Common.{sym, ◌∙◌, rules}
use Rattle.std.proofs.lemmas.Fn.{always_returns_same}
use Rattle.pj_value.specs.Values.{value_of}
use Rattle.pj_value.specs.Order.{value_cmp}
use Rattle.pj_agg.proofs.PileLemmas.{found}
use Rattle.pj_agg.proofs.pile.is_found.Goals as goal

pub returns : goal.returns
returns g c = λ e.
    let value = g.T.Valued.value in
    let v = value_of c.args.cell in
    found value v c.args.sorted.now c.binary_search_by.result c.binary_search_by.ensures.bound
    (c.binary_search_by.ensures.position (λ x. value_cmp (value x) v)
    (always_returns_same _ _ _ (λ a r f h. (search rules, search rules))))
    (sym c.is_ok.ensures.value ∙ e)
