use Rattle.std.proofs.Common.{map, rules}
use Rattle.std.proofs.lemmas.Fn.{always_returns_same}
use Rattle.pj_group.specs.Indexes.{key_values, is_before}
use Rattle.pj_group.proofs.OrderLemmas.{indexes_ranked}
use Rattle.pj_group.proofs.least.first_sorted.Goals as goal

pub returns : goal.returns
returns c =
    let keys = map key_values c.args.keys.now in
    record {
      arrangement = c.sort_by.new.self.items;
      all = c.in_ok-sort_by.ensures.permutation;
      ordered =
          c.in_ok-sort_by.ensures.sorted (is_before keys) (indexes_ranked keys)
          (always_returns_same _ _ _ (λ a r f h. (search rules, search rules)));
      first = c.cut_to.ensures;
    }
