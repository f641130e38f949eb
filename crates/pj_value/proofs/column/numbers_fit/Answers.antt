use Rattle.std.proofs.Common.{◌<◌}
use Rattle.std.proofs.lemmas.List.Elements.{All-from_get_or}
use Rattle.pj_value.proofs.column.numbers_fit.Goals as goal

pub returns : goal.returns
returns c =
    All-from_get_or (λ n. n < 18446744073709551616) c.args.numbers.now 0
    (λ at l. (c.type_inv.numbers at).fits)
