use Rattle.std.proofs.Common.{◌≡◌, List, length, map, sym, subst, ap, ◌∙◌}
use Rattle.std.specs.List.{All}
use Rattle.std.proofs.lemmas.Result.{IfOk-weaker}
use Rattle.pj_value.specs.Columns.{KindedValues}
use Rattle.pj_value.specs.Rows.{rows_in, rows_joined}
use Rattle.pj_build.specs.Keys.{granule_starts, column_at}
use Rattle.pj_build.proofs.KeyLemmas.{column_at-lengths, first_keys-column_at}
use Rattle.pj_build.proofs.keys.first_keys.Goals as goal

pub from_columns-requires-clause-lengths : goal.from_columns-requires-clause-lengths
from_columns-requires-clause-lengths c =
    subst (λ (cs : List KindedValues). All (λ (column : KindedValues). length column.values ≡ rows_in cs) cs)
    (sym c.in_ok-columns.ensures)
    (column_at-lengths c.args.rows.now c.as_slice.result.now c.args.key.now c.requires.keyed)

pub returns : goal.returns
returns c =
    let starts : c.as_slice.result.now ≡ granule_starts c.args.granularity (length c.args.rows.now.rows) =
    c.as_slice.ensures.value ∙ c.in_ok-starts.ensures.starts
    ∙ ap (granule_starts c.args.granularity) c.len.ensures in
    let columns : c.in_ok-columns.columns.items
    ≡ map (column_at c.args.rows.now (granule_starts c.args.granularity (length c.args.rows.now.rows))) c.args.key.now =
    c.in_ok-columns.ensures ∙ ap (λ at. map (column_at c.args.rows.now at) c.args.key.now) starts in
    IfOk-weaker c.from_columns.result _ _
    (λ firsts e. e ∙ ap rows_joined columns
    ∙ first_keys-column_at c.args.rows.now c.args.key.now c.args.granularity c.requires.keyed c.requires.some)
    c.from_columns.ensures
