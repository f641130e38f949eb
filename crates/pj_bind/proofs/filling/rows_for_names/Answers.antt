use Rattle.std.proofs.Common.{◌≡◌, List, length, map, IfOk, sym, ap, ◌∙◌, subst}
use Rattle.std.specs.List.{AllByRecursion}
use Rattle.pj_value.specs.declared.value.Value.{Value}
use Rattle.pj_bind.specs.declared.filling.Source.{Source}
use Rattle.pj_bind.specs.Sources.{source_of, source_kinds, filled_from, FillsFrom}
use Rattle.pj_bind.proofs.FillingLemmas.{kinds-sources, filled-rows, fill-made, rows-fill}
use Rattle.pj_bind.proofs.filling.rows_for_names.Goals as goal

pub rows_from-requires : goal.rows_from-requires
rows_from-requires c =
    let are : c.as_slice.result.now ≡ map (source_of c.args.names.now) c.args.columns.now =
    c.as_slice.ensures.value ∙ c.in_ok-sources.ensures in
    c.requires ∙ sym (kinds-sources c.args.names.now c.args.columns.now)
    ∙ ap (λ (sources : List Source). source_kinds sources) (sym are)

pub returns-clause-rows : goal.returns-clause-rows
returns-clause-rows c =
    let are : c.as_slice.result.now ≡ map (source_of c.args.names.now) c.args.columns.now =
    c.as_slice.ensures.value ∙ c.in_ok-sources.ensures in
    subst (λ (rows : List (List Value)). IfOk c.rows_from.result
    (λ made. made ≡ record { kinds = c.args.kinds.now; rows = rows }))
    (ap (λ (sources : List Source). map (filled_from sources) c.args.rows.now) are
    ∙ filled-rows c.args.columns.now c.args.names.now c.args.rows.now)
    c.rows_from.ensures.rows

pub returns-clause-fill : goal.returns-clause-fill
returns-clause-fill c =
    let are : c.as_slice.result.now ≡ map (source_of c.args.names.now) c.args.columns.now =
    c.as_slice.ensures.value ∙ c.in_ok-sources.ensures in
    fill-made c.args.columns.now c.args.names.now c.args.rows.now c.rows_from.result
    (subst (λ (sources : List Source). IfOk c.rows_from.result
    (λ made. AllByRecursion (FillsFrom sources (length c.args.names.now)) c.args.rows.now)) are
    c.rows_from.ensures.fill)

pub returns-clause-shape : goal.returns-clause-shape
returns-clause-shape c = λ wrong all.
    let are : c.as_slice.result.now ≡ map (source_of c.args.names.now) c.args.columns.now =
    c.as_slice.ensures.value ∙ c.in_ok-sources.ensures in
    c.rows_from.ensures.shape wrong
    (subst (λ (sources : List Source). AllByRecursion (FillsFrom sources (length c.args.names.now))
    c.args.rows.now) (sym are)
    (rows-fill c.args.columns.now c.args.names.now c.args.rows.now all))
