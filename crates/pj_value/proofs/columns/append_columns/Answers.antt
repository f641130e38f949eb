use Rattle.std.proofs.Common.{◌<◌, length, take, arith, ap, sym, ◌∙◌}
use Rattle.std.proofs.lemmas.List.{get_or-map, length-map}
use Rattle.pj_value.specs.Columns.{kinds_of, values_of}
use Rattle.pj_value.proofs.LayoutLemmas.{joined-none, kinds_of-joined, length-same_kinds, kind_at}
use Rattle.pj_value.proofs.LayoutLemmas.{joined-take_more}
use Rattle.pj_value.proofs.columns.append_columns.Goals as goal

pub loop-at-init : goal.loop-at-init
loop-at-init c = sym (joined-none _)

pub append-requires : goal.append-requires
append-requires c =
    kind_at c.args.more.now c.loop-at.columns.items c.loop-at.at _ _
    (c.requires
    ∙ sym (kinds_of-joined c.args.columns.now.items (take c.loop-at.at (values_of c.args.more.now)))
    ∙ ap kinds_of (sym c.loop-at.invariant))
    (omega arith) c.index-more-at.is c.index_mut.ensures.value

pub loop-at-preserved : goal.loop-at-preserved
loop-at-preserved c =
    let l : c.loop-at.at < length c.args.more.now = omega arith in
    rw (c.in_ok-append.ensures.added)
    (joined-take_more c.loop-at.columns.items c.args.columns.now.items (values_of c.args.more.now)
    c.loop-at.at c.index_mut.result.now c.index-more-at.result.values
    c.loop-at.invariant
    (rw (← length-same_kinds _ _ c.requires) l)
    (rw length-map l)
    c.index_mut.ensures.value
    (ap (λ m. m.values) c.index-more-at.is
    ∙ sym (get_or-map (λ m. m.values) c.args.more.now c.loop-at.at c.index-more-at.result
    c.index-more-at.result.values l)))
