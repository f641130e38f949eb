use Rattle.std.proofs.Common.{◌≡◌, sym, ap, subst, ◌∙◌}
use Rattle.pj_narrow.specs.Narrowing.{narrowed}
use Rattle.pj_exec.specs.Scans.{columns_used, granules_in}
use Rattle.pj_exec.specs.Causes.{TookReads, GaveDamageOf}
use Rattle.pj_exec.proofs.AgreeLemmas.{parts-held}
use Rattle.pj_exec.proofs.SelectLemmas.{columns_used-count, FitsQuery-narrow, kinds-if_ok, Answers-if_ok}
use Rattle.pj_exec.proofs.select.run_select.Goals as goal

pub answer_parts-requires-clause-fits : goal.answer_parts-requires-clause-fits
answer_parts-requires-clause-fits g c κs within =
    let table = c.args.table.now in
    let q = c.args.query.now in
    let columns_are : c.as_slice-3.result.now ≡ columns_used table q =
    c.as_slice-3.ensures.value ∙ c.in_ok-columns.ensures
    ∙ columns_used-count table q c.as_slice.result.now c.as_slice.ensures in
    let narrow_is : c.in_ok-narrow.narrow ≡ narrowed c.as_slice-3.result.now q =
    c.in_ok-narrow.ensures
    ∙ ap (λ cs. narrowed cs q) (c.as_slice-2.ensures.value ∙ sym c.as_slice-3.ensures.value) in
    FitsQuery-narrow table q c.in_ok-narrow.narrow c.as_slice-3.result.now columns_are narrow_is
    c.requires.fits c.narrowed_queries_answer_alike.ensures.fits

pub returns-clause-answers : goal.returns-clause-answers
returns-clause-answers g c =
    λ tells records agree.
    let table = c.args.table.now in
    let q = c.args.query.now in
    let columns_are : c.as_slice-3.result.now ≡ columns_used table q =
    c.as_slice-3.ensures.value ∙ c.in_ok-columns.ensures
    ∙ columns_used-count table q c.as_slice.result.now c.as_slice.ensures in
    let narrow_is : c.in_ok-narrow.narrow ≡ narrowed c.as_slice-3.result.now q =
    c.in_ok-narrow.ensures
    ∙ ap (λ cs. narrowed cs q) (c.as_slice-2.ensures.value ∙ sym c.as_slice-3.ensures.value) in
    let h = parts-held g.P.Blob.Kept.told g.P.Blob.Kept.size table
    (λ any. g.P.Blob.Kept.all_or_none any ∙ tells)
    c.as_slice-3.result.now c.args.parts.now records c.requires.parts agree in
    Answers-if_ok table q c.in_ok-narrow.narrow c.as_slice-3.result.now columns_are narrow_is c.requires.fits
    c.narrowed_queries_answer_alike.ensures.fits c.narrowed_queries_answer_alike.ensures.answers
    c.answers_ignore_the_order.ensures records h.all c.answer_parts.result
    (c.answer_parts.ensures.shape h.all h.held) h.moved (c.answer_parts.ensures.answers h.all h.held)

pub returns-clause-kinds : goal.returns-clause-kinds
returns-clause-kinds g c =
    let table = c.args.table.now in
    let q = c.args.query.now in
    let columns_are : c.as_slice-3.result.now ≡ columns_used table q =
    c.as_slice-3.ensures.value ∙ c.in_ok-columns.ensures
    ∙ columns_used-count table q c.as_slice.result.now c.as_slice.ensures in
    let narrow_is : c.in_ok-narrow.narrow ≡ narrowed c.as_slice-3.result.now q =
    c.in_ok-narrow.ensures
    ∙ ap (λ cs. narrowed cs q) (c.as_slice-2.ensures.value ∙ sym c.as_slice-3.ensures.value) in
    kinds-if_ok table q c.in_ok-narrow.narrow c.as_slice-3.result.now columns_are narrow_is c.requires.fits
    c.narrowed_queries_answer_alike.ensures.kinds c.answer_parts.result c.answer_parts.ensures.kinds

pub returns-clause-reads : goal.returns-clause-reads
returns-clause-reads g c =
    let table = c.args.table.now in
    let q = c.args.query.now in
    let columns_are : c.as_slice-3.result.now ≡ columns_used table q =
    c.as_slice-3.ensures.value ∙ c.in_ok-columns.ensures
    ∙ columns_used-count table q c.as_slice.result.now c.as_slice.ensures in
    subst (λ cs. TookReads (granules_in cs c.args.parts.now)
    (g.P.Port.reads c.args.port.now) (g.P.Port.reads c.answer_parts.new.port) c.answer_parts.result)
    columns_are c.answer_parts.ensures.reads

pub returns-clause-damaged : goal.returns-clause-damaged
returns-clause-damaged g c =
    λ part column granule at is.
    let table = c.args.table.now in
    let q = c.args.query.now in
    let columns_are : c.as_slice-3.result.now ≡ columns_used table q =
    c.as_slice-3.ensures.value ∙ c.in_ok-columns.ensures
    ∙ columns_used-count table q c.as_slice.result.now c.as_slice.ensures in
    subst (λ cs. GaveDamageOf c.args.parts.now cs part column granule at
    (g.P.Port.reads c.args.port.now) (g.P.Port.reads c.answer_parts.new.port)
    (g.P.Port.last c.answer_parts.new.port))
    columns_are (c.answer_parts.ensures.damaged part column granule at is)

pub returns-clause-undamaged : goal.returns-clause-undamaged
returns-clause-undamaged g c =
    λ tells records agree part column granule at is.
    let h = parts-held g.P.Blob.Kept.told g.P.Blob.Kept.size c.args.table.now
    (λ any. g.P.Blob.Kept.all_or_none any ∙ tells)
    c.as_slice-3.result.now c.args.parts.now records c.requires.parts agree in
    c.answer_parts.ensures.undamaged h.all h.held part column granule at is
