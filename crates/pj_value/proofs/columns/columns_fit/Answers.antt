use Rattle.std.proofs.Common.{arith}
use Rattle.std.specs.List.{AllByRecursion}
use Rattle.std.proofs.lemmas.List.{take_all}
use Rattle.std.proofs.lemmas.List.Elements.{All-more}
use Rattle.pj_value.specs.Values.{Fits}
use Rattle.pj_value.specs.Columns.{KindedValues}
use Rattle.pj_value.proofs.columns.columns_fit.Goals as goal

pub loop-column-preserved : goal.loop-column-preserved
loop-column-preserved c =
    All-more (λ (k : KindedValues). AllByRecursion Fits k.values) c.args.columns.now
    c.loop-column.column-index c.column-item.result (omega arith) c.loop-column.invariant
    (rw (← c.column-item.is) c.kind-kind.ensures.fits)

pub returns : goal.returns
returns c =
    let all = take_all c.loop-column.column-index c.args.columns.now (omega arith) in
    rw all at c.loop-column.invariant
