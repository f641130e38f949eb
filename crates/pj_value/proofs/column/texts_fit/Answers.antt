use Rattle.std.proofs.Common.{arith}
use Rattle.std.proofs.lemmas.List.{take_all}
use Rattle.std.proofs.lemmas.List.Elements.{All-more}
use Rattle.pj_value.specs.NumberBytes.{AreBytes}
use Rattle.pj_value.proofs.column.texts_fit.Goals as goal

pub loop-text-preserved : goal.loop-text-preserved
loop-text-preserved c =
    All-more AreBytes c.args.texts.now c.loop-text.text-index c.text-item.result (omega arith)
    c.loop-text.invariant (rw (← c.text-item.is) c.as_slice-bytes.ensures.bytes)

pub returns : goal.returns
returns c =
    let all = take_all c.loop-text.text-index c.args.texts.now (omega arith) in
    rw all at c.loop-text.invariant
