use Rattle.std.proofs.Common.{arith}
use Rattle.pj_group.proofs.CountLemmas.{answers-counts}
use Rattle.pj_group.proofs.counts.counted.Goals as goal

pub returns : goal.returns
returns c =
    answers-counts c.args.query.now c.args.rows.now c.in_ok-out.out c.in_ok-count.count c.requires.fits
    c.requires.aggregates c.requires.counts c.in_ok-count.ensures (omega arith) c.in_ok-out.ensures
