use Rattle.std.proofs.Common.{arith}
use Rattle.pj_bind.specs.Sources.{source_of}
use Rattle.pj_bind.proofs.LoopLemmas.{mapped-more, mapped-all}
use Rattle.pj_bind.proofs.filling.sources_of.Goals as goal

pub columns-preserved : goal.columns-preserved
columns-preserved c =
    mapped-more (source_of c.args.names.now) c.args.columns.now c.columns.column-index c.column-item.result
    c.columns.sources.items _ _ (omega arith) c.column-item.is c.columns.invariant c.source_of.ensures
    c.in_ok-push.ensures.items

pub returns : goal.returns
returns c =
    mapped-all (source_of c.args.names.now) c.args.columns.now c.columns.column-index
    c.columns.sources.items (omega arith) c.columns.invariant
