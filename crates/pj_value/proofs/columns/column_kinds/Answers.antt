use Rattle.std.proofs.Common.{◌<◌, length, arith}
use Rattle.std.proofs.lemmas.List.{map_more}
use Rattle.std.proofs.lemmas.List.Elements.{All-more}
use Rattle.pj_value.specs.Columns.{KindedValues, AreOfKind}
use Rattle.pj_value.proofs.columns.column_kinds.Goals as goal

pub loop-column-preserved : goal.loop-column-preserved
loop-column-preserved c =
    let l : c.loop-column.column-index < length c.args.columns.now = omega arith in
    let more =
    map_more (λ (k : KindedValues). k.kind) c.args.columns.now c.loop-column.column-index c.column-item.result
    l in
    record {
      kinds_are = rw (
        c.in_ok-push.ensures.items,
        c.loop-column.invariant.kinds_are,
        c.kind.ensures.kind,
        more,
        ← c.column-item.is,
      );
      of_kind = All-more (λ (k : KindedValues). AreOfKind k.kind k.values)
          c.args.columns.now c.loop-column.column-index c.column-item.result l c.loop-column.invariant.of_kind
          (rw (← c.column-item.is) c.kind.ensures.of_kind);
    }
