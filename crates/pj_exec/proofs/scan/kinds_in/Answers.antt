use Rattle.std.proofs.Common.{◌≡◌, ◌<◌, ◌++◌, [], ◌∷◌, length, get_or, sym, ap, ◌∙◌, arith}
use Rattle.std.proofs.lemmas.List.{length-map, get_or-map}
use Rattle.pj_value.specs.declared.value.Kind.TheVariants as kinds
use Rattle.pj_expr.specs.declared.table.ColumnDef.{ColumnDef}
use Rattle.pj_expr.specs.Tables.{kinds_of}
use Rattle.pj_exec.proofs.ScanLemmas.{map-take_more}
use Rattle.pj_exec.proofs.scan.kinds_in.Goals as goal

pub picks-preserved : goal.picks-preserved
picks-preserved c =
    let i = c.picks.at-index in
    let columns = c.args.columns.now in
    let all = c.args.table.now.columns in
    let of : ColumnDef → _ = λ column. column.kind in
    let l : i < length columns = omega arith in
    let pick = get_or columns i 0 in
    let within : pick < length (kinds_of c.args.table.now) = c.requires i 0 l in
    let d = c.index-all-at.result in
    let kind_is : (get_or c.as_slice-all.result.now pick d).kind
    ≡ get_or (kinds_of c.args.table.now) pick kinds.Num =
    ap (λ cs. of (get_or cs pick d)) c.as_slice-all.ensures
    ∙ sym (get_or-map of all pick d kinds.Num (omega (arith, within, length-map all of))) in
    record {
      kinds = c.in_ok-push.ensures.items
          ∙ (λ j. c.picks.invariant.kinds j ++ kind_is j ∷ [])
          ∙ sym (map-take_more (λ at. get_or (kinds_of c.args.table.now) at kinds.Num) columns i l);
    }
