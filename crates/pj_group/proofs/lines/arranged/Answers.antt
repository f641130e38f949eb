use Rattle.std.proofs.Common.{◌≡◌, [], List, sym, ◌∙◌, subst}
use Rattle.pj_expr.specs.declared.query.OrderKey.{OrderKey}
use Rattle.pj_group.specs.Indexes.{is_before}
use Rattle.pj_group.specs.Lines.{keys_in_columns, AreFirstLines}
use Rattle.pj_group.proofs.ArrangedLemmas.{AreFirstLines-cut}
use Rattle.pj_group.proofs.HeldLemmas.{no_elements}
use Rattle.pj_group.proofs.lines.arranged.Goals as goal

pub returns-then-is_empty : goal.returns-then-is_empty
returns-then-is_empty c =
    let none : c.args.keys.now ≡ [] =
    no_elements c.args.keys.now (sym c.is_empty.ensures ∙ c.if-is_empty.true) in
    subst
    (λ (keys : List OrderKey). AreFirstLines (is_before (keys_in_columns keys c.args.columns.now)) c.args.limit
    c.args.lines c.cut_lines.result)
    (sym none) (AreFirstLines-cut c.args.limit c.args.lines c.cut_lines.result c.cut_lines.ensures)
