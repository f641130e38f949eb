use Rattle.std.proofs.Common.{◌≡◌, ◌∙◌, Err, Some, map, refl, sym, ap, subst, arith}
use Rattle.std.specs.Prelude.{Contains, slice_get}
use Rattle.std.proofs.lemmas.Option.{slice_get_within}
use Rattle.pj_expr.specs.Fits.{FitsQuery}
use Rattle.pj_expr.specs.Tables.{kinds_of, TableFits}
use Rattle.pj_exec.specs.Scans.{IsUnmasked}
use Rattle.std.specs.List.{AllByRecursion}
use Rattle.pj_journal.specs.Log.{Log}
use Rattle.pj_server.specs.Moves.{request_of, Does}
use Rattle.pj_bind.specs.declared.types.Bound.TheVariants.{Select}
use Rattle.pj_server.proofs.MoveLemmas.{does_select, select_refused}
use Rattle.pj_server.proofs.TableLemmas.{table_fits, table_is, table_within, store_within, parts_live, looked_table}
use Rattle.pj_server.proofs.TableLemmas.{all_unmasked, all_agree_with, read_rightly, untold, name-there, kinds_rightly, parts-noted}
use Rattle.pj_legal.specs.Forms.{name_of, entry_of}
use Rattle.pj_server.specs.Refusals.{name_of as part_name}
use Rattle.pj_journal.specs.declared.entry.What.TheVariants.{Looked}
use Rattle.pj_server.specs.PortFaults.{counted, IsBlamed}
use Rattle.pj_server.proofs.PortLemmas.{rows_blamed, select_blamed}
use Rattle.pj_server.proofs.server.Server.select.Goals as goal
use Rattle.pj_server.proofs.server.Server.select.Goals.{in-Ok, in-Err}

pub index-requires : goal.index-requires
index-requires g c =
    let h = c.self.inside.journal.entries in
    let grown = ap (λ (l : Log). l.entries) c.self.view_is ∙ c.note.ensures.grown in
    let fits = c.requires.fits in
    let at = looked_table c.args.self.now.entries h (request_of c.args.by) c.args.table fits.0 grown fits.1 in
    omega (arith, c.self.inside.stores.ok.0, store_within _ _ h _ _ c.args.table fits.0 at c.self.invariant)

pub bounds-tables-number : goal.bounds-tables-number
bounds-tables-number g c =
    let h = c.self.inside.journal.entries in
    let grown = ap (λ (l : Log). l.entries) c.self.view_is ∙ c.note.ensures.grown in
    let fits = c.requires.fits in
    let at = looked_table c.args.self.now.entries h (request_of c.args.by) c.args.table fits.0 grown fits.1 in
    rw c.tables.ensures.tables (table_within _ _ h _ _ c.args.table fits.0 at c.self.invariant)

pub run_select-requires-clause-table : goal.run_select-requires-clause-table
run_select-requires-clause-table g c = λ κs within.
    let h = c.self.inside.journal.entries in
    let grown = ap (λ (l : Log). l.entries) c.self.view_is ∙ c.note.ensures.grown in
    let fits = c.requires.fits in
    let at = looked_table c.args.self.now.entries h (request_of c.args.by) c.args.table fits.0 grown fits.1 in
    let same = table_is _ _ h _ _ c.args.table fits.0 at c.self.invariant c.tables.result.now
    c.index-tables-number.result c.tables.ensures.tables c.index-tables-number.is in
    subst TableFits (sym same) (table_fits h c.args.table fits.0 c.self.invariant.regular at)

pub run_select-requires-clause-fits : goal.run_select-requires-clause-fits
run_select-requires-clause-fits g c = λ κs within.
    let h = c.self.inside.journal.entries in
    let grown = ap (λ (l : Log). l.entries) c.self.view_is ∙ c.note.ensures.grown in
    let fits = c.requires.fits in
    let at = looked_table c.args.self.now.entries h (request_of c.args.by) c.args.table fits.0 grown fits.1 in
    let same = table_is _ _ h _ _ c.args.table fits.0 at c.self.invariant c.tables.result.now
    c.index-tables-number.result c.tables.ensures.tables c.index-tables-number.is in
    subst (λ x. FitsQuery (kinds_of x) c.args.query.now) (sym same) fits.2

pub run_select-requires-clause-parts : goal.run_select-requires-clause-parts
run_select-requires-clause-parts g c = λ κs within.
    let h = c.self.inside.journal.entries in
    let told = g.P.Blob.Kept.told in
    let size = g.P.Blob.Kept.size in
    let grown = ap (λ (l : Log). l.entries) c.self.view_is ∙ c.note.ensures.grown in
    let fits = c.requires.fits in
    let at = looked_table c.args.self.now.entries h (request_of c.args.by) c.args.table fits.0 grown fits.1 in
    let same = table_is _ _ h _ _ c.args.table fits.0 at c.self.invariant c.tables.result.now
    c.index-tables-number.result c.tables.ensures.tables c.index-tables-number.is in
    let live = parts_live told size h _ _ c.args.table fits.0 at c.self.invariant c.index.result.now
    c.index.ensures in
    subst (AllByRecursion (IsUnmasked size c.index-tables-number.result)) (sym c.as_slice-parts.ensures.value)
    (subst (λ x. AllByRecursion (IsUnmasked size x) c.index.result.now.parts.items) (sym same)
    (all_unmasked told size fits.0 c.index.result.now.parts.items _ live))

pub refusal_for-requires : goal.refusal_for-requires
refusal_for-requires g c = λ part column granule at is.
    let gave = c.in-Err.ensures.damaged part column granule at (ap Err is) in
    slice_get_within c.as_slice-parts.result.now part gave.part gave.part_is

pub returns-clause-does : goal.returns-clause-does
returns-clause-does g c =
    let a = c.args.self.now in
    let b = c.note.new.self in
    let t = c.args.table in
    let q = c.args.query.now in
    let request = request_of c.args.by in
    let told = g.P.Blob.Kept.told in
    let size = g.P.Blob.Kept.size in
    let tells = g.P.Blob.Kept.tells in
    let h = c.self.inside.journal.entries in
    let grown = ap (λ (l : Log). l.entries) c.self.view_is ∙ c.note.ensures.grown in
    let fits = c.requires.fits in
    let at = looked_table a.entries h request t fits.0 grown fits.1 in
    let same = table_is _ _ h _ _ t fits.0 at c.self.invariant c.tables.result.now
    c.index-tables-number.result c.tables.ensures.tables c.index-tables-number.is in
    let live = parts_live told size h _ _ t fits.0 at c.self.invariant c.index.result.now c.index.ensures in
    let agree = all_agree_with told size fits.0 c.index-tables-number.result c.index.result.now.parts.items
    c.as_slice-parts.result.now _ same c.as_slice-parts.ensures.value live in
    elim c.match-run_select.branch [
      | in-Ok w ↦ subst (λ r. Does tells a b request (Select t q) r) (sym w.result-is)
          (does_select tells a b request t q w.in-Ok.rows
          (λ is. read_rightly c.parts_hold_the_rows.ensures a.entries h request t fits.0
          c.index-tables-number.result q w.in-Ok.rows grown fits.1 same
          (w.in-Ok.ensures.answers is _ agree))
          (kinds_rightly a.entries t fits.0 c.index-tables-number.result q w.in-Ok.rows fits.1 same
          w.in-Ok.ensures.kinds)
          c.note.ensures)
      | in-Err w ↦ subst (λ r. Does tells a b request (Select t q) r) (sym w.result-is)
          (select_refused tells a b request t q c.as_slice-parts.result.now c.note.ensures w.in-Err.fault
          w.refusal_for.result w.refusal_for.ensures
          (λ index part at_index. subst (λ rs. Contains (map name_of rs) (part_name part))
          (parts-noted a.entries h (entry_of request (Looked t)) t grown tt)
          (name-there told size fits.0 c.index.result.now.parts.items _ live index part
          (subst (λ ps. slice_get ps index ≡ Some part) c.as_slice-parts.ensures.value at_index)))
          (λ part column granule place is. untold tells
          (λ yes. w.in-Err.ensures.undamaged yes _ agree part column granule place (ap Err is))))
    ]

pub returns-clause-blamed : goal.returns-clause-blamed
returns-clause-blamed g c =
    let was = counted (g.P.Port.faults c.args.port.now) (g.P.Port.reads c.args.port.now) in
    let now = counted (g.P.Port.faults c.run_select.new.port) (g.P.Port.reads c.run_select.new.port) in
    elim c.match-run_select.branch [
      | in-Ok w ↦ subst (λ r. IsBlamed r was now) (sym w.result-is)
          (rows_blamed w.in-Ok.rows w.in-Ok.rows _ was now refl w.in-Ok.ensures.faults
          w.in-Ok.ensures.reads.at_most.0)
      | in-Err w ↦ subst (λ r. IsBlamed r was now) (sym w.result-is)
          (select_blamed c.as_slice-parts.result.now w.in-Err.fault w.refusal_for.result _ was now refl
          w.refusal_for.ensures w.in-Err.ensures.faults w.in-Err.ensures.reads.at_most.0
          (λ part column granule at is. (w.in-Err.ensures.damaged part column granule at is).gave.rose))
    ]
