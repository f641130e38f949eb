use Rattle.std.proofs.Common.{◌∙◌, refl, sym, ap, subst, arith}
use Rattle.pj_expr.specs.Tables.{kinds_of, TableFits}
use Rattle.pj_journal.specs.Parts.{inserted}
use Rattle.pj_build.specs.Living.{AgreesLiving}
use Rattle.pj_server.specs.State.{Stands}
use Rattle.pj_server.proofs.StateLemmas.{Stands-put}
use Rattle.pj_server.proofs.TableLemmas.{table_fits, table_is, store_within, next_small, Stands-committed}
use Rattle.pj_server.proofs.server.Server.commit.Goals as goal

pub build-requires-clause-table : goal.build-requires-clause-table
build-requires-clause-table g c = λ κs within.
    let h = c.self.inside.journal.entries in
    let fits = rw (← c.self.view_is) at c.requires.fits in
    let same = table_is _ _ h _ _ c.args.table fits.0.0 fits.0.1 c.self.invariant c.tables.result.now
    c.index-tables-number.result c.tables.ensures.tables c.index-tables-number.is in
    subst TableFits (sym same) (table_fits h c.args.table fits.0.0 c.self.invariant.regular fits.0.1)

pub build-requires-clause-kinds : goal.build-requires-clause-kinds
build-requires-clause-kinds g c = λ κs within.
    let h = c.self.inside.journal.entries in
    let fits = rw (← c.self.view_is) at c.requires.fits in
    let same = table_is _ _ h _ _ c.args.table fits.0.0 fits.0.1 c.self.invariant c.tables.result.now
    c.index-tables-number.result c.tables.ensures.tables c.index-tables-number.is in
    fits.0.2 ∙ ap kinds_of (sym same)

pub index-store-requires : goal.index-store-requires
index-store-requires g c =
    let fits = rw (← c.self.view_is) at c.requires.fits in
    omega (
      arith,
      c.self.inside.stores.ok.0,
      store_within _ _ c.self.inside.journal.entries _ _ c.args.table fits.0.0 fits.0.1 c.self.invariant,
    )

pub inserted_part-requires : goal.inserted_part-requires
inserted_part-requires g c =
    let fresh = c.in_ok-draft.ensures.agrees (inserted 0 0 c.args.rows.rows) refl refl in (fresh.own, fresh.base)

pub append-requires-clause-there : goal.append-requires-clause-there
append-requires-clause-there g c =
    let fits = rw (← c.self.view_is) at c.requires.fits in
    omega (
      arith,
      c.self.inside.stores.ok.0,
      store_within _ _ c.self.inside.journal.entries _ _ c.args.table fits.0.0 fits.0.1 c.self.invariant,
    )

pub append-requires-clause-number : goal.append-requires-clause-number
append-requires-clause-number g c = λ d.
    let fits = rw (← c.self.view_is) at c.requires.fits in
    next_small _ _ c.self.inside.journal.entries _ _ c.args.table fits.0.0 fits.0.1 c.self.invariant _
    c.entries-entries.ensures.few c.entries-entries.ensures.small d

pub invariant_of-self : goal.invariant_of-self
invariant_of-self g c =
    let h = c.self.inside.journal.entries in
    let fits = rw (← c.self.view_is) at c.requires.fits in
    let there = store_within _ _ h _ _ c.args.table fits.0.0 fits.0.1 c.self.invariant in
    let d = c.index-store.result.now in
    let same = c.in_err-append.ensures.same d in
    subst (Stands g.P.Blob.Kept.told g.P.Blob.Kept.size h c.self.inside.tables) (sym same.1)
    (Stands-put g.P.Blob.Kept.told g.P.Blob.Kept.size h c.self.inside.tables c.self.inside.stores.items
    c.args.table d _ there same.0 c.self.invariant)

pub invariant_of-self-2 : goal.invariant_of-self-2
invariant_of-self-2 g c =
    let h = c.self.inside.journal.entries in
    let told = g.P.Blob.Kept.told in
    let size = g.P.Blob.Kept.size in
    let fits = rw (← c.self.view_is) at c.requires.fits in
    let d = c.index-store.result.now in
    let done = c.in_ok-append.ensures.done d in
    let same = table_is _ _ h _ _ c.args.table fits.0.0 fits.0.1 c.self.invariant c.tables.result.now
    c.index-tables-number.result c.tables.ensures.tables c.index-tables-number.is in
    let living = subst (λ x. AgreesLiving told size x c.args.rows.rows c.in_ok-draft.draft) same
    c.in_ok-draft.ensures.agrees in
    subst (Stands told size c.add.new.self.entries c.self.inside.tables) (sym done.1)
    (rw c.add.ensures.grown
    (Stands-committed told size h c.self.inside.tables c.self.inside.stores.items c.args.table fits.0.0 fits.0.1
    c.self.invariant _ c.args.rows c.in_ok-draft.draft c.in_ok-part.part c.len.result d _ refl fits.0.2 fits.1
    living c.index-store.ensures (c.len.ensures ∙ d.parts.ok.0) c.in_ok-part.ensures done.0))
