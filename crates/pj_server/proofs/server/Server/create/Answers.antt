use Rattle.std.proofs.Common.{◌≡◌, ◌∷◌, [], ◌++◌, refl}
use Rattle.std.proofs.lemmas.Slice.{pushed}
use Rattle.pj_server.specs.declared.store.Store.{Store}
use Rattle.pj_server.proofs.StateLemmas.{Stands-created}
use Rattle.pj_server.proofs.server.Server.create.Goals as goal

pub invariant_of-self-2 : goal.invariant_of-self-2
invariant_of-self-2 g c =
    let store : Store g.row.P-Blob.Denot = record { parts = c.new.result; next = 1 } in
    let stores : c.push.new.self.items ≡ c.self.inside.stores.items ++ store ∷ [] =
    pushed (store ∷ []) c.reserve.ensures.items c.unwrap.ensures c.push.ensures.items in
    let unknown = rw (← c.self.view_is) at c.requires.unknown in
    rw (c.add-2.ensures.grown, c.in_ok-add.ensures.added, stores, c.in_ok-held.ensures)
    (Stands-created g.P.Blob.Kept.told g.P.Blob.Kept.size c.self.inside.journal.entries _ c.self.inside.tables
    c.self.inside.stores.items c.args.table store refl (unknown, c.requires.table) c.new.ensures.items refl
    c.self.invariant)
