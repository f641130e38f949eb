use Rattle.pj_server.proofs.StateLemmas.{Stands-noted}
use Rattle.pj_server.proofs.server.Server.note.Goals as goal

pub invariant_of-self : goal.invariant_of-self
invariant_of-self g c =
    let fits = rw (← c.self.view_is) at c.requires.fits in
    rw c.add.ensures.grown (Stands-noted g.P.Blob.Kept.told g.P.Blob.Kept.size _ _ _ _ c.requires.nothing fits c.self.invariant)
