use Rattle.std.proofs.Common.{◌≡◌, ◌++◌, map, ap, ◌∙◌}
use Rattle.pj_partset.proofs.SetLemmas.{AreInOrder-append}
use Rattle.pj_partset.proofs.set.PartSet.replace.Goals as goal

pub invariant_of-self-2 : goal.invariant_of-self-2
invariant_of-self-2 g c =
    let live = c.self.inside.live in
    let fresh = map (λ s. s.fresh) c.args.swaps in
    let above = rw (← c.self.view_is) at c.requires.above in
    let made : c.append.new.self ≡ live ++ fresh =
    c.in_ok-append.ensures.done
    ∙ ap (λ parts. live ++ parts) (c.in_ok-fresh.ensures ∙ ap (map (λ s. s.fresh)) c.into_vec.ensures) in
    (rw made (AreInOrder-append live fresh c.self.invariant.0 above), c.self.invariant.1)
