use Rattle.std.proofs.Common.{ap, ◌∙◌}
use Rattle.pj_journal.specs.History.{catalog}
use Rattle.pj_server.proofs.MoveLemmas.{read_binds, read_refuses}
use Rattle.pj_server.proofs.server.Server.read.Goals as goal

pub returns-in-Statement-clause-bound : goal.returns-in-Statement-clause-bound
returns-in-Statement-clause-bound g c =
    read_binds c.self.inside.tables _ _ c.in-Statement.statement c.bind.result
    (c.self.invariant.tables ∙ ap (λ j. catalog j.entries) c.self.view_is)
    (rw c.in-Statement.is at c.in_ok-parsed.ensures) c.bind.ensures.built c.bind.ensures.bound

pub returns-in-Statement-clause-refused : goal.returns-in-Statement-clause-refused
returns-in-Statement-clause-refused g c =
    read_refuses c.self.inside.tables _ _ c.in-Statement.statement c.bind.result
    (c.self.invariant.tables ∙ ap (λ j. catalog j.entries) c.self.view_is)
    (rw c.in-Statement.is at c.in_ok-parsed.ensures) c.bind.ensures.refused
