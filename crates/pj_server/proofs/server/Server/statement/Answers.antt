use Rattle.pj_server.proofs.MoveLemmas.{Serves-after}
use Rattle.pj_server.proofs.server.Server.statement.Goals as goal

pub returns-in-Ok-clause-serves : goal.returns-in-Ok-clause-serves
returns-in-Ok-clause-serves g c =
    Serves-after g.P.Blob.Kept.tells c.args.self.now c.reserve.new.self c.first_move.new.self _ c.first_move.result
    c.in-Ok.ensures.same c.first_move.ensures.serves
