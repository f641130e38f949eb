use Rattle.std.proofs.Common.{subst}
use Rattle.pj_journal.specs.History.{catalog}
use Rattle.pj_legal.specs.Statements.{whole}
use Rattle.pj_server.specs.Moves.{IsReadFault}
use Rattle.pj_server.proofs.MoveLemmas.{body_fits, serves_bound, serves_no_memory, serves_refusal}
use Rattle.pj_server.proofs.MoveLemmas.{below-full, Adds-nil}
use Rattle.pj_server.proofs.server.Server.first_move.Goals as goal

pub run_bound-requires-clause-fits : goal.run_bound-requires-clause-fits
run_bound-requires-clause-fits g c = λ κs within.
    body_fits c.bound_tables_fit.ensures _ c.args.body.now c.in-Ok.bound c.in-Ok.ensures.bound

pub returns-in-Ok-clause-serves : goal.returns-in-Ok-clause-serves
returns-in-Ok-clause-serves g c =
    serves_bound g.P.Blob.Kept.tells c.args.self.now c.run_bound.new.self c.args.by c.args.body.now c.in-Ok.bound
    c.run_bound.result c.in-Ok.ensures.bound c.run_bound.ensures.does

pub returns-in-Err-NoMemory-clause-serves : goal.returns-in-Err-NoMemory-clause-serves
returns-in-Err-NoMemory-clause-serves g c =
    serves_no_memory g.P.Blob.Kept.tells c.args.self.now c.args.self.now _ (Adds-nil c.args.self.now)
    (below-full c.args.self.now c.requires.below)

pub returns-in-Err-Refused-clause-serves : goal.returns-in-Err-Refused-clause-serves
returns-in-Err-Refused-clause-serves g c =
    rw c.in-Err-Refused.refusal-is
    (serves_refusal c.history_refuses_no_body.ensures g.P.Blob.Kept.tells c.args.self.now c.note.new.self
    (whole c.args.by.line c.args.by.session c.args.body.now) c.in-Err-Refused.refusal
    (subst (IsReadFault (catalog c.args.self.now.entries) c.args.body.now) c.in-Err-Refused.field-0-is
    c.in-Err-Refused.ensures.refused)
    c.note.ensures)
