use Rattle.pj_legal.proofs.InsertBodies.{insert_reads}
use Rattle.pj_legal.proofs.bodies.read_statement.Goals as goal

pub returns-in-Some : goal.returns-in-Some
returns-in-Some c =
    insert_reads c.args.body.now c.in-Some.insert (rw c.in-Some.is at c.in_ok-insert.ensures)
