use Rattle.std.proofs.Common.{IfErr, sym, subst}
use Rattle.std.proofs.lemmas.Result.{err_from_is_err_and}
use Rattle.pj_grammar.specs.declared.types.Statement.{Statement}
use Rattle.pj_bind.specs.Faults.{IsBuiltFault}
use Rattle.pj_bind.proofs.binding.bind_built.Goals as goal

pub returns-in-Insert-clause-refused : goal.returns-in-Insert-clause-refused
returns-in-Insert-clause-refused c =
    subst (λ (s : Statement). IfErr c.insert.result (IsBuiltFault c.args.tables.now s)) (sym c.in-Insert.is)
    c.insert.ensures.refused

pub returns-in_err-check_create-in-Create-clause-refused :
    goal.returns-in_err-check_create-in-Create-clause-refused
returns-in_err-check_create-in-Create-clause-refused c =
    let p = err_from_is_err_and c.from_residual.result c.from_residual.ensures.1 in
    let columns = rw c.as_slice-columns.ensures at c.in_err-check_create-in-Create.ensures.refused in
    rw (p.1, p.2, c.in-Create.is) (rw c.as_slice-key.ensures at columns)
