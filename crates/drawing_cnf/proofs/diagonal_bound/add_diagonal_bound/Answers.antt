use Rattle.std.proofs.Common.{rules, Ok}
use Rattle.cnf_laws.specs.Expected.{drawing_vars}
use Rattle.drawing_cnf.proofs.BoundCode.{block_of_vars}
use Rattle.drawing_cnf.proofs.DiagonalCode.{diagonal_after, diagonal_refused}
use Rattle.drawing_cnf.proofs.diagonal_bound.add_diagonal_bound.Goals as goal

pub returns-in_err-new_vars-clause-adds : goal.returns-in_err-new_vars-clause-adds
returns-in_err-new_vars-clause-adds c =
    let a = c.args in
    diagonal_refused c.new_vars.result c.from_residual.result a.f.now c.new_vars.new.self (drawing_vars a.g.now a.grid.now) a.grid.now a.edges.now a.cap
    c.from_residual.ensures.0 (λ k. search (rules, k))
    (block_of_vars c.new_vars.result a.f.now c.new_vars.new.self a.cap 3 c.new_vars.ensures.ok c.new_vars.ensures.room.0 c.new_vars.ensures.err)

pub returns-clause-adds : goal.returns-clause-adds
returns-clause-adds c =
    let a = c.args in
    diagonal_after c.in_ok-new_vars.field-0 c.add_diagonal_sums.result a.f.now c.new_vars.new.self c.add_diagonal_sums.new.f (drawing_vars a.g.now a.grid.now)
    a.grid.now a.edges.now c.vars-last.result a.cap c.vars-last.ensures.value
    (block_of_vars (Ok c.in_ok-new_vars.field-0) a.f.now c.new_vars.new.self a.cap 3 c.in_ok-new_vars.ensures.ok (λ k. cc) tt)
    c.add_diagonal_sums.ensures.adds
