use Rattle.std.proofs.Common.{rules, length, arith, ◌+◌}
use Rattle.cnf_core.proofs.StepLemmas.{adds_refused, adds_after, adds_longer}
use Rattle.cnf_core.specs.Formula.{each}
use Rattle.cnf_laws.specs.Expected.{drawing_vars}
use Rattle.drawing_cnf.specs.Bounds.{column_gives, some_column_clause}
use Rattle.drawing_cnf.proofs.width_bound.add_width_at.Goals as goal

pub returns-in_err-add_columns_give : goal.returns-in_err-add_columns_give
returns-in_err-add_columns_give c =
    let a = c.args in
    let x = drawing_vars a.g.now a.grid.now in
    let n = length a.g.now.nodes in
    let long = n + 3 in
    let gives = each (column_gives x a.b a.k) 0 n in
    adds_refused c.add_columns_give.result c.from_residual.result _ _ (gives) (some_column_clause x n a.b a.k) long c.from_residual.ensures.0
    (λ k. search (rules, k)) (adds_longer c.add_columns_give.result _ _ gives 2 long (omega arith) c.add_columns_give.ensures)

pub returns : goal.returns
returns c =
    let a = c.args in
    let x = drawing_vars a.g.now a.grid.now in
    let n = length a.g.now.nodes in
    let long = n + 3 in
    let gives = each (column_gives x a.b a.k) 0 n in
    adds_after _ c.add_some_column.result _ _ _ (gives) (some_column_clause x n a.b a.k) long
    (adds_longer _ _ _ gives 2 long (omega arith) c.in_ok-add_columns_give.ensures) (c.add_some_column.ensures)
