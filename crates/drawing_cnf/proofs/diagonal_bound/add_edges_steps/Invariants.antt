use Rattle.std.proofs.Common.{drop}
use Rattle.cnf_laws.specs.Expected.{drawing_vars}
use Rattle.drawing_cnf.proofs.DiagonalCode.{IsSumming}
use Rattle.drawing_cnf.proofs.diagonal_bound.add_edges_steps.Given as goal

abbrev pub invariant-loop-e : goal.invariant-loop-e
invariant-loop-e l = IsSumming (drawing_vars l.g l.grid) l.grid.width l.most l.fn.f l.f l.fn.sums.items l.sums.items l.edges (drop l.e-index l.edges)
