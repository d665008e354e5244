use Rattle.cnf_core.proofs.StepLemmas.{IsAdding}
use Rattle.unary_sum.specs.Part.{join_cell, join_row}
use Rattle.unary_sum.proofs.joins.add_row.Given as goal

abbrev pub invariant-loop-j : goal.invariant-loop-j
invariant-loop-j l = IsAdding (join_cell l.m l.i) l.fn.f l.f (join_row l.m l.i) l.j l.end
