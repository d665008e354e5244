use Rattle.cnf_core.proofs.StepLemmas.{IsAdding}
use Rattle.unary_sum.specs.Part.{join_row, join_clauses}
use Rattle.unary_sum.proofs.joins.add_join.Given as goal

abbrev pub invariant-loop-i : goal.invariant-loop-i
invariant-loop-i l = IsAdding (join_row l.m) l.fn.f l.f (join_clauses l.m) l.i l.end
