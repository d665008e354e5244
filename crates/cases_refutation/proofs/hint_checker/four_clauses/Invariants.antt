use Rattle.std.proofs.Common.{◌≡◌}
use Rattle.cases_refutation.proofs.hint_checker.four_clauses.Given as goal

abbrev pub invariant-loop-x : goal.invariant-loop-x
invariant-loop-x l = l.f.vars ≡ 2
