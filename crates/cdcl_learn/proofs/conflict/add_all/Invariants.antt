use Rattle.std.proofs.Common.{◌≡◌, drop}
use Rattle.cdcl_learn.specs.Sight.{sight, clause_in}
use Rattle.cdcl_learn.specs.Cut.{cut_with_all}
use Rattle.cdcl_learn.proofs.conflict.add_all.Given as goal

abbrev pub invariant-loop-i : goal.invariant-loop-i
invariant-loop-i l = record {
  vars : l.work.vars ≡ l.trail.vars;
  rest : cut_with_all (sight l.arena l.trail) l.work (drop l.i (clause_in (sight l.arena l.trail) l.c.0)) ≡ cut_with_all (sight l.arena l.trail) l.fn.work
      (clause_in (sight l.arena l.trail) l.c.0);
}
