use Rattle.std.proofs.Common.{◌≡◌, ◌+◌, ◌*◌, ◌-◌, false, length}
use Rattle.cnf_core.specs.Clause.{AreThere}
use Rattle.cdcl_core.specs.Search.{IsSearch, IsSameStore, IsAsking}
use Rattle.cdcl_core.proofs.search.Search.descend.Given as goal

abbrev pub invariant-loop-clash : goal.invariant-loop-clash
invariant-loop-clash l = record {
  search : IsSearch l.self;
  unrefuted : l.self.refuted ≡ false;
  there : AreThere l.self.trail.vars l.query;
  asking : IsAsking l.query l.self;
  store : IsSameStore l.initial.self l.self;
}

abbrev pub decreases-loop-clash : goal.decreases-loop-clash
decreases-loop-clash l = 2 * l.self.trail.vars + 2 - length l.self.trail.lits
