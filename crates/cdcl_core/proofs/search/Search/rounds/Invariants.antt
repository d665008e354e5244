use Rattle.std.proofs.Common.{◌≡◌, ◌≤◌, false}
use Rattle.std.specs.Prelude.{All}
use Rattle.cnf_core.specs.Clause.{AreThere, IsNamed}
use Rattle.cdcl_core.specs.Search.{IsSearch, IsAsking, clauses}
use Rattle.cdcl_core.specs.Rounds.{HasGone}
use Rattle.cdcl_core.proofs.search.Search.rounds.Given as goal

abbrev pub invariant-loop-told : goal.invariant-loop-told
invariant-loop-told g l = record {
  search : IsSearch l.self;
  unrefuted : l.self.refuted ≡ false;
  there : AreThere l.self.trail.vars l.query;
  named : All (λ k. IsNamed (clauses l.self) k.var) l.query;
  asking : IsAsking l.query l.self;
  gone : HasGone (g.L.LogSink.tells l.initial.log) (g.L.LogSink.tells l.log) (g.L.LogSink.learnt l.initial.log) (g.L.LogSink.learnt l.log) l.query
      l.initial.self l.self l.told;
  faults : g.L.LogSink.faults l.initial.log ≤ g.L.LogSink.faults l.log;
  later : g.L.LogSink.is_later l.initial.log l.log;
}
