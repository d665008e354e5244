use Rattle.std.proofs.Common.{◌≡◌, ◌≤◌}
use Rattle.refute_log.specs.Steps.{Continues, KnowsSome}
use Rattle.search_least.specs.CountTask.{IsOne}
use Rattle.search_least.specs.Run.{IsRunOfDrawings}
use Rattle.search_least.proofs.counting.lower.Given as goal

abbrev pub invariant-loop-count : goal.invariant-loop-count
invariant-loop-count g l = let q = g.Q.CountOracle in let t = g.Q.LogTeller in record {
  count : l.count ≡ (q.task l.fn.questions).count l.best;
  within : l.count ≤ (q.task l.fn.questions).most;
  task : q.task l.questions ≡ q.task l.fn.questions;
  ready : t.ready l.questions;
  known : KnowsSome t.knows l.questions;
  one : IsOne (q.task l.fn.questions) l.best;
  later : t.is_later l.fn.questions l.questions;
  faults : t.faults l.fn.questions ≤ t.faults l.questions;
  lines : Continues t.knows t.log t.learnt l.fn.questions l.questions (IsRunOfDrawings (q.task l.fn.questions) ((q.task l.fn.questions).count l.fn.first)
      l.count);
}

abbrev pub decreases-loop-count : goal.decreases-loop-count
decreases-loop-count g l = l.count
