use Rattle.std.proofs.Common.{◌≡◌, ◌≤◌, length}
use Rattle.refute_log.specs.Steps.{Continues}
use Rattle.search_why.specs.Narrowed.{IsNarrowed}
use Rattle.refute_log.proofs.StepLemmas.{AnyLines}
use Rattle.search_why.proofs.narrowing.narrow.Given as goal

abbrev pub invariant-loop-law : goal.invariant-loop-law
invariant-loop-law g l = let o = g.O.LawOracle in let t = g.O.LogTeller in record {
  task : o.task l.oracle ≡ o.task l.fn.oracle;
  ready : t.ready l.oracle;
  narrowed : IsNarrowed (o.task l.fn.oracle) l.progress.kept.items l.progress.left.items l.progress.without.items;
  later : t.is_later l.fn.oracle l.oracle;
  faults : t.faults l.fn.oracle ≤ t.faults l.oracle;
  lines : Continues t.knows t.log t.learnt l.fn.oracle l.oracle AnyLines;
}

abbrev pub decreases-loop-law : goal.decreases-loop-law
decreases-loop-law g l = length l.progress.left.items
