use Rattle.std.proofs.Common.{◌≡◌, ◌++◌, [], ◌≤◌}
use Rattle.std.specs.Prelude.{All}
use Rattle.search_least.specs.Task.{IsLawful}
use Rattle.refute_log.specs.Steps.{Continues}
use Rattle.search_least.specs.Asked.{IsWithinCap}
use Rattle.search_least.specs.State.{AreBefore, Counted, SearchState}
use Rattle.search_least.proofs.searching.improve.Given as goal

abbrev pub invariant-loop-i : goal.invariant-loop-i
invariant-loop-i g l = let o = g.O.Oracle in let t = g.O.LogTeller in record {
  task : o.task l.oracle ≡ o.task l.fn.oracle;
  counted : Counted (o.task l.oracle) l.wanted l.i (o.caps l.oracle) (o.vars l.oracle);
  ready : t.ready l.oracle;
  lawful : IsLawful (o.task l.oracle) l.best;
  held : All (IsWithinCap (o.caps l.oracle)) l.held.items;
  before : AreBefore l.wanted l.i l.held.items;
  later : t.is_later l.fn.oracle l.oracle;
  faults : t.faults l.fn.oracle ≤ t.faults l.oracle;
  lines : Continues t.knows t.log t.learnt l.fn.oracle l.oracle (λ lines more. SearchState (o.task l.fn.oracle) l.wanted 0 [] l.fn.first (o.caps l.fn.oracle)
      lines →
      SearchState (o.task l.fn.oracle) l.wanted l.i l.held.items l.best (o.caps l.oracle) (lines ++ more));
}
