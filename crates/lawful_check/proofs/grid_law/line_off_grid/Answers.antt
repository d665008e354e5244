use Rattle.std.specs.Prelude.{◌<◌, List, length, All}
use Rattle.std.proofs.Common.{arith, subst}
use Rattle.plan_core.specs.declared.point.Point.{Point}
use Rattle.plan_core.specs.Laws.{IsOnGrid}
use Rattle.plan_core.specs.Laws.{LineIsOnGrid}
use Rattle.lawful_check.proofs.HoldingLemmas.{to_on, to_all}
use Rattle.lawful_check.proofs.grid_law.line_off_grid.Goals as goal

pub loop-e-preserved : goal.loop-e-preserved
loop-e-preserved c = to_on (λ e. e < length c.args.d.now.lines) (LineIsOnGrid c.args.grid.now c.args.d.now) c.loop-e.e c.loop-e.invariant
    (on_grid (c.is_line_on_grid.ensures.0 c.if-not-is_line_on_grid.false))
  where
    on_grid : All (IsOnGrid c.args.grid.now) c.line.result.now → LineIsOnGrid c.args.grid.now c.args.d.now c.loop-e.e
    on_grid all = subst (λ (l : List Point). All (IsOnGrid c.args.grid.now) l) c.line.ensures all

pub returns-clause-first : goal.returns-clause-first
returns-clause-first c = to_all (LineIsOnGrid c.args.grid.now c.args.d.now) (length c.args.d.now.lines) c.loop-e.e
    (omega (arith, c.loop-e-test.false, c.edges-e-end.ensures.value)) c.loop-e.invariant
