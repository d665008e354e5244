use Rattle.std.proofs.Common.{◌≡◌, ◌≤◌}
use Rattle.refute_log.specs.Expected.{bound_lines}
use Rattle.refute_log.specs.Told.{AddsAll}
use Rattle.drawing_cnf.specs.Lists.{variables_behind}
use Rattle.lex_minimise.proofs.telling.tell_bounds.Given as goal

abbrev pub invariant-loop-i : goal.invariant-loop-i
invariant-loop-i g l = let k = g.L.LogSink in record {
  lines : AddsAll (k.tells l.fn.log) (k.tells l.log) (bound_lines l.bounds.criterion 1 (variables_behind l.bounds.last l.i));
  learnt : k.learnt l.log ≡ k.learnt l.fn.log;
  later : k.is_later l.fn.log l.log;
  faults : k.faults l.fn.log ≤ k.faults l.log;
}
