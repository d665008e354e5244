use Rattle.std.proofs.Common.{◌≡◌, ◌≤◌, ◌-◌, take, drop, map}
use Rattle.refute_log.specs.declared.line.LogLine.TheVariants.{Formula}
use Rattle.cdcl_core.specs.Belongs.{Belongs}
use Rattle.refute_log.specs.Steps.{GoesOn}
use Rattle.lex_minimise.specs.Told.{HasTaken}
use Rattle.lex_minimise.proofs.telling.tell_clauses.Given as goal

abbrev pub invariant-loop-number : goal.invariant-loop-number
invariant-loop-number g l = let k = g.L.LogSink in record {
  from : l.from ≤ l.number;
  taken : HasTaken l.fn.solver l.solver (take (l.number - l.from) (drop l.from l.formula.clauses));
  lines : GoesOn (λ ls. Belongs ls l.fn.solver) (λ ls. Belongs ls l.solver) (k.tells l.fn.log) (k.tells l.log) (k.learnt l.fn.log) (k.learnt l.log)
      (λ lines more. more ≡ map Formula (take (l.number - l.from) (drop l.from l.formula.clauses)));
  later : k.is_later l.fn.log l.log;
  faults : k.faults l.fn.log ≤ k.faults l.log;
}
