use Rattle.log_check.proofs.FittingLemmas.{no_line_next, some_line}
use Rattle.log_check.proofs.fitting.has_clause_line.Goals as goal

pub returns-then-is_clause_line : goal.returns-then-is_clause_line
returns-then-is_clause_line c = some_line c.args.lines.now c.loop-i.i c.get.result.now c.get.ensures.value (c.if-is_clause_line.ensures)

pub loop-i-preserved : goal.loop-i-preserved
loop-i-preserved c = no_line_next c.args.lines.now c.loop-i.i c.get.result.now c.get.ensures.value c.loop-i.invariant (c.if-is_clause_line.ensures)
