use Rattle.watch_arena.proofs.RowLemmas.{IsCopied}
use Rattle.watch_arena.proofs.rows.copy_to.Given as goal

abbrev pub invariant-loop-i : goal.invariant-loop-i
invariant-loop-i l = IsCopied l.fn.entries l.entries l.row.from l.from l.i
