use Rattle.std.proofs.Common.{◌≡◌, ◌++◌, List, take, map}
use Rattle.cnf_core.specs.Lit.{Literal, negate, has}
use Rattle.cnf_core.specs.Propagation.{Includes}
use Rattle.watch_arena.specs.Arena.{Attached, AreWatched}
use Rattle.log_trim.specs.Found.{HaveReasons, HaveNoReason}
use Rattle.log_trim.proofs.assumptions.deny.Given as goal

abbrev pub invariant-loop-l : goal.invariant-loop-l
invariant-loop-l l = record {
  vars : l.trail.vars ≡ l.fn.trail.vars;
  so_far : l.trail.lits ≡ l.fn.trail.lits ++ map negate (take l.l-index l.lits);
  cuts : l.trail.cuts ≡ l.fn.trail.cuts;
  front : l.trail.front ≡ l.fn.trail.front;
  reasons : (a : Attached) (given : List Literal) → Includes (has given) (has (map negate l.lits)) → HaveReasons a l.fn.trail given →
      HaveReasons a l.trail given;
  bare : (ls : List Literal) → HaveNoReason l.fn.trail ls → HaveNoReason l.trail (ls ++ map negate (take l.l-index l.lits));
  watched : (a : Attached) → AreWatched a l.fn.trail → AreWatched a l.trail;
}
