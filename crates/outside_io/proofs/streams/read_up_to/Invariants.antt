use Rattle.std.proofs.Common.{◌≡◌, ℕ, ◌+◌, List, ◌++◌, length}
use Rattle.std.specs.Io.KnownBytes.{Consumes}
use Rattle.outside_io.proofs.streams.read_up_to.Given as goal

-- what came so far stands at the end of the list, and as much of the limit is used
abbrev pub invariant-loop-left : goal.invariant-loop-left
invariant-loop-left g l = record {
  came : List ℕ;
  used : length came + l.left ≡ l.limit;
  added : l.into.items ≡ l.fn.into.items ++ came;
  taken : Consumes (g.S.Read.remaining l.fn.source) (g.S.Read.remaining l.source) came;
}

abbrev pub decreases-loop-left : goal.decreases-loop-left
decreases-loop-left g l = l.left
