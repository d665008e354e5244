use Rattle.std.proofs.Common.{◌≡◌, ℕ, length, take, drop}
use Rattle.std.specs.Io.KnownBytes.{Appends}
use Rattle.outside_io.proofs.streams.write_whole.Given as goal

-- the first of the bytes are written, and the rest are left
abbrev pub invariant-loop-rest : goal.invariant-loop-rest
invariant-loop-rest g l = record {
  done : ℕ;
  left : l.rest ≡ drop done l.bytes;
  written : Appends (g.W.Write.contents l.fn.out) (g.W.Write.contents l.out) (take done l.bytes);
}

abbrev pub decreases-loop-rest : goal.decreases-loop-rest
decreases-loop-rest g l = length l.rest
