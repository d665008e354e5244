use Rattle.std.proofs.Common.{ℕ, List}
use Rattle.std.specs.Io.KnownBytes.{Keeps}
use Rattle.outside_io.proofs.streams.read_once.Given as goal

-- what was interrupted took nothing
abbrev pub invariant-loop : goal.invariant-loop
invariant-loop g l = Keeps (g.S.Read.remaining l.fn.source) (g.S.Read.remaining l.source)
