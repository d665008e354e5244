use Rattle.std.proofs.Common.{ℕ, ◌<◌}
use Rattle.std.specs.Str.{IsUtf8}
use Rattle.plan_core.specs.Graph.{node}
use Rattle.plan_text.proofs.laws.names.Given as goal

abbrev pub invariant-loop-n : goal.invariant-loop-n
invariant-loop-n l = (k : ℕ) → k < l.n → IsUtf8 (node l.g k).name
