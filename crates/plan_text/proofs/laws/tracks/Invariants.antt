use Rattle.std.proofs.Common.{ℕ, ◌<◌}
use Rattle.std.specs.Str.{IsUtf8}
use Rattle.plan_core.specs.Graph.{edge}
use Rattle.plan_text.proofs.laws.tracks.Given as goal

abbrev pub invariant-loop-e : goal.invariant-loop-e
invariant-loop-e l = (k : ℕ) → k < l.e → IsUtf8 (edge l.g k).track
