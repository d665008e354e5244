use Rattle.std.specs.Prelude.{◌≡◌, take}
use Rattle.plan_core.specs.Drawing.{Drawing}
use Rattle.cnf_core.specs.Truths.{assignment}
use Rattle.model_decode.specs.Decoded.{IsReadAs}
use Rattle.model_decode.proofs.decoding.lines_of.Given as goal

abbrev pub invariant-loop-k : goal.invariant-loop-k
invariant-loop-k l = (d : Drawing) → IsReadAs l.g l.grid (assignment l.m) d → l.lines.items ≡ take l.k d.lines
