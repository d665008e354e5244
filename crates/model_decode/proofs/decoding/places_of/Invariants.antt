use Rattle.std.specs.Prelude.{◌≡◌, take}
use Rattle.plan_core.specs.Drawing.{Drawing}
use Rattle.cnf_core.specs.Truths.{assignment}
use Rattle.model_decode.specs.Decoded.{IsReadAs}
use Rattle.model_decode.proofs.decoding.places_of.Given as goal

abbrev pub invariant-loop-n : goal.invariant-loop-n
invariant-loop-n l = (d : Drawing) → IsReadAs l.g l.grid (assignment l.m) d → l.places.items ≡ take l.n d.places
