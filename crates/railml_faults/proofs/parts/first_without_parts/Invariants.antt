use Rattle.railml_faults.specs.Faults.{LacksItsParts}
use Rattle.plan_core.specs.Searching.{NoneBefore}
use Rattle.railml_faults.proofs.parts.first_without_parts.Given as goal

abbrev pub invariant-loop-i : goal.invariant-loop-i
invariant-loop-i l = NoneBefore (λ i row. LacksItsParts l.rows i row) l.rows l.i
