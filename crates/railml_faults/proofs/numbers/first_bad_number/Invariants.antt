use Rattle.railml_faults.specs.declared.attributes.Attribute.{Attribute}
use Rattle.railml_faults.specs.Faults.{HasNoNumber}
use Rattle.plan_core.specs.Searching.{NoneBefore}
use Rattle.railml_faults.proofs.numbers.first_bad_number.Given as goal

abbrev pub invariant-loop-i : goal.invariant-loop-i
invariant-loop-i l = NoneBefore (λ _ row. (a : Attribute) × HasNoNumber row a) l.rows l.i
