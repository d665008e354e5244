use Rattle.railml_faults.specs.declared.attributes.Attribute.{Attribute}
use Rattle.railml_faults.specs.Faults.{Lacks}
use Rattle.plan_core.specs.Searching.{NoneBefore}
use Rattle.railml_faults.proofs.missing.first_missing.Given as goal

abbrev pub invariant-loop-i : goal.invariant-loop-i
invariant-loop-i l = NoneBefore (λ _ row. (a : Attribute) × Lacks l.rows row a) l.rows l.i
