use Rattle.std.proofs.Common.{ℕ, List}
use Rattle.railml_faults.specs.Faults.{IsNotReferredBack}
use Rattle.plan_core.specs.Searching.{NoneBefore}
use Rattle.railml_faults.proofs.references.first_not_mutual.Given as goal

abbrev pub invariant-loop-i : goal.invariant-loop-i
invariant-loop-i l = NoneBefore (λ _ row. (name : List ℕ) × IsNotReferredBack l.rows row name) l.rows l.i
