use Rattle.railml_faults.specs.Faults.{HasBadId}
use Rattle.plan_core.specs.Searching.{NoneBefore}
use Rattle.railml_faults.proofs.bad_ids.first_bad_id.Given as goal

abbrev pub invariant-loop-i : goal.invariant-loop-i
invariant-loop-i l = NoneBefore (λ _ row. HasBadId row) l.rows l.i
