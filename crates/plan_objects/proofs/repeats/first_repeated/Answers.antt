use Rattle.std.proofs.Common.{ℕ, List, true≢false, sym, ◌∙◌}
use Rattle.plan_objects.specs.Faults.{RepeatsId}
use Rattle.plan_core.proofs.SearchLemmas.{none_more_at}
use Rattle.plan_objects.proofs.repeats.first_repeated.Goals as goal

pub loop-i-preserved : goal.loop-i-preserved
loop-i-preserved c = none_more_at {P = λ i _. (id : List ℕ) × RepeatsId c.args.signals.now i id} c.loop-i.invariant
    (λ x had. true≢false (sym (c.is_repeated.ensures.1 had) ∙ c.if-is_repeated.false))
