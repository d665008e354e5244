use Rattle.std.proofs.Common.{sym, ◌∙◌, ap, subst}
use Rattle.pick_heap.specs.Heap.{Ranked, IsHeld}
use Rattle.cdcl_core.proofs.HeapLemmas.{held_bumped, bumped_vars}
use Rattle.cdcl_core.proofs.learning.bump.Goals as goal

pub loop-i-preserved : goal.loop-i-preserved
loop-i-preserved c = record {
  vars = ap (λ (h : Ranked). h.vars) c.bump.ensures.value ∙ bumped_vars c.loop-i.heap c.seen.result.0 ∙ c.loop-i.invariant.vars;
  held = λ v held. subst (λ (h : Ranked). IsHeld h v) (sym c.bump.ensures.value) (held_bumped c.loop-i.heap c.seen.result.0 v (c.loop-i.invariant.held v held));
}
