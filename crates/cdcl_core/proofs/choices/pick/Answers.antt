use Rattle.std.proofs.Common.{◌≡◌, ◌<◌, sym, ◌∙◌, ap, subst, arith}
use Rattle.std.specs.List.{sum_by}
use Rattle.cnf_core.specs.Lit.{Literal}
use Rattle.cnf_core.specs.Trail.{weight}
use Rattle.pick_heap.specs.Heap.{Ranked}
use Rattle.cdcl_core.specs.Roots.{AreOffered}
use Rattle.cdcl_core.proofs.HeapLemmas.{offered_without, fewer_held}
use Rattle.cdcl_core.proofs.choices.pick.Goals as goal

pub new-requires-clause-to : goal.new-requires-clause-to
new-requires-clause-to c =
    let most = c.in-Some.ensures.greatest in
    let to = most.to in
    let vars = c.loop-v.invariant.vars in
    let limit = c.vars-vars.ensures.marks.limit in
    omega arith

pub loop-v-preserved : goal.loop-v-preserved
loop-v-preserved c =
    let var : c.new.result.var ≡ c.in-Some.v.0 = ap (λ (l : Literal). l.var) c.new.ensures in
    record {
      vars = ap (λ (h : Ranked). h.vars) c.in-Some.ensures.rest ∙ c.loop-v.invariant.vars;
      offered = subst (λ (h : Ranked). AreOffered h c.args.trail.now) (sym c.in-Some.ensures.rest)
          (offered_without c.loop-v.heap c.args.trail.now c.in-Some.v.0 c.new.result var (c.is_unset.ensures.set c.if-is_unset.false)
          c.loop-v.invariant.offered);
    }

pub loop-v-smaller : goal.loop-v-smaller
loop-v-smaller c = subst (λ (h : Ranked). sum_by weight h.held < sum_by weight c.loop-v.heap.held) (sym c.in-Some.ensures.rest)
    (fewer_held c.loop-v.heap c.in-Some.v.0 c.in-Some.ensures.greatest.held)
