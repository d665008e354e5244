use Rattle.std.proofs.Common.{◌≡◌, ◌∙◌, ◌<◌, length, true, sym, subst, arith}
use Rattle.log_trim.specs.Found.{is_needed}
use Rattle.log_trim.proofs.LeanLemmas.{cleared, uncleared, behind_cleared}
use Rattle.log_trim.proofs.needs.clear.Goals as goal
use Rattle.log_trim.proofs.needs.clear.Goals.{then-v-needed, else-v-needed}

pub loop-i-preserved : goal.loop-i-preserved
loop-i-preserved c =
    let inv = c.loop-i.invariant in
    let trail = c.args.trail.now.lits in
    let v = c.var-v.result.0 in
    let lit = c.lit.ensures in
    let var = c.var-v.ensures in
    let end = c.len-i-end.ensures.value in
    let lt : c.loop-i.i < length trail = omega (arith, c.loop-i-test.true, end) in
    elim c.if-v-needed.branch [
      | then-v-needed w ↦ record {
        size = c.if-v-needed.auto.needed ∙ inv.size;
        rest = λ on x mark. behind_cleared trail c.loop-i.i c.lit.result v x c.loop-i.needed lt lit.value var.value (inv.rest on)
            (cleared c.loop-i.needed v x w.if-v-needed.true (rw w.needed-is at mark));
      }
      | else-v-needed w ↦ record {
        size = c.if-v-needed.auto.needed ∙ inv.size;
        rest = λ on x mark. behind_cleared trail c.loop-i.i c.lit.result v x c.loop-i.needed lt lit.value var.value (inv.rest on)
            (uncleared c.loop-i.needed v x w.if-v-needed.false (rw w.needed-is at mark));
      }
    ]
