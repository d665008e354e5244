use Rattle.std.proofs.Common.{◌∙◌, length, false, ap, sym, subst, arith}
use Rattle.std.proofs.lemmas.List.{length-replicate}
use Rattle.std.proofs.lemmas.Bool.{false≢true}
use Rattle.cnf_core.specs.Clause.{IsThere}
use Rattle.cdcl_core.proofs.ModelLemmas.{truths_more}
use Rattle.cdcl_core.proofs.models.truths_of.Goals as goal

pub set-requires : goal.set-requires
set-requires c = subst (λ n. IsThere n c.lit.result) (sym c.loop-i.invariant.vars) c.lit.ensures.there

pub loop-i-preserved : goal.loop-i-preserved
loop-i-preserved c = record {
  vars = c.set.ensures.vars ∙ c.loop-i.invariant.vars;
  so_far = truths_more c.args.trail.now.lits c.loop-i.truths c.set.new.self c.loop-i.i c.lit.result c.vars.ensures.marks.distinct
      (let t = c.loop-i-test.true in let e = c.len-i-end.ensures.value in omega arith) c.lit.ensures.value c.set.ensures.holds c.set.ensures.others
      c.loop-i.invariant.so_far;
}

pub loop-i-init : goal.loop-i-init
loop-i-init c = record {
  vars = ap length c.in_ok-truths.ensures ∙ length-replicate c.vars.result false ∙ c.vars.ensures.value;
  so_far = λ k h. absurd (false≢true h);
}
