use Rattle.std.proofs.Common.{◌∙◌}
use Rattle.plan_core.specs.Values.{value_of}
use Rattle.refute_check.proofs.JudgeLemmas.{next_certified, lacking_here, take_next}
use Rattle.log_check.specs.Hinted.{log_of}
use Rattle.log_check.proofs.hint_lacking.first_lacking.Goals as goal

pub returns-then-not-branch : goal.returns-then-not-branch
returns-then-not-branch c = λ told lines known. (
  c.loop-i-test.true,
  c.loop-i.invariant.certified told lines known,
  lacking_here (value_of c.args.greatest.now) (log_of told lines) c.args.order.now c.deref.result.now c.args.v.now c.loop-i.i c.get-c.result c.get-c.ensures
      (c.deref.ensures.value ∙ c.loop-i.invariant.held)
      (λ h. let t = (c.in_ok-is_least.ensures told lines known).1 h in let f = c.if-not-branch.true in cc),
)

pub loop-i-preserved : goal.loop-i-preserved
loop-i-preserved c = record {
  held = take_next c.args.order.now c.loop-i.i c.get-c.result c.loop-i.earlier.items c.push.new.self.items c.get-c.ensures c.loop-i.invariant.held
      c.in_ok-push.ensures.items;
  certified = λ told lines known.
      next_certified (value_of c.args.greatest.now) (log_of told lines) c.args.order.now c.deref.result.now c.args.v.now c.loop-i.i c.get-c.result
      c.get-c.ensures (c.deref.ensures.value ∙ c.loop-i.invariant.held)
      ((c.in_ok-is_least.ensures told lines known).0 c.if-not-branch.false) (c.loop-i.invariant.certified told lines known);
}
