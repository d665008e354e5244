use Rattle.std.proofs.Common.{refl, ◌∙◌, arith}
use Rattle.cnf_core.specs.Truths.{assignment}
use Rattle.drawing_cnf.proofs.PutBounds.{block_start, block_more}
use Rattle.drawing_cnf.proofs.put_bounds.put_block.Goals as goal

pub loop-k-init : goal.loop-k-init
loop-k-init c = (block_start c.args.last c.args.value (assignment c.args.m.now), refl)

pub loop-k-preserved : goal.loop-k-preserved
loop-k-preserved c = (
  block_more c.args.last c.args.value (assignment c.args.m.now) (assignment c.loop-k.m) (assignment c.put_variable.new.m) c.loop-k.k c.loop-k.auto.k
      c.loop-k.invariant.0 c.put_variable.ensures.value c.put_variable.ensures.others,
  c.put_variable.ensures.vars ∙ c.loop-k.invariant.1,
)

pub returns : goal.returns
returns c =
    let p = c.loop-k.invariant.0 in
    let end = c.loop-k-test.false in
    let past = c.loop-k.auto.k-end in
    record {
      exact = λ k from to. p.told k from (omega arith);
      same = record { below = p.same.below; above = λ y high. p.same.above y (omega arith) };
      vars = c.loop-k.invariant.1;
    }
