use Rattle.std.proofs.Common.{rules, ◌≡◌, ◌≤◌, ◌+◌, sym, ap, subst}
use Rattle.cnf_core.specs.Clause.{AreThere}
use Rattle.cnf_core.specs.Formula.{each}
use Rattle.cnf_core.specs.Added.{AddsClauses}
use Rattle.cnf_core.proofs.BlockLemmas.{block_fault, block_same}
use Rattle.unary_sum.specs.Sum.{SumVars, sum_vars, sum_count, sum_at_least}
use Rattle.drawing_cnf.specs.Bounds.{same_as, sum_bound}
use Rattle.drawing_cnf.proofs.BoundCode.{sum_refused, sum_after}
use Rattle.drawing_cnf.proofs.sum_bounds.make_sum_bound.Goals as goal

pub returns-in_err-sum-clause-adds : goal.returns-in_err-sum-clause-adds
returns-in_err-sum-clause-adds c = sum_refused c.build.result c.from_residual.result _ _ (sum_vars c.args.inputs.now c.args.cap c.args.f.now.vars) c.args.last
    c.from_residual.ensures.0 (λ k. search (rules, k)) c.build.ensures.adds

pub returns-in_err-add_outputs-clause-adds : goal.returns-in_err-add_outputs-clause-adds
returns-in_err-add_outputs-clause-adds c =
    let s = sum_vars c.args.inputs.now c.args.cap c.args.f.now.vars in
    block_fault c.add_outputs.result c.from_residual-in_err-add_outputs.result c.args.f.now c.add_outputs.new.f (sum_count s) (sum_bound s c.args.last) 3
    c.from_residual-in_err-add_outputs.ensures.0 (λ k. search (rules, k))
    (sum_after _ c.add_outputs.result c.args.f.now c.build.new.f c.add_outputs.new.f s c.args.last c.in_ok-sum.ensures.adds
    (subst (λ (t : SumVars). AddsClauses c.add_outputs.result c.build.new.f c.add_outputs.new.f
    (each (λ k. same_as (c.args.last + k) (sum_at_least t k)) 1 c.args.cap) 2) c.in_ok-sum.ensures.sum c.add_outputs.ensures))

pub returns-clause-adds : goal.returns-clause-adds
returns-clause-adds c =
    let s = sum_vars c.args.inputs.now c.args.cap c.args.f.now.vars in
    block_same c.add_outputs.result _ c.args.f.now c.add_outputs.new.f (sum_count s) (sum_bound s c.args.last) 3 c.in_ok-add_outputs.field-0 (search rules)
    (sum_after _ c.add_outputs.result c.args.f.now c.build.new.f c.add_outputs.new.f s c.args.last c.in_ok-sum.ensures.adds
    (subst (λ (t : SumVars). AddsClauses c.add_outputs.result c.build.new.f c.add_outputs.new.f
    (each (λ k. same_as (c.args.last + k) (sum_at_least t k)) 1 c.args.cap) 2) c.in_ok-sum.ensures.sum c.add_outputs.ensures))

pub add_outputs-requires-clause-inputs : goal.add_outputs-requires-clause-inputs
add_outputs-requires-clause-inputs c = subst (λ (s : SumVars). AreThere s.vars s.inputs) (sym c.in_ok-sum.ensures.sum) c.requires.inputs

pub add_outputs-requires-clause-cap : goal.add_outputs-requires-clause-cap
add_outputs-requires-clause-cap c = sym (ap (λ (s : SumVars). s.most) c.in_ok-sum.ensures.sum)

pub add_outputs-requires-clause-there : goal.add_outputs-requires-clause-there
add_outputs-requires-clause-there c = subst (λ (s : SumVars). s.vars + sum_count s ≡ c.build.new.f.vars) (sym c.in_ok-sum.ensures.sum)
    (sym c.in_ok-sum.ensures.adds.made)

pub add_outputs-requires-clause-before : goal.add_outputs-requires-clause-before
add_outputs-requires-clause-before c = subst (λ (s : SumVars). c.args.last + c.args.cap ≤ s.vars) (sym c.in_ok-sum.ensures.sum) c.requires.before
