use Rattle.std.proofs.Common.{rules, ◌≡◌, ◌+◌, List, ◌∙◌, sym, ap, subst}
use Rattle.cnf_core.specs.Lit.{Literal}
use Rattle.cnf_core.specs.Clause.{AreThere}
use Rattle.cnf_core.specs.Added.{AddsClauses}
use Rattle.cnf_core.proofs.BlockLemmas.{block_fault, block_same}
use Rattle.unary_sum.specs.Sum.{SumVars, sum_vars, sum_count, sum_clauses}
use Rattle.edge_shape.specs.EdgeVars.{lits_of}
use Rattle.drawing_cnf.specs.Bounds.{step_lits, steps_beside, edge_steps}
use Rattle.drawing_cnf.proofs.DiagonalCode.{steps_inputs, built_adds, clauses_refused, clauses_after}
use Rattle.drawing_cnf.proofs.diagonal_bound.add_edge_sum.Goals as goal

pub build-requires-clause-inputs : goal.build-requires-clause-inputs
build-requires-clause-inputs c =
    let a = c.args in
    let e = lits_of a.e.now in
    let inputs = step_lits e 0 a.width in
    let s = sum_vars inputs a.most a.f.now.vars in
    let is : c.deref.result.now ≡ inputs = c.deref.ensures.value ∙ c.in_ok-inputs.ensures in
    (steps_inputs a.e.now a.width a.f.now.vars c.deref.result.now c.requires.placed c.requires.edge c.requires.width is).there

pub build-requires-clause-few : goal.build-requires-clause-few
build-requires-clause-few c =
    let a = c.args in
    let e = lits_of a.e.now in
    let inputs = step_lits e 0 a.width in
    let s = sum_vars inputs a.most a.f.now.vars in
    let is : c.deref.result.now ≡ inputs = c.deref.ensures.value ∙ c.in_ok-inputs.ensures in
    (steps_inputs a.e.now a.width a.f.now.vars c.deref.result.now c.requires.placed c.requires.edge c.requires.width is).few

pub returns-in_err-sum-clause-adds : goal.returns-in_err-sum-clause-adds
returns-in_err-sum-clause-adds c =
    let a = c.args in
    let e = lits_of a.e.now in
    let inputs = step_lits e 0 a.width in
    let s = sum_vars inputs a.most a.f.now.vars in
    let is : c.deref.result.now ≡ inputs = c.deref.ensures.value ∙ c.in_ok-inputs.ensures in
    clauses_refused c.build.result c.from_residual-in_err-sum.result a.f.now c.build.new.f (sum_count s) (sum_clauses s) (steps_beside e s) 3
    c.from_residual-in_err-sum.ensures.0 (λ k. search (rules, k))
    (built_adds c.build.result a.f.now c.build.new.f c.deref.result.now inputs a.most is c.build.ensures.adds)

pub returns-in_err-add_steps_beside-clause-adds : goal.returns-in_err-add_steps_beside-clause-adds
returns-in_err-add_steps_beside-clause-adds c =
    let a = c.args in
    let e = lits_of a.e.now in
    let inputs = step_lits e 0 a.width in
    let s = sum_vars inputs a.most a.f.now.vars in
    let is : c.deref.result.now ≡ inputs = c.deref.ensures.value ∙ c.in_ok-inputs.ensures in
    let sum : c.in_ok-sum.sum ≡ s = c.in_ok-sum.ensures.sum ∙ ap (λ (ls : List Literal). sum_vars ls a.most a.f.now.vars) is in
    let built = built_adds _ a.f.now c.build.new.f c.deref.result.now inputs a.most is c.in_ok-sum.ensures.adds in
    let beside = subst (λ (t : SumVars). AddsClauses c.add_steps_beside.result c.build.new.f c.add_steps_beside.new.f (steps_beside e t) 3) sum
    c.add_steps_beside.ensures in
    let all = clauses_after _ c.add_steps_beside.result a.f.now c.build.new.f c.add_steps_beside.new.f (sum_count s) (sum_clauses s) (steps_beside e s) 3 built
    beside in
    block_fault c.add_steps_beside.result c.from_residual-in_err-add_steps_beside.result a.f.now c.add_steps_beside.new.f (sum_count s) (edge_steps e s) 3
    c.from_residual-in_err-add_steps_beside.ensures.0 (λ k. search (rules, k)) all

pub returns-clause-adds : goal.returns-clause-adds
returns-clause-adds c =
    let a = c.args in
    let e = lits_of a.e.now in
    let inputs = step_lits e 0 a.width in
    let s = sum_vars inputs a.most a.f.now.vars in
    let is : c.deref.result.now ≡ inputs = c.deref.ensures.value ∙ c.in_ok-inputs.ensures in
    let sum : c.in_ok-sum.sum ≡ s = c.in_ok-sum.ensures.sum ∙ ap (λ (ls : List Literal). sum_vars ls a.most a.f.now.vars) is in
    let built = built_adds _ a.f.now c.build.new.f c.deref.result.now inputs a.most is c.in_ok-sum.ensures.adds in
    let beside = subst (λ (t : SumVars). AddsClauses c.add_steps_beside.result c.build.new.f c.add_steps_beside.new.f (steps_beside e t) 3) sum
    c.add_steps_beside.ensures in
    let all = clauses_after _ c.add_steps_beside.result a.f.now c.build.new.f c.add_steps_beside.new.f (sum_count s) (sum_clauses s) (steps_beside e s) 3 built
    beside in
    block_same c.add_steps_beside.result _ a.f.now c.add_steps_beside.new.f (sum_count s) (edge_steps e s) 3 c.in_ok-add_steps_beside.field-0 (search rules) all

pub returns-clause-sum : goal.returns-clause-sum
returns-clause-sum c =
    let a = c.args in
    let e = lits_of a.e.now in
    let inputs = step_lits e 0 a.width in
    let s = sum_vars inputs a.most a.f.now.vars in
    let is : c.deref.result.now ≡ inputs = c.deref.ensures.value ∙ c.in_ok-inputs.ensures in
    c.in_ok-sum.ensures.sum ∙ ap (λ (ls : List Literal). sum_vars ls a.most a.f.now.vars) is

pub add_steps_beside-requires-clause-inputs : goal.add_steps_beside-requires-clause-inputs
add_steps_beside-requires-clause-inputs c =
    let a = c.args in
    let is : c.deref.result.now ≡ step_lits (lits_of a.e.now) 0 a.width = c.deref.ensures.value ∙ c.in_ok-inputs.ensures in
    subst (λ (s : SumVars). AreThere s.vars s.inputs) (sym c.in_ok-sum.ensures.sum)
    (steps_inputs a.e.now a.width a.f.now.vars c.deref.result.now c.requires.placed c.requires.edge c.requires.width is).there

pub add_steps_beside-requires-clause-most : goal.add_steps_beside-requires-clause-most
add_steps_beside-requires-clause-most c = sym (ap (λ (s : SumVars). s.most) c.in_ok-sum.ensures.sum)

pub add_steps_beside-requires-clause-there : goal.add_steps_beside-requires-clause-there
add_steps_beside-requires-clause-there c = subst (λ (s : SumVars). s.vars + sum_count s ≡ c.build.new.f.vars) (sym c.in_ok-sum.ensures.sum)
    (sym c.in_ok-sum.ensures.adds.made)
