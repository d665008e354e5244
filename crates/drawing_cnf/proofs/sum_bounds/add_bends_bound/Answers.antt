use Rattle.std.proofs.Common.{rules, ◌≡◌, ◌+◌, ◌<◌, List, ℕ, [], length, sym, ◌∙◌, ap, subst, arith, Ok}
use Rattle.std.specs.Prelude.{All, IfOk}
use Rattle.cnf_core.specs.Lit.{Literal}
use Rattle.cnf_core.specs.Formula.{Cnf}
use Rattle.cnf_core.proofs.BlockLemmas.{block_refused}
use Rattle.unary_sum.specs.Sum.{SumVars, sum_vars, sum_count}
use Rattle.cnf_laws.specs.Expected.{drawing_vars}
use Rattle.drawing_cnf.specs.Bounds.{bend_lits, bends_sum, bends_bound}
use Rattle.drawing_cnf.proofs.BoundLemmas.{all_edges}
use Rattle.drawing_cnf.proofs.ListCode.{bends_inputs}
use Rattle.drawing_cnf.proofs.BoundCode.{block_of_vars, bends_after}
use Rattle.drawing_cnf.proofs.sum_bounds.add_bends_bound.Goals as goal

pub bend_literals-requires : goal.bend_literals-requires
bend_literals-requires c = subst (λ (es : List ℕ). All (λ e. e < length c.args.g.now.edges) es) (sym c.requires.edges) (all_edges c.args.g.now).there

pub add_sum_bound-requires-clause-inputs : goal.add_sum_bound-requires-clause-inputs
add_sum_bound-requires-clause-inputs c =
    let v = ap (λ (f : Cnf). f.vars) c.in_ok-new_vars.ensures.ok in
    (bends_inputs c.args.g.now c.args.grid.now c.args.edges.now c.deref.result.now c.args.f.now.vars c.new_vars.new.self.vars c.width.ensures.is_grid
    c.requires.there c.vars-last.ensures.formula.vars_limit (omega arith) c.nodes.ensures.station.few_edges c.requires.edges
    (c.deref.ensures.value ∙ c.in_ok-inputs.ensures)).there

pub add_sum_bound-requires-clause-few : goal.add_sum_bound-requires-clause-few
add_sum_bound-requires-clause-few c =
    let v = ap (λ (f : Cnf). f.vars) c.in_ok-new_vars.ensures.ok in
    (bends_inputs c.args.g.now c.args.grid.now c.args.edges.now c.deref.result.now c.args.f.now.vars c.new_vars.new.self.vars c.width.ensures.is_grid
    c.requires.there c.vars-last.ensures.formula.vars_limit (omega arith) c.nodes.ensures.station.few_edges c.requires.edges
    (c.deref.ensures.value ∙ c.in_ok-inputs.ensures)).few

pub returns-in_err-new_vars-clause-adds : goal.returns-in_err-new_vars-clause-adds
returns-in_err-new_vars-clause-adds c =
    let x = drawing_vars c.args.g.now c.args.grid.now in
    block_refused c.new_vars.result c.from_residual-in_err-new_vars.result c.args.f.now c.new_vars.new.self c.args.cap
    (sum_count (bends_sum x c.args.edges.now c.args.f.now.vars c.args.cap)) [] (bends_bound x c.args.edges.now c.args.f.now.vars c.args.cap) 3
    c.from_residual-in_err-new_vars.ensures.0 (λ k. search (rules, k))
    (block_of_vars c.new_vars.result c.args.f.now c.new_vars.new.self c.args.cap 3 c.new_vars.ensures.ok c.new_vars.ensures.room.0 c.new_vars.ensures.err)

pub returns-clause-adds : goal.returns-clause-adds
returns-clause-adds c =
    bends_after c.in_ok-new_vars.field-0 c.add_sum_bound.result c.args.f.now c.new_vars.new.self c.add_sum_bound.new.f c.deref.result.now
    (drawing_vars c.args.g.now c.args.grid.now) c.args.edges.now c.vars-last.result c.args.cap
    (c.deref.ensures.value ∙ c.in_ok-inputs.ensures) c.vars-last.ensures.value
    (block_of_vars (Ok c.in_ok-new_vars.field-0) c.args.f.now c.new_vars.new.self c.args.cap 3 c.in_ok-new_vars.ensures.ok (λ k. cc) tt)
    c.add_sum_bound.ensures.adds

pub returns-clause-sum : goal.returns-clause-sum
returns-clause-sum c =
    let a = c.args in
    let x = drawing_vars a.g.now a.grid.now in
    let made : c.new_vars.new.self.vars ≡ a.f.now.vars + a.cap = ap (λ (f : Cnf). f.vars) c.in_ok-new_vars.ensures.ok in
    let is : c.deref.result.now ≡ bend_lits x a.edges.now = c.deref.ensures.value ∙ c.in_ok-inputs.ensures in
    subst (λ n. IfOk c.add_sum_bound.result (λ (s : SumVars). s ≡ sum_vars (bend_lits x a.edges.now) a.cap n)) made
    (subst (λ (ls : List Literal). IfOk c.add_sum_bound.result (λ (s : SumVars). s ≡ sum_vars ls a.cap c.new_vars.new.self.vars)) is
    c.add_sum_bound.ensures.sum)
