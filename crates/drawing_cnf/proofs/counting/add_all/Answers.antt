use Rattle.std.proofs.Common.{rules, ◌+◌, ap, arith}
use Rattle.cnf_core.specs.Formula.{Cnf}
use Rattle.drawing_cnf.specs.Nodes.{node_at}
use Rattle.cnf_laws.proofs.ThereLemmas.{node_more}
use Rattle.drawing_cnf.proofs.CodeLemmas.{vars_refused, nodes_refused, whole_added}
use Rattle.drawing_cnf.proofs.counting.add_all.Goals as goal

pub add_nodes-requires-clause-there : goal.add_nodes-requires-clause-there
add_nodes-requires-clause-there c =
    let v = ap (λ (f : Cnf). f.vars) c.in_ok-made.ensures.ok in
    λ k lt. node_more c.args.f.now.vars c.new_vars.new.self.vars (node_at c.args.nodes.now k) (omega (arith, v)) (c.requires.there k lt)

pub add_nodes-requires-clause-to : goal.add_nodes-requires-clause-to
add_nodes-requires-clause-to c =
    let v = ap (λ (f : Cnf). f.vars) c.in_ok-made.ensures.ok in
    let first = c.in_ok-made.ensures.var in
    let count = c.requires.count in
    omega (arith, v, first, count)

pub add_sum-requires-clause-to : goal.add_sum-requires-clause-to
add_sum-requires-clause-to c =
    let v = ap (λ (f : Cnf). f.vars) c.in_ok-made.ensures.ok in
    let first = c.in_ok-made.ensures.var in
    let w = c.add_nodes.ensures.vars in
    omega (arith, v, first, w)

pub add_sum-requires-clause-before : goal.add_sum-requires-clause-before
add_sum-requires-clause-before c =
    let v = ap (λ (f : Cnf). f.vars) c.in_ok-made.ensures.ok in
    let w = c.add_nodes.ensures.vars in
    let last = c.vars-last.ensures.value in
    omega (arith, v, w, last)

pub returns-in_err-made : goal.returns-in_err-made
returns-in_err-made c =
    vars_refused c.new_vars.result c.from_residual.result c.args.f.now c.new_vars.new.self (node_at c.args.nodes.now) c.args.former.now c.args.count
    c.requires.count c.from_residual.ensures.0 (λ k. search (rules, k))
    c.new_vars.ensures.ok c.new_vars.ensures.room.0 c.new_vars.ensures.err

pub returns-in_err-add_nodes : goal.returns-in_err-add_nodes
returns-in_err-add_nodes c =
    nodes_refused c.in_ok-made.made c.add_nodes.result c.from_residual-in_err-add_nodes.result c.args.f.now c.new_vars.new.self c.add_nodes.new.f
    (node_at c.args.nodes.now) c.args.former.now (c.in_ok-made.made.0 + c.args.count) c.args.count
    (let first = c.in_ok-made.ensures.var in let count = c.requires.count in omega (arith, first, count)) c.requires.count
    c.from_residual-in_err-add_nodes.ensures.0 (λ k. search (rules, k)) c.in_ok-made.ensures.ok c.add_nodes.ensures

pub returns : goal.returns
returns c =
    whole_added c.in_ok-made.made c.in_ok-add_nodes.field-0 c.add_sum.result c.args.f.now c.new_vars.new.self c.add_nodes.new.f c.add_sum.new.f
    (node_at c.args.nodes.now) c.args.former.now (c.in_ok-made.made.0 + c.args.count) c.args.count c.vars-last.result
    (let first = c.in_ok-made.ensures.var in let count = c.requires.count in omega (arith, first, count)) c.requires.count c.vars-last.ensures.value
    c.in_ok-made.ensures.ok c.in_ok-add_nodes.ensures c.add_sum.ensures
