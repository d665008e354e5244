use Rattle.std.proofs.Common.{rules, ◌<◌, ◌+◌, ◌++◌, ℕ, List, length, All, ap, subst, sym, arith}
use Rattle.std.specs.List.{flat_map}
use Rattle.cnf_core.proofs.BlockLemmas.{block_refused, block_fault, block_same, block_after}
use Rattle.unary_sum.specs.Sum.{sum_count, sum_outputs}
use Rattle.cnf_laws.specs.Expected.{drawing_vars}
use Rattle.drawing_cnf.specs.Bounds.{edges_steps, edges_outputs, edges_count, edge_most, sum_bound, diagonal_sum}
use Rattle.drawing_cnf.proofs.BoundLemmas.{all_edges}
use Rattle.drawing_cnf.proofs.DiagonalCode.{steps_at, top_at, steps_end, sums_are, diagonal_inputs}
use Rattle.drawing_cnf.proofs.diagonal_bound.add_diagonal_sums.Goals as goal

pub add_edges_steps-requires-clause-edges : goal.add_edges_steps-requires-clause-edges
add_edges_steps-requires-clause-edges c = subst (λ (es : List ℕ). All (λ e. e < length c.args.g.now.edges) es) (sym c.requires.edges)
    (all_edges c.args.g.now).there

pub returns-in_err-add_edges_steps-clause-adds : goal.returns-in_err-add_edges_steps-clause-adds
returns-in_err-add_edges_steps-clause-adds c =
    let a = c.args in
    let d = a.grid.now in
    let x = drawing_vars a.g.now d in
    let w = d.width in
    let es = a.edges.now in
    let most = edge_most d a.cap in
    let vars = a.last + a.cap in
    let s = diagonal_sum x d es a.last a.cap in
    let count = edges_count x w most vars es in
    let steps = edges_steps x w most vars es in
    block_refused c.add_edges_steps.result c.from_residual.result a.f.now c.add_edges_steps.new.f count (sum_count s) steps (sum_bound s a.last) 3
    c.from_residual.ensures.0 (λ k. search (rules, k))
    (steps_at c.add_edges_steps.result a.f.now c.add_edges_steps.new.f x w c.most_of_an_edge-most.result most vars es c.most_of_an_edge-most.ensures
    c.requires.behind c.add_edges_steps.ensures.adds)

pub add_top_sum-requires-clause-inputs : goal.add_top_sum-requires-clause-inputs
add_top_sum-requires-clause-inputs c =
    let a = c.args in
    let d = a.grid.now in
    let x = drawing_vars a.g.now d in
    let w = d.width in
    let es = a.edges.now in
    let most = edge_most d a.cap in
    let vars = a.last + a.cap in
    let s = diagonal_sum x d es a.last a.cap in
    let count = edges_count x w most vars es in
    let steps = edges_steps x w most vars es in
    let mid = c.add_edges_steps.new.f in
    let em = c.most_of_an_edge-most.ensures in
    let all = sums_are x w c.most_of_an_edge-most.result most a.f.now.vars vars es c.new-sums.result.items c.add_edges_steps.new.sums.items
    c.new-sums.ensures.items em c.requires.behind c.in_ok-add_edges_steps.ensures.sums in
    let end = steps_end _ a.f.now mid x w c.most_of_an_edge-most.result most vars es em c.requires.behind c.in_ok-add_edges_steps.ensures.adds in
    let limit = c.vars.ensures.formula.vars_limit in
    let behind = c.requires.behind in
    let there = c.requires.there in
    (diagonal_inputs a.g.now d es (flat_map sum_outputs c.add_edges_steps.new.sums.items) a.cap vars mid.vars c.width.ensures.is_grid (omega arith)
    (omega arith) c.nodes.ensures.station.few_edges c.requires.edges (ap (flat_map sum_outputs) all) end).there

pub add_top_sum-requires-clause-few : goal.add_top_sum-requires-clause-few
add_top_sum-requires-clause-few c =
    let a = c.args in
    let d = a.grid.now in
    let x = drawing_vars a.g.now d in
    let w = d.width in
    let es = a.edges.now in
    let most = edge_most d a.cap in
    let vars = a.last + a.cap in
    let s = diagonal_sum x d es a.last a.cap in
    let count = edges_count x w most vars es in
    let steps = edges_steps x w most vars es in
    let mid = c.add_edges_steps.new.f in
    let em = c.most_of_an_edge-most.ensures in
    let all = sums_are x w c.most_of_an_edge-most.result most a.f.now.vars vars es c.new-sums.result.items c.add_edges_steps.new.sums.items
    c.new-sums.ensures.items em c.requires.behind c.in_ok-add_edges_steps.ensures.sums in
    let end = steps_end _ a.f.now mid x w c.most_of_an_edge-most.result most vars es em c.requires.behind c.in_ok-add_edges_steps.ensures.adds in
    let limit = c.vars.ensures.formula.vars_limit in
    let behind = c.requires.behind in
    let there = c.requires.there in
    (diagonal_inputs a.g.now d es (flat_map sum_outputs c.add_edges_steps.new.sums.items) a.cap vars mid.vars c.width.ensures.is_grid (omega arith)
    (omega arith) c.nodes.ensures.station.few_edges c.requires.edges (ap (flat_map sum_outputs) all) end).few

pub returns-in_err-add_top_sum-clause-adds : goal.returns-in_err-add_top_sum-clause-adds
returns-in_err-add_top_sum-clause-adds c =
    let a = c.args in
    let d = a.grid.now in
    let x = drawing_vars a.g.now d in
    let w = d.width in
    let es = a.edges.now in
    let most = edge_most d a.cap in
    let vars = a.last + a.cap in
    let s = diagonal_sum x d es a.last a.cap in
    let count = edges_count x w most vars es in
    let steps = edges_steps x w most vars es in
    let mid = c.add_edges_steps.new.f in
    let em = c.most_of_an_edge-most.ensures in
    let all = sums_are x w c.most_of_an_edge-most.result most a.f.now.vars vars es c.new-sums.result.items c.add_edges_steps.new.sums.items
    c.new-sums.ensures.items em c.requires.behind c.in_ok-add_edges_steps.ensures.sums in
    let end = steps_end _ a.f.now mid x w c.most_of_an_edge-most.result most vars es em c.requires.behind c.in_ok-add_edges_steps.ensures.adds in
    block_fault c.add_top_sum.result c.from_residual-in_err-add_top_sum.result a.f.now c.add_top_sum.new.f (count + sum_count s) (steps ++ sum_bound s a.last) 3
    c.from_residual-in_err-add_top_sum.ensures.0 (λ k. search (rules, k))
    (block_after _ c.add_top_sum.result a.f.now mid c.add_top_sum.new.f count (sum_count s) steps (sum_bound s a.last) 3
    (steps_at _ a.f.now mid x w c.most_of_an_edge-most.result most vars es em c.requires.behind c.in_ok-add_edges_steps.ensures.adds)
    (top_at c.add_top_sum.result mid c.add_top_sum.new.f (flat_map sum_outputs c.add_edges_steps.new.sums.items) (edges_outputs x w most vars es) a.cap a.last
    (vars + count) (ap (flat_map sum_outputs) all) end c.add_top_sum.ensures.adds))

pub returns-clause-adds : goal.returns-clause-adds
returns-clause-adds c =
    let a = c.args in
    let d = a.grid.now in
    let x = drawing_vars a.g.now d in
    let w = d.width in
    let es = a.edges.now in
    let most = edge_most d a.cap in
    let vars = a.last + a.cap in
    let s = diagonal_sum x d es a.last a.cap in
    let count = edges_count x w most vars es in
    let steps = edges_steps x w most vars es in
    let mid = c.add_edges_steps.new.f in
    let em = c.most_of_an_edge-most.ensures in
    let all = sums_are x w c.most_of_an_edge-most.result most a.f.now.vars vars es c.new-sums.result.items c.add_edges_steps.new.sums.items
    c.new-sums.ensures.items em c.requires.behind c.in_ok-add_edges_steps.ensures.sums in
    let end = steps_end _ a.f.now mid x w c.most_of_an_edge-most.result most vars es em c.requires.behind c.in_ok-add_edges_steps.ensures.adds in
    block_same c.add_top_sum.result c.add_top_sum.new.sums a.f.now c.add_top_sum.new.f (count + sum_count s) (steps ++ sum_bound s a.last) 3
    c.in_ok-add_top_sum.field-0 (search rules)
    (block_after _ c.add_top_sum.result a.f.now mid c.add_top_sum.new.f count (sum_count s) steps (sum_bound s a.last) 3
    (steps_at _ a.f.now mid x w c.most_of_an_edge-most.result most vars es em c.requires.behind c.in_ok-add_edges_steps.ensures.adds)
    (top_at c.add_top_sum.result mid c.add_top_sum.new.f (flat_map sum_outputs c.add_edges_steps.new.sums.items) (edges_outputs x w most vars es) a.cap a.last
    (vars + count) (ap (flat_map sum_outputs) all) end c.add_top_sum.ensures.adds))
