use Rattle.std.proofs.Common.{rules, ◌≡◌, ◌∙◌, arith, slice_index_or}
use Rattle.std.proofs.lemmas.List.{get_or_default}
use Rattle.cnf_core.proofs.StepLemmas.{adding_more, adding_done, adding_refused}
use Rattle.drawing_cnf.specs.Nodes.{no_node_vars}
use Rattle.drawing_cnf.proofs.CodeLemmas.{matched_next, matched_room, at_adds}
use Rattle.drawing_cnf.proofs.counting.add_nodes.Goals as goal

pub add_by-requires-clause-to : goal.add_by-requires-clause-to
add_by-requires-clause-to c =
    let a = matched_room c.args.former.now c.args.first c.args.f.now.vars c.loop-k.k c.loop-k-test.true c.requires.to in
    let m = c.loop-k.invariant.next in
    let v = c.loop-k.invariant.vars in
    omega (arith, a, m, v)

pub returns-in_err-add_by : goal.returns-in_err-add_by
returns-in_err-add_by c =
    let n : c.index-nodes-k.result ≡ slice_index_or c.args.nodes.now c.loop-k.k no_node_vars = c.index-nodes-k.is
    ∙ get_or_default c.args.nodes.now c.loop-k.k c.index-nodes-k.result no_node_vars
    (let lt = c.loop-k-test.true in let same = c.requires.same in omega (arith, lt, same)) in
    adding_refused c.add_by.result c.from_residual.result _ _ _ _ _ _ _ _ c.from_residual.ensures.0 (λ k. search (rules, k)) c.loop-k-test.true
    c.loop-k.invariant.adding
    (at_adds c.add_by.result _ _ c.args.nodes.now c.args.former.now c.args.first c.loop-k.k c.loop-k.m c.index-nodes-k.result n c.loop-k.invariant.next
    c.add_by.ensures)

pub overflow_add-m : goal.overflow_add-m
overflow_add-m c =
    let a = matched_room c.args.former.now c.args.first c.args.f.now.vars c.loop-k.k c.loop-k-test.true c.requires.to in
    let m = c.loop-k.invariant.next in
    let one = c.one_if-m.ensures in
    let most = c.requires.limit in
    omega (arith, a, m, one, most)

pub loop-k-preserved : goal.loop-k-preserved
loop-k-preserved c =
    let n : c.index-nodes-k.result ≡ slice_index_or c.args.nodes.now c.loop-k.k no_node_vars = c.index-nodes-k.is
    ∙ get_or_default c.args.nodes.now c.loop-k.k c.index-nodes-k.result no_node_vars
    (let lt = c.loop-k-test.true in let same = c.requires.same in omega (arith, lt, same)) in
    record {
      adding = adding_more _ _ _ _ _ _ _ _ _ c.loop-k-test.true c.loop-k.invariant.adding
          (at_adds _ _ _ c.args.nodes.now c.args.former.now c.args.first c.loop-k.k c.loop-k.m c.index-nodes-k.result n c.loop-k.invariant.next
          c.in_ok-add_by.ensures);
      next = (let a = matched_next c.args.former.now c.loop-k.k in let m = c.loop-k.invariant.next in let one = c.one_if-m.ensures in omega (arith, a, m, one));
      vars = c.add_by.ensures.vars ∙ c.loop-k.invariant.vars;
    }

pub returns : goal.returns
returns c = adding_done tt _ _ _ _ _ _ _ c.loop-k-test.false c.loop-k.invariant.adding
