use Rattle.std.proofs.Common.{◌≡◌, ℕ, ◌+◌, ◌-◌, ◌/◌, length, take, drop, sym, ◌∙◌, ap, subst, arith, length-take, length-drop}
use Rattle.std.specs.Prelude.{min, nat_lt}
use Rattle.cnf_core.specs.Assignment.{SatisfiesAll, SameOutside}
use Rattle.cnf_core.specs.Truths.{assignment}
use Rattle.cnf_core.proofs.ClauseLemmas.{there_more}
use Rattle.unary_sum.specs.Sum.{InputTree, Node, tree_of, tree_size, tree_count, tree_clauses}
use Rattle.unary_sum.proofs.SumLemmas.{TreeIsThere, tree_true, tree_true-of, tree_of-node, there_take, there_drop, tree_there, size_small, node_put}
use Rattle.unary_sum.proofs.put.+put_tree.Goals as goal
use Rattle.unary_sum.proofs.put.+put_tree.Goals.{After-put_outputs}

pub put_tree-left-requires : goal.put_tree-left-requires
put_tree-left-requires t c =
    let ls = c.args.inputs.now in
    let half = length ls / 2 in
    let ne = c.if-depth-eq0.false in
    let two = c.if-inputs-le1.false in
    let deep = c.requires.depth in
    let measure = c.decreases in
    let n = length-take half ls in
    let count = ap (tree_count c.args.cap) (tree_of-node c.args.depth ls ne two) in (
      omega arith,
      (
        omega arith,
        (
          there_take c.args.vars half ls c.requires.inputs,
          (
            omega arith,
            (
              c.requires.cap,
              (
                there_take (length c.args.m.now) half ls c.requires.inputs_set,
                (λ some. let all = c.requires.there (omega arith) in omega arith, omega arith),
              ),
            ),
          ),
        ),
      ),
    )

pub put_tree-right-requires : goal.put_tree-right-requires
put_tree-right-requires t c =
    let ls = c.args.inputs.now in
    let half = length ls / 2 in
    let ne = c.if-depth-eq0.false in
    let two = c.if-inputs-le1.false in
    let deep = c.requires.depth in
    let measure = c.decreases in
    let n = length-drop half ls in
    let m = length-take (length ls - half) (drop half ls) in
    let count = ap (tree_count c.args.cap) (tree_of-node c.args.depth ls ne two) in
    let end = c.put_tree-left.ensures.end in
    let vars = c.put_tree-left.ensures.vars in
    let there = there_take c.args.vars (length ls - half) (drop half ls) (there_drop c.args.vars half ls c.requires.inputs) in (
      omega arith,
      (
        omega arith,
        (
          there_more c.args.vars c.put_tree-left.result.end (take (length ls - half) (drop half ls)) (omega arith) there,
          (
            omega arith,
            (
              c.requires.cap,
              (
                there_more (length c.args.m.now) (length c.put_tree-left.new.m) (take (length ls - half) (drop half ls)) (omega arith)
                    (there_take (length c.args.m.now) (length ls - half) (drop half ls) (there_drop (length c.args.m.now) half ls c.requires.inputs_set)),
                (λ some. let all = c.requires.there (omega arith) in omega arith, omega arith),
              ),
            ),
          ),
        ),
      ),
    )

pub overflow_add-left : goal.overflow_add-left
overflow_add-left t c =
    let ls = c.args.inputs.now in
    let half = length ls / 2 in
    let left = c.put_tree-left.ensures.size in
    let right = c.put_tree-right.ensures.size in
    let a = size_small c.args.cap (c.args.depth - 1) (take half ls) c.requires.cap in
    let b = size_small c.args.cap (c.args.depth - 1) (take (length ls - half) (drop half ls)) c.requires.cap in
    omega arith

pub count_of-n-requires-clause-inputs : goal.count_of-n-requires-clause-inputs
count_of-n-requires-clause-inputs t c =
    let left = c.put_tree-left.ensures.vars in
    let right = c.put_tree-right.ensures.vars in
    there_more (length c.args.m.now) (length c.put_tree-right.new.m) c.args.inputs.now (omega arith) c.requires.inputs_set

-- both sides and the outputs are set
is_put : (t : ℕ) (c : After-put_outputs t) →
    SameOutside (c.args.vars + 1) (tree_count c.args.cap (tree_of c.args.depth c.args.inputs.now)) (assignment c.args.m.now) (assignment c.put_outputs.new.m)
    × SatisfiesAll (assignment c.put_outputs.new.m) (tree_clauses c.args.cap c.args.vars (tree_of c.args.depth c.args.inputs.now))
is_put t c =
    let ls = c.args.inputs.now in
    let half = length ls / 2 in
    let most = c.args.cap in
    let vars = c.args.vars in
    let a = tree_of (c.args.depth - 1) (take half ls) in
    let b = tree_of (c.args.depth - 1) (take (length ls - half) (drop half ls)) in
    let old = assignment c.args.m.now in
    let left = assignment c.put_tree-left.new.m in
    let right = assignment c.put_tree-right.new.m in
    let new = assignment c.put_outputs.new.m in
    let is = tree_of-node c.args.depth ls c.if-depth-eq0.false c.if-inputs-le1.false in
    let there : TreeIsThere vars (Node a b) = subst (TreeIsThere vars) is (tree_there vars c.args.depth ls c.requires.inputs) in
    let size : c.min-size.result ≡ min (tree_size most a + tree_size most b) most = let l = c.put_tree-left.ensures.size in let
    r = c.put_tree-right.ensures.size in omega (arith, c.min-size.ensures) in
    let n : c.count_of-n.result ≡ tree_true right (Node a b) = c.count_of-n.ensures ∙ sym (tree_true-of right c.args.depth ls c.requires.depth)
    ∙ ap (tree_true right) is in
    subst (λ (u : InputTree). SameOutside (vars + 1) (tree_count most u) old new × SatisfiesAll new (tree_clauses most vars u)) (sym is)
    (node_put old left right new most vars c.put_tree-left.result.end c.put_tree-right.result.end a b there c.put_tree-left.ensures.end
    c.put_tree-right.ensures.end
    c.put_tree-left.ensures.same c.put_tree-left.ensures.model c.put_tree-right.ensures.same c.put_tree-right.ensures.model
    (subst (λ k. SameOutside (c.put_tree-right.result.end + 1) k right new) size c.put_outputs.ensures.same)
    (λ k lt. c.put_outputs.ensures.set k (omega arith) ∙ ap (λ x. nat_lt k x) n))

pub returns-clause-same : goal.returns-clause-same
returns-clause-same t c = (is_put t (goal.at.returns-clause-same t c).After-put_outputs).0

pub returns-clause-model : goal.returns-clause-model
returns-clause-model t c = (is_put t (goal.at.returns-clause-model t c).After-put_outputs).1
