use Rattle.std.proofs.Common.{rules, ℕ, ◌+◌, ◌-◌, ◌/◌, length, take, drop, List, sym, ◌∙◌, ap, subst, arith, length-take, length-drop}
use Rattle.std.proofs.lemmas.Result.{IfOk-weaker}
use Rattle.cnf_core.specs.Lit.{Literal}
use Rattle.cnf_core.specs.Clause.{AreThere}
use Rattle.cnf_core.specs.Added.{AddsBlock}
use Rattle.cnf_core.proofs.ClauseLemmas.{there_more}
use Rattle.unary_sum.specs.declared.joins.Part.{Part}
use Rattle.unary_sum.specs.Part.{PartIsThere}
use Rattle.unary_sum.specs.Sum.{InputTree, tree_of, tree_count, tree_top, tree_clauses}
use Rattle.unary_sum.proofs.SumLemmas.{TreeIsThere, tree_of-node, there_take, there_drop, tree_there, tree_there_more, top_there, part_there_more}
use Rattle.unary_sum.proofs.NodeLemmas.{node_left_refused, node_right_refused, node_adds, node_top}
use Rattle.unary_sum.proofs.sum.+build_tree.Goals as goal

-- a tree over the inputs from one place on, up to another
tree_there_part : (vars depth from count : ℕ) (ls : List Literal) → AreThere vars ls → TreeIsThere vars (tree_of depth (take count (drop from ls)))
tree_there_part vars depth from count ls h = tree_there vars depth (take count (drop from ls))
    (there_take vars count (drop from ls) (there_drop vars from ls h))

pub build_tree-requires : goal.build_tree-requires
build_tree-requires t c =
    let ls = c.args.inputs.now in
    let ne = c.if-depth-eq0.false in
    let two = c.if-inputs-le1.false in
    let deep = c.requires.depth in
    let measure = c.decreases in
    let n = length-take (length ls / 2) ls in
    (omega arith, (c.requires.limit, (omega arith, (there_take c.args.f.now.vars (length ls / 2) ls c.requires.inputs, c.requires.cap))))

pub returns-in_err-left-clause-adds : goal.returns-in_err-left-clause-adds
returns-in_err-left-clause-adds t c =
    let ls = c.args.inputs.now in
    let half = length ls / 2 in
    let depth = c.args.depth - 1 in
    let old = c.args.f.now in
    let r = c.from_residual.result in
    subst (λ (n : InputTree). AddsBlock r old c.build_tree.new.f (tree_count c.args.cap n) (tree_clauses c.args.cap old.vars n) 3)
    (sym (tree_of-node c.args.depth ls c.if-depth-eq0.false c.if-inputs-le1.false))
    (node_left_refused c.build_tree.result r old c.build_tree.new.f c.args.cap (tree_of depth (take half ls))
    (tree_of depth (take (length ls - half) (drop half ls))) c.from_residual.ensures.0 (λ k. search (rules, k)) c.build_tree.ensures.adds)

pub build_tree-requires-2 : goal.build_tree-requires-2
build_tree-requires-2 t c =
    let ls = c.args.inputs.now in
    let half = length ls / 2 in
    let ne = c.if-depth-eq0.false in
    let two = c.if-inputs-le1.false in
    let deep = c.requires.depth in
    let measure = c.decreases in
    let n = length-drop half ls in
    let m = length-take (length ls - half) (drop half ls) in
    let from = c.build_tree.ensures.adds.from in
    let there = there_take c.args.f.now.vars (length ls - half) (drop half ls) (there_drop c.args.f.now.vars half ls c.requires.inputs) in (
      omega arith,
      (
        c.in_ok-left.ensures.limit,
        (
          omega arith,
          (
            there_more c.args.f.now.vars c.build_tree.new.f.vars (take (length ls - half) (drop half ls)) from
                there,
            c.requires.cap,
          ),
        ),
      ),
    )

pub returns-in_err-right-clause-adds : goal.returns-in_err-right-clause-adds
returns-in_err-right-clause-adds t c =
    let ls = c.args.inputs.now in
    let half = length ls / 2 in
    let depth = c.args.depth - 1 in
    let old = c.args.f.now in
    let new = c.build_tree-2.new.f in
    let r = c.from_residual-in_err-right.result in
    subst (λ (n : InputTree). AddsBlock r old new (tree_count c.args.cap n) (tree_clauses c.args.cap old.vars n) 3)
    (sym (tree_of-node c.args.depth ls c.if-depth-eq0.false c.if-inputs-le1.false))
    (node_right_refused c.in_ok-left.left c.build_tree-2.result r old c.build_tree.new.f new c.args.cap (tree_of depth (take half ls))
    (tree_of depth (take (length ls - half) (drop half ls))) c.from_residual-in_err-right.ensures.0 (λ k. search (rules, k)) c.in_ok-left.ensures.adds
    c.build_tree-2.ensures.adds)

pub join_parts-requires-clause-left : goal.join_parts-requires-clause-left
join_parts-requires-clause-left t c =
    let ls = c.args.inputs.now in
    let half = length ls / 2 in
    let depth = c.args.depth - 1 in
    let vars = c.args.f.now.vars in
    let made = c.in_ok-left.ensures.adds.made in
    let from = c.build_tree-2.ensures.adds.from in
    let there = tree_there vars depth (take half ls) (there_take vars half ls c.requires.inputs) in
    subst (λ (p : Part). PartIsThere c.build_tree-2.new.f.vars p) (sym c.in_ok-left.ensures.part)
    (part_there_more (vars + tree_count c.args.cap (tree_of depth (take half ls))) c.build_tree-2.new.f.vars
    (tree_top c.args.cap vars (tree_of depth (take half ls))) (omega arith) (top_there c.args.cap vars (tree_of depth (take half ls)) there))

pub join_parts-requires-clause-right : goal.join_parts-requires-clause-right
join_parts-requires-clause-right t c =
    let ls = c.args.inputs.now in
    let half = length ls / 2 in
    let depth = c.args.depth - 1 in
    let vars = c.build_tree.new.f.vars in
    let made = c.in_ok-right.ensures.adds.made in
    let from = c.build_tree.ensures.adds.from in
    let side = tree_of depth (take (length ls - half) (drop half ls)) in
    let there : TreeIsThere vars side = tree_there_more c.args.f.now.vars vars side from
    (tree_there_part c.args.f.now.vars depth half (length ls - half) ls c.requires.inputs) in
    subst (λ (p : Part). PartIsThere c.build_tree-2.new.f.vars p) (sym c.in_ok-right.ensures.part)
    (part_there_more (vars + tree_count c.args.cap side) c.build_tree-2.new.f.vars (tree_top c.args.cap vars side) (omega arith)
    (top_there c.args.cap vars side there))

pub returns-clause-part : goal.returns-clause-part
returns-clause-part t c =
    let ls = c.args.inputs.now in
    let half = length ls / 2 in
    let depth = c.args.depth - 1 in
    let old = c.args.f.now in
    IfOk-weaker c.join_parts.result _ _
    (λ p e. node_top old c.build_tree.new.f c.build_tree-2.new.f c.args.cap (tree_of depth (take half ls))
    (tree_of depth (take (length ls - half) (drop half ls))) c.in_ok-left.left c.in_ok-right.right p c.in_ok-left.ensures.part c.in_ok-right.ensures.part
    c.in_ok-left.ensures.adds.made c.in_ok-right.ensures.adds.made e
    ∙ ap (λ (n : InputTree). tree_top c.args.cap old.vars n) (sym (tree_of-node c.args.depth ls c.if-depth-eq0.false c.if-inputs-le1.false)))
    c.join_parts.ensures.part

pub returns-clause-adds : goal.returns-clause-adds
returns-clause-adds t c =
    let ls = c.args.inputs.now in
    let half = length ls / 2 in
    let depth = c.args.depth - 1 in
    let old = c.args.f.now in
    let new = c.join_parts.new.f in
    subst (λ (n : InputTree). AddsBlock c.join_parts.result old new (tree_count c.args.cap n) (tree_clauses c.args.cap old.vars n) 3)
    (sym (tree_of-node c.args.depth ls c.if-depth-eq0.false c.if-inputs-le1.false))
    (node_adds c.in_ok-left.left c.in_ok-right.right c.join_parts.result old c.build_tree.new.f c.build_tree-2.new.f new c.args.cap
    (tree_of depth (take half ls)) (tree_of depth (take (length ls - half) (drop half ls))) c.in_ok-left.left c.in_ok-right.right c.in_ok-left.ensures.part
    c.in_ok-right.ensures.part c.in_ok-left.ensures.adds c.in_ok-right.ensures.adds c.join_parts.ensures.adds)
