-- The calls that build a node of a sum's tree: its left side, its right side, and their join.
use Rattle.std.proofs.Common.{◌≡◌, ℕ, ◌+◌, ◌++◌, ◌∙◌, ap, subst, arith, Ok}
use Rattle.std.specs.Prelude.{Result, IsErr, IsErrOf, min}
use Rattle.cnf_core.specs.declared.fault.CnfFault.{CnfFault}
use Rattle.cnf_core.specs.declared.fault.CnfFault.TheVariants.{Room}
use Rattle.cnf_core.specs.Formula.{Cnf}
use Rattle.cnf_core.specs.Added.{AddsBlock}
use Rattle.cnf_core.proofs.BlockLemmas.{block_refused, block_after}
use Rattle.unary_sum.specs.declared.joins.Part.{Part}
use Rattle.unary_sum.specs.declared.joins.Part.TheVariants.{Outputs}
use Rattle.unary_sum.specs.declared.joins.Join.{Join}
use Rattle.unary_sum.specs.Part.{part_size, join_clauses}
use Rattle.unary_sum.specs.Sum.{InputTree, Node, tree_size, tree_count, tree_top, sides_join, tree_clauses}
use Rattle.unary_sum.proofs.SumLemmas.{part_size-top, node_join}

pub node_left_refused : {T U : Type 0} (r : Result T CnfFault) (s : Result U CnfFault) (old new : Cnf) (most : ℕ) (a b : InputTree) → IsErr s →
    (IsErrOf s Room → IsErrOf r Room) →
    AddsBlock r old new (tree_count most a) (tree_clauses most old.vars a) 3 →
    AddsBlock s old new (tree_count most (Node a b)) (tree_clauses most old.vars (Node a b)) 3
node_left_refused r s old new most a b err same x =
    let xs = tree_clauses most old.vars a in
    let ys = tree_clauses most (old.vars + tree_count most a) b in
    block_refused s s old new (tree_count most a + tree_count most b) (min (tree_size most a + tree_size most b) most) (xs ++ ys)
    (join_clauses (node_join most old.vars a b)) 3 err (λ k. k)
    (block_refused r s old new (tree_count most a) (tree_count most b) xs ys 3 err same x)

-- the right side's variables follow those of the left side
right_side : {T U : Type 0} (x : T) (r : Result U CnfFault) (old mid new : Cnf) (most : ℕ) (a b : InputTree) →
    AddsBlock (Ok x) old mid (tree_count most a) (tree_clauses most old.vars a) 3 → AddsBlock r mid new (tree_count most b) (tree_clauses most mid.vars b) 3 →
    AddsBlock r old new (tree_count most a + tree_count most b) (tree_clauses most old.vars a ++ tree_clauses most (old.vars + tree_count most a) b) 3
right_side x r old mid new most a b left right =
    block_after x r old mid new (tree_count most a) (tree_count most b) (tree_clauses most old.vars a) (tree_clauses most (old.vars + tree_count most a) b) 3
    left
    (subst (λ n. AddsBlock r mid new (tree_count most b) (tree_clauses most n b) 3) left.made right)

pub node_right_refused : {T U V : Type 0} (x : T) (r : Result U CnfFault) (s : Result V CnfFault) (old mid new : Cnf) (most : ℕ) (a b : InputTree) → IsErr s →
    (IsErrOf s Room → IsErrOf r Room) →
    AddsBlock (Ok x) old mid (tree_count most a) (tree_clauses most old.vars a) 3 → AddsBlock r mid new (tree_count most b) (tree_clauses most mid.vars b) 3 →
    AddsBlock s old new (tree_count most (Node a b)) (tree_clauses most old.vars (Node a b)) 3
node_right_refused x r s old mid new most a b err same left right =
    let xs = tree_clauses most old.vars a in
    let ys = tree_clauses most (old.vars + tree_count most a) b in
    block_refused r s old new (tree_count most a + tree_count most b) (min (tree_size most a + tree_size most b) most) (xs ++ ys)
    (join_clauses (node_join most old.vars a b)) 3 err same
    (right_side x r old mid new most a b left right)

-- the join is that of the node
module _ (most : ℕ) (a b : InputTree) (old mid new : Cnf) (left right : Part) (is_left : left ≡ tree_top most old.vars a)
    (is_right : right ≡ tree_top most mid.vars b) (made : mid.vars ≡ old.vars + tree_count most a) (more : new.vars ≡ mid.vars + tree_count most b) where
  size_is : min (part_size left + part_size right) most ≡ min (tree_size most a + tree_size most b) most
  size_is = let l = ap part_size is_left ∙ part_size-top most old.vars a in let r = ap part_size is_right ∙ part_size-top most mid.vars b in omega arith

  place_is : new.vars ≡ old.vars + (tree_count most a + tree_count most b)
  place_is = omega arith

  pub join_is : sides_join left right new.vars (min (part_size left + part_size right) most) ≡ node_join most old.vars a b
  join_is =
      ap (λ (p : Part). sides_join p right new.vars (min (part_size left + part_size right) most)) is_left
      ∙ ap (λ (p : Part). sides_join (tree_top most old.vars a) p new.vars (min (part_size left + part_size right) most))
      (is_right ∙ ap (λ n. tree_top most n b) made)
      ∙ ap (λ n. sides_join (tree_top most old.vars a) (tree_top most (old.vars + tree_count most a) b) n (min (part_size left + part_size right) most))
      place_is
      ∙ ap (λ n. sides_join (tree_top most old.vars a) (tree_top most (old.vars + tree_count most a) b) (old.vars + (tree_count most a + tree_count most b)) n)
      size_is

pub node_adds : {T U V : Type 0} (x : T) (y : U) (r : Result V CnfFault) (old mid late new : Cnf) (most : ℕ) (a b : InputTree) (left right : Part) →
    left ≡ tree_top most old.vars a → right ≡ tree_top most mid.vars b →
    AddsBlock (Ok x) old mid (tree_count most a) (tree_clauses most old.vars a) 3 →
    AddsBlock (Ok y) mid late (tree_count most b) (tree_clauses most mid.vars b) 3 →
    AddsBlock r late new (min (part_size left + part_size right) most) (join_clauses
    (sides_join left right late.vars (min (part_size left + part_size right) most))) 3 →
    AddsBlock r old new (tree_count most (Node a b)) (tree_clauses most old.vars (Node a b)) 3
node_adds x y r old mid late new most a b left right is_left is_right first second third =
    let join = join_is most a b old mid late left right is_left is_right first.made second.made in
    let size = size_is most a b old mid late left right is_left is_right first.made second.made in
    let xs = tree_clauses most old.vars a in
    let ys = tree_clauses most (old.vars + tree_count most a) b in
    let last : AddsBlock r late new (min (tree_size most a + tree_size most b) most) (join_clauses (node_join most old.vars a b)) 3 =
    subst (λ n. AddsBlock r late new n (join_clauses (node_join most old.vars a b)) 3) size
    (subst (λ (j : Join). AddsBlock r late new (min (part_size left + part_size right) most) (join_clauses j) 3) join third) in
    block_after y r old late new (tree_count most a + tree_count most b) (min (tree_size most a + tree_size most b) most) (xs ++ ys)
    (join_clauses (node_join most old.vars a b)) 3
    (right_side x (Ok y) old mid late most a b first second) last

pub node_top : (old mid late : Cnf) (most : ℕ) (a b : InputTree) (left right : Part) (p : Part) → left ≡ tree_top most old.vars a →
    right ≡ tree_top most mid.vars b → mid.vars ≡ old.vars + tree_count most a → late.vars ≡ mid.vars + tree_count most b →
    p ≡ Outputs (late.vars + 1) (min (part_size left + part_size right) most) → p ≡ tree_top most old.vars (Node a b)
node_top old mid late most a b left right p is_left is_right made more is =
    let size = size_is most a b old mid late left right is_left is_right made more in
    let place = place_is most a b old mid late left right is_left is_right made more in
    is ∙ ap (λ n. Outputs (n + 1) (min (part_size left + part_size right) most)) place
    ∙ ap (λ n. Outputs (old.vars + (tree_count most a + tree_count most b) + 1) n) size
