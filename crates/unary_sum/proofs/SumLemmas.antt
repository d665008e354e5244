-- What the clauses of a sum's tree say.
use Rattle.std.proofs.Common.{◌≡◌, ◌≢◌, ℕ, ◌+◌, ◌<◌, ◌≤◌, true, false, cond, zero, suc, List, [], ◌∷◌, ◌++◌, length, take, drop, refl, sym, ◌∙◌, ap, subst}
use Rattle.std.proofs.Common.{arith, length-drop, length-take}
use Rattle.std.specs.Prelude.{◌-◌, ◌/◌, nat_le, nat_lt, min}
use Rattle.std.proofs.lemmas.List.{take_all}
use Rattle.std.proofs.lemmas.Bool.Decides.{nat_tests}
use Rattle.cnf_core.specs.Lit.{Literal, same_sign}
use Rattle.cnf_core.specs.Clause.{AreThere, AllThere}
use Rattle.cnf_core.specs.Assignment.{Assignment, truth, SatisfiesAll, SameOutside, Extends}
use Rattle.cnf_core.proofs.ClauseLemmas.{satisfies_append, satisfies_left, satisfies_right, all_there_append, all_there_more}
use Rattle.cnf_core.proofs.SettingLemmas.{extends_clauses, same_none, patch, patch_same, patch_at, satisfies_before}
use Rattle.unary_sum.specs.declared.joins.Part.{Part}
use Rattle.unary_sum.specs.declared.joins.Part.TheVariants.{Input, Outputs}
use Rattle.unary_sum.specs.declared.joins.Join.{Join}
use Rattle.unary_sum.specs.Part.{part_size, PartIsThere, Counts, join_clauses}
use Rattle.unary_sum.specs.Sum.{count_true, InputTree, Empty, Leaf, Node, tree_of, tree_size, tree_count, tree_top, sides_join, tree_clauses}
use Rattle.unary_sum.proofs.JoinLemmas.{join_means, join_holds, join_there, outputs_count}

-- how many of a tree's inputs are true
abbrev pub tree_true : Assignment → InputTree → ℕ
tree_true v Empty = 0
tree_true v (Leaf l) = cond (truth v l) 1 0
tree_true v (Node a b) = tree_true v a + tree_true v b

-- the inputs are of the variables 1 to vars
abbrev pub TreeIsThere : ℕ → InputTree → Type 0
TreeIsThere vars Empty = Unit {0}
TreeIsThere vars (Leaf l) = (1 ≤ l.var) × (l.var ≤ vars)
TreeIsThere vars (Node a b) = TreeIsThere vars a × TreeIsThere vars b

pub tree_there_more : (m n : ℕ) (t : InputTree) → m ≤ n → TreeIsThere m t → TreeIsThere n t
tree_there_more m n Empty le h = tt
tree_there_more m n (Leaf l) le h = (h.0, omega (arith, h.1))
tree_there_more m n (Node a b) le h = (tree_there_more m n a le h.0, tree_there_more m n b le h.1)

-- the parts of a balanced tree
count_true_halves : (v : Assignment) (n : ℕ) (ls : List Literal) → count_true v (take n ls) + count_true v (drop n ls) ≡ count_true v ls
count_true_halves v zero ls = omega arith
count_true_halves v (suc n) [] = omega arith
count_true_halves v (suc n) (l ∷ ls) = omega (arith, count_true_halves v n ls)

pub there_take : (vars n : ℕ) (ls : List Literal) → AreThere vars ls → AreThere vars (take n ls)
there_take vars zero ls h = tt
there_take vars (suc n) [] h = tt
there_take vars (suc n) (l ∷ ls) h = (h.0, there_take vars n ls h.1)

pub there_drop : (vars n : ℕ) (ls : List Literal) → AreThere vars ls → AreThere vars (drop n ls)
there_drop vars zero ls h = h
there_drop vars (suc n) [] h = tt
there_drop vars (suc n) (l ∷ ls) h = there_drop vars n ls h.1

pub left_depth : (depth : ℕ) (ls : List Literal) → 2 ≤ length ls → length ls ≤ 1 + suc depth → length (take (length ls / 2) ls) ≤ 1 + depth
left_depth depth ls two h = omega (arith, length-take (length ls / 2) ls)

pub right_depth : (depth : ℕ) (ls : List Literal) → 2 ≤ length ls → length ls ≤ 1 + suc depth → length (drop (length ls / 2) ls) ≤ 1 + depth
right_depth depth ls two h = omega (arith, length-drop (length ls / 2) ls)

pub tree_true-of : (v : Assignment) (depth : ℕ) (ls : List Literal) → length ls ≤ 1 + depth → tree_true v (tree_of depth ls) ≡ count_true v ls
tree_true-of v depth [] h = refl
tree_true-of v depth (l ∷ []) h = omega arith
tree_true-of v zero (k ∷ l ∷ ls) h = absurd (omega arith)
tree_true-of v (suc depth) (k ∷ l ∷ ls) h =
    let all = k ∷ l ∷ ls in
    omega (
      arith,
      tree_true-of v depth (take (length all / 2) all) (left_depth depth all (omega arith) h),
      tree_true-of v depth (drop (length all / 2) all)
          (right_depth depth all (omega arith) h),
      count_true_halves v (length all / 2) all,
    )

pub tree_there : (vars depth : ℕ) (ls : List Literal) → AreThere vars ls → TreeIsThere vars (tree_of depth ls)
tree_there vars depth [] h = tt
tree_there vars depth (l ∷ []) h = h.0
tree_there vars zero (k ∷ l ∷ ls) h = tt
tree_there vars (suc depth) (k ∷ l ∷ ls) h =
    let all = k ∷ l ∷ ls in (
      tree_there vars depth (take (length all / 2) all) (there_take vars (length all / 2) all h),
      tree_there vars depth (drop (length all / 2) all)
          (there_drop vars (length all / 2) all h),
    )

-- sizes and places
pub part_size-top : (most vars : ℕ) (t : InputTree) → part_size (tree_top most vars t) ≡ tree_size most t
part_size-top most vars Empty = refl
part_size-top most vars (Leaf l) = refl
part_size-top most vars (Node a b) = refl

pub top_there : (most vars : ℕ) (t : InputTree) → TreeIsThere vars t → PartIsThere (vars + tree_count most t) (tree_top most vars t)
top_there most vars Empty h = (omega arith, omega arith)
top_there most vars (Leaf l) h = (h.0, omega (arith, h.1))
top_there most vars (Node a b) h = (omega arith, omega arith)

-- the join of a node
abbrev pub node_join : ℕ → ℕ → InputTree → InputTree → Join
node_join most vars a b = sides_join (tree_top most vars a) (tree_top most (vars + tree_count most a) b) (vars + (tree_count most a + tree_count most b))
    (min (tree_size most a + tree_size most b) most)

node_count : (most vars : ℕ) (a b : InputTree) → (node_join most vars a b).count ≡ min
    (part_size (node_join most vars a b).left + part_size (node_join most vars a b).right) most
node_count most vars a b = let x = part_size-top most vars a in let y = part_size-top most (vars + tree_count most a) b in omega arith

pub part_there_more : (m n : ℕ) (p : Part) → m ≤ n → PartIsThere m p → PartIsThere n p
part_there_more m n (Input l) le h = (h.0, omega (arith, h.1))
part_there_more m n (Outputs first count) le h = (h.0, omega (arith, h.1))

left_there : (most vars more : ℕ) (a b : InputTree) → TreeIsThere vars (Node a b) →
    PartIsThere (vars + (tree_count most a + tree_count most b) + more) (tree_top most vars a)
left_there most vars more a b h = part_there_more (vars + tree_count most a) (vars + (tree_count most a + tree_count most b) + more) (tree_top most vars a)
    (omega arith) (top_there most vars a h.0)

right_there : (most vars more : ℕ) (a b : InputTree) → TreeIsThere vars (Node a b) →
    PartIsThere (vars + (tree_count most a + tree_count most b) + more) (tree_top most (vars + tree_count most a) b)
right_there most vars more a b h = part_there_more (vars + tree_count most a + tree_count most b) (vars + (tree_count most a + tree_count most b) + more)
    (tree_top most (vars + tree_count most a) b) (omega arith) (top_there most (vars + tree_count most a) b
    (tree_there_more vars (vars + tree_count most a) b (omega arith) h.1))

-- the clauses make the top count the inputs
leaf_counts : (v : Assignment) (most vars : ℕ) (l : Literal) → Counts v most (tree_top most vars (Leaf l)) (tree_true v (Leaf l))
leaf_counts v most vars l zero le = sym (grind (arith, nat_tests))
leaf_counts v most vars l (suc zero) le = elim (truth v l) as (λ b. b ≡ nat_le 1 (cond b 1 0))
    [ true ↦ sym (grind (arith, nat_tests)) | false ↦ sym (grind (arith, nat_tests)) ]
leaf_counts v most vars l (suc (suc k)) le = elim (truth v l) as (λ b. false ≡ nat_le (suc (suc k)) (cond b 1 0))
    [ true ↦ sym (grind (arith, nat_tests)) | false ↦ sym (grind (arith, nat_tests)) ]

empty_counts : (v : Assignment) (most vars : ℕ) → Counts v most (tree_top most vars Empty) 0
empty_counts v most vars zero le = sym (grind (arith, nat_tests))
empty_counts v most vars (suc k) le = let t : nat_lt k 0 ≡ false = grind (arith, nat_tests) in rw t refl

pub tree_means : (v : Assignment) (most vars : ℕ) (t : InputTree) → SatisfiesAll v (tree_clauses most vars t) →
    Counts v most (tree_top most vars t) (tree_true v t)
tree_means v most vars Empty h = empty_counts v most vars
tree_means v most vars (Leaf l) h = leaf_counts v most vars l
tree_means v most vars (Node a b) h =
    let xs = tree_clauses most vars a in
    let ys = tree_clauses most (vars + tree_count most a) b in
    let m = node_join most vars a b in
    let both = satisfies_left v (xs ++ ys) (join_clauses m) h in
    join_means v most m (tree_true v a) (tree_true v b) (node_count most vars a b)
    (tree_means v most vars a (satisfies_left v xs ys both))
    (tree_means v most (vars + tree_count most a) b (satisfies_right v xs ys both))
    (satisfies_right v (xs ++ ys) (join_clauses m) h)

-- where the variables of the clauses lie
pub tree_clauses_there : (most vars : ℕ) (t : InputTree) → TreeIsThere vars t → AllThere (vars + tree_count most t) (tree_clauses most vars t)
tree_clauses_there most vars Empty h = tt
tree_clauses_there most vars (Leaf l) h = tt
tree_clauses_there most vars (Node a b) h =
    let xs = tree_clauses most vars a in
    let ys = tree_clauses most (vars + tree_count most a) b in
    let m = node_join most vars a b in
    let all = vars + tree_count most (Node a b) in
    all_there_append all (xs ++ ys) (join_clauses m)
    (all_there_append all xs ys
    (all_there_more (vars + tree_count most a) all xs (omega arith) (tree_clauses_there most vars a h.0))
    (all_there_more (vars + tree_count most a + tree_count most b) all ys (omega arith)
    (tree_clauses_there most (vars + tree_count most a) b (tree_there_more vars (vars + tree_count most a) b (omega arith) h.1))))
    (join_there all m
    (part_there_more (vars + (tree_count most a + tree_count most b) + 0) all m.left (omega arith) (left_there most vars 0 a b h))
    (part_there_more (vars + (tree_count most a + tree_count most b) + 0) all m.right (omega arith) (right_there most vars 0 a b h))
    (omega arith, omega arith))

-- the inputs count the same where their variables do
pub tree_true_same : (v w : Assignment) (vars : ℕ) (t : InputTree) → TreeIsThere vars t → ((x : ℕ) → x ≤ vars → w x ≡ v x) → tree_true w t ≡ tree_true v t
tree_true_same v w vars Empty there e = refl
tree_true_same v w vars (Leaf l) there e = ap (λ x. cond (same_sign l.positive x) 1 0) (e l.var there.1)
tree_true_same v w vars (Node a b) there e = let x = tree_true_same v w vars a there.0 e in let y = tree_true_same v w vars b there.1 e in omega arith

-- outputs of which as many are true as inputs satisfy the clauses of a node
pub node_holds : (w : Assignment) (most vars : ℕ) (a b : InputTree) → SatisfiesAll w (tree_clauses most vars a) →
    SatisfiesAll w (tree_clauses most (vars + tree_count most a) b) →
    ((k : ℕ) → k < min (tree_size most a + tree_size most b) most →
    w (vars + (tree_count most a + tree_count most b) + 1 + k) ≡ nat_lt k (tree_true w a + tree_true w b)) →
    SatisfiesAll w (tree_clauses most vars (Node a b))
node_holds w most vars a b ha hb set =
    let m = node_join most vars a b in
    let xs = tree_clauses most vars a in
    let ys = tree_clauses most (vars + tree_count most a) b in
    let ca = tree_means w most vars a ha in
    let cb = tree_means w most (vars + tree_count most a) b hb in
    satisfies_append w (xs ++ ys) (join_clauses m) (satisfies_append w xs ys ha hb)
    (join_holds w most m (tree_true w a) (tree_true w b) (omega arith) ca cb (outputs_count w most m (tree_true w a) (tree_true w b) (node_count most vars a b)
    ca cb set))

-- each assignment of the inputs extends to the variables of the tree
node_extends : (v : Assignment) (most vars : ℕ) (a b : InputTree) → TreeIsThere vars (Node a b) →
    SatisfiesAll v (tree_clauses most vars a ++ tree_clauses most (vars + tree_count most a) b) →
    Extends (vars + 1 + (tree_count most a + tree_count most b)) (min (tree_size most a + tree_size most b) most) v
    (λ w. SatisfiesAll w (join_clauses (node_join most vars a b)))
node_extends v most vars a b there h =
    let first = vars + 1 + (tree_count most a + tree_count most b) in
    let count = min (tree_size most a + tree_size most b) most in
    let f = λ (k : ℕ). nat_lt k (tree_true v a + tree_true v b) in
    let w = patch first count f v in
    let same = patch_same first count f v in
    let m = node_join most vars a b in
    let xs = tree_clauses most vars a in
    let ys = tree_clauses most (vars + tree_count most a) b in
    let stays : AllThere (vars + (tree_count most a + tree_count most b)) (xs ++ ys) =
    all_there_append (vars + (tree_count most a + tree_count most b)) xs ys
    (all_there_more (vars + tree_count most a) (vars + (tree_count most a + tree_count most b)) xs (omega arith) (tree_clauses_there most vars a there.0))
    (all_there_more (vars + tree_count most a + tree_count most b) (vars + (tree_count most a + tree_count most b)) ys (omega arith)
    (tree_clauses_there most (vars + tree_count most a) b (tree_there_more vars (vars + tree_count most a) b (omega arith) there.1))) in
    let both = satisfies_before first count (vars + (tree_count most a + tree_count most b)) v w (xs ++ ys) (omega arith) stays same h in
    let below : (x : ℕ) → x ≤ vars → w x ≡ v x = λ x le. same.below x (omega arith) in
    let ta = tree_true_same v w vars a there.0 below in
    let tb = tree_true_same v w vars b there.1 below in
    record {
      to = w;
      same = same;
      holds = satisfies_right w (xs ++ ys) (join_clauses m) (node_holds w most vars a b (satisfies_left w xs ys both) (satisfies_right w xs ys both)
          (λ k lt.
          let z : vars + (tree_count most a + tree_count most b) + 1 + k ≡ first + k = omega arith in
          let n : tree_true v a + tree_true v b ≡ tree_true w a + tree_true w b = omega arith in
          ap w z ∙ patch_at first count f v k lt ∙ ap (λ x. nat_lt k x) n));
    }

pub tree_extends : (v : Assignment) (most vars : ℕ) (t : InputTree) → TreeIsThere vars t →
    Extends (vars + 1) (tree_count most t) v (λ w. SatisfiesAll w (tree_clauses most vars t))
tree_extends v most vars Empty there = record { to = v; same = same_none (vars + 1) 0 v; holds = tt }
tree_extends v most vars (Leaf l) there = record { to = v; same = same_none (vars + 1) 0 v; holds = tt }
tree_extends v most vars (Node a b) there =
    let xs = tree_clauses most vars a in
    let ys = tree_clauses most (vars + tree_count most a) b in
    let m = node_join most vars a b in
    let count = min (tree_size most a + tree_size most b) most in
    let all = vars + (tree_count most a + tree_count most b) in
    let right_there : TreeIsThere (vars + tree_count most a) b = tree_there_more vars (vars + tree_count most a) b (omega arith) there.1 in
    let stays : AllThere all (xs ++ ys) =
    all_there_append all xs ys
    (all_there_more (vars + tree_count most a) all xs (omega arith) (tree_clauses_there most vars a there.0))
    (all_there_more (vars + tree_count most a + tree_count most b) all ys (omega arith) (tree_clauses_there most (vars + tree_count most a) b right_there)) in
    let next : vars + tree_count most a + 1 ≡ vars + 1 + tree_count most a = omega arith in
    extends_clauses (vars + 1) (tree_count most a + tree_count most b) count all v (xs ++ ys) (join_clauses m) (omega arith) stays
    (extends_clauses (vars + 1) (tree_count most a) (tree_count most b) (vars + tree_count most a) v xs ys (omega arith)
    (tree_clauses_there most vars a there.0) (tree_extends v most vars a there.0)
    (λ w same h. subst (λ p. Extends p (tree_count most b) w (λ u. SatisfiesAll u ys)) next (tree_extends w most (vars + tree_count most a) b right_there)))
    (λ w same h. node_extends w most vars a b there h)

pub drop_whole : (n : ℕ) (ls : List Literal) → take (length ls - n) (drop n ls) ≡ drop n ls
drop_whole n ls = take_all (length ls - n) (drop n ls) (omega (arith, length-drop n ls))

-- a tree over two inputs or more is a node over their halves, as slices of them
pub tree_of-node : (depth : ℕ) (ls : List Literal) → depth ≢ 0 → 1 < length ls →
    tree_of depth ls ≡ Node (tree_of (depth - 1) (take (length ls / 2) ls)) (tree_of (depth - 1) (take (length ls - length ls / 2) (drop (length ls / 2) ls)))
tree_of-node zero ls ne two = absurd (ne refl)
tree_of-node (suc depth) [] ne two = absurd (omega arith)
tree_of-node (suc depth) (l ∷ []) ne two = absurd (omega arith)
tree_of-node (suc depth) (k ∷ l ∷ ls) ne two =
    let z : suc depth - 1 ≡ depth = omega arith in
    let all = k ∷ l ∷ ls in
    let half = length all / 2 in
    ap (λ (rest : List Literal). Node (tree_of depth (take half all)) (tree_of depth rest)) (sym (drop_whole half all))
    ∙ ap (λ d. Node (tree_of d (take half all)) (tree_of d (take (length all - half) (drop half all)))) (sym z)

pub size_small : (most depth : ℕ) (ls : List Literal) → most ≤ 65535 → tree_size most (tree_of depth ls) ≤ 65535
size_small most depth [] h = omega arith
size_small most depth (l ∷ []) h = omega arith
size_small most zero (k ∷ l ∷ ls) h = omega arith
size_small most (suc depth) (k ∷ l ∷ ls) h = omega arith

-- the whole sum
pub sum_means : (v : Assignment) (most vars : ℕ) (ls : List Literal) → SatisfiesAll v (tree_clauses most vars (tree_of (length ls) ls)) →
    Counts v most (tree_top most vars (tree_of (length ls) ls)) (count_true v ls)
sum_means v most vars ls h = subst (Counts v most (tree_top most vars (tree_of (length ls) ls))) (tree_true-of v (length ls) ls (omega arith))
    (tree_means v most vars (tree_of (length ls) ls) h)

pub sum_extends : (v : Assignment) (most vars : ℕ) (ls : List Literal) → AreThere vars ls →
    Extends (vars + 1) (tree_count most (tree_of (length ls) ls)) v (λ w. SatisfiesAll w (tree_clauses most vars (tree_of (length ls) ls)))
sum_extends v most vars ls there = tree_extends v most vars (tree_of (length ls) ls) (tree_there vars (length ls) ls there)

pub sum_there : (most vars : ℕ) (ls : List Literal) → AreThere vars ls →
    AllThere (vars + tree_count most (tree_of (length ls) ls)) (tree_clauses most vars (tree_of (length ls) ls))
sum_there most vars ls there = tree_clauses_there most vars (tree_of (length ls) ls) (tree_there vars (length ls) ls there)

-- a node whose two sides are set, and then its outputs
pub node_put : (v left right w : Assignment) (most vars from last : ℕ) (a b : InputTree) → TreeIsThere vars (Node a b) → from ≡ vars + tree_count most a →
    last ≡ from + tree_count most b →
    SameOutside (vars + 1) (tree_count most a) v left → SatisfiesAll left (tree_clauses most vars a) →
    SameOutside (from + 1) (tree_count most b) left right → SatisfiesAll right (tree_clauses most from b) →
    SameOutside (last + 1) (min (tree_size most a + tree_size most b) most) right w →
    ((k : ℕ) → k < min (tree_size most a + tree_size most b) most → w (last + 1 + k) ≡ nat_lt k (tree_true right (Node a b))) →
    SameOutside (vars + 1) (tree_count most (Node a b)) v w × SatisfiesAll w (tree_clauses most vars (Node a b))
node_put v left right w most vars from last a b there is_from is_last same_left ha same_right hb same_out set =
    let count = min (tree_size most a + tree_size most b) most in
    let xs = tree_clauses most vars a in
    let ys = tree_clauses most (vars + tree_count most a) b in
    let next : TreeIsThere (vars + tree_count most a) b = tree_there_more vars (vars + tree_count most a) b (omega arith) there.1 in
    let hb' : SatisfiesAll right ys = subst (λ n. SatisfiesAll right (tree_clauses most n b)) is_from hb in
    let left_stays = satisfies_before (from + 1) (tree_count most b) (vars + tree_count most a) left right xs (omega arith)
    (tree_clauses_there most vars a there.0) same_right ha in
    let xs_hold = satisfies_before (last + 1) count (vars + tree_count most a) right w xs (omega arith) (tree_clauses_there most vars a there.0) same_out
    left_stays in
    let ys_hold = satisfies_before (last + 1) count (vars + tree_count most a + tree_count most b) right w ys (omega arith)
    (tree_clauses_there most (vars + tree_count most a) b next) same_out hb' in
    let below : (x : ℕ) → x ≤ vars → w x ≡ right x = λ x le. same_out.below x (omega arith) in
    let ta = tree_true_same right w vars a there.0 below in
    let tb = tree_true_same right w vars b there.1 below in (
      record {
        below = λ x lt. same_out.below x (omega arith) ∙ same_right.below x (omega arith) ∙ same_left.below x lt;
        above = λ x le. same_out.above x (omega arith) ∙ same_right.above x (omega arith) ∙ same_left.above x (omega arith);
      },
      node_holds w most vars a b xs_hold ys_hold (λ k lt.
          let z : vars + (tree_count most a + tree_count most b) + 1 + k ≡ last + 1 + k = omega arith in
          let n : tree_true right (Node a b) ≡ tree_true w a + tree_true w b = omega arith in
          ap w z ∙ set k lt ∙ ap (λ x. nat_lt k x) n),
    )
