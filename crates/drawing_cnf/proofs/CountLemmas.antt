-- What the clauses of all nodes say, and that each drawing extends to them.
use Rattle.std.proofs.Common.{◌≡◌, ℕ, zero, suc, ◌+◌, ◌<◌, ◌≤◌, Bool, true, false, cond, [], ◌∷◌, ◌++◌, length, refl, sym, ◌∙◌, ap, subst, arith}
use Rattle.std.specs.Prelude.{nat_le, nat_lt, Option, None, Some}
use Rattle.std.proofs.lemmas.Bool.Decides.{nat_tests}
use Rattle.plan_core.specs.declared.point.Point.{Point}
use Rattle.cnf_core.specs.LitOrTruth.{yes, flip, clause_of}
use Rattle.cnf_core.specs.Clause.{AllThere}
use Rattle.cnf_core.specs.Assignment.{Assignment, SatisfiesAll, Extends}
use Rattle.cnf_core.proofs.ClauseLemmas.{satisfies_left, satisfies_right, satisfies_at, satisfies_each, satisfies_all_same, all_there_append, all_there_each}
use Rattle.cnf_core.proofs.ClauseLemmas.{all_there_more}
use Rattle.cnf_core.proofs.GatherLemmas.{flip_within, clause_there}
use Rattle.cnf_core.proofs.SettingLemmas.{patch, patch_same, patch_at, same_none, place_rises, each_extends, extends_weaker, extends_both, extends_clauses}
use Rattle.order_int.specs.IntVars.{IntVars, IntIsThere}
use Rattle.order_int.specs.OrderInt.{int_at_least}
use Rattle.order_int.proofs.IntLemmas.{reads_same, at_least_within}
use Rattle.edge_shape.specs.EdgeVars.{NodeInts}
use Rattle.unary_sum.specs.Part.{block}
use Rattle.unary_sum.specs.Sum.{count_true, sum_count}
use Rattle.drawing_cnf.specs.Bounds.{IsExact, sum_bound}
use Rattle.drawing_cnf.proofs.BoundLemmas.{set_bound, sum_bound_means, sum_bound_extends}
use Rattle.cnf_laws.specs.Rank.{count_below, one_when}
use Rattle.drawing_cnf.specs.Moved.{Former, former_at, is_matched, is_moved, matched_before, matched, moved}
use Rattle.cnf_laws.specs.Stands.{ReadsPoint, NodeThere}
use Rattle.drawing_cnf.specs.MovedClauses.{kept_clause, unlike_clauses, moved_clauses, clauses_by, clauses_at, nodes_clauses, nodes_first, moved_sum}
use Rattle.drawing_cnf.specs.MovedClauses.{count_size, count_clauses, TellsMoved}
use Rattle.cnf_laws.proofs.ThereLemmas.{node_more}
use Rattle.drawing_cnf.proofs.NodeLemmas.{node_means, node_holds}
use Rattle.unary_sum.proofs.OutputLemmas.{block_there}
use Rattle.drawing_cnf.proofs.WithinLemmas.{kept_within}

-- ---- counts

one_more : (n : ℕ) → suc n ≡ n + 1
one_more n = omega arith

how_many_first : (p : ℕ → Bool) (n : ℕ) → count_below p (suc n) ≡ one_when (p 0) + count_below (λ k. p (suc k)) n
how_many_first p zero = omega arith
how_many_first p (suc n) = let h = how_many_first p n in omega (arith, h)

how_many_same : (p q : ℕ → Bool) (n : ℕ) → ((k : ℕ) → k < n → p k ≡ q k) → count_below p n ≡ count_below q n
how_many_same p q zero h = refl
how_many_same p q (suc n) h =
    let e : count_below p n ≡ count_below q n = how_many_same p q n (λ k lt. h k (omega (arith, lt))) in
    ap (λ m. m + one_when (p n)) e ∙ ap (λ b. count_below q n + one_when b) (h n (omega arith))

one_is : (b : Bool) → cond b 1 0 ≡ one_when b
one_is true = refl
one_is false = refl

block_count : (v : Assignment) (first n : ℕ) → count_true v (block first n) ≡ count_below (λ k. v (first + k)) n
block_count v first zero = refl
block_count v first (suc n) =
    let rest : count_true v (block (first + 1) n) ≡ count_below (λ k. v (first + suc k)) n =
    block_count v (first + 1) n ∙ how_many_same (λ k. v (first + 1 + k)) (λ k. v (first + suc k)) n (λ k lt. ap v (omega arith)) in
    let here : one_when (v first) ≡ one_when (v (first + 0)) = ap (λ x. one_when (v x)) (let e : first ≡ first + 0 = omega arith in e) in
    let all : count_below (λ k. v (first + k)) (suc n) ≡ one_when (v (first + 0)) + count_below (λ k. v (first + suc k)) n = how_many_first (λ k. v (first + k))
    n in
    omega (arith, one_is (v first), rest, here, all)

-- the variables of the first n nodes count those of them that moved
first_counted : (v : Assignment) (former : Former) (place : ℕ → Point) (first n : ℕ) →
    ((k : ℕ) (q : Point) → k < n → former_at former k ≡ Some q → v (first + matched_before former k) ≡ is_moved (Some q) (place k)) →
    count_below (λ k. v (first + k)) (matched_before former n) ≡ count_below (λ k. is_moved (former_at former k) (place k)) n
first_counted v former place first zero h = refl
first_counted v former place first (suc n) h =
    let before = first_counted v former place first n (λ k q lt e. h k q (omega (arith, lt)) e) in
    by (former_at former n) refl before
  where
    by : (f : Option Point) → former_at former n ≡ f →
        count_below (λ k. v (first + k)) (matched_before former n) ≡ count_below (λ k. is_moved (former_at former k) (place k)) n →
        count_below (λ k. v (first + k)) (matched_before former n + one_when (is_matched (former_at former n)))
        ≡ count_below (λ k. is_moved (former_at former k) (place k)) n + one_when (is_moved (former_at former n) (place n))
    by None e before =
        let none : matched_before former n + one_when (is_matched (former_at former n)) ≡ matched_before former n =
        ap (λ f. matched_before former n + one_when (is_matched f)) e ∙ (let z : matched_before former n + 0 ≡ matched_before former n = omega arith in z) in
        let same : one_when (is_moved (former_at former n) (place n)) ≡ 0 = ap (λ f. one_when (is_moved f (place n))) e in
        ap (count_below (λ k. v (first + k))) none ∙ before ∙ (let w = count_below (λ k. is_moved (former_at former k) (place k)) n in omega (arith, same))
    by (Some q) e before =
        let some : matched_before former n + one_when (is_matched (former_at former n)) ≡ suc (matched_before former n) =
        ap (λ f. matched_before former n + one_when (is_matched f)) e ∙ sym (one_more (matched_before former n)) in
        let here : v (first + matched_before former n) ≡ is_moved (Some q) (place n) = h n q (omega arith) e in
        let same : one_when (is_moved (former_at former n) (place n)) ≡ one_when (v (first + matched_before former n)) =
        ap (λ f. one_when (is_moved f (place n))) e ∙ ap (λ b. one_when b) (sym here) in
        ap (count_below (λ k. v (first + k))) some
        ∙ ap (λ x. x + one_when (v (first + matched_before former n))) before
        ∙ ap (λ x. count_below (λ k. is_moved (former_at former k) (place k)) n + x) (sym same)

by_means : (v : Assignment) (n : NodeInts) (p q : Point) (f : Option Point) (m : ℕ) → ReadsPoint v n p → f ≡ Some q → SatisfiesAll v (clauses_by f n m) →
    v m ≡ is_moved (Some q) p
by_means v n p q f m r e h = node_means v n q p m r (subst (λ (o : Option Point). SatisfiesAll v (clauses_by o n m)) e h)

nodes_counted : (v : Assignment) (x : ℕ → NodeInts) (former : Former) (place : ℕ → Point) (first : ℕ) →
    ((k : ℕ) → k < length former → ReadsPoint v (x k) (place k)) →
    SatisfiesAll v (nodes_clauses x former first) → count_true v (block first (matched former)) ≡ moved former place
nodes_counted v x former place first r h =
    block_count v first (matched former)
    ∙ first_counted v former place first (length former)
    (λ k q lt e. by_means v (x k) (place k) q (former_at former k) (first + matched_before former k) (r k lt) e
    (satisfies_at v (clauses_at x former first) 0 (length former) h k (omega arith) (omega (arith, lt))))

pub count_exact : (v : Assignment) (x : ℕ → NodeInts) (former : Former) (place : ℕ → Point) (vars : ℕ) →
    ((k : ℕ) → k < length former → ReadsPoint v (x k) (place k)) →
    SatisfiesAll v (count_clauses x former vars) → TellsMoved v former vars (moved former place)
count_exact v x former place vars r h j from to =
    let first = nodes_first former vars in
    let n = matched former in
    let nodes = nodes_clauses x former first in
    let bound = sum_bound (moved_sum former vars) vars in
    sum_bound_means v (block first n) vars n (vars + (n + n)) (satisfies_right v nodes bound h) j from to
    ∙ ap (nat_le j) (nodes_counted v x former place first r (satisfies_left v nodes bound h))

-- ---- the variables are there

unlike_there : (vars : ℕ) (i : IntVars) (k m : ℕ) → IntIsThere vars i → 1 ≤ m → m ≤ vars → AllThere vars (unlike_clauses i k m)
unlike_there vars i k m there from to =
    all_there_append vars (clause_of [] (int_at_least i k ∷ yes m ∷ [])) (clause_of [] (flip (int_at_least i (k + 1)) ∷ yes m ∷ []))
    (clause_there vars [] (int_at_least i k ∷ yes m ∷ []) tt (at_least_within vars i k there, ((from, to), tt)))
    (clause_there vars [] (flip (int_at_least i (k + 1)) ∷ yes m ∷ []) tt (
      flip_within vars (int_at_least i (k + 1)) (at_least_within vars i (k + 1) there),
      ((from, to), tt),
    ))

node_there : (vars : ℕ) (n : NodeInts) (q : Point) (m : ℕ) → NodeThere vars n → 1 ≤ m → m ≤ vars → AllThere vars (moved_clauses n q m)
node_there vars n q m there from to =
    let x = unlike_clauses n.x q.x m in
    let y = unlike_clauses n.y q.y m in
    all_there_append vars (kept_clause n q m) (x ++ y)
    (clause_there vars [] (flip (int_at_least n.x q.x) ∷ int_at_least n.x (q.x + 1) ∷ flip (int_at_least n.y q.y) ∷ int_at_least n.y (q.y + 1) ∷ flip (yes m)
    ∷ []) tt
    (kept_within vars n.x n.y q.x q.y m there.x there.y from to))
    (all_there_append vars x y (unlike_there vars n.x q.x m there.x from to) (unlike_there vars n.y q.y m there.y from to))

-- those of node k are before the next node's variable
by_there : (vars : ℕ) (f : Option Point) (n : NodeInts) (m last : ℕ) → NodeThere vars n → vars < m → m + one_when (is_matched f) ≤ last + 1 →
    AllThere last (clauses_by f n m)
by_there vars None n m last there low to = tt
by_there vars (Some q) n m last there low to = node_there last n q m (node_more vars last n (omega (arith, low, to)) there) (omega (arith, low))
    (omega (arith, to))

next_place : (former : Former) (first k : ℕ) → first + matched_before former (k + 1) ≡ first + matched_before former k + one_when
    (is_matched (former_at former k))
next_place former first k = ap (λ n. first + matched_before former n) (sym (one_more k))
    ∙ (let a = matched_before former k in let b = one_when (is_matched (former_at former k)) in let e : first + (a + b) ≡ first + a + b = omega arith in e)

pub matched_rises : (former : Former) (a b : ℕ) → a ≤ b → matched_before former a ≤ matched_before former b
matched_rises former a b le = let h = place_rises (λ k. 0 + matched_before former k) (λ k. one_when (is_matched (former_at former k))) (next_place former 0) a b
    le in omega (arith, h)

at_there : (vars : ℕ) (x : ℕ → NodeInts) (former : Former) (k : ℕ) → k < length former → NodeThere vars (x k) →
    AllThere (vars + matched_before former (k + 1)) (clauses_at x former (vars + 1) k)
at_there vars x former k lt there =
    by_there vars (former_at former k) (x k) (vars + 1 + matched_before former k) (vars + matched_before former (k + 1)) there (omega arith)
    (let e = next_place former (vars + 1) k in omega (arith, e))

pub nodes_there : (vars : ℕ) (x : ℕ → NodeInts) (former : Former) → ((k : ℕ) → k < length former → NodeThere vars (x k)) →
    AllThere (vars + matched former) (nodes_clauses x former (vars + 1))
nodes_there vars x former there = all_there_each (vars + matched former) (clauses_at x former (vars + 1)) 0 (length former)
    (λ k from to. all_there_more (vars + matched_before former (k + 1)) (vars + matched former) (clauses_at x former (vars + 1) k)
    (let h = matched_rises former (k + 1) (length former) (omega (arith, to)) in omega (arith, h))
    (at_there vars x former k (omega (arith, to)) (there k (omega (arith, to)))))

-- ---- each assignment that reads points extends

point_stays : (vars : ℕ) (v w : Assignment) (n : NodeInts) (p : Point) → NodeThere vars n → ((y : ℕ) → y < vars + 1 → w y ≡ v y) → ReadsPoint v n p →
    ReadsPoint w n p
point_stays vars v w n p there same r = record {
  x = reads_same v w n.x p.x (λ y from to. same y (let t = (there.x).to in omega (arith, to, t))) r.x;
  y = reads_same v w n.y p.y (λ y from to. same y (let t = (there.y).to in omega (arith, to, t))) r.y;
}

one_extends : (v : Assignment) (f : Option Point) (n : NodeInts) (p : Point) (m vars : ℕ) → NodeThere vars n → vars < m → ReadsPoint v n p →
    Extends m (one_when (is_matched f)) v (λ w. SatisfiesAll w (clauses_by f n m))
one_extends v None n p m vars there low r = record { to = v; same = same_none m 0 v; holds = tt }
one_extends v (Some q) n p m vars there low r =
    let b = is_moved (Some q) p in
    let w = patch m 1 (λ k. b) v in
    let same = patch_same m 1 (λ k. b) v in
    let set : w m ≡ b = ap w (let e : m ≡ m + 0 = omega arith in e) ∙ patch_at m 1 (λ k. b) v 0 (omega arith) in
    record { to = w; same = same; holds = node_holds w n q p m (point_stays vars v w n p there (λ y lt. same.below y (omega (arith, lt, low))) r) set }

nodes_extend : (v : Assignment) (x : ℕ → NodeInts) (former : Former) (place : ℕ → Point) (vars : ℕ) → ((k : ℕ) → k < length former → NodeThere vars (x k)) →
    ((k : ℕ) → k < length former → ReadsPoint v (x k) (place k)) →
    Extends (vars + 1) (matched former) v (λ w. SatisfiesAll w (nodes_clauses x former (vars + 1)))
nodes_extend v x former place vars there r =
    let at : ℕ → ℕ = λ k. vars + 1 + matched_before former k in
    let many : ℕ → ℕ = λ k. one_when (is_matched (former_at former k)) in
    let Before : Assignment → Type 0 = λ u. (k : ℕ) → k < length former → ReadsPoint u (x k) (place k) in
    let Q : ℕ → Assignment → Type 0 = λ k u. SatisfiesAll u (cond (nat_lt k (length former)) (clauses_at x former (vars + 1) k) []) in
    let start : vars + 1 + 0 ≡ vars + 1 = omega arith in
    let all : Extends (vars + 1 + 0) (matched former) v (λ w. (k : ℕ) → k < length former → Q k w) =
    each_extends at many (next_place former (vars + 1)) Before
    (λ u w same b k lt. point_stays vars u w (x k) (place k) (there k lt) (λ y low. same y (omega (arith, low))) (b k lt))
    Q (λ k u w same q. keeps k u w same q) (length former) (matched former) (omega arith)
    (λ k u lt b. extends_weaker (at k) (many k) u (λ w. SatisfiesAll w (clauses_at x former (vars + 1) k)) (Q k)
    (λ w s q. inside k lt w q)
    (one_extends u (former_at former k) (x k) (place k) (at k) vars (there k lt) (omega arith) (b k lt))) v r in
    subst (λ first. Extends first (matched former) v (λ w. SatisfiesAll w (nodes_clauses x former (vars + 1)))) start
    (extends_weaker (vars + 1 + 0) (matched former) v (λ w. (k : ℕ) → k < length former → Q k w) (λ w. SatisfiesAll w (nodes_clauses x former (vars + 1)))
    (λ w s q. satisfies_each w (clauses_at x former (vars + 1)) 0 (length former) (λ k from to. outside k (omega (arith, to)) w (q k (omega (arith, to))))) all)
  where
    inside : (k : ℕ) → k < length former → (w : Assignment) → SatisfiesAll w (clauses_at x former (vars + 1) k) →
        SatisfiesAll w (cond (nat_lt k (length former)) (clauses_at x former (vars + 1) k) [])
    inside k lt w q = subst (λ b. SatisfiesAll w (cond b (clauses_at x former (vars + 1) k) [])) (sym (below_true k (length former) lt)) q
      where
        below_true : (a b : ℕ) → a < b → nat_lt a b ≡ true
        below_true a b lt = grind (arith, nat_tests)

    outside : (k : ℕ) → k < length former → (w : Assignment) → SatisfiesAll w (cond (nat_lt k (length former)) (clauses_at x former (vars + 1) k) []) →
        SatisfiesAll w (clauses_at x former (vars + 1) k)
    outside k lt w q = subst (λ b. SatisfiesAll w (cond b (clauses_at x former (vars + 1) k) [])) (below_true k (length former) lt) q
      where
        below_true : (a b : ℕ) → a < b → nat_lt a b ≡ true
        below_true a b lt = grind (arith, nat_tests)

    keeps : (k : ℕ) (u w : Assignment) → ((y : ℕ) → y < vars + 1 + matched_before former (k + 1) → w y ≡ u y) →
        SatisfiesAll u (cond (nat_lt k (length former)) (clauses_at x former (vars + 1) k) []) →
        SatisfiesAll w (cond (nat_lt k (length former)) (clauses_at x former (vars + 1) k) [])
    keeps k u w same q = by (nat_lt k (length former)) refl q
      where
        lt_of : (a b : ℕ) → nat_lt a b ≡ true → a < b
        lt_of a b e = grind (arith, nat_tests, e)

        by : (b : Bool) → nat_lt k (length former) ≡ b → SatisfiesAll u (cond b (clauses_at x former (vars + 1) k) []) →
            SatisfiesAll w (cond b (clauses_at x former (vars + 1) k) [])
        by true e q =
            let lt = lt_of k (length former) e in
            satisfies_all_same u w (vars + matched_before former (k + 1)) (clauses_at x former (vars + 1) k) (at_there vars x former k lt (there k lt))
            (λ y le. same y (omega (arith, le))) q
        by false e q = tt

exact_stays : (v w : Assignment) (last cap n : ℕ) → ((y : ℕ) → y < last + 1 + cap → w y ≡ v y) → IsExact v last cap n → IsExact w last cap n
exact_stays v w last cap n same h k from to = same (last + k) (omega (arith, to)) ∙ h k from to

-- once the variables "at least j" are set: those of the nodes, and then those of the sum
nodes_and_sum : (v : Assignment) (x : ℕ → NodeInts) (former : Former) (place : ℕ → Point) (vars : ℕ) → ((k : ℕ) → k < length former → NodeThere vars (x k)) →
    ((k : ℕ) → k < length former → ReadsPoint v (x k) (place k)) →
    IsExact v vars (matched former) (moved former place) →
    Extends (vars + matched former + 1) (matched former + sum_count (moved_sum former vars)) v (λ w. SatisfiesAll w (count_clauses x former vars))
nodes_and_sum v x former place vars there r exact =
    let n = matched former in
    let mid = vars + n in
    let s = moved_sum former vars in
    let inside : (k : ℕ) → k < length former → NodeThere mid (x k) = (λ k lt. node_more vars mid (x k) (omega arith) (there k lt)) in
    let last : mid + 1 + n ≡ vars + (n + n) + 1 = omega arith in
    let all : mid + n ≡ vars + (n + n) = omega arith in
    extends_clauses (mid + 1) n (sum_count s) (mid + n) v (nodes_clauses x former (mid + 1)) (sum_bound s vars) (omega arith) (nodes_there mid x former inside)
    (nodes_extend v x former place mid inside r)
    (λ w same h. subst (λ first. Extends first (sum_count s) w (λ u. SatisfiesAll u (sum_bound s vars))) (sym last)
    (sum_bound_extends w (block (mid + 1) n) vars n (vars + (n + n)) (block_there (vars + (n + n)) (mid + 1) n (omega arith) (omega arith)) (omega arith)
    (let reads : (k : ℕ) → k < length former → ReadsPoint w (x k) (place k) = (λ k lt. point_stays vars v w (x k) (place k) (there k lt)
    (λ y low. same.below y (omega (arith, low))) (r k lt)) in
    let count : count_true w (block (mid + 1) n) ≡ moved former place = nodes_counted w x former place (mid + 1) reads h in
    subst (λ m. IsExact w vars n m) (sym count) (exact_stays v w vars n (moved former place) (λ y low. same.below y (omega (arith, low))) exact))))

pub count_extends : (v : Assignment) (x : ℕ → NodeInts) (former : Former) (place : ℕ → Point) (vars : ℕ) →
    ((k : ℕ) → k < length former → NodeThere vars (x k)) → ((k : ℕ) → k < length former → ReadsPoint v (x k) (place k)) →
    Extends (vars + 1) (count_size former vars) v (λ w. SatisfiesAll w (count_clauses x former vars))
count_extends v x former place vars there r =
    let n = matched former in
    let m = moved former place in
    let f : ℕ → Bool = λ k. nat_le (k + 1) m in
    let rest = n + sum_count (moved_sum former vars) in
    let size : n + rest ≡ count_size former vars = omega arith in
    let place_is : vars + n + 1 ≡ vars + 1 + n = omega arith in
    subst (λ total. Extends (vars + 1) total v (λ w. SatisfiesAll w (count_clauses x former vars))) size
    (extends_both (vars + 1) n rest v (λ u. IsExact u vars n m) (λ u. SatisfiesAll u (count_clauses x former vars))
    (record { to = patch (vars + 1) n f v; same = patch_same (vars + 1) n f v; holds = set_bound v vars n m })
    (λ u same exact. subst (λ first. Extends first rest u (λ w. SatisfiesAll w (count_clauses x former vars))) place_is
    (nodes_and_sum u x former place vars there (λ k lt. point_stays vars v u (x k) (place k) (there k lt) same.below (r k lt)) exact)))
