-- Bounds by sums: a variable is as a literal, the sum's variables tell a value, and the edges from west to east are all edges.
use Rattle.std.proofs.Common.{◌≡◌, ◌⊎◌, ℕ, zero, suc, ◌+◌, ◌-◌, ◌≤◌, ◌<◌, Bool, true, false, not, List, [], ◌∷◌, length, get_or, inl, inr, refl, sym, ◌∙◌, ap}
use Rattle.std.proofs.Common.{arith}
use Rattle.std.specs.Prelude.{nat_le, All}
use Rattle.std.specs.List.{sum_by, range_with_len, insert}
use Rattle.std.proofs.lemmas.List.Sums.{sum_by-cons}
use Rattle.std.proofs.lemmas.List.Sorted.{sum_by-IsPermutation, IsPermutation-insert, All-permutation, length_permutation}
use Rattle.std.proofs.lemmas.List.Elements.{All-nil, All-cons, All-weaker}
use Rattle.plan_core.specs.declared.point.Point.{Point}
use Rattle.plan_core.specs.Graph.{Graph}
use Rattle.cnf_core.specs.declared.literal.LitOrTruth.{LitOrTruth}
use Rattle.cnf_core.specs.Lit.{Literal, same_sign}
use Rattle.cnf_core.specs.Clause.{Clauses, AreThere, AllThere}
use Rattle.cnf_core.specs.Assignment.{Assignment, truth, SatisfiesAll, Extends}
use Rattle.cnf_core.specs.LitOrTruth.{yes, flip, value, SomeTrue, IsWithin, clause_of}
use Rattle.cnf_core.specs.Formula.{each}
use Rattle.cnf_core.proofs.ClauseLemmas.{satisfies_append, satisfies_left, satisfies_right, satisfies_each, satisfies_at, all_there_append, all_there_each}
use Rattle.cnf_core.proofs.GatherLemmas.{value-flip, flip_within, clause_says, clause_holds, clause_there}
use Rattle.cnf_core.proofs.SettingLemmas.{patch, patch_at, extends_weaker}
use Rattle.unary_sum.specs.Sum.{SumVars, sum_vars, sum_count, sum_clauses, count_true, tree_top, tree_of, sum_at_least as sum_at_least}
use Rattle.unary_sum.proofs.JoinLemmas.{at_within}
use Rattle.unary_sum.proofs.SumLemmas.{sum_means, sum_extends, sum_there, top_there, tree_there}
use Rattle.edge_shape.proofs.RunLemmas.{one_if}
use Rattle.drawing_cnf.specs.Bounds.{IsExact, same_as, sum_bound, not_east, first_edges, west_first}
use Rattle.cnf_laws.proofs.GuardLemmas.{Is}

-- a variable that is as a literal
same_case : (b t : Bool) → (not b ≡ true) ⊎ (t ≡ true) → (not t ≡ true) ⊎ (b ≡ true) → b ≡ t
same_case true true f g = refl
same_case false false f g = refl
same_case true false (inl f) g = cc
same_case true false (inr f) g = cc
same_case false true f (inl g) = cc
same_case false true f (inr g) = cc

pub either_of : (v : Assignment) (t u : LitOrTruth) → SatisfiesAll v (clause_of [] (t ∷ u ∷ [])) → Is (value v t) ⊎ Is (value v u)
either_of v t u h = elim (clause_says v [] (t ∷ u ∷ []) h) [ inl x ↦ absurd x | inr (inl a) ↦ inl a | inr (inr (inl a)) ↦ inr a | inr (inr (inr x)) ↦ absurd x ]

pub same_as_means : (v : Assignment) (b : ℕ) (t : LitOrTruth) → SatisfiesAll v (same_as b t) → v b ≡ value v t
same_as_means v b t h =
    let one = either_of v (flip (yes b)) t (satisfies_left v (clause_of [] (flip (yes b) ∷ t ∷ [])) (clause_of [] (flip t ∷ yes b ∷ [])) h) in
    let two = either_of v (flip t) (yes b) (satisfies_right v (clause_of [] (flip (yes b) ∷ t ∷ [])) (clause_of [] (flip t ∷ yes b ∷ [])) h) in
    same_case (v b) (value v t) one (elim two [ inl x ↦ inl (sym (value-flip v t) ∙ x) | inr x ↦ inr x ])

pub same_as_holds : (v : Assignment) (b : ℕ) (t : LitOrTruth) → v b ≡ value v t → SatisfiesAll v (same_as b t)
same_as_holds v b t e = cases (v b) refl
  where
    both : SomeTrue v (flip (yes b) ∷ t ∷ []) → SomeTrue v (flip t ∷ yes b ∷ []) → SatisfiesAll v (same_as b t)
    both x y = satisfies_append v (clause_of [] (flip (yes b) ∷ t ∷ [])) (clause_of [] (flip t ∷ yes b ∷ []))
        (clause_holds v [] (flip (yes b) ∷ t ∷ []) (inr x)) (clause_holds v [] (flip t ∷ yes b ∷ []) (inr y))

    cases : (c : Bool) → v b ≡ c → SatisfiesAll v (same_as b t)
    cases true s = both (inr (inl (sym e ∙ s))) (inr (inl s))
    cases false s = both (inl (ap not s)) (inl (value-flip v t ∙ ap not (sym e ∙ s)))

pub same_as_there : (vars b : ℕ) (t : LitOrTruth) → 1 ≤ b → b ≤ vars → IsWithin vars t → AllThere vars (same_as b t)
same_as_there vars b t from to w =
    all_there_append vars (clause_of [] (flip (yes b) ∷ t ∷ [])) (clause_of [] (flip t ∷ yes b ∷ []))
    (clause_there vars [] (flip (yes b) ∷ t ∷ []) tt ((from, to), (w, tt))) (clause_there vars [] (flip t ∷ yes b ∷ []) tt
    (flip_within vars t w, ((from, to), tt)))

-- a block of bound variables that tell the value
pub set_bound : (v : Assignment) (last cap n : ℕ) → IsExact (patch (last + 1) cap (λ k. nat_le (k + 1) n) v) last cap n
set_bound v last cap n k from to =
    let place : last + k ≡ last + 1 + (k - 1) = omega arith in
    let back : k - 1 + 1 ≡ k = omega arith in
    ap (patch (last + 1) cap (λ k. nat_le (k + 1) n) v) place ∙ patch_at (last + 1) cap (λ k. nat_le (k + 1) n) v (k - 1) (omega arith)
    ∙ ap (λ j. nat_le j n) back

-- A BOUND BY A SUM
abbrev pub bound_outputs : SumVars → ℕ → ℕ → Clauses
bound_outputs s last k = same_as (last + k) (sum_at_least s k)

pub sum_bound_means : (v : Assignment) (inputs : List Literal) (last cap vars : ℕ) → SatisfiesAll v (sum_bound (sum_vars inputs cap vars) last) →
    IsExact v last cap (count_true v inputs)
sum_bound_means v inputs last cap vars h k from to =
    let s = sum_vars inputs cap vars in
    let bounds = each (bound_outputs s last) 1 cap in
    same_as_means v (last + k) (sum_at_least s k) (satisfies_at v (bound_outputs s last) 1 cap (satisfies_right v (sum_clauses s) bounds h) k from
    (omega arith))
    ∙ sum_means v cap vars inputs (satisfies_left v (sum_clauses s) bounds h) k to

pub count_same : (v w : Assignment) (vars : ℕ) (ls : List Literal) → AreThere vars ls → ((y : ℕ) → y ≤ vars → w y ≡ v y) → count_true w ls ≡ count_true v ls
count_same v w vars [] there e = refl
count_same v w vars (l ∷ ls) there e =
    let one : one_if (truth w l) ≡ one_if (truth v l) = ap (λ (b : Bool). one_if (same_sign l.positive b)) (e l.var there.0.1) in
    omega (arith, one, count_same v w vars ls there.1 e)

-- the sum's variables can be set where the bound's variables are as it will say
pub sum_bound_extends : (v : Assignment) (inputs : List Literal) (last cap vars : ℕ) → AreThere vars inputs → last + cap ≤ vars →
    IsExact v last cap (count_true v inputs) → Extends (vars + 1) (sum_count (sum_vars inputs cap vars)) v
    (λ w. SatisfiesAll w (sum_bound (sum_vars inputs cap vars) last))
sum_bound_extends v inputs last cap vars there le exact =
    let s = sum_vars inputs cap vars in
    let bounds = each (bound_outputs s last) 1 cap in
    extends_weaker (vars + 1) (sum_count s) v (λ w. SatisfiesAll w (sum_clauses s)) (λ w. SatisfiesAll w (sum_bound s last))
    (λ w later h. satisfies_append w (sum_clauses s) bounds h (satisfies_each w (bound_outputs s last) 1 cap (λ k from to.
    same_as_holds w (last + k) (sum_at_least s k) (later.below (last + k) (omega arith) ∙ exact k from (omega arith)
    ∙ ap (nat_le k) (sym (count_same v w vars inputs there (λ y low. later.below y (omega arith)))) ∙ sym (sum_means w cap vars inputs h k (omega arith))))))
    (sum_extends v cap vars inputs there)

pub output_within : (inputs : List Literal) (most vars k : ℕ) → AreThere vars inputs →
    IsWithin (vars + sum_count (sum_vars inputs most vars)) (sum_at_least (sum_vars inputs most vars) k)
output_within inputs most vars k there =
    let t = tree_of (length inputs) inputs in
    at_within (vars + sum_count (sum_vars inputs most vars)) (tree_top most vars t) k (top_there most vars t (tree_there vars (length inputs) inputs there))

pub sum_bound_there : (inputs : List Literal) (last cap vars : ℕ) → AreThere vars inputs → last + cap ≤ vars →
    AllThere (vars + sum_count (sum_vars inputs cap vars)) (sum_bound (sum_vars inputs cap vars) last)
sum_bound_there inputs last cap vars there le =
    let s = sum_vars inputs cap vars in
    let all = vars + sum_count s in
    all_there_append all (sum_clauses s) (each (bound_outputs s last) 1 cap) (sum_there cap vars inputs there)
    (all_there_each all (bound_outputs s last) 1 cap (λ k from to. same_as_there all (last + k) (sum_at_least s k) (omega arith) (omega arith)
    (output_within inputs cap vars k there)))

-- ALL EDGES, FROM WEST TO EAST
pub record AreEdges (g : Graph) (edges : List ℕ) : Type 0 where
  pub there : All (λ e. e < length g.edges) edges
  pub sums : (f : ℕ → ℕ) → sum_by f edges ≡ sum_by f (range_with_len 0 (length g.edges))

range_next : (f : ℕ → ℕ) (a n : ℕ) → sum_by f (range_with_len a (suc n)) ≡ sum_by f (range_with_len a n) + f (a + n)
range_next f a zero =
    let one = sum_by-cons f a [] in
    let z : f (a + 0) ≡ f a = (let y : a + 0 ≡ a = omega arith in ap f y) in
    omega (arith, one, z)
range_next f a (suc n) =
    let one = sum_by-cons f a (range_with_len (a + 1) (suc n)) in
    let two = sum_by-cons f a (range_with_len (a + 1) n) in
    let z : f (a + 1 + n) ≡ f (a + suc n) = (let y : a + 1 + n ≡ a + suc n = omega arith in ap f y) in
    omega (arith, one, two, z, range_next f (a + 1) n)

first_sums : (g : Graph) (n : ℕ) (f : ℕ → ℕ) → sum_by f (first_edges g n) ≡ sum_by f (range_with_len 0 n)
first_sums g zero f = refl
first_sums g (suc n) f =
    let es = first_edges g n in
    let i = not_east g n es in
    let one = sum_by-IsPermutation f (n ∷ es) (insert es i n) (IsPermutation-insert es i n) in
    let two = sum_by-cons f n es in
    let z : f (0 + n) ≡ f n = (let y : 0 + n ≡ n = omega arith in ap f y) in
    omega (arith, one, two, z, range_next f 0 n, first_sums g n f)

pub first_there : (g : Graph) (n : ℕ) → All (λ e. e < n) (first_edges g n)
first_there g zero = All-nil (λ e. e < 0)
first_there g (suc n) =
    let es = first_edges g n in
    let i = not_east g n es in
    All-permutation (λ e. e < suc n) (n ∷ es) (insert es i n) (IsPermutation-insert es i n)
    (All-cons (λ e. e < suc n) n es (omega arith) (All-weaker (λ e. e < n) (λ e. e < suc n) (λ e lt. omega arith) es (first_there g n)))

pub all_edges : (g : Graph) → AreEdges g (west_first g)
all_edges g = record { there = first_there g (length g.edges); sums = first_sums g (length g.edges) }

-- a sum over edges by number is one over their lines
sum_places : (f : List Point → ℕ) (h : ℕ → ℕ) (lines : List (List Point)) (a : ℕ) → ((i : ℕ) → i < length lines → h (a + i) ≡ f (get_or lines i [])) →
    sum_by h (range_with_len a (length lines)) ≡ sum_by f lines
sum_places f h [] a e = refl
sum_places f h (l ∷ lines) a e =
    let z : h a ≡ h (a + 0) = (let y : a ≡ a + 0 = omega arith in ap h y) in
    let here : h a ≡ f l = z ∙ e 0 (omega arith) in
    let one = sum_by-cons h a (range_with_len (a + 1) (length lines)) in
    let two = sum_by-cons f l lines in
    let rest = sum_places f h lines (a + 1) (λ i lt. let s : h (a + 1 + i) ≡ h (a + suc i) = (let y : a + 1 + i ≡ a + suc i = omega arith in ap h y) in s
    ∙ e (suc i) (omega arith)) in
    omega (arith, here, one, two, rest)

pub sum_over_lines : (g : Graph) (f : List Point → ℕ) (lines : List (List Point)) (edges : List ℕ) → length lines ≡ length g.edges → AreEdges g edges →
    sum_by (λ e. f (get_or lines e [])) edges ≡ sum_by f lines
sum_over_lines g f lines edges same are =
    are.sums (λ e. f (get_or lines e []))
    ∙ ap (λ n. sum_by (λ e. f (get_or lines e [])) (range_with_len 0 n)) (sym same)
    ∙ sum_places f (λ e. f (get_or lines e [])) lines 0 (λ i lt. let y : 0 + i ≡ i = omega arith in ap (λ e. f (get_or lines e [])) y)

first_length : (g : Graph) (n : ℕ) → length (first_edges g n) ≡ n
first_length g zero = refl
first_length g (suc n) =
    let es = first_edges g n in
    let i = not_east g n es in
    omega (arith, length_permutation (n ∷ es) (insert es i n) (IsPermutation-insert es i n), first_length g n)

pub edges_length : (g : Graph) → length (west_first g) ≡ length g.edges
edges_length g = first_length g (length g.edges)
