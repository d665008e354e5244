-- How many Bound lines each criterion has in what is expected.
use Rattle.std.proofs.Common.{◌≡◌, ◌≢◌, ◌≤◌, ℕ, zero, suc, ◌+◌, Bool, true, false, cond, List, [], ◌∷◌, ◌++◌, length, map, refl, sym, ◌∙◌, ap, arith}
use Rattle.std.proofs.Common.{append-nil}
use Rattle.std.specs.Prelude.{All, flat_map}
use Rattle.std.proofs.lemmas.Grind.{flat_map-append}
use Rattle.std.proofs.lemmas.List.Elements.{All-head, All-tail}
use Rattle.plan_core.specs.declared.criterion.Criterion.{Criterion}
use Rattle.cnf_core.specs.declared.literal.Var.{Var}
use Rattle.cnf_core.specs.Clause.{Clauses}
use Rattle.refute_log.specs.declared.line.LogLine.TheVariants.{Formula, Learnt, Bound, Query, Refuted, Model}
use Rattle.refute_log.specs.Told.{Lines}
use Rattle.refute_log.specs.Log.{clause_lines}
use Rattle.refute_log.specs.Expected.{same_criterion, bound_var, bound_vars, bound_lines, caps, Problem, HasAllBounds, sum_lines, sum_vars_of, sums}
use Rattle.refute_log.specs.Expected.{expected_lines}
use Rattle.refute_log.proofs.ExpectedLemmas.{same_itself, same_tells}

pub bounds_same : (c : Criterion) (k : ℕ) (xs : List Var) → bound_vars c (bound_lines c k xs) ≡ xs
bounds_same c k [] = refl
bounds_same c k (x ∷ xs) = ap (λ b. cond b (x ∷ []) [] ++ bound_vars c (bound_lines c (k + 1) xs)) (same_itself c)
    ∙ ap (λ (ys : List Var). x ∷ ys) (bounds_same c (k + 1) xs)

pub bounds_other : (d c : Criterion) (k : ℕ) (xs : List Var) → same_criterion d c ≡ false → bound_vars d (bound_lines c k xs) ≡ []
bounds_other d c k [] f = refl
bounds_other d c k (x ∷ xs) f = ap (λ b. cond b (x ∷ []) [] ++ bound_vars d (bound_lines c (k + 1) xs)) f ∙ bounds_other d c (k + 1) xs f

pub formulas_none : (d : Criterion) (cs : Clauses) → bound_vars d (map Formula cs) ≡ []
formulas_none d [] = refl
formulas_none d (c ∷ cs) = formulas_none d cs

same_sum : (e : Problem) → HasAllBounds e → (first : ℕ) (c : Criterion) (n : ℕ) → length (bound_vars c (sum_lines e first c n)) ≡ n
same_sum e all first c zero = refl
same_sum e all first c (suc n) =
    ap length (flat_map-append (bound_var c) (map Formula (e.sum first c (suc n))) (bound_lines c 1 (e.bounds first c (suc n)))
    ∙ ap (λ (ys : List Var). ys ++ bound_vars c (bound_lines c 1 (e.bounds first c (suc n)))) (formulas_none c (e.sum first c (suc n)))
    ∙ bounds_same c 1 (e.bounds first c (suc n))) ∙ all first c (suc n)

other_sum : (e : Problem) (first : ℕ) (d c : Criterion) (n : ℕ) → same_criterion d c ≡ false → bound_vars d (sum_lines e first c n) ≡ []
other_sum e first d c zero f = refl
other_sum e first d c (suc n) f =
    flat_map-append (bound_var d) (map Formula (e.sum first c (suc n))) (bound_lines c 1 (e.bounds first c (suc n)))
    ∙ ap (λ (ys : List Var). ys ++ bound_vars d (bound_lines c 1 (e.bounds first c (suc n)))) (formulas_none d (e.sum first c (suc n)))
    ∙ bounds_other d c 1 (e.bounds first c (suc n)) f

pub differs : (d c : Criterion) → d ≢ c → same_criterion d c ≡ false
differs d c ne = by (same_criterion d c) refl
  where
    by : (b : Bool) → same_criterion d c ≡ b → b ≡ false
    by true e = absurd (ne (same_tells d c e))
    by false e = refl

pub sums_without : (e : Problem) (first : ℕ) (xs : List Criterion) (cap : Criterion → ℕ) (d : Criterion) → All (λ c. d ≢ c) xs →
    bound_vars d (sums e first xs cap) ≡ []
sums_without e first [] cap d out = refl
sums_without e first (c ∷ xs) cap d out =
    let next = first + sum_vars_of e first c (cap c) in
    flat_map-append (bound_var d) (sum_lines e first c (cap c)) (sums e next xs cap)
    ∙ ap (λ (ys : List Var). ys ++ bound_vars d (sums e next xs cap)) (other_sum e first d c (cap c) (differs d c (All-head (λ c. d ≢ c) c xs out)))
    ∙ sums_without e next xs cap d (All-tail (λ c. d ≢ c) c xs out)

pub sums_with : (e : Problem) → HasAllBounds e → (first : ℕ) (before rest : List Criterion) (cap : Criterion → ℕ) (d : Criterion) → All (λ c. d ≢ c) before →
    All (λ c. d ≢ c) rest →
    length (bound_vars d (sums e first (before ++ d ∷ rest) cap)) ≡ cap d
sums_with e all first [] rest cap d out behind =
    let next = first + sum_vars_of e first d (cap d) in
    ap length (flat_map-append (bound_var d) (sum_lines e first d (cap d)) (sums e next rest cap)
    ∙ ap (λ (ys : List Var). bound_vars d (sum_lines e first d (cap d)) ++ ys) (sums_without e next rest cap d behind)
    ∙ append-nil (bound_vars d (sum_lines e first d (cap d)))) ∙ same_sum e all first d (cap d)
sums_with e all first (c ∷ before) rest cap d out behind =
    let next = first + sum_vars_of e first c (cap c) in
    ap length (flat_map-append (bound_var d) (sum_lines e first c (cap c)) (sums e next (before ++ d ∷ rest) cap)
    ∙ ap (λ (ys : List Var). ys ++ bound_vars d (sums e next (before ++ d ∷ rest) cap))
    (other_sum e first d c (cap c) (differs d c (All-head (λ c. d ≢ c) c before out))))
    ∙ sums_with e all next before rest cap d (All-tail (λ c. d ≢ c) c before out) behind

pub bounds_of_clauses : (d : Criterion) (lines : Lines) → bound_vars d (clause_lines lines) ≡ bound_vars d lines
bounds_of_clauses d [] = refl
bounds_of_clauses d (Formula c ∷ lines) = bounds_of_clauses d lines
bounds_of_clauses d (Bound c k x ∷ lines) = ap (λ (ys : List Var). bound_var d (Bound c k x) ++ ys) (bounds_of_clauses d lines)
bounds_of_clauses d (Learnt c ∷ lines) = bounds_of_clauses d lines
bounds_of_clauses d (Query c ∷ lines) = bounds_of_clauses d lines
bounds_of_clauses d (Refuted c ∷ lines) = bounds_of_clauses d lines
bounds_of_clauses d (Model ∷ lines) = bounds_of_clauses d lines

-- lines whose clauses are what is expected for some caps have just these caps
pub caps_told : (e : Problem) → HasAllBounds e → (greatest cap : Criterion → ℕ) (before rest : List Criterion) (d : Criterion) (lines : Lines) →
    All (λ c. d ≢ c) before → All (λ c. d ≢ c) rest → cap d ≤ greatest d →
    clause_lines lines ≡ expected_lines e (before ++ d ∷ rest) cap → caps greatest lines d ≡ cap d
caps_told e all greatest cap before rest d lines out behind le told =
    let order = before ++ d ∷ rest in
    let count : length (bound_vars d lines) ≡ cap d =
    ap length (sym (bounds_of_clauses d lines) ∙ ap (flat_map (bound_var d)) told
    ∙ flat_map-append (bound_var d) (map Formula e.clauses) (sums e e.vars order cap)
    ∙ ap (λ (ys : List Var). ys ++ bound_vars d (sums e e.vars order cap)) (formulas_none d e.clauses))
    ∙ sums_with e all e.vars before rest cap d out behind in
    omega (arith, count, le)
