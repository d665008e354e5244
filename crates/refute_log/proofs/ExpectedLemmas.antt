-- What is expected with a cap for one more criterion, the last that has one.
use Rattle.std.proofs.Common.{◌≡◌, ◌≢◌, ℕ, ◌+◌, Bool, true, false, cond, List, [], ◌∷◌, ◌++◌, map, refl, sym, ◌∙◌, ap, arith, append-nil, append_assoc}
use Rattle.std.specs.Prelude.{All}
use Rattle.std.proofs.lemmas.List.Elements.{All-cons, All-head, All-tail}
use Rattle.plan_core.specs.declared.criterion.Criterion.{Criterion}
use Rattle.plan_core.specs.declared.criterion.Criterion.TheVariants.{Height, Bends, Diagonal, Width}
use Rattle.refute_log.specs.declared.line.LogLine.TheVariants.{Formula}
use Rattle.refute_log.specs.Told.{Lines}
use Rattle.refute_log.specs.Expected.{same_criterion, Problem, sum_lines, sum_vars_of, sums, vars_after, expected_lines, expected_vars, with_cap, IsNextToCap}

pub same_itself : (c : Criterion) → same_criterion c c ≡ true
same_itself Height = refl
same_itself Bends = refl
same_itself Diagonal = refl
same_itself Width = refl

pub same_tells : (c d : Criterion) → same_criterion c d ≡ true → c ≡ d
same_tells Height Height e = refl
same_tells Height Bends e = absurd (cc)
same_tells Height Diagonal e = absurd (cc)
same_tells Height Width e = absurd (cc)
same_tells Bends Height e = absurd (cc)
same_tells Bends Bends e = refl
same_tells Bends Diagonal e = absurd (cc)
same_tells Bends Width e = absurd (cc)
same_tells Diagonal Height e = absurd (cc)
same_tells Diagonal Bends e = absurd (cc)
same_tells Diagonal Diagonal e = refl
same_tells Diagonal Width e = absurd (cc)
same_tells Width Height e = absurd (cc)
same_tells Width Bends e = absurd (cc)
same_tells Width Diagonal e = absurd (cc)
same_tells Width Width e = refl

pub with_cap_here : (cap : Criterion → ℕ) (c : Criterion) (n : ℕ) → with_cap cap c n c ≡ n
with_cap_here cap c n = ap (λ b. cond b n (cap c)) (same_itself c)

pub with_cap_other : (cap : Criterion → ℕ) (c : Criterion) (n : ℕ) (d : Criterion) → c ≢ d → with_cap cap c n d ≡ cap d
with_cap_other cap c n d ne = by (same_criterion c d) refl
  where
    by : (b : Bool) → same_criterion c d ≡ b → with_cap cap c n d ≡ cap d
    by true e = absurd (ne (same_tells c d e))
    by false e = ap (λ b. cond b n (cap d)) e

sums_zero : (e : Problem) (first : ℕ) (xs : List Criterion) (cap : Criterion → ℕ) → All (λ c. cap c ≡ 0) xs → sums e first xs cap ≡ []
sums_zero e first [] cap z = refl
sums_zero e first (c ∷ xs) cap z =
    ap (λ n. sum_lines e first c n ++ sums e (first + sum_vars_of e first c (cap c)) xs cap) (All-head (λ c. cap c ≡ 0) c xs z)
    ∙ sums_zero e (first + sum_vars_of e first c (cap c)) xs cap (All-tail (λ c. cap c ≡ 0) c xs z)

vars_zero : (e : Problem) (first : ℕ) (xs : List Criterion) (cap : Criterion → ℕ) → All (λ c. cap c ≡ 0) xs → vars_after e first xs cap ≡ first
vars_zero e first [] cap z = refl
vars_zero e first (c ∷ xs) cap z =
    vars_zero e (first + sum_vars_of e first c (cap c)) xs cap (All-tail (λ c. cap c ≡ 0) c xs z)
    ∙ ap (λ n. first + sum_vars_of e first c n) (All-head (λ c. cap c ≡ 0) c xs z) ∙ (let h : first + 0 ≡ first = omega arith in h)

zero_behind : (c : Criterion) (n : ℕ) (rest : List Criterion) (cap : Criterion → ℕ) → All (λ d. c ≢ d) rest → All (λ d. cap d ≡ 0) rest →
    All (λ d. with_cap cap c n d ≡ 0) rest
zero_behind c n rest cap ne z = λ k d lt. with_cap_other cap c n _ (ne k d lt) ∙ z k d lt

sums_next : (e : Problem) (first : ℕ) (before rest : List Criterion) (c : Criterion) (n : ℕ) (cap : Criterion → ℕ) → IsNextToCap before c rest cap →
    sums e first (before ++ c ∷ rest) (with_cap cap c n) ≡ sums e first (before ++ c ∷ rest) cap ++ sum_lines e (vars_after e first (before ++ c ∷ rest) cap) c
    n
sums_next e first [] rest c n cap h =
    let w = with_cap cap c n in
    let zeros : All (λ d. cap d ≡ 0) (c ∷ rest) = All-cons (λ d. cap d ≡ 0) c rest h.none h.none_behind in
    let left : sums e first (c ∷ rest) w ≡ sum_lines e first c n =
    ap (λ m. sum_lines e first c m ++ sums e (first + sum_vars_of e first c (w c)) rest w) (with_cap_here cap c n)
    ∙ ap (λ (ls : Lines). sum_lines e first c n ++ ls) (sums_zero e (first + sum_vars_of e first c (w c)) rest w
    (zero_behind c n rest cap h.not_behind h.none_behind))
    ∙ append-nil (sum_lines e first c n) in
    left ∙ sym (ap (λ m. sum_lines e m c n) (vars_zero e first (c ∷ rest) cap zeros))
    ∙ sym (ap (λ (ls : Lines). ls ++ sum_lines e (vars_after e first (c ∷ rest) cap) c n) (sums_zero e first (c ∷ rest) cap zeros))
sums_next e first (d ∷ before) rest c n cap h =
    let w = with_cap cap c n in
    let same : w d ≡ cap d = with_cap_other cap c n d (All-head (λ d. c ≢ d) d before h.not_before) in
    let further : IsNextToCap before c rest cap = record {
      not_before = All-tail (λ d. c ≢ d) d before h.not_before;
      not_behind = h.not_behind;
      none = h.none;
      none_behind = h.none_behind;
    } in
    let next = first + sum_vars_of e first d (cap d) in
    ap (λ m. sum_lines e first d m ++ sums e (first + sum_vars_of e first d m) (before ++ c ∷ rest) w) same
    ∙ ap (λ (ls : Lines). sum_lines e first d (cap d) ++ ls) (sums_next e next before rest c n cap further)
    ∙ sym (append_assoc (sum_lines e first d (cap d)) (sums e next (before ++ c ∷ rest) cap) (sum_lines e (vars_after e next (before ++ c ∷ rest) cap) c n))

vars_next : (e : Problem) (first : ℕ) (before rest : List Criterion) (c : Criterion) (n : ℕ) (cap : Criterion → ℕ) → IsNextToCap before c rest cap →
    vars_after e first (before ++ c ∷ rest) (with_cap cap c n) ≡ vars_after e first (before ++ c ∷ rest) cap + sum_vars_of e
    (vars_after e first (before ++ c ∷ rest) cap) c n
vars_next e first [] rest c n cap h =
    let w = with_cap cap c n in
    let zeros : All (λ d. cap d ≡ 0) (c ∷ rest) = All-cons (λ d. cap d ≡ 0) c rest h.none h.none_behind in
    vars_zero e (first + sum_vars_of e first c (w c)) rest w (zero_behind c n rest cap h.not_behind h.none_behind)
    ∙ ap (λ m. first + sum_vars_of e first c m) (with_cap_here cap c n)
    ∙ sym (ap (λ m. m + sum_vars_of e m c n) (vars_zero e first (c ∷ rest) cap zeros))
vars_next e first (d ∷ before) rest c n cap h =
    let w = with_cap cap c n in
    let same : w d ≡ cap d = with_cap_other cap c n d (All-head (λ d. c ≢ d) d before h.not_before) in
    let further : IsNextToCap before c rest cap = record {
      not_before = All-tail (λ d. c ≢ d) d before h.not_before;
      not_behind = h.not_behind;
      none = h.none;
      none_behind = h.none_behind;
    } in
    ap (λ m. vars_after e (first + sum_vars_of e first d m) (before ++ c ∷ rest) w) same
    ∙ vars_next e (first + sum_vars_of e first d (cap d)) before rest c n cap further

pub expected_next : (e : Problem) (before rest : List Criterion) (c : Criterion) (n : ℕ) (cap : Criterion → ℕ) → IsNextToCap before c rest cap →
    expected_lines e (before ++ c ∷ rest) (with_cap cap c n) ≡ expected_lines e (before ++ c ∷ rest) cap ++ sum_lines e
    (vars_after e e.vars (before ++ c ∷ rest) cap) c n
expected_next e before rest c n cap h =
    let order = before ++ c ∷ rest in
    ap (λ (ls : Lines). map Formula e.clauses ++ ls) (sums_next e e.vars before rest c n cap h)
    ∙ sym (append_assoc (map Formula e.clauses) (sums e e.vars order cap) (sum_lines e (vars_after e e.vars order cap) c n))

pub expected_vars_next : (e : Problem) (before rest : List Criterion) (c : Criterion) (n : ℕ) (cap : Criterion → ℕ) → IsNextToCap before c rest cap →
    expected_vars e (before ++ c ∷ rest) (with_cap cap c n) ≡ expected_vars e (before ++ c ∷ rest) cap + sum_vars_of e
    (expected_vars e (before ++ c ∷ rest) cap) c n
expected_vars_next e before rest c n cap h = vars_next e e.vars before rest c n cap h

-- ---- without caps, and for caps that are the same

pub expected_none : (e : Problem) (order : List Criterion) (cap : Criterion → ℕ) → All (λ c. cap c ≡ 0) order →
    expected_lines e order cap ≡ map Formula e.clauses
expected_none e order cap z = ap (λ (ls : Lines). map Formula e.clauses ++ ls) (sums_zero e e.vars order cap z) ∙ append-nil (map Formula e.clauses)

pub expected_vars_none : (e : Problem) (order : List Criterion) (cap : Criterion → ℕ) → All (λ c. cap c ≡ 0) order → expected_vars e order cap ≡ e.vars
expected_vars_none e order cap z = vars_zero e e.vars order cap z

sums_same : (e : Problem) (first : ℕ) (xs : List Criterion) (f h : Criterion → ℕ) → ((c : Criterion) → f c ≡ h c) → sums e first xs f ≡ sums e first xs h
sums_same e first [] f h same = refl
sums_same e first (c ∷ xs) f h same =
    ap (λ n. sum_lines e first c n ++ sums e (first + sum_vars_of e first c n) xs f) (same c)
    ∙ ap (λ (ls : Lines). sum_lines e first c (h c) ++ ls) (sums_same e (first + sum_vars_of e first c (h c)) xs f h same)

vars_same : (e : Problem) (first : ℕ) (xs : List Criterion) (f h : Criterion → ℕ) → ((c : Criterion) → f c ≡ h c) →
    vars_after e first xs f ≡ vars_after e first xs h
vars_same e first [] f h same = refl
vars_same e first (c ∷ xs) f h same = ap (λ n. vars_after e (first + sum_vars_of e first c n) xs f) (same c)
    ∙ vars_same e (first + sum_vars_of e first c (h c)) xs f h same

pub expected_same : (e : Problem) (order : List Criterion) (f h : Criterion → ℕ) → ((c : Criterion) → f c ≡ h c) →
    expected_lines e order f ≡ expected_lines e order h
expected_same e order f h same = ap (λ (ls : Lines). map Formula e.clauses ++ ls) (sums_same e e.vars order f h same)

pub expected_vars_same : (e : Problem) (order : List Criterion) (f h : Criterion → ℕ) → ((c : Criterion) → f c ≡ h c) →
    expected_vars e order f ≡ expected_vars e order h
expected_vars_same e order f h same = vars_same e e.vars order f h same
