-- No room for one more criterion's lines, and what can be asked after there was.
use Rattle.std.proofs.Common.{◌≡◌, ◌≤◌, ◌<◌, ℕ, ◌+◌, ◌⊎◌, List, [], ◌++◌, refl, sym, ◌∙◌, ap, subst, inl, inr, arith, append-nil}
use Rattle.std.specs.Prelude.{flat_map}
use Rattle.std.proofs.lemmas.Grind.{flat_map-append}
use Rattle.plan_core.specs.declared.criterion.Criterion.{Criterion}
use Rattle.cnf_core.specs.declared.limits.TheConstants.{VARS}
use Rattle.cnf_core.specs.Clause.{Clauses, words_of}
use Rattle.cnf_core.proofs.ClauseLemmas.{words_append}
use Rattle.track_order.specs.Order.{is_above, is_overlap}
use Rattle.refute_log.specs.Told.{Lines}
use Rattle.refute_log.specs.Log.{given, learnt, clause_lines}
use Rattle.refute_log.proofs.LogLemmas.{words_of_log}
use Rattle.refute_log.specs.Expected.{sum_lines}
use Rattle.refute_log.proofs.MeetsLemmas.{given_of_clauses}
use Rattle.drawing_cnf.specs.Encoding.{Encoding}
use Rattle.drawing_cnf.specs.Expected.{drawing_vars}
use Rattle.drawing_cnf.specs.Bounded.{Bound, bound, clauses_of_bound, size_of_bound}
use Rattle.cdcl_core.specs.Kept.{Kept}
use Rattle.search_least.specs.declared.oracle.Built.TheVariants.{NoRoom}
use Rattle.search_least.specs.Built.{SumPasses, IsBuild}
use Rattle.drawing_cnf.specs.Lists.{drawing_problem}
use Rattle.drawing_cnf.specs.Layout.{Layout, layout_of}
use Rattle.lex_minimise.specs.Task.{task_of}
use Rattle.lex_minimise.specs.Known.{told_clauses, told_lines, KnowsLines, IsReady}
use Rattle.refute_log.specs.Steps.{GoesOn}
use Rattle.drawing_cnf.proofs.ListLemmas.{given_with, given_bound, sum_is_bound, sum_vars_is_size}
use Rattle.lex_minimise.proofs.QueryLemmas.{formula_told}

-- the clauses that are told, with the criterion's
given_then : (y : Layout) (budget room : ℕ) (told : List Bound) (k : Kept) (c : Criterion) (cap : ℕ) (lines : Lines) → 1 ≤ cap →
    clause_lines lines ≡ told_lines y told →
    flat_map given (clause_lines lines ++ sum_lines (drawing_problem y.graph (is_above y.order) (is_overlap y.order) y.grid) k.vars c cap)
    ≡ told_clauses y told ++ clauses_of_bound y.graph (drawing_vars y.graph y.grid) y.grid (bound c k.vars cap)
given_then y budget room told k c cap lines positive are =
    let p = drawing_problem y.graph (is_above y.order) (is_overlap y.order) y.grid in
    let x = drawing_vars y.graph y.grid in
    flat_map-append given (clause_lines lines) (sum_lines p k.vars c cap)
    ∙ ap (λ (cs : Clauses). cs ++ flat_map given (sum_lines p k.vars c cap)) (ap (flat_map given) are
    ∙ given_with y.graph (is_above y.order) (is_overlap y.order) y.grid told)
    ∙ ap (λ (cs : Clauses). told_clauses y told ++ cs) (ap (flat_map given) (sum_is_bound y.graph (is_above y.order) (is_overlap y.order) y.grid k.vars c cap
    positive) ∙ given_bound y.graph x y.grid (bound c k.vars cap))

-- the formula has no room for them, or more variables than there may be
pub formula_passes : (e : Encoding) (told : List Bound) (budget room : ℕ) (k : Kept) (c : Criterion) (cap : ℕ) (lines : Lines) → 1 ≤ cap →
    IsReady e told budget room k → KnowsLines (layout_of e) told budget room k lines →
    (VARS < e.formula.vars + size_of_bound e.graph (drawing_vars e.graph e.grid) e.grid (bound c e.formula.vars cap)) ⊎
    (e.formula.room < words_of (e.formula.clauses ++ clauses_of_bound e.graph (drawing_vars e.graph e.grid) e.grid (bound c e.formula.vars cap))) →
    SumPasses (task_of (layout_of e) budget room) k.vars c cap lines
formula_passes e told budget room k c cap lines positive ready known full =
    let g = e.graph in
    let x = drawing_vars e.graph e.grid in
    let P : ℕ → Type 0 = λ n. (VARS < n + size_of_bound g x e.grid (bound c n cap)) ⊎
    (e.formula.room < words_of (e.formula.clauses ++ clauses_of_bound g x e.grid (bound c n cap))) in
    by (subst P (sym ready.vars) full)
  where
    by : (VARS < k.vars + size_of_bound e.graph (drawing_vars e.graph e.grid) e.grid (bound c k.vars cap)) ⊎
        (e.formula.room < words_of (e.formula.clauses ++ clauses_of_bound e.graph (drawing_vars e.graph e.grid) e.grid (bound c k.vars cap))) →
        SumPasses (task_of (layout_of e) budget room) k.vars c cap lines
    by (inl h) = inl (subst (λ n. VARS < k.vars + n) (sym (sum_vars_is_size e.graph (is_above e.order) (is_overlap e.order) e.grid k.vars c cap positive)) h)
    by (inr h) =
        let x = drawing_vars e.graph e.grid in
        let words : words_of (e.formula.clauses ++ clauses_of_bound e.graph x e.grid (bound c k.vars cap)) ≡ words_of
        (flat_map given (clause_lines lines ++ sum_lines (drawing_problem e.graph (is_above e.order) (is_overlap e.order) e.grid) k.vars c cap)) =
        ap words_of (ap (λ (cs : Clauses). cs ++ clauses_of_bound e.graph x e.grid (bound c k.vars cap)) (formula_told e told budget room k ready)
        ∙ sym (given_then (layout_of e) budget room told k c cap lines positive known.told_are)) in
        let size = ready.formula_room in
        inr (omega (arith, h, words, size))

-- the solver has no room for them, beside what it has learnt
pub solver_passes : (e : Encoding) (told : List Bound) (budget room : ℕ) (k : Kept) (c : Criterion) (cap more : ℕ) (lines : Lines) → 1 ≤ cap →
    IsReady e told budget room k → KnowsLines (layout_of e) told budget room k lines →
    more ≡ words_of (clauses_of_bound e.graph (drawing_vars e.graph e.grid) e.grid (bound c k.vars cap)) → room < k.words + more →
    SumPasses (task_of (layout_of e) budget room) k.vars c cap lines
solver_passes e told budget room k c cap more lines positive ready known size passes =
    let y = layout_of e in
    let x = drawing_vars e.graph e.grid in
    let b = bound c k.vars cap in
    let so_far : flat_map given lines ≡ told_clauses y told = sym (given_of_clauses lines) ∙ ap (flat_map given) known.told_are
    ∙ given_with e.graph (is_above e.order) (is_overlap e.order) e.grid told in
    let words : k.words ≡ words_of (told_clauses y told) + words_of (flat_map learnt lines) = (known.belongs).words ∙ words_of_log lines
    ∙ ap (λ (cs : Clauses). words_of cs + words_of (flat_map learnt lines)) so_far in
    let all : words_of (flat_map given (clause_lines lines ++ sum_lines (drawing_problem e.graph (is_above e.order) (is_overlap e.order) e.grid) k.vars c cap))
    ≡ words_of (told_clauses y told) + words_of (clauses_of_bound e.graph x e.grid b) =
    ap words_of (given_then y budget room told k c cap lines positive known.told_are)
    ∙ words_append (told_clauses y told) (clauses_of_bound e.graph x e.grid b) in
    inr (omega (arith, words, all, size, passes))

-- nothing is told where it passes
pub none_goes : (e : Encoding) (told : List Bound) (budget room : ℕ) (k : Kept) (log : Lines → Type 0) (n : ℕ) (c : Criterion) (cap : ℕ) →
    ((lines : Lines) → KnowsLines (layout_of e) told budget room k lines → SumPasses (task_of (layout_of e) budget room) k.vars c cap lines) →
    GoesOn (KnowsLines (layout_of e) told budget room k) (KnowsLines (layout_of e) told budget room k) log log n n
    (λ lines more. IsBuild (task_of (layout_of e) budget room) k.vars c cap NoRoom lines more)
none_goes e told budget room k log n c cap passes = λ lines known. record {
  more = [];
  knows = subst (KnowsLines (layout_of e) told budget room k) (sym (append-nil lines)) known;
  told = λ ls t. subst log (sym (append-nil ls)) t;
  counted = refl;
  does = (refl, passes lines known);
}
