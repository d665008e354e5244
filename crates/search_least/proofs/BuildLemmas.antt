-- The clauses of one more criterion, and what holds at the next place.
use Rattle.std.proofs.Common.{◌≡◌, ◌≢◌, ℕ, zero, suc, ◌+◌, ◌<◌, ◌≤◌, ◌⊎◌, min, Bool, true, false, cond, List, [], ◌∷◌, ◌++◌, length, take, drop, get_or, map}
use Rattle.std.proofs.Common.{refl, sym, ◌∙◌, ap, subst, inl, inr, arith, append-nil, add-one}
use Rattle.std.specs.Prelude.{All, Contains, Some, None, slice_get, flat_map, fold, nat_lt}
use Rattle.std.proofs.Math.Seq.{take-suc, drop-cons}
use Rattle.std.proofs.lemmas.Grind.{fold-append}
use Rattle.std.proofs.lemmas.Bool.{ltb-false}
use Rattle.std.proofs.lemmas.List.{nil_from_length, take-append-drop, length-take, length-drop, get_or-take, get_or-drop}
use Rattle.std.proofs.lemmas.List.Elements.{All-nil, All-cons, All-append, All-map, All-push, All-weaker, All-contains, Contains-append_left}
use Rattle.std.proofs.lemmas.List.Elements.{Contains-append_cases, Contains-push}
use Rattle.std.proofs.lemmas.Option.{slice_get_within, get_or_from_slice_get, slice_get-get_or}
use Rattle.plan_core.specs.declared.criterion.Values.{Values}
use Rattle.plan_core.specs.declared.criterion.Criterion.{Criterion}
use Rattle.plan_core.specs.declared.criterion.Criterion.TheVariants.{Height}
use Rattle.plan_core.specs.Values.{values_of, value_of}
use Rattle.plan_core.specs.Drawing.{Drawing}
use Rattle.plan_core.specs.Order.{IsOrder}
use Rattle.cnf_core.specs.declared.literal.Var.{Var}
use Rattle.cnf_core.specs.declared.limits.TheConstants.{VARS}
use Rattle.cnf_core.specs.Lit.{Literal}
use Rattle.cnf_core.specs.Clause.{Clauses, words_of}
use Rattle.refute_log.specs.declared.line.LogLine.{LogLine}
use Rattle.refute_log.specs.declared.line.LogLine.TheVariants.{Formula, Bound, Refuted}
use Rattle.refute_log.specs.Told.{Lines}
use Rattle.refute_log.specs.Log.{given, learnt, clause_lines}
use Rattle.refute_log.specs.Certified.{Certifies}
use Rattle.refute_log.specs.Full.{CapsPass, AwaitsBounds, NextSumPasses}
use Rattle.refute_log.specs.Expected.{caps, same_criterion, bound_vars, Problem, sum_lines, bound_lines, sum_vars_of, expected_lines, expected_vars, with_cap}
use Rattle.refute_log.specs.Expected.{IsNextToCap}
use Rattle.refute_log.proofs.CertifiedLemmas.{certifies_more}
use Rattle.refute_log.proofs.ExpectedLemmas.{with_cap_other, expected_vars_next, expected_vars_same, expected_next, expected_same}
use Rattle.search_least.specs.declared.oracle.Below.{Below}
use Rattle.search_least.specs.Task.{Task, greatest_of}
use Rattle.search_least.specs.Asked.{below_limit, Queries, after_line, queries}
use Rattle.search_least.specs.Reached.{Reached, Holds}
use Rattle.search_least.specs.Built.{SumPasses}
use Rattle.search_least.specs.State.{hold, Counted, OnlyZeroSkipped}
use Rattle.search_least.proofs.QuestionLemmas.{met_later}
use Rattle.search_least.proofs.LowerLemmas.{answer_longer, zero_reached, at_place}
use Rattle.search_least.proofs.PlacedLemmas.{placed_built}
use Rattle.refute_log.proofs.StepLemmas.{clause_lines_append}

-- ---- the lines of a sum: clauses and bounds alone

bounds_no_refuted : (clause : List Literal) (c : Criterion) (k : ℕ) (xs : List Var) → All (λ l. l ≡ Refuted clause → ⊥) (bound_lines c k xs)
bounds_no_refuted clause c k [] = All-nil (λ (l : LogLine). l ≡ Refuted clause → ⊥)
bounds_no_refuted clause c k (x ∷ xs) = All-cons (λ (l : LogLine). l ≡ Refuted clause → ⊥) (Bound c k x) (bound_lines c (k + 1) xs) (λ e. cc)
    (bounds_no_refuted clause c (k + 1) xs)

sum_no_refuted : (clause : List Literal) (e : Problem) (first : ℕ) (c : Criterion) (n : ℕ) → All (λ l. l ≡ Refuted clause → ⊥) (sum_lines e first c n)
sum_no_refuted clause e first c zero = All-nil (λ (l : LogLine). l ≡ Refuted clause → ⊥)
sum_no_refuted clause e first c (suc n) = All-append (λ (l : LogLine). l ≡ Refuted clause → ⊥) (map Formula (e.sum first c (suc n)))
    (bound_lines c 1 (e.bounds first c (suc n)))
    (All-map (λ (l : LogLine). l ≡ Refuted clause → ⊥) Formula (e.sum first c (suc n)) (λ k d lt f. cc))
    (bounds_no_refuted clause c 1 (e.bounds first c (suc n)))

formulas_no_query : (q : Queries) (cs : Clauses) → fold after_line q (map Formula cs) ≡ q
formulas_no_query q [] = refl
formulas_no_query q (c ∷ cs) = formulas_no_query q cs

bounds_no_query : (q : Queries) (c : Criterion) (k : ℕ) (xs : List Var) → fold after_line q (bound_lines c k xs) ≡ q
bounds_no_query q c k [] = refl
bounds_no_query q c k (x ∷ xs) = bounds_no_query q c (k + 1) xs

sum_no_query : (q : Queries) (e : Problem) (first : ℕ) (c : Criterion) (n : ℕ) → fold after_line q (sum_lines e first c n) ≡ q
sum_no_query q e first c zero = refl
sum_no_query q e first c (suc n) =
    fold-append after_line q (map Formula (e.sum first c (suc n))) (bound_lines c 1 (e.bounds first c (suc n)))
    ∙ ap (λ (r : Queries). fold after_line r (bound_lines c 1 (e.bounds first c (suc n)))) (formulas_no_query q (e.sum first c (suc n)))
    ∙ bounds_no_query q c 1 (e.bounds first c (suc n))

pub formulas_are_clauses : (cs : Clauses) → clause_lines (map Formula cs) ≡ map Formula cs
formulas_are_clauses [] = refl
formulas_are_clauses (c ∷ cs) = ap (λ (ls : Lines). Formula c ∷ ls) (formulas_are_clauses cs)

pub bounds_are_clauses : (c : Criterion) (k : ℕ) (xs : List Var) → clause_lines (bound_lines c k xs) ≡ bound_lines c k xs
bounds_are_clauses c k [] = refl
bounds_are_clauses c k (x ∷ xs) = ap (λ (ls : Lines). Bound c k x ∷ ls) (bounds_are_clauses c (k + 1) xs)

pub sum_is_clauses : (e : Problem) (first : ℕ) (c : Criterion) (n : ℕ) → clause_lines (sum_lines e first c n) ≡ sum_lines e first c n
sum_is_clauses e first c zero = refl
sum_is_clauses e first c (suc n) =
    clause_lines_append (map Formula (e.sum first c (suc n))) (bound_lines c 1 (e.bounds first c (suc n)))
    ∙ ap (λ (ls : Lines). ls ++ clause_lines (bound_lines c 1 (e.bounds first c (suc n)))) (formulas_are_clauses (e.sum first c (suc n)))
    ∙ ap (λ (ls : Lines). map Formula (e.sum first c (suc n)) ++ ls) (bounds_are_clauses c 1 (e.bounds first c (suc n)))

pub reached_built : (p : Task) (order : List Criterion) (i : ℕ) (d : Drawing) (now : Lines) (e : Problem) (first : ℕ) (c : Criterion) (n : ℕ) →
    slice_get order i ≡ Some c → Reached p order i d now → Reached p order i d (now ++ sum_lines e first c n)
reached_built p order i d now e first c n at r =
    let more = sum_lines e first c n in
    let start : Queries = record { latest = None; modelled = None } in
    record {
      lawful = r.lawful;
      certified = certifies_more (greatest_of p) now more order (values_of d) i r.certified;
      met = met_later now more (values_of d) (ap (λ (q : Queries). q.modelled) (fold-append after_line start now more ∙ sum_no_query (queries now) e first c n))
          r.met;
      answered = λ clause there. answer_longer p now more order (values_of d) i clause (elim (Contains-append_cases now more (Refuted clause) there) [
        | inl h ↦ r.answered clause h
        | inr h ↦ absurd (All-contains (λ (l : LogLine). l ≡ Refuted clause → ⊥) more (Refuted clause) (sum_no_refuted clause e first c n) h refl)
      ]);
      placed = placed_built p order now e first c n (record {
        place = i;
        at = at;
        drawing = d;
        lawful = r.lawful;
        met = r.met;
        certified = r.certified;
      }) r.placed;
    }

-- ---- places of an order

pub places_apart : (order : List Criterion) (i j : ℕ) (c d : Criterion) → IsOrder order → i < j → slice_get order i ≡ Some c → slice_get order j ≡ Some d →
    c ≢ d
places_apart order i j c d is lt at there = λ same.
    let low = slice_get_within order j d there in
    is.each_once i j c lt low (get_or_from_slice_get order i c c at ∙ same ∙ sym (get_or_from_slice_get order j d c there))

pub cut : (order : List Criterion) (i : ℕ) (c : Criterion) → slice_get order i ≡ Some c → order ≡ take i order ++ c ∷ drop (suc i) order
cut order i c at =
    let low = slice_get_within order i c at in
    sym (take-append-drop i order) ∙ ap (λ (r : List Criterion). take i order ++ r)
    (drop-cons order i c low ∙ ap (λ (d : Criterion). d ∷ drop (suc i) order) (get_or_from_slice_get order i c c at))

pub take_next : (order : List Criterion) (i : ℕ) (c : Criterion) → slice_get order i ≡ Some c → take (i + 1) order ≡ take i order ++ c ∷ []
take_next order i c at =
    let low = slice_get_within order i c at in
    ap (λ n. take n order) (add-one i) ∙ take-suc order i c low ∙ ap (λ (d : Criterion). take i order ++ d ∷ []) (get_or_from_slice_get order i c c at)

all_before : (order : List Criterion) (i : ℕ) (P : Criterion → Type 0) → ((k : ℕ) (d : Criterion) → k < i → slice_get order k ≡ Some d → P d) →
    All P (take i order)
all_before order i P h = λ k d lt.
    let size = length-take i order in
    let low : k < length order = omega (arith, size, lt) in
    let less : k < i = omega (arith, size, lt) in
    subst P (sym (get_or-take i order k d less)) (h k (get_or order k d) less (slice_get-get_or order k d low))

all_behind : (order : List Criterion) (i : ℕ) (P : Criterion → Type 0) → ((k : ℕ) (d : Criterion) → i ≤ k → slice_get order k ≡ Some d → P d) →
    All P (drop i order)
all_behind order i P h = λ k d lt.
    let size = length-drop i order in
    let low : i + k < length order = omega (arith, size, lt) in
    subst P (sym (get_or-drop i order k d)) (h (i + k) (get_or order (i + k) d) (omega arith) (slice_get-get_or order (i + k) d low))

pub is_next : (p : Task) (order : List Criterion) (i : ℕ) (c : Criterion) (cap : Criterion → ℕ) (vars : ℕ) → IsOrder order → slice_get order i ≡ Some c →
    Counted p order i cap vars → IsNextToCap (take i order) c (drop (suc i) order) cap
is_next p order i c cap vars is at k = record {
  not_before = all_before order i (λ d. c ≢ d) (λ j d lt there. λ same. places_apart order j i d c is lt there at (sym same));
  not_behind = all_behind order (suc i) (λ d. c ≢ d) (λ j d le there. places_apart order i j c d is (omega arith) at there);
  none = k.unbuilt i c (omega arith) at;
  none_behind = all_behind order (suc i) (λ d. cap d ≡ 0) (λ j d le there. k.unbuilt j d (omega arith) there);
}

-- ---- what is expected_lines with it

pub expected_built : (p : Task) (order : List Criterion) (i : ℕ) (c : Criterion) (n : ℕ) (cap : Criterion → ℕ) (vars : ℕ) → IsOrder order →
    slice_get order i ≡ Some c → Counted p order i cap vars →
    expected_lines p.encoding order (with_cap cap c n) ≡ expected_lines p.encoding order cap ++ sum_lines p.encoding vars c n
expected_built p order i c n cap vars is at k =
    let e = p.encoding in
    let P : List Criterion → Type 0 = λ o. expected_lines e o (with_cap cap c n) ≡ expected_lines e o cap ++ sum_lines e (expected_vars e o cap) c n in
    let h : P order = subst P (sym (cut order i c at)) (expected_next e (take i order) (drop (suc i) order) c n cap (is_next p order i c cap vars is at k)) in
    h ∙ ap (λ m. expected_lines e order cap ++ sum_lines e m c n) (sym k.vars_are)

pub vars_built : (p : Task) (order : List Criterion) (i : ℕ) (c : Criterion) (n : ℕ) (cap : Criterion → ℕ) (vars : ℕ) → IsOrder order →
    slice_get order i ≡ Some c → Counted p order i cap vars →
    expected_vars p.encoding order (with_cap cap c n) ≡ vars + sum_vars_of p.encoding vars c n
vars_built p order i c n cap vars is at k =
    let e = p.encoding in
    let P : List Criterion → Type 0 = λ o. expected_vars e o (with_cap cap c n) ≡ expected_vars e o cap + sum_vars_of e (expected_vars e o cap) c n in
    let h : P order = subst P (sym (cut order i c at)) (expected_vars_next e (take i order) (drop (suc i) order) c n cap
    (is_next p order i c cap vars is at k)) in
    h ∙ ap (λ m. m + sum_vars_of e m c n) (sym k.vars_are)

pub counted_built : (p : Task) (order : List Criterion) (i : ℕ) (c : Criterion) (n : ℕ) (cap : Criterion → ℕ) (vars : ℕ) → IsOrder order →
    slice_get order i ≡ Some c → Counted p order i cap vars →
    Counted p order (i + 1) (with_cap cap c n) (vars + sum_vars_of p.encoding vars c n)
counted_built p order i c n cap vars is at k = record {
  unbuilt = λ j d le there. with_cap_other cap c n d (places_apart order i j c d is (omega arith) at there) ∙ k.unbuilt j d (omega arith) there;
  vars_are = sym (vars_built p order i c n cap vars is at k);
}

-- as many variables as before, with the same caps
pub vars_same : (p : Task) (order : List Criterion) (cap now : Criterion → ℕ) (vars many : ℕ) → now ≡ cap → many ≡ vars →
    vars ≡ expected_vars p.encoding order cap → many ≡ expected_vars p.encoding order now
vars_same p order cap now vars many same is were = is ∙ were ∙ ap (expected_vars p.encoding order) (sym same)

pub told_built : (p : Task) (order : List Criterion) (i : ℕ) (c : Criterion) (n : ℕ) (cap : Criterion → ℕ) (vars : ℕ) (now : Lines) → IsOrder order →
    slice_get order i ≡ Some c → Counted p order i cap vars →
    clause_lines now ≡ expected_lines p.encoding order cap → clause_lines (now ++ sum_lines p.encoding vars c n) ≡ expected_lines p.encoding order
    (with_cap cap c n)
told_built p order i c n cap vars now is at k told =
    clause_lines_append now (sum_lines p.encoding vars c n)
    ∙ ap (λ (ls : Lines). ls ++ clause_lines (sum_lines p.encoding vars c n)) told
    ∙ ap (λ (ls : Lines). expected_lines p.encoding order cap ++ ls) (sum_is_clauses p.encoding vars c n)
    ∙ sym (expected_built p order i c n cap vars is at k)

-- ---- no room for it

no_vars : (p : Task) (now : Lines) (c : Criterion) (cap : Criterion → ℕ) → caps (greatest_of p) now c ≡ cap c → 1 ≤ greatest_of p c → cap c ≡ 0 →
    bound_vars c now ≡ []
no_vars p now c cap same positive none = nil_from_length (bound_vars c now) (let g = greatest_of p c in let e : min (length (bound_vars c now)) g ≡ 0 = same
    ∙ none in omega (arith, e, positive))

-- a criterion before place i has bounds, or can only be 0
awaits_no_more : (p : Task) (order : List Criterion) (i j : ℕ) (d : Criterion) (now : Lines) (cap : Criterion → ℕ) → j < i → slice_get order j ≡ Some d →
    caps (greatest_of p) now d ≡ cap d → OnlyZeroSkipped p order i cap → AwaitsBounds (greatest_of p) now d → ⊥
awaits_no_more p order i j d now cap lt there same skipped awaits =
    let none : cap d ≡ 0 = sym same ∙ (let e : length (bound_vars d now) ≡ 0 = ap length awaits.none in let g = greatest_of p d in let h : min
    (length (bound_vars d now)) g ≡ 0 = omega (arith, e) in h) in
    let only : greatest_of p d ≡ 0 = at_place order i j d (λ e. cap e ≡ 0 → greatest_of p e ≡ 0) lt there skipped none in
    let positive = awaits.positive in
    omega (arith, only, positive)

-- so the next criterion's bounds pass, and it stands at place i
pub next_passes : (p : Task) (order : List Criterion) (i : ℕ) (c : Criterion) (n : ℕ) (cap : Criterion → ℕ) (vars : ℕ) (now : Lines) (v : Values) →
    IsOrder order → slice_get order i ≡ Some c → Counted p order i cap vars →
    clause_lines now ≡ expected_lines p.encoding order cap → ((d : Criterion) → caps (greatest_of p) now d ≡ cap d) →
    n ≡ min (value_of v c + 1) (greatest_of p c) → 1 ≤ greatest_of p c →
    OnlyZeroSkipped p order i cap → Certifies (greatest_of p) now order v i → SumPasses p vars c n now →
    (next : NextSumPasses p.encoding (greatest_of p) order now v p.room) × (next.next.place ≡ i)
next_passes p order i c n cap vars now v is at k told same size positive skipped cert passes =
    let e = p.encoding in
    let with_same : (d : Criterion) → with_cap cap c n d ≡ with_cap (caps (greatest_of p) now) c (min (value_of v c + 1) (greatest_of p c)) d =
    (λ d. ap (λ m. cond (same_criterion c d) m (cap d)) size ∙ ap (λ m. cond (same_criterion c d) (min (value_of v c + 1) (greatest_of p c)) m)
    (sym (same d))) in
    let vars_with : vars + sum_vars_of e vars c n ≡ expected_vars e order (with_cap (caps (greatest_of p) now) c (min (value_of v c + 1) (greatest_of p c))) =
    sym (vars_built p order i c n cap vars is at k) ∙ expected_vars_same e order (with_cap cap c n)
    (with_cap (caps (greatest_of p) now) c (min (value_of v c + 1) (greatest_of p c))) with_same in
    let lines_with : clause_lines now ++ sum_lines e vars c n ≡ expected_lines e order
    (with_cap (caps (greatest_of p) now) c (min (value_of v c + 1) (greatest_of p c))) =
    ap (λ (ls : Lines). ls ++ sum_lines e vars c n) told ∙ sym (expected_built p order i c n cap vars is at k)
    ∙ expected_same e order (with_cap cap c n) (with_cap (caps (greatest_of p) now) c (min (value_of v c + 1) (greatest_of p c))) with_same in (
      record {
        criterion = c;
        next = record {
          place = i;
          at = at;
          awaits = record { none = no_vars p now c cap (same c) positive (k.unbuilt i c (omega arith) at); positive = positive };
          first = λ j d lt there awaits. awaits_no_more p order i j d now cap lt there (same d) skipped awaits;
          certified = cert;
        };
        passes = by passes vars_with lines_with;
      },
      refl,
    )
  where
    by : SumPasses p vars c n now →
        vars + sum_vars_of p.encoding vars c n ≡ expected_vars p.encoding order (with_cap (caps (greatest_of p) now) c
        (min (value_of v c + 1) (greatest_of p c))) →
        clause_lines now ++ sum_lines p.encoding vars c n ≡ expected_lines p.encoding order
        (with_cap (caps (greatest_of p) now) c (min (value_of v c + 1) (greatest_of p c))) →
        CapsPass p.encoding order now p.room (with_cap (caps (greatest_of p) now) c (min (value_of v c + 1) (greatest_of p c)))
    by (inl h) f g = inl (subst (λ m. VARS < m) f h)
    by (inr h) f g = inr (subst (λ (ls : Lines). p.room < words_of (flat_map given ls) + words_of (flat_map learnt now)) g h)

-- ---- values of 0, and the bound that holds a least value

pub reached_zeros : (p : Task) (order : List Criterion) (i n : ℕ) (d : Drawing) (now : Lines) → i + n ≤ length order →
    ((k : ℕ) (c : Criterion) → i ≤ k → k < i + n → slice_get order k ≡ Some c → value_of (values_of d) c ≡ 0) → Reached p order i d now →
    Reached p order (i + n) d now
reached_zeros p order i zero d now le zeros r = subst (λ m. Reached p order m d now) (let h : i ≡ i + 0 = omega arith in h) r
reached_zeros p order i (suc n) d now le zeros r =
    let low : i + n < length order = omega arith in
    let c : Criterion = get_or order (i + n) Height in
    let at : slice_get order (i + n) ≡ Some c = slice_get-get_or order (i + n) Height low in
    let before = reached_zeros p order i n d now (omega arith) (λ k c from to there. zeros k c from (omega arith) there) r in
    subst (λ m. Reached p order m d now) (let h : (i + n) + 1 ≡ i + suc n = omega arith in h)
    (zero_reached p order (i + n) c d now at (zeros (i + n) c (omega arith) (omega arith) at) before)

holds_all : (p : Task) (order : List Criterion) (i : ℕ) (held more : List Below) (c : Criterion) (v : Values) → slice_get order i ≡ Some c →
    (Contains (held ++ more) (below_limit c (value_of v c + 1)) ⊎ (greatest_of p c ≤ value_of v c)) → Holds p order i held v →
    All (λ c. Contains (held ++ more) (below_limit c (value_of v c + 1)) ⊎ (greatest_of p c ≤ value_of v c)) (take (i + 1) order)
holds_all p order i held more c v at here h =
    let P : Criterion → Type 0 = λ c. Contains (held ++ more) (below_limit c (value_of v c + 1)) ⊎ (greatest_of p c ≤ value_of v c) in
    subst (All P) (sym (take_next order i c at)) (All-push P (take i order) c (All-weaker
    (λ c. Contains held (below_limit c (value_of v c + 1)) ⊎ (greatest_of p c ≤ value_of v c)) P wider (take i order) h.all) here)
  where
    wider : (c : Criterion) → Contains held (below_limit c (value_of v c + 1)) ⊎ (greatest_of p c ≤ value_of v c) →
        Contains (held ++ more) (below_limit c (value_of v c + 1)) ⊎ (greatest_of p c ≤ value_of v c)
    wider c (inl k) = inl (Contains-append_left held more (below_limit c (value_of v c + 1)) k)
    wider c (inr k) = inr k

holds_each : (p : Task) (order : List Criterion) (i : ℕ) (held : List Below) (c : Criterion) (v : Values) → slice_get order i ≡ Some c →
    Holds p order i held v → All (λ b. Contains (take (i + 1) order) b.criterion × (b.limit ≡ value_of v b.criterion + 1)) held
holds_each p order i held c v at h = All-weaker (λ b. Contains (take i order) b.criterion × (b.limit ≡ value_of v b.criterion + 1))
    (λ b. Contains (take (i + 1) order) b.criterion × (b.limit ≡ value_of v b.criterion + 1))
    (λ b k. (
      subst (λ (cs : List Criterion). Contains cs b.criterion) (sym (take_next order i c at))
          (Contains-append_left (take i order) (c ∷ []) b.criterion k.0),
      k.1,
    )) held h.each

pub holds_next : (p : Task) (order : List Criterion) (i : ℕ) (held : List Below) (c : Criterion) (cap u : ℕ) (v : Values) → slice_get order i ≡ Some c →
    cap ≡ min (u + 1) (greatest_of p c) → value_of v c ≤ u →
    Holds p order i held v → Holds p order (i + 1) (held ++ hold c (value_of v c) cap) v
holds_next p order i held c cap u v at size le h = by (nat_lt (value_of v c) cap) refl
  where
    by : (t : Bool) → nat_lt (value_of v c) cap ≡ t → Holds p order (i + 1) (held ++ cond t (below_limit c (value_of v c + 1) ∷ []) []) v
    by true e = record {
      each = All-push (λ b. Contains (take (i + 1) order) b.criterion × (b.limit ≡ value_of v b.criterion + 1)) held (below_limit c (value_of v c + 1))
          (holds_each p order i held c v at h)
          (subst (λ (cs : List Criterion). Contains cs c) (sym (take_next order i c at)) (Contains-push (take i order) c), refl);
      all = holds_all p order i held (below_limit c (value_of v c + 1) ∷ []) c v at (inl (Contains-push held (below_limit c (value_of v c + 1)))) h;
    }
    by false e =
        let over : cap ≤ value_of v c = ltb-false (value_of v c) cap e in
        record {
          each = subst (All (λ b. Contains (take (i + 1) order) b.criterion × (b.limit ≡ value_of v b.criterion + 1))) (sym (append-nil held))
              (holds_each p order i held c v at h);
          all = holds_all p order i held [] c v at (inr (omega (arith, over, size, le))) h;
        }
