-- Runs of questions on one criterion, from the drawing at its beginning.
use Rattle.std.proofs.Common.{◌≡◌, ℕ, ◌+◌, ◌<◌, ◌≤◌, ◌⊎◌, List, [], ◌∷◌, ◌++◌, refl, sym, ◌∙◌, ap, subst, inl, inr, arith, append-nil, append_assoc}
use Rattle.std.specs.Prelude.{All, Some, None, slice_get}
use Rattle.std.proofs.lemmas.List.Elements.{All-push, All-contains, Contains-push}
use Rattle.std.proofs.lemmas.Option.{same_Some}
use Rattle.plan_core.specs.declared.criterion.Criterion.{Criterion}
use Rattle.plan_core.specs.Values.{values_of, value_of}
use Rattle.plan_core.proofs.LimitLemmas.{value-le-limit}
use Rattle.plan_core.specs.Drawing.{Drawing}
use Rattle.refute_log.specs.declared.line.LogLine.TheVariants.{Refuted as RefutedLine, Model}
use Rattle.refute_log.specs.Told.{Lines}
use Rattle.refute_log.specs.Log.{Derives}
use Rattle.refute_log.specs.Bounds.{CoversDrawings}
use Rattle.search_least.specs.declared.oracle.Below.{Below}
use Rattle.search_least.specs.declared.oracle.Reply.{Reply}
use Rattle.search_least.specs.declared.oracle.Reply.TheVariants.{Found, Refuted, Stopped}
use Rattle.refute_log.specs.declared.stop.Stop.{Stop}
use Rattle.search_least.specs.Task.{Task, IsLawful}
use Rattle.refute_log.specs.Steps.{Continues}
use Rattle.refute_log.specs.Cause.{IsCause}
use Rattle.search_least.specs.Asked.{below_limit, AreOnce, AreMet, IsAsked, IsReply, IsRightReply, IsWithinCap}
use Rattle.search_least.specs.Reached.{Reached, HasSameValues, Run, RunTo}
use Rattle.refute_log.proofs.StepLemmas.{stays, goes_on, becomes}
use Rattle.search_least.proofs.QuestionLemmas.{no_clauses_both, asks_no_clauses}
use Rattle.search_least.proofs.LowerLemmas.{found_same, found_reached, stopped_reached, refuted_reached, zero_reached, holds_same, same_then, same_back}

pub run_none : {S : Type 0} (knows log : S → Lines → Type 0) (count : S → ℕ) (s : S) (p : Task) (order : List Criterion) (i : ℕ) (held : List Below)
    (d : Drawing) →
    Continues knows log count s s (Run p order i held d d)
run_none knows log count s p order i held d = stays knows log count s (Run p order i held d d)
    (λ lines k. (refl, λ r h. ((λ n x lt. refl), subst (Reached p order i d) (sym (append-nil lines)) r)))

-- the facts that a call's lines are known by
pub record Laws {S : Type 0} (knows : S → Lines → Type 0) (s : S) (p : Task) : Type 0 where
  pub covers : (lines : Lines) → knows s lines → CoversDrawings p.graph p.above p.grid lines
  pub derives : (lines : Lines) → knows s lines → Derives lines

pub run_found : {S : Type 0} (knows log : S → Lines → Type 0) (count : S → ℕ) (a b e : S) (p : Task) (order : List Criterion) (i : ℕ) (held : List Below)
    (c : Criterion) (u : ℕ) (first d found : Drawing) (bounds : List Below) (reply : Reply) →
    Laws knows b p → AreOnce bounds → bounds ≡ held ++ below_limit c u ∷ [] → reply ≡ Found found → IsRightReply p bounds reply →
    Continues knows log count a b (Run p order i held first d) → Continues knows log count b e (λ lines more. IsReply p lines bounds reply more) →
    Continues knows log count a e (Run p order i held first found)
run_found knows log count a b e p order i held c u first d found bounds reply laws once is was fact run asked =
    let got : IsLawful p found × AreMet (values_of found) bounds = subst (IsRightReply p bounds) was fact in
    goes_on knows log count a b e (Run p order i held first d) (λ lines more. IsReply p lines bounds reply more) (Run p order i held first found) run asked
    (λ lines xs ys ka kb ke so_far answer.
    let now = lines ++ xs in
    let question : IsAsked now bounds (Model ∷ []) ys = subst (λ r. IsReply p now bounds r ys) was answer in (
      no_clauses_both xs ys so_far.0 (asks_no_clauses now bounds (Model ∷ []) ys question refl),
      λ reached holds.
          let before = so_far.1 reached holds in
          let same : HasSameValues order i (values_of first) (values_of found) = found_same p order i held (below_limit c u) first d found now
          (laws.covers now kb) (laws.derives now kb) (value-le-limit p.graph p.above p.grid found got.0) got.0
          (subst (AreMet (values_of found)) is got.1) holds before.0 before.1.certified in (
            same,
            subst (Reached p order i found) (append_assoc lines xs ys)
                (found_reached p order i bounds d found now ys before.1 once got.0 got.1
                (same_then order i (values_of d) (values_of first) (values_of found) (same_back order i (values_of first) (values_of d) before.0) same)
                question),
          ),
    ))

pub run_refuted : {S : Type 0} (knows log : S → Lines → Type 0) (count : S → ℕ) (a b e : S) (p : Task) (order : List Criterion) (i : ℕ) (held : List Below)
    (c : Criterion) (u : ℕ) (first d : Drawing) (bounds : List Below) (reply : Reply) →
    slice_get order i ≡ Some c → u ≡ value_of (values_of d) c → AreOnce bounds → bounds ≡ held ++ below_limit c u ∷ [] → reply ≡ Refuted →
    Continues knows log count a b (Run p order i held first d) → Continues knows log count b e (λ lines more. IsReply p lines bounds reply more) →
    Continues knows log count a e (RunTo p order i held first None d)
run_refuted knows log count a b e p order i held c u first d bounds reply at value once is was run asked =
    goes_on knows log count a b e (Run p order i held first d) (λ lines more. IsReply p lines bounds reply more) (RunTo p order i held first None d) run asked
    (λ lines xs ys ka kb ke so_far answer.
    let now = lines ++ xs in
    let got : IsReply p now (held ++ below_limit c u ∷ []) Refuted ys = subst (λ bs. IsReply p now bs Refuted ys) is
    (subst (λ r. IsReply p now bounds r ys) was answer) in (
      no_clauses_both xs ys so_far.0 (asks_no_clauses now (held ++ below_limit c u ∷ []) (RefutedLine got.0 ∷ []) ys got.2 refl),
      λ reached holds.
          let before = so_far.1 reached holds in (
            before.0,
            subst (Reached p order (i + 1) d) (append_assoc lines xs ys)
                (refuted_reached p order i held c u d now ys got.0 at value (holds_same p order i held (values_of first) (values_of d) before.0 holds) before.1
                (subst AreOnce is once) got.1 got.2),
          ),
    ))

pub run_stopped : {S : Type 0} (knows log : S → Lines → Type 0) (count : S → ℕ) (a b e : S) (p : Task) (order : List Criterion) (i : ℕ) (held : List Below)
    (c : Criterion) (u : ℕ) (first d : Drawing) (bounds : List Below) (reply : Reply) (stop : Stop) →
    slice_get order i ≡ Some c → u ≡ value_of (values_of d) c → 1 ≤ u → AreOnce bounds → reply ≡ Stopped stop →
    Continues knows log count a b (Run p order i held first d) → Continues knows log count b e (λ lines more. IsReply p lines bounds reply more) →
    Continues knows log count a e (RunTo p order i held first (Some stop) d)
run_stopped knows log count a b e p order i held c u first d bounds reply stop at value positive once was run asked =
    goes_on knows log count a b e (Run p order i held first d) (λ lines more. IsReply p lines bounds reply more) (RunTo p order i held first (Some stop) d) run
    asked
    (λ lines xs ys ka kb ke so_far answer.
    let now = lines ++ xs in
    let got : IsReply p now bounds (Stopped stop) ys = subst (λ r. IsReply p now bounds r ys) was answer in (
      no_clauses_both xs ys so_far.0 (asks_no_clauses now bounds [] ys got.0 refl),
      λ reached holds.
          let before = so_far.1 reached holds in (
            before.0,
            (
              subst (Reached p order i d) (append_assoc lines xs ys) (stopped_reached p order i bounds d now ys before.1 once got.0),
              λ m there. let same : c ≡ m = (let e : Some c ≡ Some m = sym at ∙ there in cc) in subst (λ n. 1 ≤ value_of (values_of d) n) same
                  (let h : 1 ≤ value_of (values_of d) c = omega arith in h),
              subst (IsCause p.budget p.room stop) (append_assoc lines xs ys) got.1,
            ),
          ),
    ))

pub run_zero : {S : Type 0} (knows log : S → Lines → Type 0) (count : S → ℕ) (a b : S) (p : Task) (order : List Criterion) (i : ℕ) (held : List Below)
    (c : Criterion) (first d : Drawing) →
    slice_get order i ≡ Some c → value_of (values_of d) c ≡ 0 → Continues knows log count a b (Run p order i held first d) →
    Continues knows log count a b (RunTo p order i held first None d)
run_zero knows log count a b p order i held c first d at is run = becomes knows log count a b (Run p order i held first d) (RunTo p order i held first None d)
    run
    (λ lines xs ka kb so_far. (
      so_far.0,
      λ reached holds. let before = so_far.1 reached holds in
          (before.0, zero_reached p order i c d (lines ++ xs) at is before.1),
    ))

-- ---- the bounds of a question

pub built_all : (caps now : Criterion → ℕ) (held bounds : List Below) (c : Criterion) (u : ℕ) → All (IsWithinCap caps) held → 1 ≤ u → u ≤ caps c →
    bounds ≡ held ++ below_limit c u ∷ [] → now ≡ caps → All (IsWithinCap now) bounds
built_all caps now held bounds c u h positive le is same =
    subst (λ (f : Criterion → ℕ). All (IsWithinCap f) bounds) (sym same) (subst (All (IsWithinCap caps)) (sym is)
    (All-push (IsWithinCap caps) held (below_limit c u) h (positive, le)))

pub found_less : (p : Task) (held bounds : List Below) (c : Criterion) (u : ℕ) (d : Drawing) (reply : Reply) → bounds ≡ held ++ below_limit c u ∷ [] →
    reply ≡ Found d → IsRightReply p bounds reply → value_of (values_of d) c < u
found_less p held bounds c u d reply is was fact =
    let got : IsLawful p d × AreMet (values_of d) bounds = subst (IsRightReply p bounds) was fact in
    All-contains (λ (b : Below). value_of (values_of d) b.criterion < b.limit) (held ++ below_limit c u ∷ []) (below_limit c u)
    (subst (AreMet (values_of d)) is got.1) (Contains-push held (below_limit c u))

-- ---- the first drawing still, or one with less

-- then one with less than the last has less than the first
pub less_still : (first d : Drawing) (c : Criterion) (u n : ℕ) → u ≡ value_of (values_of d) c → n < u → (d ≡ first) ⊎ (u < value_of (values_of first) c) →
    n < value_of (values_of first) c
less_still first d c u n is lt (inl e) = let same : value_of (values_of d) c ≡ value_of (values_of first) c = ap (λ (x : Drawing). value_of (values_of x) c)
    e in omega (arith, is, lt, same)
less_still first d c u n is lt (inr less) = omega (arith, lt, less)

pub less_there : (order : List Criterion) (i : ℕ) (c : Criterion) (u : ℕ) (first d : Drawing) → slice_get order i ≡ Some c → u ≡ value_of (values_of d) c →
    (d ≡ first) ⊎ (u < value_of (values_of first) c) →
    (m : Criterion) → slice_get order i ≡ Some m → (d ≡ first) ⊎ (value_of (values_of d) m < value_of (values_of first) m)
less_there order i c u first d at is (inl e) m there = inl e
less_there order i c u first d at is (inr less) m there =
    let lt : value_of (values_of d) c < value_of (values_of first) c = omega (arith, is, less) in
    inr (subst (λ x. value_of (values_of d) x < value_of (values_of first) x) (same_Some c m (sym at ∙ there)) lt)

pub no_more : (first d : Drawing) (c : Criterion) → (d ≡ first) ⊎ (value_of (values_of d) c < value_of (values_of first) c) →
    value_of (values_of d) c ≤ value_of (values_of first) c
no_more first d c (inl e) = let same : value_of (values_of d) c ≡ value_of (values_of first) c = ap (λ (x : Drawing). value_of (values_of x) c) e in omega
    (arith, same)
no_more first d c (inr less) = omega (arith, less)

-- ---- the same where the task is named by a later state

pub run_found_at : {S : Type 0} (knows log : S → Lines → Type 0) (count : S → ℕ) (a b e : S) (q p : Task) (order : List Criterion) (i : ℕ) (held : List Below)
    (c : Criterion) (u : ℕ) (first d found : Drawing) (bounds : List Below) (reply : Reply) →
    q ≡ p → Laws knows b q → AreOnce bounds → bounds ≡ held ++ below_limit c u ∷ [] → reply ≡ Found found → IsRightReply q bounds reply →
    Continues knows log count a b (Run p order i held first d) → Continues knows log count b e (λ lines more. IsReply q lines bounds reply more) →
    Continues knows log count a e (Run p order i held first found)
run_found_at knows log count a b e q p order i held c u first d found bounds reply same laws once is was fact run asked =
    subst (λ (x : Task). Continues knows log count a e (Run x order i held first found)) same
    (run_found knows log count a b e q order i held c u first d found bounds reply laws once is was fact
    (subst (λ (x : Task). Continues knows log count a b (Run x order i held first d)) (sym same) run) asked)

pub run_refuted_at : {S : Type 0} (knows log : S → Lines → Type 0) (count : S → ℕ) (a b e : S) (q p : Task) (order : List Criterion) (i : ℕ) (held : List Below)
    (c : Criterion) (u : ℕ) (first d : Drawing) (bounds : List Below) (reply : Reply) →
    q ≡ p → slice_get order i ≡ Some c → u ≡ value_of (values_of d) c → AreOnce bounds → bounds ≡ held ++ below_limit c u ∷ [] → reply ≡ Refuted →
    Continues knows log count a b (Run p order i held first d) → Continues knows log count b e (λ lines more. IsReply q lines bounds reply more) →
    Continues knows log count a e (RunTo p order i held first None d)
run_refuted_at knows log count a b e q p order i held c u first d bounds reply same at value once is was run asked =
    subst (λ (x : Task). Continues knows log count a e (RunTo x order i held first None d)) same
    (run_refuted knows log count a b e q order i held c u first d bounds reply at value once is was
    (subst (λ (x : Task). Continues knows log count a b (Run x order i held first d)) (sym same) run) asked)

pub run_stopped_at : {S : Type 0} (knows log : S → Lines → Type 0) (count : S → ℕ) (a b e : S) (q p : Task) (order : List Criterion) (i : ℕ) (held : List Below)
    (c : Criterion) (u : ℕ) (first d : Drawing) (bounds : List Below) (reply : Reply) (stop : Stop) →
    q ≡ p → slice_get order i ≡ Some c → u ≡ value_of (values_of d) c → 1 ≤ u → AreOnce bounds → reply ≡ Stopped stop →
    Continues knows log count a b (Run p order i held first d) → Continues knows log count b e (λ lines more. IsReply q lines bounds reply more) →
    Continues knows log count a e (RunTo p order i held first (Some stop) d)
run_stopped_at knows log count a b e q p order i held c u first d bounds reply stop same at value positive once was run asked =
    subst (λ (x : Task). Continues knows log count a e (RunTo x order i held first (Some stop) d)) same
    (run_stopped knows log count a b e q order i held c u first d bounds reply stop at value positive once was
    (subst (λ (x : Task). Continues knows log count a b (Run x order i held first d)) (sym same) run) asked)

pub found_lawful : (q p : Task) (bounds : List Below) (d : Drawing) (reply : Reply) → q ≡ p → reply ≡ Found d → IsRightReply q bounds reply → IsLawful p d
found_lawful q p bounds d reply same was fact = subst (λ (x : Task). IsLawful x d) same
    (let got : IsLawful q d × AreMet (values_of d) bounds = subst (IsRightReply q bounds) was fact in got.0)
