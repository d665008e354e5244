-- What answers to questions say, and what questions tell.
use Rattle.std.proofs.Common.{◌≡◌, ◌≢◌, ℕ, ◌<◌, ◌≤◌, ◌⊎◌, List, [], ◌∷◌, ◌++◌, refl, sym, ◌∙◌, ap, subst, inl, inr, arith, append-nil, append_assoc}
use Rattle.std.specs.Prelude.{Any, Contains, Some, None, fold, map}
use Rattle.std.proofs.lemmas.Grind.{fold-append}
use Rattle.std.proofs.lemmas.List.Elements.{All-push, All-contains, Contains-append_left, All-contains_itself, All-weaker}
use Rattle.std.proofs.lemmas.List.Quantifiers.{all_pairs_push}
use Rattle.plan_core.specs.declared.criterion.Criterion.{Criterion}
use Rattle.plan_core.specs.Values.{values_of, value_of}
use Rattle.plan_core.specs.Drawing.{Drawing}
use Rattle.cnf_core.specs.Lit.{Literal}
use Rattle.cnf_core.proofs.QuantifierLemmas.{some_from_satisfies}
use Rattle.refute_log.specs.declared.line.LogLine.TheVariants.{Learnt, Query, Refuted as RefutedLine, Model}
use Rattle.refute_log.specs.Told.{Lines}
use Rattle.refute_log.specs.Log.{Derives, asked, clause_lines}
use Rattle.refute_log.specs.Bounds.{SaysAtLeast, MeetsLog, CoversDrawings}
use Rattle.refute_log.proofs.CertifiedLemmas.{refuted_holds, reached, says_more}
use Rattle.search_least.specs.declared.oracle.Below.{Below}
use Rattle.search_least.specs.declared.oracle.Reply.{Reply}
use Rattle.search_least.specs.declared.oracle.Reply.TheVariants.{Found, Refuted, Stopped}
use Rattle.refute_log.specs.declared.stop.Stop.{Stop}
use Rattle.search_least.specs.Task.{Task, IsLawful, greatest_of}
use Rattle.refute_log.specs.Steps.{ToldBehind, Continues, KnowsSome}
use Rattle.search_least.specs.Asked.{below_limit, AreMet, AreOnce, AreApart, AreAgainst, IsAsked, IsReply, IsRightReply}
use Rattle.refute_log.proofs.StepLemmas.{stays, goes_on, becomes}
use Rattle.search_least.proofs.QuestionLemmas.{ends_in, no_clauses_both, asks_no_clauses, negated_longer, query_stays}
use Rattle.search_least.proofs.RunLemmas.{Laws}
use Rattle.search_least.specs.Placed.{AreUnderBounds}
use Rattle.search_least.proofs.PlacedLemmas.{asked_under_bounds}
use Rattle.trade_off.specs.Least.{IsLeastUnder, NoneMeets, AreBeside, lowered, LowersUnder, AskNoLess, HasComeDown, MayComeBehind, NoneIsFound, HaveComeTo}
use Rattle.trade_off.specs.Least.{StopsUnder, EndsLowered, AreAsked}
use Rattle.trade_off.proofs.LimitLemmas.{no_less_lowered, behind_itself, behind_lowered, not_behind_lowered, come_down, down_asked, found_fewer, found_asked}
use Rattle.trade_off.proofs.LimitLemmas.{found_refuted, found_stopped, answers_other}

pub less_or_more : (i j : ℕ) → (i ≤ j) ⊎ (j < i)
less_or_more i j = grind arith

-- ---- no drawing meets what was refuted

excluded : (p : Task) (lines more : Lines) (bounds : List Below) (clause : List Literal) → CoversDrawings p.graph p.above p.grid (lines ++ more) →
    Derives (lines ++ more) →
    AreAgainst (greatest_of p) lines bounds clause → Contains (lines ++ more) (RefutedLine clause) → NoneMeets p bounds
excluded p lines more bounds clause covers derives against there = λ d lawful met.
    let m : MeetsLog (lines ++ more) (values_of d) = covers d lawful in
    let some = some_from_satisfies m.assignment clause (refuted_holds m.assignment (lines ++ more) derives m.formula clause there) in
    let any : Any (λ b. SaysAtLeast (greatest_of p) lines b.criterion b.limit some.1) bounds =
    All-contains (λ l. Any (λ b. SaysAtLeast (greatest_of p) lines b.criterion b.limit l) bounds) clause some.1 against (some.0, some.2, some.3) in
    let k = reached (greatest_of p) (lines ++ more) (values_of d) m (any.1).criterion (any.1).limit some.1
    (says_more (greatest_of p) lines more (any.1).criterion (any.1).limit some.1 any.4) some.4 in
    let lt = All-contains (λ (b : Below). value_of (values_of d) b.criterion < b.limit) bounds any.1 met (any.0, any.2, any.3) in
    omega (arith, k, lt)

pub refuted_none : {S : Type 0} (knows log : S → Lines → Type 0) (count : S → ℕ) (a e : S) (q p : Task) (bounds : List Below) (reply : Reply) → q ≡ p →
    reply ≡ Refuted → KnowsSome knows a → Laws knows e q →
    Continues knows log count a e (λ lines more. IsReply q lines bounds reply more) → NoneMeets p bounds
refuted_none knows log count a e q p bounds reply same was known laws asked =
    let lines = known.0 in
    let t : ToldBehind (knows e) (log a) (log e) (count a) (count e) lines (λ more. IsReply q lines bounds reply more) = asked lines known.1 in
    let got : IsReply q lines bounds Refuted t.more = subst (λ (r : Reply). IsReply q lines bounds r t.more) was t.does in
    subst (λ (x : Task). NoneMeets x bounds) same
    (excluded q lines t.more bounds got.0 (laws.covers (lines ++ t.more) t.knows) (laws.derives (lines ++ t.more) t.knows) got.1
    (ends_in lines bounds (RefutedLine got.0) t.more got.2))

pub laws_back : {S : Type 0} (knows : S → Lines → Type 0) (s : S) (q p : Task) → q ≡ p → Laws knows s q → Laws knows s p
laws_back knows s q p same laws = subst (λ (x : Task). Laws knows s x) same laws

-- ---- the least value

pub least_from : (p : Task) (held bounds : List Below) (c : Criterion) (u : ℕ) (d : Drawing) → bounds ≡ held ++ below_limit c u ∷ [] →
    u ≡ value_of (values_of d) c → NoneMeets p bounds → IsLeastUnder p held c d
least_from p held bounds c u d is value none = λ e lawful met. by e lawful met (less_or_more u (value_of (values_of e) c))
  where
    by : (e : Drawing) → IsLawful p e → AreMet (values_of e) held → (u ≤ value_of (values_of e) c) ⊎ (value_of (values_of e) c < u) →
        value_of (values_of d) c ≤ value_of (values_of e) c
    by e lawful met (inl le) = omega (arith, value, le)
    by e lawful met (inr lt) = absurd (none e lawful (subst (AreMet (values_of e)) (sym is)
        (All-push (λ (b : Below). value_of (values_of e) b.criterion < b.limit) held (below_limit c u) met lt)))

pub least_zero : (p : Task) (held : List Below) (c : Criterion) (u : ℕ) (d : Drawing) → u ≡ value_of (values_of d) c → u ≡ 0 → IsLeastUnder p held c d
least_zero p held c u d value zero = λ e lawful met. omega (arith, value, zero)

pub found_meets : (q p : Task) (held bounds : List Below) (c : Criterion) (u : ℕ) (d : Drawing) (reply : Reply) → bounds ≡ held ++ below_limit c u ∷ [] →
    reply ≡ Found d → IsRightReply q bounds reply → AreMet (values_of d) held
found_meets q p held bounds c u d reply is was fact =
    let got : IsLawful q d × AreMet (values_of d) bounds = subst (IsRightReply q bounds) was fact in
    All-weaker (Contains held) (λ (b : Below). value_of (values_of d) b.criterion < b.limit)
    (λ b there. All-contains (λ (b : Below). value_of (values_of d) b.criterion < b.limit) (held ++ below_limit c u ∷ []) b
    (subst (AreMet (values_of d)) is got.1) (Contains-append_left held (below_limit c u ∷ []) b there))
    held (All-contains_itself held)

-- ---- the bounds of a question are of different criteria

pub once_with : (held bounds : List Below) (c : Criterion) (u : ℕ) → bounds ≡ held ++ below_limit c u ∷ [] → AreBeside c held → AreOnce bounds
once_with held bounds c u is h = subst AreOnce (sym is) (all_pairs_push (λ (x y : Below). x.criterion ≢ y.criterion) held (below_limit c u) h.once
    (λ k d lt. h.other k d lt))

-- ---- what a run of questions tells

pub asked_none : {S : Type 0} (knows log : S → Lines → Type 0) (count : S → ℕ) (s : S) (p : Task) (BeginsSo : Lines → Type 0) →
    Continues knows log count s s (AreAsked p BeginsSo BeginsSo)
asked_none knows log count s p BeginsSo = stays knows log count s (AreAsked p BeginsSo BeginsSo) (λ lines k. record {
  none = refl;
  placed = subst (AreUnderBounds p) (sym (append-nil lines));
  ends = subst BeginsSo (sym (append-nil lines));
})

asked_both : (p : Task) (BeginsSo Between EndsSo : Lines → Type 0) (lines xs ys : Lines) → AreAsked p BeginsSo Between lines xs →
    AreAsked p Between EndsSo (lines ++ xs) ys → AreAsked p BeginsSo EndsSo lines (xs ++ ys)
asked_both p BeginsSo Between EndsSo lines xs ys f g =
    let same : (lines ++ xs) ++ ys ≡ lines ++ (xs ++ ys) = append_assoc lines xs ys in
    record {
      none = no_clauses_both xs ys f.none g.none;
      placed = λ h. subst (AreUnderBounds p) same (g.placed (f.placed h));
      ends = λ h. subst EndsSo same (g.ends (f.ends h));
    }

pub asked_then : {S : Type 0} (knows log : S → Lines → Type 0) (count : S → ℕ) (a b e : S) (q p : Task) (BeginsSo Between : Lines → Type 0)
    (EndsSo : Task → Lines → Type 0) → q ≡ p →
    Continues knows log count a b (AreAsked p BeginsSo Between) → Continues knows log count b e (AreAsked q Between (EndsSo q)) →
    Continues knows log count a e (AreAsked p BeginsSo (EndsSo p))
asked_then knows log count a b e q p BeginsSo Between EndsSo same f g =
    goes_on knows log count a b e (AreAsked p BeginsSo Between) (AreAsked p Between (EndsSo p)) (AreAsked p BeginsSo (EndsSo p)) f
    (subst (λ (x : Task). Continues knows log count b e (AreAsked x Between (EndsSo x))) same g)
    (λ lines xs ys ka kb ke h k. asked_both p BeginsSo Between (EndsSo p) lines xs ys h k)

-- from a beginning that leads to it, to an end that follows
pub asked_as : {S : Type 0} (knows log : S → Lines → Type 0) (count : S → ℕ) (a b : S) (p : Task) (First BeginsSo EndsSo Ends : Lines → Type 0) →
    ((lines : Lines) → First lines → BeginsSo lines) → ((lines : Lines) → EndsSo lines → Ends lines) →
    Continues knows log count a b (AreAsked p BeginsSo EndsSo) → Continues knows log count a b (AreAsked p First Ends)
asked_as knows log count a b p First BeginsSo EndsSo Ends leads follows run =
    becomes knows log count a b (AreAsked p BeginsSo EndsSo) (AreAsked p First Ends) run (λ lines xs ka kb h. record {
      none = h.none;
      placed = h.placed;
      ends = λ first. follows (lines ++ xs) (h.ends (leads lines first));
    })

-- to an end that follows
pub asked_to : {S : Type 0} (knows log : S → Lines → Type 0) (count : S → ℕ) (a b : S) (p : Task) (BeginsSo EndsSo Ends : Lines → Type 0) →
    ((lines : Lines) → EndsSo lines → Ends lines) →
    Continues knows log count a b (AreAsked p BeginsSo EndsSo) → Continues knows log count a b (AreAsked p BeginsSo Ends)
asked_to knows log count a b p BeginsSo EndsSo Ends follows run =
    asked_as knows log count a b p BeginsSo BeginsSo EndsSo Ends (λ lines h. h) follows run

-- such bounds are others too
pub stops_as : (p : Task) (Such Other : List Below → Type 0) (c : Criterion) (stop : Stop) (lines : Lines) →
    ((bounds : List Below) → Such bounds → Other bounds) →
    StopsUnder p Such c stop lines → StopsUnder p Other c stop lines
stops_as p Such Other c stop lines weaker h = (
  h.0,
  record {
    bounds = h.1.bounds;
    such = weaker h.1.bounds h.1.such;
    query = h.1.query;
    negated = h.1.negated;
    latest = h.1.latest;
    down = h.1.down;
    fresh = h.1.fresh;
  },
)

-- ---- one question

pub reply_clauses : (p : Task) (lines : Lines) (bounds : List Below) (reply : Reply) (more : Lines) → IsReply p lines bounds reply more → clause_lines more ≡ []
reply_clauses p lines bounds (Found d) more h = asks_no_clauses lines bounds (Model ∷ []) more h refl
reply_clauses p lines bounds Refuted more h = asks_no_clauses lines bounds (RefutedLine h.0 ∷ []) more h.2 refl
reply_clauses p lines bounds (Stopped stop) more h = asks_no_clauses lines bounds [] more h.0 refl

-- behind a drawing's question the limits are those of its bounds, and those that may come behind them and aren't they
-- have no Model line
pub record HasFound (c d : Criterion) (bounds : List Below) (lines : Lines) : Type 0 where
  pub down : HasComeDown c bounds lines
  pub fresh : NoneIsFound (λ bs. MayComeBehind c d bounds bs × (bs ≢ bounds)) lines

-- a drawing was found so, or the questions stay at its bounds, or it stopped in it
abbrev EndsReply : Task → (c d : Criterion) → List Below → Reply → Lines → Type 0
EndsReply p c d bounds (Found x) lines = HasFound c d bounds lines
EndsReply p c d bounds Refuted lines = HaveComeTo c d bounds lines
EndsReply p c d bounds (Stopped stop) lines = StopsUnder p (λ (bs : List Below). bs ≡ bounds) c stop lines

reply_ends : (p : Task) (c d : Criterion) (lines : Lines) (bounds : List Below) (reply : Reply) (more : Lines) → AreApart (lines ++ more) →
    IsReply p lines bounds reply more → HaveComeTo c d bounds lines → EndsReply p c d bounds reply (lines ++ more)
reply_ends p c d lines bounds (Found x) more apart h come = record {
  down = down_asked p c lines bounds (Found x) more h come.down;
  fresh = found_asked p (MayComeBehind c d bounds) lines bounds (Found x) x more refl h come.fresh;
}
reply_ends p c d lines bounds Refuted more apart h come = record {
  down = down_asked p c lines bounds Refuted more h come.down;
  fresh = found_refuted p (MayComeBehind c d bounds) lines bounds more h come.fresh;
}
reply_ends p c d lines bounds (Stopped stop) more apart h come =
    let a : IsAsked lines bounds [] more = h.0 in
    let negated = negated_longer lines more bounds a.query a.negated in (
      h.1,
      record {
        bounds = bounds;
        such = refl;
        query = a.query;
        negated = negated;
        latest = fold-append asked None lines more ∙ ap (fold asked (fold asked None lines))
            (a.is ∙ ap (λ (ls : Lines). Query a.query ∷ ls) (append-nil (map Learnt a.clauses))) ∙ query_stays (Some a.query) a.clauses;
        down = down_asked p c lines bounds (Stopped stop) more h come.down;
        fresh = answers_other (MayComeBehind c d bounds) (lines ++ more) bounds a.query apart (behind_itself c d bounds) negated
            (found_stopped p (MayComeBehind c d bounds) lines bounds stop more h come.fresh);
      },
    )

-- its bounds are of different criteria, and its answer is right, of the task that has another name; and no two bounds of
-- what is known then have one variable
pub record IsOneAsked (q p : Task) (bounds : List Below) (reply : Reply) (known : Lines → Type 0) : Type 0 where
  pub same : q ≡ p
  pub once : AreOnce bounds
  pub right : IsRightReply q bounds reply
  pub apart : (lines : Lines) → known lines → AreApart lines

asks : {S : Type 0} (knows log : S → Lines → Type 0) (count : S → ℕ) (a e : S) (q p : Task) (c d : Criterion) (bounds : List Below) (reply : Reply) →
    IsOneAsked q p bounds reply (knows e) →
    Continues knows log count a e (λ lines more. IsReply q lines bounds reply more) →
    Continues knows log count a e (AreAsked p (HaveComeTo c d bounds) (EndsReply p c d bounds reply))
asks knows log count a e q p c d bounds reply one asked =
    subst (λ (x : Task). Continues knows log count a e (AreAsked x (HaveComeTo c d bounds) (EndsReply x c d bounds reply))) one.same
    (becomes knows log count a e (λ lines more. IsReply q lines bounds reply more) (AreAsked q (HaveComeTo c d bounds) (EndsReply q c d bounds reply)) asked
    (λ lines xs ka ke h. record {
      none = reply_clauses q lines bounds reply xs h;
      placed = asked_under_bounds q lines bounds reply xs one.once one.right h;
      ends = reply_ends q c d lines bounds reply xs (one.apart (lines ++ xs) ke) h;
    }))

pub asks_found : {S : Type 0} (knows log : S → Lines → Type 0) (count : S → ℕ) (a e : S) (q p : Task) (c d : Criterion) (bounds : List Below) (reply : Reply)
    (x : Drawing) → IsOneAsked q p bounds reply (knows e) → reply ≡ Found x →
    Continues knows log count a e (λ lines more. IsReply q lines bounds reply more) →
    Continues knows log count a e (AreAsked p (HaveComeTo c d bounds) (HasFound c d bounds))
asks_found knows log count a e q p c d bounds reply x one was asked =
    asked_to knows log count a e p (HaveComeTo c d bounds) (EndsReply p c d bounds (Found x)) (HasFound c d bounds) (λ lines h. h)
    (subst (λ (r : Reply). Continues knows log count a e (AreAsked p (HaveComeTo c d bounds) (EndsReply p c d bounds r))) was
    (asks knows log count a e q p c d bounds reply one asked))

pub asks_refuted : {S : Type 0} (knows log : S → Lines → Type 0) (count : S → ℕ) (a e : S) (q p : Task) (c d : Criterion) (bounds : List Below)
    (reply : Reply) → IsOneAsked q p bounds reply (knows e) → reply ≡ Refuted →
    Continues knows log count a e (λ lines more. IsReply q lines bounds reply more) →
    Continues knows log count a e (AreAsked p (HaveComeTo c d bounds) (HaveComeTo c d bounds))
asks_refuted knows log count a e q p c d bounds reply one was asked =
    asked_to knows log count a e p (HaveComeTo c d bounds) (EndsReply p c d bounds Refuted) (HaveComeTo c d bounds) (λ lines h. h)
    (subst (λ (r : Reply). Continues knows log count a e (AreAsked p (HaveComeTo c d bounds) (EndsReply p c d bounds r))) was
    (asks knows log count a e q p c d bounds reply one asked))

pub asks_stopped : {S : Type 0} (knows log : S → Lines → Type 0) (count : S → ℕ) (a e : S) (q p : Task) (c d : Criterion) (bounds : List Below)
    (reply : Reply) (stop : Stop) → IsOneAsked q p bounds reply (knows e) → reply ≡ Stopped stop →
    Continues knows log count a e (λ lines more. IsReply q lines bounds reply more) →
    Continues knows log count a e (AreAsked p (HaveComeTo c d bounds) (StopsUnder p (λ (bs : List Below). bs ≡ bounds) c stop))
asks_stopped knows log count a e q p c d bounds reply stop one was asked =
    asked_to knows log count a e p (HaveComeTo c d bounds) (EndsReply p c d bounds (Stopped stop)) (StopsUnder p (λ (bs : List Below). bs ≡ bounds) c stop)
    (λ lines h. h)
    (subst (λ (r : Reply). Continues knows log count a e (AreAsked p (HaveComeTo c d bounds) (EndsReply p c d bounds r))) was
    (asks knows log count a e q p c d bounds reply one asked))

-- behind a drawing that was found: to bounds that ask for no less, and behind which these don't come
pub found_to : (c d f : Criterion) (bounds others : List Below) (lines : Lines) → AskNoLess c bounds others →
    ((more : List Below) → MayComeBehind c f others more → MayComeBehind c d bounds more) → (MayComeBehind c f others bounds → ⊥) →
    HasFound c d bounds lines → HaveComeTo c f others lines
found_to c d f bounds others lines less behind never h = record {
  down = come_down c bounds others lines less h.down;
  fresh = found_fewer (λ bs. MayComeBehind c d bounds bs × (bs ≢ bounds)) (MayComeBehind c f others) lines
      (λ bs left. (behind bs left, λ same. never (subst (MayComeBehind c f others) same left))) h.fresh;
}

-- ---- the steps of a criterion that is lowered

-- a question and its answer, behind those of a lowered criterion
lowers_on : {S : Type 0} (knows log : S → Lines → Type 0) (count : S → ℕ) (a b e : S) (p : Task) (m : Criterion) (held : List Below) (c : Criterion)
    (first least : Drawing) (bounds : List Below) (EndsSo : List Below → Lines → Type 0) → bounds ≡ lowered held c least →
    Continues knows log count a b (AreAsked p (HaveComeTo m c (lowered held c first)) (HaveComeTo m c (lowered held c least))) →
    Continues knows log count b e (AreAsked p (HaveComeTo m c bounds) (EndsSo bounds)) →
    Continues knows log count a e (AreAsked p (HaveComeTo m c (lowered held c first)) (EndsSo (lowered held c least)))
lowers_on knows log count a b e p m held c first least bounds EndsSo is run asked =
    let now = lowered held c least in
    asked_then knows log count a b e p p (HaveComeTo m c (lowered held c first)) (HaveComeTo m c now) (λ x. EndsSo now) refl run
    (subst (λ (bs : List Below). Continues knows log count b e (AreAsked p (HaveComeTo m c bs) (EndsSo bs))) is asked)

pub lowers_found : {S : Type 0} (knows log : S → Lines → Type 0) (count : S → ℕ) (a b e : S) (q p : Task) (m : Criterion) (held : List Below) (c : Criterion)
    (first least d : Drawing) (bounds : List Below) (reply : Reply) → IsOneAsked q p bounds reply (knows e) → bounds ≡ lowered held c least →
    reply ≡ Found d → AreBeside c held → value_of (values_of d) c < value_of (values_of least) c →
    Continues knows log count a b (AreAsked p (HaveComeTo m c (lowered held c first)) (HaveComeTo m c (lowered held c least))) →
    Continues knows log count b e (λ lines more. IsReply q lines bounds reply more) →
    Continues knows log count a e (AreAsked p (HaveComeTo m c (lowered held c first)) (HaveComeTo m c (lowered held c d)))
lowers_found knows log count a b e q p m held c first least d bounds reply one is was beside lt run asked =
    let u = value_of (values_of least) c in
    let w = value_of (values_of d) c in
    let le : w ≤ u = omega (arith, lt) in
    asked_to knows log count a e p (HaveComeTo m c (lowered held c first)) (HasFound m c (lowered held c least)) (HaveComeTo m c (lowered held c d))
    (λ lines h. found_to m c c (lowered held c least) (lowered held c d) lines (no_less_lowered m held c least d le)
    (λ more left. behind_lowered m c held u w more le left) (not_behind_lowered m c held u w beside lt) h)
    (lowers_on knows log count a b e p m held c first least bounds (HasFound m c) is run
    (asks_found knows log count b e q p m c bounds reply d one was asked))

-- nothing is left to be less
pub lowers_down : {S : Type 0} (knows log : S → Lines → Type 0) (count : S → ℕ) (a e : S) (p : Task) (m : Criterion) (held : List Below) (c : Criterion)
    (first least : Drawing) →
    Continues knows log count a e (AreAsked p (HaveComeTo m c (lowered held c first)) (HaveComeTo m c (lowered held c least))) →
    Continues knows log count a e (AreAsked p (HaveComeTo m c (lowered held c first)) (EndsLowered p held c m least None))
lowers_down knows log count a e p m held c first least run =
    asked_to knows log count a e p (HaveComeTo m c (lowered held c first)) (HaveComeTo m c (lowered held c least)) (EndsLowered p held c m least None)
    (λ lines h. h) run

pub lowers_refuted : {S : Type 0} (knows log : S → Lines → Type 0) (count : S → ℕ) (a b e : S) (q p : Task) (m : Criterion) (held : List Below)
    (c : Criterion) (first least : Drawing) (bounds : List Below) (reply : Reply) → IsOneAsked q p bounds reply (knows e) →
    bounds ≡ lowered held c least → reply ≡ Refuted →
    Continues knows log count a b (AreAsked p (HaveComeTo m c (lowered held c first)) (HaveComeTo m c (lowered held c least))) →
    Continues knows log count b e (λ lines more. IsReply q lines bounds reply more) →
    Continues knows log count a e (AreAsked p (HaveComeTo m c (lowered held c first)) (EndsLowered p held c m least None))
lowers_refuted knows log count a b e q p m held c first least bounds reply one is was run asked =
    lowers_down knows log count a e p m held c first least
    (lowers_on knows log count a b e p m held c first least bounds (HaveComeTo m c) is run
    (asks_refuted knows log count b e q p m c bounds reply one was asked))

pub lowers_stopped : {S : Type 0} (knows log : S → Lines → Type 0) (count : S → ℕ) (a b e : S) (q p : Task) (m : Criterion) (held : List Below)
    (c : Criterion) (first least : Drawing) (bounds : List Below) (reply : Reply) (stop : Stop) → IsOneAsked q p bounds reply (knows e) →
    bounds ≡ lowered held c least → reply ≡ Stopped stop → IsLawful p least → AreMet (values_of least) held →
    Continues knows log count a b (AreAsked p (HaveComeTo m c (lowered held c first)) (HaveComeTo m c (lowered held c least))) →
    Continues knows log count b e (λ lines more. IsReply q lines bounds reply more) →
    Continues knows log count a e (AreAsked p (HaveComeTo m c (lowered held c first)) (EndsLowered p held c m least (Some stop)))
lowers_stopped knows log count a b e q p m held c first least bounds reply stop one is was lawful met run asked =
    let Just : List Below → Type 0 = λ bs. bs ≡ lowered held c least in
    asked_to knows log count a e p (HaveComeTo m c (lowered held c first)) (StopsUnder p Just m stop) (EndsLowered p held c m least (Some stop))
    (λ lines h. stops_as p Just (LowersUnder held c p) m stop lines (λ bs same. (least, lawful, met, same)) h)
    (lowers_on knows log count a b e p m held c first least bounds (λ xs. StopsUnder p (λ (bs : List Below). bs ≡ xs) m stop) is run
    (asks_stopped knows log count b e q p m c bounds reply stop one was asked))
