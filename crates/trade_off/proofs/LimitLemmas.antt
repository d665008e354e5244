-- Bounds that ask for no less than others, or may come behind them, and what was asked under bounds.
use Rattle.std.proofs.Common.{◌≡◌, ◌≢◌, ℕ, ◌<◌, ◌≤◌, List, [], ◌∷◌, ◌++◌, take, drop, refl, sym, ◌∙◌, ap, subst, inl, inr, arith}
use Rattle.std.specs.Prelude.{Contains, All, Some, None, Option, map}
use Rattle.std.proofs.lemmas.Grind.{fold-append}
use Rattle.std.proofs.lemmas.List.{take-append-drop}
use Rattle.std.proofs.lemmas.List.Elements.{All-nil, All-cons, All-head, All-push, All-contains, Contains-append_left, Contains-push, All-contains_itself}
use Rattle.std.proofs.lemmas.List.Elements.{All-weaker}
use Rattle.plan_core.specs.declared.criterion.Criterion.{Criterion}
use Rattle.plan_core.specs.Values.{values_of, value_of}
use Rattle.plan_core.specs.Drawing.{Drawing}
use Rattle.cnf_core.specs.Lit.{Literal}
use Rattle.cnf_core.specs.Clause.{Clauses}
use Rattle.refute_log.specs.declared.line.LogLine.{LogLine}
use Rattle.refute_log.specs.declared.line.LogLine.TheVariants.{Formula, Learnt, Bound, Query, Refuted as RefutedLine, Model}
use Rattle.refute_log.specs.Told.{Lines}
use Rattle.refute_log.specs.Log.{asked, facts_of}
use Rattle.refute_log.specs.declared.stop.Stop.{Stop}
use Rattle.search_least.specs.declared.oracle.Below.{Below}
use Rattle.search_least.specs.declared.oracle.Reply.{Reply}
use Rattle.search_least.specs.declared.oracle.Reply.TheVariants.{Found, Refuted, Stopped}
use Rattle.search_least.specs.Task.{Task}
use Rattle.search_least.specs.Asked.{below_limit, IsNegated, AreNegated, AreApart, IsAsked, IsReply}
use Rattle.search_least.specs.Placed.{EachBehind}
use Rattle.search_least.proofs.QuestionLemmas.{negated_longer, query_stays}
use Rattle.search_least.proofs.BehindLemmas.{behind_unended, behind_ended}
use Rattle.trade_off.specs.Least.{AreBeside, lowered, HasNoGreater, AskNoLess, IsNoLess, HasComeDown, AsksLess, MayComeBehind, IsFoundBeside, NoneIsFound}
use Rattle.trade_off.specs.Least.{HaveComeTo, AnswersOther}
use Rattle.trade_off.specs.Next.{IsUnder, under}

-- ---- bounds that ask for no less

no_less_then : (c : Criterion) (xs ys zs : List Below) → AskNoLess c xs ys → AskNoLess c ys zs → AskNoLess c xs zs
no_less_then c xs ys zs first second = All-weaker (HasNoGreater c ys) (HasNoGreater c zs) (λ x h is. by x (h is)) xs first
  where
    by : (x : Below) → (y : Below) × Contains ys y × (y.criterion ≡ c) × (y.limit ≤ x.limit) →
        (z : Below) × Contains zs z × (z.criterion ≡ c) × (z.limit ≤ x.limit)
    by x y =
        let z = All-contains (HasNoGreater c zs) ys y.0 second y.1 y.2 in
        let f = y.3 in
        let g = z.3 in
        (z.0, z.1, z.2, omega (arith, f, g))

pub no_less_with : (c : Criterion) (held more : List Below) → AskNoLess c held (held ++ more)
no_less_with c held more = All-weaker (Contains held) (HasNoGreater c (held ++ more))
    (λ x there is. (x, Contains-append_left held more x there, is, omega arith)) held (All-contains_itself held)

pub no_less_same : (c : Criterion) (bounds : List Below) → AskNoLess c bounds bounds
no_less_same c bounds = All-weaker (Contains bounds) (HasNoGreater c bounds) (λ x there is. (x, there, is, omega arith)) bounds (All-contains_itself bounds)

-- of a drawing with no more
pub no_less_lowered : (m : Criterion) (held : List Below) (c : Criterion) (d e : Drawing) → value_of (values_of e) c ≤ value_of (values_of d) c →
    AskNoLess m (lowered held c d) (lowered held c e)
no_less_lowered m held c d e le =
    let b = below_limit c (value_of (values_of e) c) in
    All-push (HasNoGreater m (lowered held c e)) held (below_limit c (value_of (values_of d) c)) (no_less_with m held (b ∷ []))
    (λ is. (b, Contains-push held b, is, le))

-- where the last one is of another criterion
pub no_less_other : (m : Criterion) (held : List Below) (c : Criterion) (d : Drawing) (others : List Below) → c ≢ m → AskNoLess m held others →
    AskNoLess m (lowered held c d) others
no_less_other m held c d others apart h = All-push (HasNoGreater m others) held (below_limit c (value_of (values_of d) c)) h (λ is. absurd (apart is))

-- where the last one alone is of the criterion
pub no_less_last : (c : Criterion) (held : List Below) (d : Drawing) → AskNoLess c (under c (Some (value_of (values_of d) c))) (lowered held c d)
no_less_last c held d =
    let b = below_limit c (value_of (values_of d) c) in
    All-cons (HasNoGreater c (lowered held c d)) b [] (λ is. (b, Contains-push held b, refl, omega arith)) (All-nil (HasNoGreater c (lowered held c d)))

pub no_less_alone : (c : Criterion) (held : List Below) (d : Drawing) (m : ℕ) → m ≡ value_of (values_of d) c → AreBeside c held →
    AskNoLess c (lowered held c d) (under c (Some m))
no_less_alone c held d m is beside =
    let b = below_limit c m in
    All-push (HasNoGreater c (under c (Some m))) held (below_limit c (value_of (values_of d) c))
    (All-weaker (λ (x : Below). x.criterion ≢ c) (HasNoGreater c (under c (Some m))) (λ x other same. absurd (other same)) held beside.other)
    (λ same. (b, Contains-push [] b, refl, omega (arith, is)))

pub no_less_under : (c : Criterion) (limit : Option ℕ) (m : ℕ) → IsUnder limit m → AskNoLess c (under c limit) (under c (Some m))
no_less_under c None m low = All-nil (HasNoGreater c (under c (Some m)))
no_less_under c (Some k) m low =
    let b = below_limit c m in
    All-cons (HasNoGreater c (under c (Some m))) (below_limit c k) [] (λ is. (b, Contains-push [] b, refl, omega (arith, low)))
    (All-nil (HasNoGreater c (under c (Some m))))

-- ---- bounds that may come behind others

no_less_front : (c : Criterion) (front more others : List Below) → AskNoLess c (front ++ more) others → AskNoLess c front others
no_less_front c front more others h = All-weaker (Contains front) (HasNoGreater c others)
    (λ x there. All-contains (HasNoGreater c others) (front ++ more) x h (Contains-append_left front more x there)) front (All-contains_itself front)

abbrev IsAbove : Criterion → Below → Below → Type 0
IsAbove c y x = x.criterion ≡ c → y.limit < x.limit

above_front : (c : Criterion) (y : Below) (front more : List Below) → All (IsAbove c y) (front ++ more) → All (IsAbove c y) front
above_front c y front more h = All-weaker (Contains front) (IsAbove c y)
    (λ x there. All-contains (IsAbove c y) (front ++ more) x h (Contains-append_left front more x there)) front (All-contains_itself front)

less_front : (c : Criterion) (front more others : List Below) → AsksLess c (front ++ more) others → AsksLess c front others
less_front c front more others h = (h.0, h.1, h.2, above_front c h.0 front more h.3)

-- none asks for less than itself
never_less : (c : Criterion) (bounds : List Below) → AsksLess c bounds bounds → ⊥
never_less c bounds h = let lt = All-contains (IsAbove c h.0) bounds h.0 h.3 h.1 h.2 in omega (arith, lt)

pub behind_itself : (c d : Criterion) (bounds : List Below) → MayComeBehind c d bounds bounds
behind_itself c d bounds = inr (no_less_same c bounds, no_less_same d bounds)

-- behind lower bounds of c, with the same held ones
pub behind_lowered : (m c : Criterion) (held : List Below) (u w : ℕ) (others : List Below) → w ≤ u →
    MayComeBehind m c (held ++ below_limit c w ∷ []) others → MayComeBehind m c (held ++ below_limit c u ∷ []) others
behind_lowered m c held u w others le (inl h) = inl (
  h.0,
  h.1,
  h.2,
  All-push (IsAbove m h.0) held (below_limit c u)
      (above_front m h.0 held (below_limit c w ∷ []) h.3)
      (λ is. let lt = All-contains (IsAbove m h.0) (held ++ below_limit c w ∷ []) (below_limit c w) h.3 (Contains-push held (below_limit c w)) is in
      omega (arith, lt, le)),
)
behind_lowered m c held u w others le (inr h) = inr (
  no_less_then m (held ++ below_limit c u ∷ []) (held ++ below_limit c w ∷ []) others (lower m) h.0,
  no_less_then c (held ++ below_limit c u ∷ []) (held ++ below_limit c w ∷ []) others (lower c) h.1,
)
  where
    lower : (n : Criterion) → AskNoLess n (held ++ below_limit c u ∷ []) (held ++ below_limit c w ∷ [])
    lower n = All-push (HasNoGreater n (held ++ below_limit c w ∷ [])) held (below_limit c u) (no_less_with n held (below_limit c w ∷ []))
        (λ is. (below_limit c w, Contains-push held (below_limit c w), is, le))

-- and the higher ones don't come behind them
pub not_behind_lowered : (m c : Criterion) (held : List Below) (u w : ℕ) → AreBeside c held → w < u →
    MayComeBehind m c (held ++ below_limit c w ∷ []) (held ++ below_limit c u ∷ []) → ⊥
not_behind_lowered m c held u w beside lt (inl h) = never_less m (held ++ below_limit c u ∷ []) (
  h.0,
  h.1,
  h.2,
  All-push (IsAbove m h.0) held (below_limit c u) (above_front m h.0 held (below_limit c w ∷ []) h.3)
      (λ is. let k = All-contains (IsAbove m h.0) (held ++ below_limit c w ∷ []) (below_limit c w) h.3 (Contains-push held (below_limit c w)) is in
      omega (arith, k, lt)),
)
not_behind_lowered m c held u w beside lt (inr h) =
    let y = All-contains (HasNoGreater c (held ++ below_limit c u ∷ [])) (held ++ below_limit c w ∷ []) (below_limit c w) h.1
    (Contains-push held (below_limit c w)) refl in
    let le : u ≤ (y.0).limit = All-contains (λ (x : Below). x.criterion ≡ c → u ≤ x.limit) (held ++ below_limit c u ∷ []) y.0
    (All-push (λ (x : Below). x.criterion ≡ c → u ≤ x.limit) held (below_limit c u)
    (All-weaker (λ (x : Below). x.criterion ≢ c) (λ (x : Below). x.criterion ≡ c → u ≤ x.limit) (λ x other same. absurd (other same)) held beside.other)
    (λ same. omega arith)) y.1 y.2 in
    let low = y.3 in
    omega (arith, le, low, lt)

-- with one bound more of another criterion they come behind the first ones, which don't come behind them
pub behind_with : (m c : Criterion) (held : List Below) (u : ℕ) (others : List Below) → MayComeBehind m c (held ++ below_limit c u ∷ []) others →
    MayComeBehind m m held others
behind_with m c held u others (inl h) = inl (less_front m held (below_limit c u ∷ []) others h)
behind_with m c held u others (inr h) = let front = no_less_front m held (below_limit c u ∷ []) others h.0 in inr (front, front)

pub not_behind_with : (m c : Criterion) (held : List Below) (u : ℕ) → AreBeside c held → MayComeBehind m c (held ++ below_limit c u ∷ []) held → ⊥
not_behind_with m c held u beside (inl h) = never_less m held (less_front m held (below_limit c u ∷ []) held h)
not_behind_with m c held u beside (inr h) =
    let y = All-contains (HasNoGreater c held) (held ++ below_limit c u ∷ []) (below_limit c u) h.1 (Contains-push held (below_limit c u)) refl in
    All-contains (λ (x : Below). x.criterion ≢ c) held y.0 beside.other y.1 y.2

-- those behind the last bound alone come behind it with what is held beside it, and the other way round
pub behind_last : (c : Criterion) (held : List Below) (d : Drawing) (others : List Below) → MayComeBehind c c (lowered held c d) others →
    MayComeBehind c c (under c (Some (value_of (values_of d) c))) others
behind_last c held d others (inl h) =
    let b = below_limit c (value_of (values_of d) c) in
    inl (h.0, h.1, h.2, All-cons (IsAbove c h.0) b [] (All-contains (IsAbove c h.0) (lowered held c d) b h.3 (Contains-push held b)) (All-nil (IsAbove c h.0)))
behind_last c held d others (inr h) =
    let k = no_less_then c (under c (Some (value_of (values_of d) c))) (lowered held c d) others (no_less_last c held d) h.0 in
    inr (k, k)

pub behind_alone : (c : Criterion) (held : List Below) (d : Drawing) (m : ℕ) (others : List Below) → m ≡ value_of (values_of d) c → AreBeside c held →
    MayComeBehind c c (under c (Some m)) others → MayComeBehind c c (lowered held c d) others
behind_alone c held d m others is beside (inl h) =
    let lt : (h.0).limit < m = All-head (IsAbove c h.0) (below_limit c m) [] h.3 refl in
    inl (
      h.0,
      h.1,
      h.2,
      All-push (IsAbove c h.0) held (below_limit c (value_of (values_of d) c))
          (All-weaker (λ (x : Below). x.criterion ≢ c) (IsAbove c h.0) (λ x other same. absurd (other same)) held beside.other) (λ same. omega (arith, lt, is)),
    )
behind_alone c held d m others is beside (inr h) =
    let k = no_less_then c (lowered held c d) (under c (Some m)) others (no_less_alone c held d m is beside) h.0 in
    inr (k, k)

-- those behind a lower limit come behind the higher one, whatever is asked beside it
pub behind_under : (c a : Criterion) (limit : Option ℕ) (u m : ℕ) (others : List Below) → a ≢ c → IsUnder limit m →
    MayComeBehind c c (under c (Some m)) others → MayComeBehind c a (under c limit ++ below_limit a u ∷ []) others
behind_under c a limit u m others apart low h = inl (by h)
  where
    above : (y : Below) → y.limit ≤ m → All (IsAbove c y) (under c limit ++ below_limit a u ∷ [])
    above y le = All-push (IsAbove c y) (under c limit) (below_limit a u) (of limit low) (λ same. absurd (apart same))
      where
        of : (k : Option ℕ) → IsUnder k m → All (IsAbove c y) (under c k)
        of None low = All-nil (IsAbove c y)
        of (Some k) low = All-cons (IsAbove c y) (below_limit c k) [] (λ same. omega (arith, le, low)) (All-nil (IsAbove c y))

    by : MayComeBehind c c (under c (Some m)) others → AsksLess c (under c limit ++ below_limit a u ∷ []) others
    by (inl h) =
        let lt : (h.0).limit < m = All-head (IsAbove c h.0) (below_limit c m) [] h.3 refl in
        (h.0, h.1, h.2, above h.0 (omega (arith, lt)))
    by (inr h) =
        let y = All-head (HasNoGreater c others) (below_limit c m) [] h.0 refl in
        (y.0, y.1, y.2, above y.0 y.3)

-- ---- the limits come down

pub come_down : (c : Criterion) (bounds others : List Below) (lines : Lines) → AskNoLess c bounds others → HasComeDown c bounds lines →
    HasComeDown c others lines
come_down c bounds others lines less h = λ i line at. by (take i lines) line (h i line at)
  where
    by : (before : Lines) (line : LogLine) → IsNoLess c bounds before line → IsNoLess c others before line
    by before (Formula k) h = tt
    by before (Learnt k) h = tt
    by before (Bound d n x) h = tt
    by before (Query q) h = (h.0, h.1, no_less_then c h.0 bounds others h.2 less)
    by before (RefutedLine k) h = tt
    by before Model h = tt

-- with a question under the same bounds they stay
pub down_asked : (p : Task) (c : Criterion) (now : Lines) (bounds : List Below) (reply : Reply) (more : Lines) → IsReply p now bounds reply more →
    HasComeDown c bounds now → HasComeDown c bounds (now ++ more)
down_asked p c now bounds (Found d) more a h = behind_ended (IsNoLess c bounds) now more a.query a.clauses Model a.is (λ before k. tt)
    (bounds, a.negated, no_less_same c bounds) tt h
down_asked p c now bounds Refuted more a h = behind_ended (IsNoLess c bounds) now more (a.2).query (a.2).clauses (RefutedLine a.0) (a.2).is (λ before k. tt)
    (bounds, (a.2).negated, no_less_same c bounds) tt h
down_asked p c now bounds (Stopped stop) more a h = behind_unended (IsNoLess c bounds) now more (a.0).query (a.0).clauses (a.0).is (λ before k. tt)
    (bounds, (a.0).negated, no_less_same c bounds) h

-- ---- no query that is left has a Model line

pub found_fewer : (Such Fewer : List Below → Type 0) (lines : Lines) → ((bounds : List Below) → Fewer bounds → Such bounds) → NoneIsFound Such lines →
    NoneIsFound Fewer lines
found_fewer Such Fewer lines from h = λ i line at. by (take i lines) line (h i line at)
  where
    by : (before : Lines) (line : LogLine) → IsFoundBeside Such before line → IsFoundBeside Fewer before line
    by before (Formula k) h = tt
    by before (Learnt k) h = tt
    by before (Bound d n x) h = tt
    by before (Query q) h = tt
    by before (RefutedLine k) h = tt
    by before Model h = (h.0, h.1, h.2, h.3, λ few. h.4 (from h.2 few))

-- the query that is asked is the latest before its answer
asked_latest : (now : Lines) (query : List Literal) (cs : Clauses) → (facts_of (now ++ Query query ∷ map Learnt cs)).query ≡ Some query
asked_latest now query cs = fold-append asked None now (Query query ∷ map Learnt cs) ∙ query_stays (Some query) cs

-- with a question under these bounds, those are left that aren't these
pub found_asked : (p : Task) (Such : List Below → Type 0) (now : Lines) (bounds : List Below) (reply : Reply) (d : Drawing) (more : Lines) → reply ≡ Found d →
    IsReply p now bounds reply more → NoneIsFound Such now → NoneIsFound (λ bs. Such bs × (bs ≢ bounds)) (now ++ more)
found_asked p Such now bounds reply d more was h none =
    let a : IsAsked now bounds (Model ∷ []) more = subst (λ (r : Reply). IsReply p now bounds r more) was h in
    let Left : List Below → Type 0 = λ bs. Such bs × (bs ≢ bounds) in
    behind_ended (IsFoundBeside Left) now more a.query a.clauses Model a.is (λ before k. tt) tt (
      a.query,
      asked_latest now a.query a.clauses,
      bounds,
      negated_longer now (Query a.query ∷ map Learnt a.clauses) bounds a.query a.negated,
      λ left. left.1 refl,
    ) (found_fewer Such Left now (λ bs left. left.0) none)

pub found_refuted : (p : Task) (Such : List Below → Type 0) (now : Lines) (bounds : List Below) (more : Lines) → IsReply p now bounds Refuted more →
    NoneIsFound Such now → NoneIsFound Such (now ++ more)
found_refuted p Such now bounds more a none =
    behind_ended (IsFoundBeside Such) now more (a.2).query (a.2).clauses (RefutedLine a.0) (a.2).is (λ before k. tt) tt tt none

pub found_stopped : (p : Task) (Such : List Below → Type 0) (now : Lines) (bounds : List Below) (stop : Stop) (more : Lines) →
    IsReply p now bounds (Stopped stop) more → NoneIsFound Such now → NoneIsFound Such (now ++ more)
found_stopped p Such now bounds stop more a none =
    behind_unended (IsFoundBeside Such) now more (a.0).query (a.0).clauses (a.0).is (λ before k. tt) tt none

-- a query has one list of bounds
negated_once : (lines : Lines) → AreApart lines → (xs ys : List Below) (query : List Literal) → AreNegated lines xs query → AreNegated lines ys query → xs ≡ ys
negated_once lines apart [] [] [] h k = refl
negated_once lines apart [] [] (l ∷ ls) h k = absurd h
negated_once lines apart [] (y ∷ ys) [] h k = absurd k
negated_once lines apart [] (y ∷ ys) (l ∷ ls) h k = absurd h
negated_once lines apart (x ∷ xs) [] [] h k = absurd h
negated_once lines apart (x ∷ xs) [] (l ∷ ls) h k = absurd k
negated_once lines apart (x ∷ xs) (y ∷ ys) [] h k = absurd h
negated_once lines apart (x ∷ xs) (y ∷ ys) (l ∷ ls) h k =
    let a : IsNegated lines x l = h.0 in
    let b : IsNegated lines y l = k.0 in
    let var : (a.0).0 ≡ (b.0).0 = ap (λ (z : Literal). z.var) (sym a.2 ∙ b.2) in
    let same = apart x.criterion y.criterion x.limit y.limit a.0 b.0 a.1 b.1 var in
    let head : x ≡ y = ap (λ (c : Criterion). below_limit c x.limit) same.0 ∙ ap (λ n. below_limit y.criterion n) same.1 in
    ap (λ (z : Below). z ∷ xs) head ∙ ap (λ (zs : List Below). y ∷ zs) (negated_once lines apart xs ys ls h.1 k.1)

some_same : (x y : List Literal) → Some x ≡ Some y → x ≡ y
some_same x y e = cc

-- so no Model line answers a query that is left
pub answers_other : (Such : List Below → Type 0) (lines : Lines) (bounds : List Below) (query : List Literal) → AreApart lines → Such bounds →
    AreNegated lines bounds query → NoneIsFound Such lines → EachBehind (AnswersOther query) lines
answers_other Such lines bounds query apart such negated none = λ i line at. by i line (none i line at)
  where
    by : (i : ℕ) (line : LogLine) → IsFoundBeside Such (take i lines) line → AnswersOther query (take i lines) line
    by i (Formula k) h = tt
    by i (Learnt k) h = tt
    by i (Bound d n x) h = tt
    by i (Query q) h = tt
    by i (RefutedLine k) h = tt
    by i Model h = λ latest.
        let same : Some h.0 ≡ Some query = sym h.1 ∙ latest in
        let asked_so : AreNegated (take i lines) h.2 query = subst (AreNegated (take i lines) h.2) (some_same h.0 query same) h.3 in
        let whole : AreNegated lines h.2 query = subst (λ (ls : Lines). AreNegated ls h.2 query) (take-append-drop i lines)
        (negated_longer (take i lines) (drop i lines) h.2 query asked_so) in
        h.4 (subst Such (negated_once lines apart bounds h.2 query negated whole) such)

-- ---- questions come to lower bounds

pub come_to : (c d f : Criterion) (bounds others : List Below) (lines : Lines) → AskNoLess c bounds others →
    ((more : List Below) → MayComeBehind c f others more → MayComeBehind c d bounds more) → HaveComeTo c d bounds lines → HaveComeTo c f others lines
come_to c d f bounds others lines less behind h = record {
  down = come_down c bounds others lines less h.down;
  fresh = found_fewer (MayComeBehind c d bounds) (MayComeBehind c f others) lines behind h.fresh;
}
