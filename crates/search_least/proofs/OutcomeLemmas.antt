-- The outcomes.
use Rattle.std.proofs.Common.{◌≡◌, ℕ, ◌+◌, ◌<◌, ◌≤◌, ◌⊎◌, List, [], ◌∷◌, ◌++◌, length, map, get_or, refl, sym, ◌∙◌, ap, subst, inl, inr, arith, append-nil}
use Rattle.std.proofs.Common.{append_assoc}
use Rattle.std.specs.Prelude.{All, Contains, Some, None, Option, slice_get, flat_map}
use Rattle.std.proofs.Math.Seq.{take-length}
use Rattle.std.proofs.lemmas.Option.{slice_get-get_or}
use Rattle.std.proofs.lemmas.List.Elements.{All-nil, All-cons, All-map, All-append, All-contains, Contains-append_cases}
use Rattle.plan_core.specs.declared.criterion.Criterion.{Criterion}
use Rattle.plan_core.specs.declared.criterion.Criterion.TheVariants.{Height}
use Rattle.plan_core.specs.Values.{values_of, value_of, Better}
use Rattle.plan_core.specs.Drawing.{Drawing}
use Rattle.plan_core.specs.Order.{IsOrder}
use Rattle.cnf_core.specs.Lit.{Literal}
use Rattle.cnf_core.specs.declared.limits.TheConstants.{VARS}
use Rattle.cnf_core.specs.Clause.{words_of}
use Rattle.refute_log.specs.declared.line.LogLine.{LogLine}
use Rattle.refute_log.specs.declared.line.LogLine.TheVariants.{Formula, Learnt, Query, Refuted, Model}
use Rattle.refute_log.specs.Lines.{MayAllBeTold}
use Rattle.refute_log.specs.Told.{Lines}
use Rattle.refute_log.specs.Log.{added, learnt, Derives, Due, clause_lines}
use Rattle.refute_log.specs.Bounds.{CoversDrawings}
use Rattle.refute_log.specs.Certified.{Certifies, CertifiesNone}
use Rattle.refute_log.specs.Expected.{caps, expected_lines, expected_vars, IsAllExpected}
use Rattle.refute_log.proofs.CertifiedLemmas.{none_better, none_meets, certifies_nothing}
use Rattle.refute_log.proofs.ExpectedLemmas.{expected_none, expected_vars_none, expected_same, expected_vars_same}
use Rattle.search_least.specs.declared.oracle.Below.{Below}
use Rattle.refute_log.specs.declared.stop.Stop.{Stop}
use Rattle.search_least.specs.declared.oracle.Reply.{Reply}
use Rattle.search_least.specs.declared.oracle.Reply.TheVariants.{Found, Refuted as Refuted_, Stopped as Stopped_}
use Rattle.search_least.specs.declared.outcome.Outcome.{Outcome}
use Rattle.search_least.specs.declared.outcome.Outcome.TheVariants.{Best, NoDrawing, Spent, Room}
use Rattle.refute_log.specs.declared.stop.Stop.TheVariants.{BudgetSpent, RoomFull}
use Rattle.search_least.specs.Task.{Task, IsLawful, greatest_of}
use Rattle.refute_log.specs.Steps.{ToldBehind, Continues}
use Rattle.refute_log.specs.Cause.{IsCause}
use Rattle.search_least.specs.Asked.{AreOnce, IsAsked, AreMet, AreAgainst, AreApart, IsReply, IsRightReply}
use Rattle.search_least.specs.Placed.{AreInTurn}
use Rattle.search_least.specs.Caps.{AreCapped}
use Rattle.search_least.specs.State.{Counted, SearchState, StoppedAt, Advances}
use Rattle.search_least.specs.Outcome.{IsOutcome, IsStoppedEnd, IsRightOutcome, IsRightSoFar, stopped_with, IsSearched, IsBestEnd, IsNoneEnd, IsUnfoundEnd}
use Rattle.search_least.specs.Outcome.{IsUnfinishedEnd, IsFresh, first_lines}
use Rattle.refute_log.proofs.StepLemmas.{stays, goes_on, becomes, clause_lines_append}
use Rattle.search_least.proofs.QuestionLemmas.{refuted_before, not_model, not_nothing, ends_in, met_found, asks_no_clauses}
use Rattle.search_least.proofs.PlacedLemmas.{first_placed, placed_found, placed_refuted, placed_stopped}
use Rattle.search_least.proofs.BuildLemmas.{formulas_are_clauses}
use Rattle.search_least.proofs.CapLemmas.{capped_same, capped_first}
use Rattle.search_least.proofs.FinalLemmas.{settled_here, not_whole, meets_query}

-- what the lines that are known to an oracle have
pub record Known (p : Task) (order : List Criterion) (cap : Criterion → ℕ) (lines : Lines) : Type 0 where
  pub covers : CoversDrawings p.graph p.above p.grid lines
  pub formed : MayAllBeTold lines
  pub derives : Derives lines
  pub due : Due lines
  pub apart : AreApart lines
  pub fits : words_of (flat_map added lines) ≤ p.room
  pub within : length (flat_map learnt lines) ≤ p.budget
  pub few : expected_vars p.encoding order cap ≤ VARS
  pub counted : (c : Criterion) → caps (greatest_of p) lines c ≡ cap c

whole_from : (p : Task) (order : List Criterion) (cap : Criterion → ℕ) (lines : Lines) → Known p order cap lines →
    clause_lines lines ≡ expected_lines p.encoding order cap → IsAllExpected p.encoding (greatest_of p) order lines
whole_from p order cap lines k told = told ∙ sym (expected_same p.encoding order (caps (greatest_of p) lines) cap k.counted)

searched : (p : Task) (order : List Criterion) (cap : Criterion → ℕ) (lines : Lines) → Known p order cap lines →
    IsAllExpected p.encoding (greatest_of p) order lines → AreInTurn p order lines → IsSearched p order lines
searched p order cap lines k whole placed = record {
  formed = k.formed;
  derives = k.derives;
  due = k.due;
  covers = k.covers;
  front = ([], sym whole ∙ sym (append-nil (clause_lines lines)));
  fits = k.fits;
  within = k.within;
  few = λ some. let same = expected_vars_same p.encoding order (caps (greatest_of p) lines) cap k.counted in omega (arith, same, k.few);
  placed = placed;
}

pub best_end : (p : Task) (order : List Criterion) (n : ℕ) (held : List Below) (d : Drawing) (cap : Criterion → ℕ) (lines : Lines) → Known p order cap lines →
    n ≡ length order → SearchState p order n held d cap lines → IsBestEnd p order d lines
best_end p order n held d cap lines k is s =
    let cert : Certifies (greatest_of p) lines order (values_of d) (length order) = subst (Certifies (greatest_of p) lines order (values_of d)) is
    s.reached.certified in
    record {
      searched = searched p order cap lines k (whole_from p order cap lines k s.told) s.reached.placed;
      whole = whole_from p order cap lines k s.told;
      lawful = s.reached.lawful;
      none_better = λ other lawful b. none_better (greatest_of p) lines order (values_of d) (values_of other) (length order) (k.covers other lawful) k.derives
          cert
          (subst (λ (xs : List Criterion). Better xs (values_of other) (values_of d)) (sym (take-length order)) b);
      certified = cert;
      capped = subst (λ m. AreCapped p order m d (caps (greatest_of p) lines)) is (capped_same p order n d cap (caps (greatest_of p) lines) k.counted s.capped);
    }

pub unfinished_end : (p : Task) (order : List Criterion) (s : ℕ) (stop : Stop) (d : Drawing) (cap : Criterion → ℕ) (lines : Lines) → IsOrder order →
    Known p order cap lines → StoppedAt p order s stop d lines → IsUnfinishedEnd p order s stop d lines
unfinished_end p order s stop d cap lines is k e =
    let c : Criterion = get_or order s Height in
    let at : slice_get order s ≡ Some c = slice_get-get_or order s Height e.within in
    record {
      searched = searched p order cap lines k e.told e.reached.placed;
      whole = e.told;
      lawful = e.reached.lawful;
      none_better = λ other lawful b. none_better (greatest_of p) lines order (values_of d) (values_of other) s (k.covers other lawful) k.derives
          e.reached.certified b;
      is_settled = settled_here p order s c d lines is k.covers k.derives k.apart e.reached at e.within (e.positive c at);
      not_certified = not_whole p order s c d lines is k.covers k.derives k.apart e.reached at e.within (e.positive c at);
      query = meets_query lines (values_of d) k.apart e.reached.met;
      cause = e.cause;
    }

-- ---- the first question

pub zero_told : (p : Task) (order : List Criterion) (cap : Criterion → ℕ) → ((c : Criterion) → cap c ≡ 0) → expected_lines p.encoding order cap ≡ first_lines p
zero_told p order cap z = expected_none p.encoding order cap (λ k d lt. z (get_or order k d))

pub zero_counted : (p : Task) (order : List Criterion) (cap : Criterion → ℕ) (vars : ℕ) → IsFresh p cap vars → Counted p order 0 cap vars
zero_counted p order cap vars f = record {
  unbuilt = λ k c le at. f.none c;
  vars_are = f.vars_are ∙ sym (expected_vars_none p.encoding order cap (λ k d lt. f.none (get_or order k d)));
}

-- with the same caps and as many variables
pub fresh_still : (p : Task) (cap now : Criterion → ℕ) (vars many : ℕ) → now ≡ cap → many ≡ vars → IsFresh p cap vars → IsFresh p now many
fresh_still p cap now vars many same is f = record { none = λ c. ap (λ (h : Criterion → ℕ). h c) same ∙ f.none c; vars_are = is ∙ f.vars_are }

only_formulas : (p : Task) (line : LogLine) → ((c : List Literal) → Formula c ≡ line → ⊥) → Contains (first_lines p) line → ⊥
only_formulas p line differs there = All-contains (λ (l : LogLine). l ≡ line → ⊥) (first_lines p) line
    (All-map (λ (l : LogLine). l ≡ line → ⊥) Formula p.encoding.clauses (λ k d lt. differs (get_or p.encoding.clauses k d))) there refl

first_clauses : (p : Task) (bounds : List Below) (ending more : Lines) → IsAsked (first_lines p) bounds ending more → clause_lines ending ≡ [] →
    clause_lines (first_lines p ++ more) ≡ first_lines p
first_clauses p bounds ending more asked none =
    clause_lines_append (first_lines p) more ∙ ap (λ (ls : Lines). ls ++ clause_lines more) (formulas_are_clauses p.encoding.clauses)
    ∙ ap (λ (ls : Lines). first_lines p ++ ls) (asks_no_clauses (first_lines p) bounds ending more asked none) ∙ append-nil (first_lines p)

no_bounds_once : AreOnce []
no_bounds_once = λ i j d lt low. absurd (omega arith)

pub first_state : (p : Task) (order : List Criterion) (d : Drawing) (cap : Criterion → ℕ) (more : Lines) → ((c : Criterion) → cap c ≡ 0) → IsLawful p d →
    IsAsked (first_lines p) [] (Model ∷ []) more →
    SearchState p order 0 [] d cap (first_lines p ++ more)
first_state p order d cap more z lawful asked =
    let lines = first_lines p ++ more in
    record {
      reached = record {
        lawful = lawful;
        certified = certifies_nothing (greatest_of p) lines order (values_of d);
        met = met_found (first_lines p) [] more (values_of d) asked (All-nil (λ b. value_of (values_of d) b.criterion < b.limit));
        answered = λ clause there. absurd (only_formulas p (Refuted clause) (λ c e. cc)
            (refuted_before (first_lines p) [] (Model ∷ []) more clause asked (not_model clause) there));
        placed = placed_found p order (first_lines p) [] more d no_bounds_once lawful (All-nil (λ b. value_of (values_of d) b.criterion < b.limit)) asked
            (first_placed p order);
      };
      told = first_clauses p [] (Model ∷ []) more asked refl ∙ sym (zero_told p order cap z);
      holds = inl (
        record {
          each = All-nil (λ b. Contains [] b.criterion × (b.limit ≡ value_of (values_of d) b.criterion + 1));
          all = All-nil (λ c. Contains [] (record {
            criterion = c;
            limit = value_of (values_of d) c + 1;
          }) ⊎ (greatest_of p c ≤ value_of (values_of d) c));
        },
        All-nil (λ c. cap c ≡ 0 → greatest_of p c ≡ 0),
      );
      capped = capped_first p order d cap z;
    }

no_literal : (p : Task) (lines : Lines) (clause : List Literal) → AreAgainst (greatest_of p) lines [] clause → clause ≡ []
no_literal p lines [] h = refl
no_literal p lines (l ∷ ls) h = absurd (let any = h 0 l (omega arith) in let lt = any.2 in omega arith)

pub none_end : (p : Task) (order : List Criterion) (cap : Criterion → ℕ) (clause : List Literal) (more : Lines) → ((c : Criterion) → cap c ≡ 0) →
    Known p order cap (first_lines p ++ more) → AreAgainst (greatest_of p) (first_lines p) [] clause → IsAsked (first_lines p) [] (Refuted clause ∷ []) more →
    IsNoneEnd p order (first_lines p ++ more)
none_end p order cap clause more z k against asked =
    let lines = first_lines p ++ more in
    let empty : clause ≡ [] = no_literal p (first_lines p) clause against in
    let cert : CertifiesNone lines = subst (λ (c : List Literal). Contains lines (Refuted c)) empty (ends_in (first_lines p) [] (Refuted clause) more asked) in
    let told : clause_lines lines ≡ first_lines p = first_clauses p [] (Refuted clause ∷ []) more asked refl in
    let whole : IsAllExpected p.encoding (greatest_of p) order lines = whole_from p order cap lines k (told ∙ sym (zero_told p order cap z)) in
    record {
      searched = searched p order cap lines k whole (placed_refuted p order (first_lines p) [] more clause no_bounds_once asked (first_placed p order));
      whole = whole;
      unbounded = told;
      none_lawful = λ d lawful. none_meets lines (values_of d) (k.covers d lawful) k.derives cert;
      certified = cert;
    }

no_model_in : (p : Task) (more : Lines) → IsAsked (first_lines p) [] [] more → Contains (first_lines p ++ more) Model → ⊥
no_model_in p more asked there = elim (Contains-append_cases (first_lines p) more Model there) [
  | inl h ↦ only_formulas p Model (λ c e. cc) h
  | inr h ↦
      let P : LogLine → Type 0 = λ l. l ≡ Model → ⊥ in
      let all : All P (Query asked.query ∷ (map Learnt asked.clauses ++ [])) = All-cons P (Query asked.query) (map Learnt asked.clauses ++ []) (λ e. cc)
      (All-append P (map Learnt asked.clauses) [] (All-map P Learnt asked.clauses (λ k d lt e. cc)) (All-nil P)) in
      All-contains P more Model (subst (All P) (sym asked.is) all) h refl
]

pub unfound_end : (p : Task) (order : List Criterion) (stop : Stop) (cap : Criterion → ℕ) (more : Lines) → ((c : Criterion) → cap c ≡ 0) →
    Known p order cap (first_lines p ++ more) → IsAsked (first_lines p) [] [] more → IsCause p.budget p.room stop (first_lines p ++ more) →
    IsUnfoundEnd p order 0 stop (first_lines p ++ more)
unfound_end p order stop cap more z k asked cause =
    let lines = first_lines p ++ more in
    let whole : IsAllExpected p.encoding (greatest_of p) order lines = whole_from p order cap lines k
    (first_clauses p [] [] more asked refl ∙ sym (zero_told p order cap z)) in
    record {
      searched = searched p order cap lines k whole (placed_stopped p order (first_lines p) [] more no_bounds_once asked (first_placed p order));
      told = inl whole;
      settled_is = refl;
      unbounded = λ c. k.counted c ∙ z c;
      no_model = no_model_in p more asked;
      not_none = λ none. only_formulas p (Refuted []) (λ c e. cc) (refuted_before (first_lines p) [] [] more [] asked (not_nothing []) none);
      cause = inl cause;
    }

-- the outcome of a search that stopped is as it stopped
pub outcome_stopped : (p : Task) (order : List Criterion) (o : Outcome) (stop : Stop) (best : Option Drawing) (settled : ℕ) (lines : Lines) →
    o ≡ stopped_with stop best settled → IsStoppedEnd p order settled stop best lines → IsOutcome p order o lines
outcome_stopped p order o BudgetSpent best settled lines is e = subst (λ (x : Outcome). IsOutcome p order x lines) (sym is) e
outcome_stopped p order o RoomFull best settled lines is e = subst (λ (x : Outcome). IsOutcome p order x lines) (sym is) e

-- ---- calls

-- the laws of an oracle's lines, by the task at the beginning
pub record Laws {S : Type 0} (knows : S → Lines → Type 0) (s : S) (p : Task) (order : List Criterion) (cap : Criterion → ℕ) : Type 0 where
  pub known : (lines : Lines) → knows s lines → Known p order cap lines

pub state_none : {S : Type 0} (knows log : S → Lines → Type 0) (count : S → ℕ) (s : S) (p : Task) (order : List Criterion) (d : Drawing) (cap : Criterion → ℕ)
    (held : List Below) → held ≡ [] →
    Continues knows log count s s (λ lines more. SearchState p order 0 [] d cap lines → SearchState p order 0 held d cap (lines ++ more))
state_none knows log count s p order d cap held none = stays knows log count s (λ lines more. SearchState p order 0 [] d cap lines → SearchState p order 0 held
    d cap (lines ++ more))
    (λ lines k st. subst (λ (bs : List Below). SearchState p order 0 bs d cap (lines ++ [])) (sym none)
    (subst (SearchState p order 0 [] d cap) (sym (append-nil lines)) st))

-- one place after those before it
pub state_then : {S : Type 0} (knows log : S → Lines → Type 0) (count : S → ℕ) (a b e : S) (q p : Task) (order : List Criterion) (i : ℕ)
    (held then : List Below) (first d next : Drawing) (f h k : Criterion → ℕ) (stop : Option Stop) (s : ℕ) → q ≡ p →
    Continues knows log count a b (λ lines more. SearchState p order 0 [] first f lines → SearchState p order i held d h (lines ++ more)) →
    Continues knows log count b e (λ lines more. SearchState q order i held d h lines → Advances q order i then stop s next k (lines ++ more)) →
    Continues knows log count a e (λ lines more. SearchState p order 0 [] first f lines → Advances p order i then stop s next k (lines ++ more))
state_then knows log count a b e q p order i held then first d next f h k stop s same before step =
    goes_on knows log count a b e (λ lines more. SearchState p order 0 [] first f lines → SearchState p order i held d h (lines ++ more))
    (λ lines more. SearchState p order i held d h lines → Advances p order i then stop s next k (lines ++ more))
    (λ lines more. SearchState p order 0 [] first f lines → Advances p order i then stop s next k (lines ++ more))
    before (subst (λ (x : Task). Continues knows log count b e (λ lines more. SearchState x order i held d h lines → Advances x order i then stop s next k
    (lines ++ more))) same step)
    (λ lines xs ys ka kb ke one two start. subst (Advances p order i then stop s next k) (append_assoc lines xs ys) (two (one start)))

pub ends_best : {S : Type 0} (knows log : S → Lines → Type 0) (count : S → ℕ) (a b : S) (p : Task) (order : List Criterion) (n : ℕ) (held : List Below)
    (first d : Drawing) (f h : Criterion → ℕ) → Laws knows b p order h → n ≡ length order →
    Continues knows log count a b (λ lines more. SearchState p order 0 [] first f lines → SearchState p order n held d h (lines ++ more)) →
    Continues knows log count a b (λ lines more. SearchState p order 0 [] first f lines → IsBestEnd p order d (lines ++ more))
ends_best knows log count a b p order n held first d f h laws is run =
    becomes knows log count a b (λ lines more. SearchState p order 0 [] first f lines → SearchState p order n held d h (lines ++ more))
    (λ lines more. SearchState p order 0 [] first f lines → IsBestEnd p order d (lines ++ more)) run
    (λ lines xs ka kb so_far start. best_end p order n held d h (lines ++ xs) (laws.known (lines ++ xs) kb) is (so_far start))

pub ends_unfinished : {S : Type 0} (knows log : S → Lines → Type 0) (count : S → ℕ) (a b : S) (p : Task) (order : List Criterion) (i : ℕ) (held : List Below)
    (first d : Drawing) (f h : Criterion → ℕ) (stop : Option Stop) (why : Stop) (s : ℕ) (o : Outcome) → IsOrder order → Laws knows b p order h →
    stop ≡ Some why →
    o ≡ stopped_with why (Some d) s →
    Continues knows log count a b (λ lines more. SearchState p order 0 [] first f lines → Advances p order i held stop s d h (lines ++ more)) →
    Continues knows log count a b (λ lines more. SearchState p order 0 [] first f lines → IsOutcome p order o (lines ++ more))
ends_unfinished knows log count a b p order i held first d f h stop why s o is laws stopped outcome run =
    becomes knows log count a b (λ lines more. SearchState p order 0 [] first f lines → Advances p order i held stop s d h (lines ++ more))
    (λ lines more. SearchState p order 0 [] first f lines → IsOutcome p order o (lines ++ more)) run
    (λ lines xs ka kb so_far start.
    let end : StoppedAt p order s why d (lines ++ xs) = subst (λ (x : Option Stop). Advances p order i held x s d h (lines ++ xs)) stopped (so_far start) in
    outcome_stopped p order o why (Some d) s (lines ++ xs) outcome (unfinished_end p order s why d h (lines ++ xs) is (laws.known (lines ++ xs) kb) end))

pub laws_at : {S : Type 0} (knows : S → Lines → Type 0) (s : S) (q p : Task) (order : List Criterion) (cap : Criterion → ℕ) (vars : ℕ) → q ≡ p →
    vars ≡ expected_vars p.encoding order cap →
    ((lines : Lines) → knows s lines → CoversDrawings q.graph q.above q.grid lines) → ((lines : Lines) → knows s lines → MayAllBeTold lines) →
    ((lines : Lines) → knows s lines → Derives lines) → ((lines : Lines) → knows s lines → Due lines) → ((lines : Lines) → knows s lines → AreApart lines) →
    ((lines : Lines) → knows s lines → words_of (flat_map added lines) ≤ q.room) →
    ((lines : Lines) → knows s lines → length (flat_map learnt lines) ≤ q.budget) → ((lines : Lines) → knows s lines → vars ≤ VARS) →
    ((lines : Lines) (c : Criterion) → knows s lines → caps (greatest_of q) lines c ≡ cap c) → Laws knows s p order cap
laws_at knows s q p order cap vars same is covers formed derives due apart fits within few counted = record {
  known = λ lines k. record {
    covers = subst (λ (x : Task). CoversDrawings x.graph x.above x.grid lines) same (covers lines k);
    formed = formed lines k;
    derives = derives lines k;
    due = due lines k;
    apart = apart lines k;
    fits = subst (λ (x : Task). words_of (flat_map added lines) ≤ x.room) same (fits lines k);
    within = subst (λ (x : Task). length (flat_map learnt lines) ≤ x.budget) same (within lines k);
    few = subst (λ n. n ≤ VARS) is (few lines k);
    counted = λ c. subst (λ (x : Task). caps (greatest_of x) lines c ≡ cap c) same (counted lines c k);
  };
}

-- the first question's answers
pub first_found : {S : Type 0} (knows log : S → Lines → Type 0) (count : S → ℕ) (a b e : S) (q p : Task) (order : List Criterion) (d : Drawing) (reply : Reply)
    (bounds : List Below) (o : Outcome) (f : Criterion → ℕ) → q ≡ p → ((c : Criterion) → f c ≡ 0) → bounds ≡ [] → reply ≡ Found d →
    IsRightReply p bounds reply →
    Continues knows log count a b (λ lines more. IsReply p lines bounds reply more) →
    Continues knows log count b e (λ lines more. SearchState q order 0 [] d f lines → IsOutcome q order o (lines ++ more)) →
    Continues knows log count a e (λ lines more. lines ≡ first_lines p → IsOutcome p order o (lines ++ more))
first_found knows log count a b e q p order d reply bounds o f same z none was fact asked rest =
    goes_on knows log count a b e (λ lines more. IsReply p lines bounds reply more)
    (λ lines more. SearchState p order 0 [] d f lines → IsOutcome p order o (lines ++ more))
    (λ lines more. lines ≡ first_lines p → IsOutcome p order o (lines ++ more))
    asked (subst (λ (x : Task). Continues knows log count b e (λ lines more. SearchState x order 0 [] d f lines → IsOutcome x order o (lines ++ more))) same
    rest)
    (λ lines xs ys ka kb ke answer then start.
    let got : IsLawful p d × AreMet (values_of d) bounds = subst (IsRightReply p bounds) was fact in
    let question : IsAsked (first_lines p) [] (Model ∷ []) xs = subst (λ (ls : Lines). IsAsked ls [] (Model ∷ []) xs) start
    (subst (λ (bs : List Below). IsAsked lines bs (Model ∷ []) xs) none (subst (λ r. IsReply p lines bounds r xs) was answer)) in
    let state : SearchState p order 0 [] d f (lines ++ xs) = subst (λ (ls : Lines). SearchState p order 0 [] d f (ls ++ xs)) (sym start)
    (first_state p order d f xs z got.0 question) in
    subst (IsOutcome p order o) (append_assoc lines xs ys) (then state))

pub first_refuted : {S : Type 0} (knows log : S → Lines → Type 0) (count : S → ℕ) (a b : S) (p : Task) (order : List Criterion) (reply : Reply)
    (bounds : List Below) (f : Criterion → ℕ) → ((c : Criterion) → f c ≡ 0) → Laws knows b p order f → bounds ≡ [] → reply ≡ Refuted_ →
    Continues knows log count a b (λ lines more. IsReply p lines bounds reply more) →
    Continues knows log count a b (λ lines more. lines ≡ first_lines p → IsNoneEnd p order (lines ++ more))
first_refuted knows log count a b p order reply bounds f z laws none was asked =
    becomes knows log count a b (λ lines more. IsReply p lines bounds reply more) (λ lines more. lines ≡ first_lines p → IsNoneEnd p order (lines ++ more))
    asked
    (λ lines xs ka kb answer start.
    let got : IsReply p (first_lines p) [] Refuted_ xs = subst (λ (ls : Lines). IsReply p ls [] Refuted_ xs) start
    (subst (λ (bs : List Below). IsReply p lines bs Refuted_ xs) none (subst (λ r. IsReply p lines bounds r xs) was answer)) in
    let known : Known p order f (first_lines p ++ xs) = subst (λ (ls : Lines). Known p order f (ls ++ xs)) start (laws.known (lines ++ xs) kb) in
    subst (λ (ls : Lines). IsNoneEnd p order (ls ++ xs)) (sym start) (none_end p order f got.0 xs z known got.1 got.2))

pub first_stopped : {S : Type 0} (knows log : S → Lines → Type 0) (count : S → ℕ) (a b : S) (p : Task) (order : List Criterion) (stop : Stop) (reply : Reply)
    (bounds : List Below) (o : Outcome) (f : Criterion → ℕ) → ((c : Criterion) → f c ≡ 0) → Laws knows b p order f → bounds ≡ [] → reply ≡ Stopped_ stop →
    o ≡ stopped_with stop None 0 →
    Continues knows log count a b (λ lines more. IsReply p lines bounds reply more) →
    Continues knows log count a b (λ lines more. lines ≡ first_lines p → IsOutcome p order o (lines ++ more))
first_stopped knows log count a b p order stop reply bounds o f z laws none was outcome asked =
    becomes knows log count a b (λ lines more. IsReply p lines bounds reply more) (λ lines more. lines ≡ first_lines p → IsOutcome p order o (lines ++ more))
    asked
    (λ lines xs ka kb answer start.
    let got : IsReply p (first_lines p) [] (Stopped_ stop) xs = subst (λ (ls : Lines). IsReply p ls [] (Stopped_ stop) xs) start
    (subst (λ (bs : List Below). IsReply p lines bs (Stopped_ stop) xs) none (subst (λ r. IsReply p lines bounds r xs) was answer)) in
    let known : Known p order f (first_lines p ++ xs) = subst (λ (ls : Lines). Known p order f (ls ++ xs)) start (laws.known (lines ++ xs) kb) in
    subst (λ (ls : Lines). IsOutcome p order o (ls ++ xs)) (sym start) (outcome_stopped p order o stop None 0 (first_lines p ++ xs) outcome
    (unfound_end p order stop f xs z known got.0 got.1)))

-- ---- what every outcome says of drawings

right_best : (p : Task) (order : List Criterion) (settled : ℕ) (stop : Stop) (best : Option Drawing) (lines : Lines) →
    IsStoppedEnd p order settled stop best lines → IsRightSoFar p order settled best
right_best p order settled stop None lines e = e.settled_is
right_best p order settled stop (Some d) lines e = (e.lawful, e.none_better)

pub right_from : (p : Task) (order : List Criterion) (o : Outcome) (lines : Lines) → IsOutcome p order o lines → IsRightOutcome p order o
right_from p order (Best d) lines e = record { lawful = e.lawful; none_better = e.none_better }
right_from p order NoDrawing lines e = e.none_lawful
right_from p order (Spent best settled) lines e = right_best p order settled BudgetSpent best lines e
right_from p order (Room best settled) lines e = right_best p order settled RoomFull best lines e

pub right_run : {S : Type 0} (knows log : S → Lines → Type 0) (count : S → ℕ) (a b : S) (p : Task) (order : List Criterion) (o : Outcome) →
    knows a (first_lines p) →
    Continues knows log count a b (λ lines more. lines ≡ first_lines p → IsOutcome p order o (lines ++ more)) → IsRightOutcome p order o
right_run knows log count a b p order o start run = let t = run (first_lines p) start in right_from p order o (first_lines p ++ t.more) (t.does refl)

pub tells_run : {S : Type 0} (knows log : S → Lines → Type 0) (count : S → ℕ) (a b : S) (p : Task) (order : List Criterion) (o : Outcome) →
    knows a (first_lines p) →
    Continues knows log count a b (λ lines more. lines ≡ first_lines p → IsOutcome p order o (lines ++ more)) →
    ToldBehind (knows b) (log a) (log b) (count a) (count b) (first_lines p) (λ more. IsOutcome p order o (first_lines p ++ more))
tells_run knows log count a b p order o start run =
    let t = run (first_lines p) start in
    record { more = t.more; knows = t.knows; told = t.told; counted = t.counted; does = t.does refl }
