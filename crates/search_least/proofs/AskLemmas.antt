-- What answers say, and what questions tell.
use Rattle.std.proofs.Common.{◌≡◌, ℕ, ◌≤◌, true, List, [], ◌∷◌, ◌++◌, map, get_or, refl, sym, ◌∙◌, ap, subst, inl, inr, arith, append-nil, append_assoc}
use Rattle.std.specs.Prelude.{All, Contains, Some, None, Option, fold}
use Rattle.std.proofs.lemmas.Grind.{fold-append}
use Rattle.std.proofs.lemmas.List.Concat.{flat_map-cons}
use Rattle.std.proofs.lemmas.List.Elements.{All-nil, All-cons, All-map, All-contains, Contains-append_right, Contains-append_cases, Contains-push}
use Rattle.plan_core.specs.Drawing.{Drawing}
use Rattle.cnf_core.specs.Lit.{Literal}
use Rattle.cnf_core.specs.Clause.{Clauses}
use Rattle.cnf_core.specs.Assignment.{truth}
use Rattle.cnf_core.proofs.QuantifierLemmas.{some_from_satisfies}
use Rattle.refute_log.specs.declared.line.LogLine.{LogLine}
use Rattle.refute_log.specs.declared.line.LogLine.TheVariants.{Learnt, Query, Refuted as RefutedLine, Model}
use Rattle.refute_log.specs.Told.{Lines}
use Rattle.refute_log.specs.Log.{Derives, asked, clause_line, clause_lines}
use Rattle.refute_log.proofs.CertifiedLemmas.{refuted_holds}
use Rattle.refute_log.specs.declared.stop.Stop.{Stop}
use Rattle.refute_log.specs.declared.stop.Stop.TheVariants.{BudgetSpent, RoomFull}
use Rattle.refute_log.specs.Steps.{ToldBehind, Continues, KnowsSome}
use Rattle.refute_log.proofs.StepLemmas.{stays, goes_on, becomes, learnt_no_clauses}
use Rattle.search_least.proofs.QuestionLemmas.{no_clauses_both, none_in, not_model, not_nothing, query_stays, question_queries}
use Rattle.search_least.proofs.BehindLemmas.{behind_unended, behind_ended}
use Rattle.search_least.specs.Asked.{Queries}
use Rattle.search_least.specs.declared.questions.Answer.{Answer}
use Rattle.search_least.specs.declared.questions.Answer.TheVariants.{Found, Refuted, Stopped}
use Rattle.search_least.specs.declared.fewest.Fewest.{Fewest}
use Rattle.search_least.specs.declared.fewest.Fewest.TheVariants.{Best}
use Rattle.search_least.specs.CountTask.{CountTask, IsOne, TellsCount, CoversCounts}
use Rattle.refute_log.specs.Cause.{IsCause}
use Rattle.search_least.specs.CountAsked.{IsBelow, IsLimit, query_of, SaysReached, IsAsked, IsAnswer, IsRightAnswer}
use Rattle.search_least.specs.CountPlaced.{AsksFor, MeetsModelled, HasComeTo, IsNextLimit, IsCountPlaced, AreCountsAsked}
use Rattle.search_least.specs.Fewest.{IsStoppedSearch, IsEnd, stopped_with}
use Rattle.search_least.specs.Run.{RefutesNothing, IsAskedDownTo, IsRunOfDrawings, IsRunToEnd}

-- ---- no drawing is below a limit that was refuted

reached_limit : (p : CountTask) (lines : Lines) (limit : Option ℕ) (n : ℕ) (t : TellsCount p lines n) (l : Literal) → IsLimit p limit → SaysReached p limit l →
    truth t.assignment l ≡ true → IsBelow limit n → ⊥
reached_limit p lines None n t l within says e below = says
reached_limit p lines (Some k) n t l within says e below =
    let le : k ≤ n = (t.tells k within.0 within.1).0 (ap (truth t.assignment) (sym says) ∙ e) in
    omega (arith, le, below)

excluded : (p : CountTask) (lines : Lines) (limit : Option ℕ) (clause : List Literal) → CoversCounts p lines → Derives lines → IsLimit p limit →
    All (SaysReached p limit) clause →
    Contains lines (RefutedLine clause) → (d : Drawing) → IsOne p d → IsBelow limit (p.count d) → ⊥
excluded p lines limit clause covers derives within against there d one below =
    let t : TellsCount p lines (p.count d) = covers d one in
    let some = some_from_satisfies t.assignment clause (refuted_holds t.assignment lines derives t.formula clause there) in
    reached_limit p lines limit (p.count d) t some.1 within (All-contains (SaysReached p limit) clause some.1 against (some.0, some.2, some.3)) some.4 below

pub record Laws {S : Type 0} (knows : S → Lines → Type 0) (s : S) (p : CountTask) : Type 0 where
  pub covers : (lines : Lines) → knows s lines → CoversCounts p lines
  pub derives : (lines : Lines) → knows s lines → Derives lines

pub laws_back : {S : Type 0} (knows : S → Lines → Type 0) (s : S) (q p : CountTask) → q ≡ p → Laws knows s q → Laws knows s p
laws_back knows s q p same laws = subst (λ (x : CountTask). Laws knows s x) same laws

pub ends_in : (p : CountTask) (limit : Option ℕ) (lines more : Lines) (line : LogLine) → IsAsked p limit (line ∷ []) more → Contains (lines ++ more) line
ends_in p limit lines more line asked =
    let h : Contains ((Query (query_of p limit) ∷ []) ++ (map Learnt asked.clauses ++ line ∷ [])) line = Contains-append_right (Query (query_of p limit) ∷ [])
    (map Learnt asked.clauses ++ line ∷ []) line (Contains-push (map Learnt asked.clauses) line) in
    Contains-append_right lines more line (subst (λ (ls : Lines). Contains ls line) (sym asked.is) h)

pub refuted_none : {S : Type 0} (knows log : S → Lines → Type 0) (count : S → ℕ) (a e : S) (q p : CountTask) (limit : Option ℕ) (r : Answer) → q ≡ p →
    r ≡ Refuted → KnowsSome knows a → Laws knows e q → IsLimit q limit →
    Continues knows log count a e (λ lines more. IsAnswer q lines limit r more) → (d : Drawing) → IsOne p d → IsBelow limit (p.count d) → ⊥
refuted_none knows log count a e q p limit r same was known laws within asked =
    let lines = known.0 in
    let t : ToldBehind (knows e) (log a) (log e) (count a) (count e) lines (λ more. IsAnswer q lines limit r more) = asked lines known.1 in
    let got : IsAnswer q lines limit Refuted t.more = subst (λ (x : Answer). IsAnswer q lines limit x t.more) was t.does in
    subst (λ (x : CountTask). (d : Drawing) → IsOne x d → IsBelow limit (x.count d) → ⊥) same
    (excluded q (lines ++ t.more) limit got.0 (laws.covers (lines ++ t.more) t.knows) (laws.derives (lines ++ t.more) t.knows) within got.1
    (ends_in q limit lines t.more (RefutedLine got.0) got.2))

-- ---- the lines of a question

-- a Refuted or Model line of it stands at its end
at_end : (p : CountTask) (limit : Option ℕ) (ending more : Lines) (line : LogLine) → ((c : List Literal) → Query c ≡ line → ⊥) →
    ((c : List Literal) → Learnt c ≡ line → ⊥) → IsAsked p limit ending more → Contains more line → Contains ending line
at_end p limit ending more line no_query no_learnt asked there =
    let q = query_of p limit in
    let P : LogLine → Type 0 = λ l. l ≡ line → ⊥ in
    let h : Contains ((Query q ∷ []) ++ (map Learnt asked.clauses ++ ending)) line = subst (λ (ls : Lines). Contains ls line) asked.is there in
    elim (Contains-append_cases (Query q ∷ []) (map Learnt asked.clauses ++ ending) line h) [
      | inl first ↦ absurd (none_in (Query q ∷ []) line (All-cons P (Query q) [] (no_query q) (All-nil P)) first)
      | inr rest ↦ elim (Contains-append_cases (map Learnt asked.clauses) ending line rest) [
        | inl k ↦ absurd (none_in (map Learnt asked.clauses) line (All-map P Learnt asked.clauses (λ k d lt. no_learnt (get_at asked.clauses k d))) k)
        | inr e ↦ e
      ]
    ]
  where
    get_at : Clauses → ℕ → List Literal → List Literal
    get_at cs k d = get_or cs k d

pub no_refuted : (p : CountTask) (limit : Option ℕ) (ending lines more : Lines) → IsAsked p limit ending more →
    ((c : List Literal) → Contains ending (RefutedLine c) → ⊥) → RefutesNothing lines → RefutesNothing (lines ++ more)
no_refuted p limit ending lines more asked none before = λ clause there. elim (Contains-append_cases lines more (RefutedLine clause) there) [
  | inl h ↦ before clause h
  | inr h ↦ none clause (at_end p limit ending more (RefutedLine clause) (λ c e. cc) (λ c e. cc) asked h)
]

-- it asks for its limit
pub latest_query : (p : CountTask) (limit : Option ℕ) (ending lines more : Lines) → ((q : Option (List Literal)) → fold asked q ending ≡ q) →
    IsAsked p limit ending more → AsksFor p limit (lines ++ more)
latest_query p limit ending lines more still a =
    let q = Some (query_of p limit) in
    fold-append asked None lines more ∙ ap (fold asked (fold asked None lines)) a.is ∙ fold-append asked q (map Learnt a.clauses) ending
    ∙ ap (λ (x : Option (List Literal)). fold asked x ending) (query_stays q a.clauses) ∙ still q

-- with a drawing as its answer the search comes to the drawing's count
pub comes_to : (p : CountTask) (limit : Option ℕ) (n : ℕ) (lines more : Lines) → IsAsked p limit (Model ∷ []) more → IsBelow limit n →
    HasComeTo p (lines ++ more) n
comes_to p limit n lines more a below = record {
  met = record {
    limit = limit;
    modelled = ap (λ (q : Queries). q.modelled) (question_queries lines (query_of p limit) a.clauses (Model ∷ []) more a.is);
    below = below;
  };
  latest = latest_query p limit (Model ∷ []) lines more (λ q. refl) a;
}

-- without an answer the last Model line stays the last
met_still : (p : CountTask) (limit : Option ℕ) (n : ℕ) (lines more : Lines) → IsAsked p limit [] more → MeetsModelled p lines n →
    MeetsModelled p (lines ++ more) n
met_still p limit n lines more a m = record {
  limit = m.limit;
  modelled = ap (λ (q : Queries). q.modelled) (question_queries lines (query_of p limit) a.clauses [] more a.is) ∙ m.modelled;
  below = m.below;
}

-- each line of it stands where it may
pub counts_asked : (p : CountTask) (limit : Option ℕ) (lines more : Lines) (r : Answer) → IsAnswer p lines limit r more → IsRightAnswer p limit r →
    IsNextLimit p lines limit → AreCountsAsked p lines → AreCountsAsked p (lines ++ more)
counts_asked p limit lines more (Found d) a right next h =
    let q = query_of p limit in
    behind_ended (IsCountPlaced p) lines more q a.clauses Model a.is (λ before c. tt) (limit, next, refl)
    (record {
      drawing = d;
      one = right.0;
      limit = limit;
      within = next.0;
      latest = fold-append asked None lines (Query q ∷ map Learnt a.clauses)
          ∙ query_stays (Some q) a.clauses;
      below = right.1;
    }) h
counts_asked p limit lines more Refuted a right next h = behind_ended (IsCountPlaced p) lines more (query_of p limit) (a.2).clauses (RefutedLine a.0) (a.2).is
    (λ before c. tt) (limit, next, refl) tt h
counts_asked p limit lines more (Stopped stop) a right next h = behind_unended (IsCountPlaced p) lines more (query_of p limit) (a.0).clauses (a.0).is
    (λ before c. tt) (limit, next, refl) h

pub no_model : (p : CountTask) (limit : Option ℕ) (lines more : Lines) → IsAsked p limit [] more → (Contains lines Model → ⊥) → Contains (lines ++ more) Model →
    ⊥
no_model p limit lines more asked before there = elim (Contains-append_cases lines more Model there) [
  | inl h ↦ before h
  | inr h ↦ none_in [] Model (All-nil (λ (l : LogLine). l ≡ Model → ⊥)) (at_end p limit [] more Model (λ c e. cc) (λ c e. cc) asked h)
]

pub asks_no_clauses : (p : CountTask) (limit : Option ℕ) (ending more : Lines) → IsAsked p limit ending more → clause_lines ending ≡ [] → clause_lines more ≡ []
asks_no_clauses p limit ending more asked none =
    ap clause_lines asked.is ∙ flat_map-cons clause_line (Query (query_of p limit)) (map Learnt asked.clauses ++ ending)
    ∙ no_clauses_both (map Learnt asked.clauses) ending (learnt_no_clauses asked.clauses) none

pub answer_clauses : (p : CountTask) (limit : Option ℕ) (lines : Lines) (r : Answer) (more : Lines) → IsAnswer p lines limit r more → clause_lines more ≡ []
answer_clauses p limit lines (Found d) more h = asks_no_clauses p limit (Model ∷ []) more h refl
answer_clauses p limit lines Refuted more h = asks_no_clauses p limit (RefutedLine h.0 ∷ []) more h.2 refl
answer_clauses p limit lines (Stopped stop) more h = asks_no_clauses p limit [] more h.0 refl

-- ---- runs of questions

pub run_none : {S : Type 0} (knows log : S → Lines → Type 0) (count : S → ℕ) (s : S) (p : CountTask) (n m : ℕ) → m ≡ n →
    Continues knows log count s s (IsRunOfDrawings p n m)
run_none knows log count s p n m same = stays knows log count s (IsRunOfDrawings p n m) (λ lines k. record {
  none = refl;
  nothing = subst RefutesNothing (sym (append-nil lines));
  placed = λ h. subst (IsAskedDownTo p m) (sym (append-nil lines)) (subst (λ (k : ℕ). IsAskedDownTo p k lines) (sym same) h);
})

found_runs : (p : CountTask) (n m : ℕ) (r : Answer) (d : Drawing) (lines more : Lines) → r ≡ Found d → m ≡ p.count d → IsLimit p (Some n) →
    IsRightAnswer p (Some n) r → IsAnswer p lines (Some n) r more → IsRunOfDrawings p n m lines more
found_runs p n m r d lines more was is within right answer =
    let got : IsAsked p (Some n) (Model ∷ []) more = subst (λ (x : Answer). IsAnswer p lines (Some n) x more) was answer in
    let fact : IsOne p d × IsBelow (Some n) (p.count d) = subst (IsRightAnswer p (Some n)) was right in
    record {
      none = asks_no_clauses p (Some n) (Model ∷ []) more got refl;
      nothing = no_refuted p (Some n) (Model ∷ []) lines more got not_model;
      placed = λ h. record {
        placed = counts_asked p (Some n) lines more r answer right (within, h.comes) h.placed;
        comes = comes_to p (Some n) m lines more got (subst (IsBelow (Some n)) (sym is) fact.1);
      };
    }

run_both : (p : CountTask) (f n m : ℕ) (lines xs ys : Lines) → IsRunOfDrawings p f n lines xs → IsRunOfDrawings p n m (lines ++ xs) ys →
    IsRunOfDrawings p f m lines (xs ++ ys)
run_both p f n m lines xs ys before behind = record {
  none = no_clauses_both xs ys before.none behind.none;
  nothing = λ h. subst RefutesNothing (append_assoc lines xs ys) (behind.nothing (before.nothing h));
  placed = λ h. subst (IsAskedDownTo p m) (append_assoc lines xs ys) (behind.placed (before.placed h));
}

-- a question of the same task below a limit with a literal, and its answer
pub record IsOneAsked (q p : CountTask) (n : ℕ) (r : Answer) : Type 0 where
  pub same : q ≡ p
  pub within : IsLimit p (Some n)
  pub right : IsRightAnswer q (Some n) r

right_of : (q p : CountTask) (n : ℕ) (r : Answer) → IsOneAsked q p n r → IsRightAnswer p (Some n) r
right_of q p n r one = subst (λ (x : CountTask). IsRightAnswer x (Some n) r) one.same one.right

-- the lines of one behind a run
placed_behind : (q p : CountTask) (f n : ℕ) (r : Answer) (lines xs ys : Lines) → IsRunOfDrawings p f n lines xs → IsOneAsked q p n r →
    IsAnswer p (lines ++ xs) (Some n) r ys → IsAskedDownTo p f lines → AreCountsAsked p (lines ++ (xs ++ ys))
placed_behind q p f n r lines xs ys so_far one answer h =
    let now : IsAskedDownTo p n (lines ++ xs) = so_far.placed h in
    subst (AreCountsAsked p) (append_assoc lines xs ys) (counts_asked p (Some n) (lines ++ xs) ys r answer (right_of q p n r one) (one.within, now.comes)
    now.placed)

pub run_found : {S : Type 0} (knows log : S → Lines → Type 0) (count : S → ℕ) (a b e : S) (q p : CountTask) (f n m : ℕ) (r : Answer) (d : Drawing) →
    IsOneAsked q p n r → r ≡ Found d → m ≡ p.count d →
    Continues knows log count a b (IsRunOfDrawings p f n) → Continues knows log count b e (λ lines more. IsAnswer q lines (Some n) r more) →
    Continues knows log count a e (IsRunOfDrawings p f m)
run_found knows log count a b e q p f n m r d one was is run asked =
    goes_on knows log count a b e (IsRunOfDrawings p f n) (λ lines more. IsAnswer q lines (Some n) r more) (IsRunOfDrawings p f m) run asked
    (λ lines xs ys ka kb ke so_far answer.
    run_both p f n m lines xs ys so_far (found_runs p n m r d (lines ++ xs) ys was is one.within (right_of q p n r one)
    (subst (λ (x : CountTask). IsAnswer x (lines ++ xs) (Some n) r ys) one.same answer)))

pub ends_refuted : {S : Type 0} (knows log : S → Lines → Type 0) (count : S → ℕ) (a b e : S) (q p : CountTask) (f n : ℕ) (r : Answer) (d : Drawing) →
    IsOneAsked q p n r → r ≡ Refuted → n ≡ p.count d →
    Continues knows log count a b (IsRunOfDrawings p f n) → Continues knows log count b e (λ lines more. IsAnswer q lines (Some n) r more) →
    Continues knows log count a e (IsRunToEnd p f (Best d))
ends_refuted knows log count a b e q p f n r d one was is run asked =
    goes_on knows log count a b e (IsRunOfDrawings p f n) (λ lines more. IsAnswer q lines (Some n) r more) (IsRunToEnd p f (Best d)) run asked
    (λ lines xs ys ka kb ke so_far answer.
    let here : IsAnswer p (lines ++ xs) (Some n) r ys = subst (λ (x : CountTask). IsAnswer x (lines ++ xs) (Some n) r ys) one.same answer in
    let got : IsAnswer p (lines ++ xs) (Some n) Refuted ys = subst (λ (x : Answer). IsAnswer p (lines ++ xs) (Some n) x ys) was here in
    record {
      none = no_clauses_both xs ys so_far.none (asks_no_clauses p (Some n) (RefutedLine got.0 ∷ []) ys got.2 refl);
      end = λ nothing down positive. record {
        clause = got.0;
        among = subst (λ (ls : Lines). Contains ls (RefutedLine got.0)) (append_assoc lines xs ys)
            (ends_in p (Some n) (lines ++ xs) ys (RefutedLine got.0) got.2);
        each = subst (λ m. All (λ l. l ≡ p.at_least m) got.0) is got.1;
      };
      placed = placed_behind q p f n r lines xs ys so_far one here;
    })

pub ends_zero : {S : Type 0} (knows log : S → Lines → Type 0) (count : S → ℕ) (a b : S) (p : CountTask) (f n : ℕ) (d : Drawing) → p.count d ≡ 0 →
    Continues knows log count a b (IsRunOfDrawings p f n) → Continues knows log count a b (IsRunToEnd p f (Best d))
ends_zero knows log count a b p f n d nil run =
    becomes knows log count a b (IsRunOfDrawings p f n) (IsRunToEnd p f (Best d)) run
    (λ lines xs ka kb so_far. record {
      none = so_far.none;
      end = λ nothing down positive. absurd (omega (arith, nil, positive));
      placed = λ h. (so_far.placed h).placed;
    })

pub stopped_end : (p : CountTask) (stop : Stop) (best : Option Drawing) (outcome : Fewest) (lines : Lines) → outcome ≡ stopped_with stop best →
    IsStoppedSearch p stop best lines → IsEnd p outcome lines
stopped_end p stop best outcome lines is h = subst (λ (x : Fewest). IsEnd p x lines) (sym is) (by stop h)
  where
    by : (stop : Stop) → IsStoppedSearch p stop best lines → IsEnd p (stopped_with stop best) lines
    by BudgetSpent h = h
    by RoomFull h = h

pub ends_stopped : {S : Type 0} (knows log : S → Lines → Type 0) (count : S → ℕ) (a b e : S) (q p : CountTask) (f n : ℕ) (r : Answer) (d : Drawing)
    (stop : Stop) (outcome : Fewest) → IsOneAsked q p n r → r ≡ Stopped stop → outcome ≡ stopped_with stop (Some d) → n ≡ p.count d →
    Continues knows log count a b (IsRunOfDrawings p f n) → Continues knows log count b e (λ lines more. IsAnswer q lines (Some n) r more) →
    Continues knows log count a e (IsRunToEnd p f outcome)
ends_stopped knows log count a b e q p f n r d stop outcome one was is count_is run asked =
    let limit = Some n in
    goes_on knows log count a b e (IsRunOfDrawings p f n) (λ lines more. IsAnswer q lines limit r more) (IsRunToEnd p f outcome) run asked
    (λ lines xs ys ka kb ke so_far answer.
    let here : IsAnswer p (lines ++ xs) limit r ys = subst (λ (x : CountTask). IsAnswer x (lines ++ xs) limit r ys) one.same answer in
    let got : IsAnswer p (lines ++ xs) limit (Stopped stop) ys = subst (λ (x : Answer). IsAnswer p (lines ++ xs) limit x ys) was here in
    record {
      none = no_clauses_both xs ys so_far.none (asks_no_clauses p limit [] ys got.0 refl);
      end = λ nothing down. stopped_end p stop (Some d) outcome (lines ++ (xs ++ ys)) is (
        subst (IsCause p.budget p.room stop) (append_assoc lines xs ys) got.1,
        subst RefutesNothing (append_assoc lines xs ys) (no_refuted p limit [] (lines ++ xs) ys got.0 not_nothing (so_far.nothing nothing)),
        (
          subst (λ (k : ℕ). 1 ≤ k) count_is (one.within).0,
          subst (AsksFor p (Some (p.count d))) (append_assoc lines xs ys)
              (latest_query p limit [] (lines ++ xs) ys (λ x. refl) got.0 ∙ ap (λ (k : ℕ). Some (query_of p (Some k))) count_is),
          subst (λ (ls : Lines). MeetsModelled p ls (p.count d)) (append_assoc lines xs ys)
              (subst (MeetsModelled p ((lines ++ xs) ++ ys)) count_is
              (met_still p limit n (lines ++ xs) ys got.0 (so_far.placed down).comes.met)),
        ),
      );
      placed = placed_behind q p f n r lines xs ys so_far one here;
    })
