-- The outcomes.
use Rattle.std.proofs.Common.{◌≡◌, ℕ, ◌<◌, ◌≤◌, ◌⊎◌, List, [], ◌∷◌, ◌++◌, length, map, refl, sym, ◌∙◌, ap, subst, inl, inr, arith, append-nil, append_assoc}
use Rattle.std.specs.Prelude.{All, Contains, None, Option, MatchOption, ⊤, flat_map, fold}
use Rattle.std.proofs.lemmas.Bool.{cases_lt}
use Rattle.std.proofs.lemmas.List.Elements.{All-map, All-contains}
use Rattle.plan_core.specs.Drawing.{Drawing}
use Rattle.cnf_core.specs.Lit.{Literal}
use Rattle.cnf_core.specs.Clause.{Clauses, words_of}
use Rattle.refute_log.specs.declared.line.LogLine.{LogLine}
use Rattle.refute_log.specs.declared.line.LogLine.TheVariants.{Formula, Refuted as RefutedLine, Model}
use Rattle.refute_log.specs.Lines.{MayAllBeTold}
use Rattle.refute_log.specs.Told.{Lines}
use Rattle.refute_log.specs.Log.{added, asked, learnt, Derives, Due, clause_lines}
use Rattle.refute_log.specs.declared.stop.Stop.{Stop}
use Rattle.refute_log.specs.declared.stop.Stop.TheVariants.{BudgetSpent, RoomFull}
use Rattle.refute_log.specs.Steps.{ToldBehind, Continues}
use Rattle.refute_log.proofs.StepLemmas.{goes_on, becomes, clause_lines_append}
use Rattle.search_least.proofs.BuildLemmas.{formulas_are_clauses}
use Rattle.search_least.proofs.QuestionLemmas.{not_model, not_nothing}
use Rattle.search_least.specs.declared.questions.Answer.{Answer}
use Rattle.search_least.specs.declared.questions.Answer.TheVariants.{Found, Refuted, Stopped}
use Rattle.search_least.specs.declared.fewest.Fewest.{Fewest}
use Rattle.search_least.specs.declared.fewest.Fewest.TheVariants.{NoDrawing}
use Rattle.search_least.specs.CountTask.{CountTask, IsOne}
use Rattle.search_least.specs.CountAsked.{IsBelow, SaysReached, IsAsked, IsAnswer, IsRightAnswer}
use Rattle.search_least.specs.Fewest.{IsRightFewest, IsEnd, IsFewestLog, stopped_with}
use Rattle.search_least.specs.CountPlaced.{IsNextLimit, IsCountPlaced, AreCountsAsked}
use Rattle.search_least.specs.Run.{RefutesNothing, IsAskedDownTo, IsRunToEnd}
use Rattle.search_least.proofs.BehindLemmas.{behind_none, behind_mapped}
use Rattle.search_least.proofs.AskLemmas.{asks_no_clauses, no_refuted, no_model, ends_in, stopped_end, counts_asked, comes_to, latest_query}

-- ---- of drawings

pub found_fact : (p : CountTask) (limit : Option ℕ) (d : Drawing) (r : Answer) → r ≡ Found d → IsRightAnswer p limit r → IsOne p d × IsBelow limit (p.count d)
found_fact p limit d r was fact = subst (IsRightAnswer p limit) was fact

pub fewest_from : (p : CountTask) (n : ℕ) (d : Drawing) → n ≡ p.count d → IsOne p d → ((e : Drawing) → IsOne p e → p.count e < n → ⊥) →
    IsOne p d × ((e : Drawing) → IsOne p e → p.count d ≤ p.count e)
fewest_from p n d is one none = (one, λ e other. by e other (cases_lt (p.count e) n))
  where
    by : (e : Drawing) → IsOne p e → (p.count e < n) ⊎ (n ≤ p.count e) → p.count d ≤ p.count e
    by e other (inr le) = omega (arith, is, le)
    by e other (inl lt) = absurd (none e other lt)

pub fewest_zero : (p : CountTask) (n : ℕ) (d : Drawing) → n ≡ p.count d → IsOne p d → n ≡ 0 → IsOne p d × ((e : Drawing) → IsOne p e → p.count d ≤ p.count e)
fewest_zero p n d is one nil = (one, λ e other. omega (arith, is, nil))

pub right_stopped : (p : CountTask) (stop : Stop) (best : Option Drawing) (outcome : Fewest) → outcome ≡ stopped_with stop best → MatchOption best ⊤ (IsOne p) →
    IsRightFewest p outcome
right_stopped p stop best outcome is h = subst (IsRightFewest p) (sym is) (by stop h)
  where
    by : (stop : Stop) → MatchOption best ⊤ (IsOne p) → IsRightFewest p (stopped_with stop best)
    by BudgetSpent h = h
    by RoomFull h = h

-- ---- the first question

only_formulas : (cs : Clauses) (line : LogLine) → ((c : List Literal) → Formula c ≡ line → ⊥) → Contains (map Formula cs) line → ⊥
only_formulas cs line differs there = All-contains (λ (l : LogLine). l ≡ line → ⊥) (map Formula cs) line
    (All-map (λ (l : LogLine). l ≡ line → ⊥) Formula cs (λ k d lt. differs _)) there refl

formulas_refute_nothing : (cs : Clauses) → RefutesNothing (map Formula cs)
formulas_refute_nothing cs = λ clause there. only_formulas cs (RefutedLine clause) (λ c e. cc) there

no_literal : (p : CountTask) (clause : List Literal) → All (SaysReached p None) clause → clause ≡ []
no_literal p [] h = refl
no_literal p (l ∷ ls) h = absurd (h 0 l (omega arith))

-- what is so behind the formula
pub record IsWholeSearch (p : CountTask) (outcome : Fewest) (lines more : Lines) : Type 0 where
  pub none : clause_lines more ≡ []
  pub end : IsEnd p outcome (lines ++ more)
  pub placed : AreCountsAsked p (lines ++ more)

abbrev pub EndsBehind : CountTask → Fewest → Lines → Lines → Type 0
EndsBehind p outcome lines more = lines ≡ map Formula p.clauses → IsWholeSearch p outcome lines more

formulas_placed : (p : CountTask) (lines : Lines) → lines ≡ map Formula p.clauses → AreCountsAsked p lines
formulas_placed p lines is = subst (AreCountsAsked p) (sym is) (behind_mapped (IsCountPlaced p) Formula [] p.clauses (λ before c. tt)
    (behind_none (IsCountPlaced p)))

formulas_ask_nothing : (cs : Clauses) → fold asked None (map Formula cs) ≡ None
formulas_ask_nothing [] = refl
formulas_ask_nothing (c ∷ cs) = formulas_ask_nothing cs

-- any drawing is asked for behind them
any_is_next : (p : CountTask) (lines : Lines) → lines ≡ map Formula p.clauses → IsNextLimit p lines None
any_is_next p lines is = (tt, ap (fold asked None) is ∙ formulas_ask_nothing p.clauses)

pub first_found : {S : Type 0} (knows log : S → Lines → Type 0) (count : S → ℕ) (a b e : S) (q p : CountTask) (r : Answer) (d : Drawing) (outcome : Fewest) →
    q ≡ p → r ≡ Found d → IsRightAnswer p None r →
    Continues knows log count a b (λ lines more. IsAnswer p lines None r more) → Continues knows log count b e (IsRunToEnd q (q.count d) outcome) →
    Continues knows log count a e (EndsBehind p outcome)
first_found knows log count a b e q p r d outcome same was right asked run =
    goes_on knows log count a b e (λ lines more. IsAnswer p lines None r more) (IsRunToEnd p (p.count d) outcome) (EndsBehind p outcome) asked
    (subst (λ (x : CountTask). Continues knows log count b e (IsRunToEnd x (x.count d) outcome)) same run)
    (λ lines xs ys ka kb ke answer end is.
    let got : IsAsked p None (Model ∷ []) xs = subst (λ (x : Answer). IsAnswer p lines None x xs) was answer in
    let nothing : RefutesNothing lines = subst RefutesNothing (sym is) (formulas_refute_nothing p.clauses) in
    let down : IsAskedDownTo p (p.count d) (lines ++ xs) = record {
      placed = counts_asked p None lines xs r answer right (any_is_next p lines is) (formulas_placed p lines is);
      comes = comes_to p None (p.count d) lines xs got tt;
    } in
    record {
      none = both xs ys (asks_no_clauses p None (Model ∷ []) xs got refl) end.none;
      end = subst (IsEnd p outcome) (append_assoc lines xs ys) (end.end (no_refuted p None (Model ∷ []) lines xs got not_model nothing) down);
      placed = subst (AreCountsAsked p) (append_assoc lines xs ys) (end.placed down);
    })
  where
    both : (xs ys : Lines) → clause_lines xs ≡ [] → clause_lines ys ≡ [] → clause_lines (xs ++ ys) ≡ []
    both xs ys f g = clause_lines_append xs ys ∙ ap (λ (ls : Lines). ls ++ clause_lines ys) f ∙ g

pub first_refuted : {S : Type 0} (knows log : S → Lines → Type 0) (count : S → ℕ) (a b : S) (p : CountTask) (r : Answer) → r ≡ Refuted →
    IsRightAnswer p None r →
    Continues knows log count a b (λ lines more. IsAnswer p lines None r more) → Continues knows log count a b (EndsBehind p NoDrawing)
first_refuted knows log count a b p r was right asked = becomes knows log count a b (λ lines more. IsAnswer p lines None r more) (EndsBehind p NoDrawing) asked
    (λ lines xs ka kb answer is.
    let got : IsAnswer p lines None Refuted xs = subst (λ (x : Answer). IsAnswer p lines None x xs) was answer in
    record {
      none = asks_no_clauses p None (RefutedLine got.0 ∷ []) xs got.2 refl;
      end = subst (λ (c : List Literal). Contains (lines ++ xs) (RefutedLine c)) (no_literal p got.0 got.1) (ends_in p None lines xs (RefutedLine got.0) got.2);
      placed = counts_asked p None lines xs r answer right (any_is_next p lines is) (formulas_placed p lines is);
    })

pub first_stopped : {S : Type 0} (knows log : S → Lines → Type 0) (count : S → ℕ) (a b : S) (p : CountTask) (r : Answer) (stop : Stop) (outcome : Fewest) →
    r ≡ Stopped stop → outcome ≡ stopped_with stop None → IsRightAnswer p None r →
    Continues knows log count a b (λ lines more. IsAnswer p lines None r more) → Continues knows log count a b (EndsBehind p outcome)
first_stopped knows log count a b p r stop outcome was ended right asked = becomes knows log count a b (λ lines more. IsAnswer p lines None r more)
    (EndsBehind p outcome) asked
    (λ lines xs ka kb answer is.
    let got : IsAnswer p lines None (Stopped stop) xs = subst (λ (x : Answer). IsAnswer p lines None x xs) was answer in
    record {
      none = asks_no_clauses p None [] xs got.0 refl;
      end = stopped_end p stop None outcome (lines ++ xs) ended (
        got.1,
        no_refuted p None [] lines xs got.0 not_nothing (subst RefutesNothing (sym is) (formulas_refute_nothing p.clauses)),
        (
          no_model p None lines xs got.0 (subst (λ (ls : Lines). Contains ls Model → ⊥) (sym is) (only_formulas p.clauses Model (λ c e. cc))),
          latest_query p
              None [] lines xs (λ x. refl) got.0,
        ),
      );
      placed = counts_asked p None lines xs r answer right (any_is_next p lines is) (formulas_placed p lines is);
    })

-- ---- the whole search

pub record LogLaws {S : Type 0} (knows : S → Lines → Type 0) (s : S) (p : CountTask) : Type 0 where
  pub formed : (lines : Lines) → knows s lines → MayAllBeTold lines
  pub derives : (lines : Lines) → knows s lines → Derives lines
  pub due : (lines : Lines) → knows s lines → Due lines
  pub fits : (lines : Lines) → knows s lines → words_of (flat_map added lines) ≤ p.room
  pub within : (lines : Lines) → knows s lines → length (flat_map learnt lines) ≤ p.budget

pub log_laws_at : {S : Type 0} (knows : S → Lines → Type 0) (s : S) (q p : CountTask) → q ≡ p → LogLaws knows s q → LogLaws knows s p
log_laws_at knows s q p same laws = subst (LogLaws knows s) same laws

pub tells : {S : Type 0} (knows log : S → Lines → Type 0) (count : S → ℕ) (a e : S) (p : CountTask) (outcome : Fewest) → LogLaws knows e p →
    knows a (map Formula p.clauses) → Continues knows log count a e (EndsBehind p outcome) →
    ToldBehind (knows e) (log a) (log e) (count a) (count e) (map Formula p.clauses) (λ more. IsFewestLog p outcome (map Formula p.clauses ++ more))
tells knows log count a e p outcome laws start goes =
    let from = map Formula p.clauses in
    let t : ToldBehind (knows e) (log a) (log e) (count a) (count e) from (EndsBehind p outcome from) = goes from start in
    let end = t.does refl in
    let lines = from ++ t.more in
    record {
      more = t.more;
      knows = t.knows;
      told = t.told;
      counted = t.counted;
      does = record {
        formed = laws.formed lines t.knows;
        derives = laws.derives lines t.knows;
        due = laws.due lines t.knows;
        told = clause_lines_append from t.more ∙ ap (λ (ls : Lines). ls ++ clause_lines t.more) (formulas_are_clauses p.clauses)
            ∙ ap (λ (ls : Lines). from ++ ls) end.none ∙ append-nil from;
        fits = laws.fits lines t.knows;
        within = laws.within lines t.knows;
        placed = end.placed;
        end = end.end;
      };
    }
