-- Where lines stand: those of a question, and those of a criterion's bounds.
use Rattle.std.proofs.Common.{◌≡◌, ℕ, zero, suc, ◌+◌, List, [], ◌∷◌, ◌++◌, map, refl, sym, ◌∙◌, ap, subst, append-nil, append_assoc, None}
use Rattle.std.proofs.lemmas.Grind.{fold-append}
use Rattle.plan_core.specs.declared.criterion.Criterion.{Criterion}
use Rattle.plan_core.specs.Values.{values_of}
use Rattle.plan_core.specs.Drawing.{Drawing}
use Rattle.cnf_core.specs.declared.literal.Var.{Var}
use Rattle.cnf_core.specs.Lit.{Literal}
use Rattle.cnf_core.specs.Clause.{Clauses}
use Rattle.refute_log.specs.declared.line.LogLine.{LogLine}
use Rattle.refute_log.specs.declared.line.LogLine.TheVariants.{Formula, Learnt, Bound, Query, Refuted, Model}
use Rattle.refute_log.specs.Told.{Lines}
use Rattle.refute_log.specs.Expected.{Problem, bound_lines, sum_lines}
use Rattle.refute_log.proofs.CertifiedLemmas.{certifies_more}
use Rattle.search_least.specs.declared.oracle.Below.{Below}
use Rattle.search_least.specs.declared.oracle.Reply.{Reply}
use Rattle.search_least.specs.declared.oracle.Reply.TheVariants as reply
use Rattle.search_least.specs.Task.{Task, IsLawful, greatest_of}
use Rattle.search_least.specs.Asked.{AreOnce, AreMet, IsAsked, IsReply, IsRightReply, IsMet, Queries, after_line, queries}
use Rattle.search_least.specs.Placed.{IsQuestion, HasAnswer, IsReached, EachBehind, IsUnderBounds, AreUnderBounds, IsPlaced, AreInTurn}
use Rattle.search_least.proofs.QuestionLemmas.{met_later, met_found}
use Rattle.search_least.proofs.BehindLemmas.{behind_none, behind_more, behind_mapped, behind_unended, ended_with, behind_ended}

-- ---- the first lines

pub first_placed : (p : Task) (order : List Criterion) → AreInTurn p order (map Formula p.encoding.clauses)
first_placed p order = behind_mapped (IsPlaced p order) Formula [] p.encoding.clauses (λ before c. tt) (behind_none (IsPlaced p order))

-- ---- a question

-- a search in which questions under bounds and their answers may stand
pub record TakesQuestions (p : Task) (IsSo : Lines → LogLine → Type 0) : Type 0 where
  pub question : (before : Lines) (query : List Literal) → IsQuestion before query → IsSo before (Query query)
  pub answer : (before : Lines) → HasAnswer p before → IsSo before Model
  pub learnt : (before : Lines) (c : List Literal) → IsSo before (Learnt c)
  pub refuted : (before : Lines) (c : List Literal) → IsSo before (Refuted c)

in_turn : (p : Task) (order : List Criterion) → TakesQuestions p (IsPlaced p order)
in_turn p order = record { question = λ before query h. h; answer = λ before h. h; learnt = λ before c. tt; refuted = λ before c. tt }

under_bounds : (p : Task) → TakesQuestions p (IsUnderBounds p)
under_bounds p = record { question = λ before query h. h; answer = λ before h. h; learnt = λ before c. tt; refuted = λ before c. tt }

stopped_behind : (p : Task) (IsSo : Lines → LogLine → Type 0) (now : Lines) (bounds : List Below) (more : Lines) → TakesQuestions p IsSo → AreOnce bounds →
    IsAsked now bounds [] more → EachBehind IsSo now → EachBehind IsSo (now ++ more)
stopped_behind p IsSo now bounds more takes once a h =
    behind_unended IsSo now more a.query a.clauses a.is takes.learnt (takes.question now a.query (record {
      bounds = bounds;
      once = once;
      negated = a.negated;
    })) h

refuted_behind : (p : Task) (IsSo : Lines → LogLine → Type 0) (now : Lines) (bounds : List Below) (more : Lines) (clause : List Literal) →
    TakesQuestions p IsSo → AreOnce bounds → IsAsked now bounds (Refuted clause ∷ []) more → EachBehind IsSo now →
    EachBehind IsSo (now ++ more)
refuted_behind p IsSo now bounds more clause takes once a h =
    behind_ended IsSo now more a.query a.clauses (Refuted clause) a.is takes.learnt (takes.question now a.query (record {
      bounds = bounds;
      once = once;
      negated = a.negated;
    }))
    (takes.refuted (now ++ Query a.query ∷ map Learnt a.clauses) clause) h

found_behind : (p : Task) (IsSo : Lines → LogLine → Type 0) (now : Lines) (bounds : List Below) (more : Lines) (d : Drawing) → TakesQuestions p IsSo →
    AreOnce bounds → IsLawful p d → AreMet (values_of d) bounds → IsAsked now bounds (Model ∷ []) more →
    EachBehind IsSo now → EachBehind IsSo (now ++ more)
found_behind p IsSo now bounds more d takes once lawful met a h =
    let front : Lines = now ++ Query a.query ∷ map Learnt a.clauses in
    let same : front ++ Model ∷ [] ≡ now ++ more = ended_with now more a.query a.clauses Model a.is in
    let answer : HasAnswer p front = record {
      drawing = d;
      lawful = lawful;
      met = subst (λ (ls : Lines). IsMet ls (values_of d)) (sym same) (met_found now bounds more (values_of d) a met);
    } in
    behind_ended IsSo now more a.query a.clauses Model a.is takes.learnt (takes.question now a.query (record {
      bounds = bounds;
      once = once;
      negated = a.negated;
    })) (takes.answer front answer) h

-- in a search for least values
pub placed_stopped : (p : Task) (order : List Criterion) (now : Lines) (bounds : List Below) (more : Lines) → AreOnce bounds → IsAsked now bounds [] more →
    AreInTurn p order now → AreInTurn p order (now ++ more)
placed_stopped p order now bounds more once a h = stopped_behind p (IsPlaced p order) now bounds more (in_turn p order) once a h

pub placed_refuted : (p : Task) (order : List Criterion) (now : Lines) (bounds : List Below) (more : Lines) (clause : List Literal) → AreOnce bounds →
    IsAsked now bounds (Refuted clause ∷ []) more → AreInTurn p order now → AreInTurn p order (now ++ more)
placed_refuted p order now bounds more clause once a h = refuted_behind p (IsPlaced p order) now bounds more clause (in_turn p order) once a h

pub placed_found : (p : Task) (order : List Criterion) (now : Lines) (bounds : List Below) (more : Lines) (d : Drawing) → AreOnce bounds → IsLawful p d →
    AreMet (values_of d) bounds → IsAsked now bounds (Model ∷ []) more → AreInTurn p order now →
    AreInTurn p order (now ++ more)
placed_found p order now bounds more d once lawful met a h = found_behind p (IsPlaced p order) now bounds more d (in_turn p order) once lawful met a h

-- in any search under bounds
pub asked_under_bounds : (p : Task) (now : Lines) (bounds : List Below) (reply : Reply) (more : Lines) → AreOnce bounds → IsRightReply p bounds reply →
    IsReply p now bounds reply more → AreUnderBounds p now → AreUnderBounds p (now ++ more)
asked_under_bounds p now bounds (reply.Found d) more once right a h = found_behind p (IsUnderBounds p) now bounds more d (under_bounds p) once right.0 right.1 a
    h
asked_under_bounds p now bounds reply.Refuted more once right a h = refuted_behind p (IsUnderBounds p) now bounds more a.0 (under_bounds p) once a.2 h
asked_under_bounds p now bounds (reply.Stopped stop) more once right a h = stopped_behind p (IsUnderBounds p) now bounds more (under_bounds p) once a.0 h

-- ---- the bounds of a criterion

reached_more : (p : Task) (order : List Criterion) (now : Lines) (c : Criterion) (line : LogLine) → ((q : Queries) → after_line q line ≡ q) →
    IsReached p order now c → IsReached p order (now ++ line ∷ []) c
reached_more p order now c line still r =
    let start : Queries = record { latest = None; modelled = None } in
    record {
      place = r.place;
      at = r.at;
      drawing = r.drawing;
      lawful = r.lawful;
      met = met_later now (line ∷ []) (values_of r.drawing) (ap (λ (q : Queries). q.modelled)
          (fold-append after_line start now (line ∷ []) ∙ still (queries now))) r.met;
      certified = certifies_more (greatest_of p) now (line ∷ []) order (values_of r.drawing) r.place r.certified;
    }

reached_formulas : (p : Task) (order : List Criterion) (now : Lines) (c : Criterion) (cs : Clauses) → IsReached p order now c →
    IsReached p order (now ++ map Formula cs) c
reached_formulas p order now c [] r = subst (λ (ls : Lines). IsReached p order ls c) (sym (append-nil now)) r
reached_formulas p order now c (f ∷ fs) r =
    subst (λ (ls : Lines). IsReached p order ls c) (append_assoc now (Formula f ∷ []) (map Formula fs))
    (reached_formulas p order (now ++ Formula f ∷ []) c fs (reached_more p order now c (Formula f) (λ q. refl) r))

bounds_placed : (p : Task) (order : List Criterion) (now : Lines) (c : Criterion) (k : ℕ) (xs : List Var) → IsReached p order now c → AreInTurn p order now →
    AreInTurn p order (now ++ bound_lines c k xs)
bounds_placed p order now c k [] r h = subst (AreInTurn p order) (sym (append-nil now)) h
bounds_placed p order now c k (x ∷ xs) r h =
    subst (AreInTurn p order) (append_assoc now (Bound c k x ∷ []) (bound_lines c (k + 1) xs))
    (bounds_placed p order (now ++ Bound c k x ∷ []) c (k + 1) xs (reached_more p order now c (Bound c k x) (λ q. refl) r)
    (behind_more (IsPlaced p order) now (Bound c k x) h r))

pub placed_built : (p : Task) (order : List Criterion) (now : Lines) (e : Problem) (first : ℕ) (c : Criterion) (n : ℕ) → IsReached p order now c →
    AreInTurn p order now → AreInTurn p order (now ++ sum_lines e first c n)
placed_built p order now e first c zero r h = subst (AreInTurn p order) (sym (append-nil now)) h
placed_built p order now e first c (suc n) r h =
    let clauses : Lines = map Formula (e.sum first c (suc n)) in
    subst (AreInTurn p order) (append_assoc now clauses (bound_lines c 1 (e.bounds first c (suc n))))
    (bounds_placed p order (now ++ clauses) c 1 (e.bounds first c (suc n)) (reached_formulas p order now c (e.sum first c (suc n)) r)
    (behind_mapped (IsPlaced p order) Formula now (e.sum first c (suc n)) (λ before f. tt) h))

-- in a search under bounds they may stand anywhere, as the formula's
pub record TakesClauses (IsSo : Lines → LogLine → Type 0) : Type 0 where
  pub formula : (before : Lines) (c : List Literal) → IsSo before (Formula c)
  pub bound : (before : Lines) (c : Criterion) (k : ℕ) (x : Var) → IsSo before (Bound c k x)

bounds_anywhere : (IsSo : Lines → LogLine → Type 0) (now : Lines) (c : Criterion) (k : ℕ) (xs : List Var) → TakesClauses IsSo → EachBehind IsSo now →
    EachBehind IsSo (now ++ bound_lines c k xs)
bounds_anywhere IsSo now c k [] takes h = subst (EachBehind IsSo) (sym (append-nil now)) h
bounds_anywhere IsSo now c k (x ∷ xs) takes h =
    subst (EachBehind IsSo) (append_assoc now (Bound c k x ∷ []) (bound_lines c (k + 1) xs))
    (bounds_anywhere IsSo (now ++ Bound c k x ∷ []) c (k + 1) xs takes (behind_more IsSo now (Bound c k x) h (takes.bound now c k x)))

pub sums_anywhere : (IsSo : Lines → LogLine → Type 0) (now : Lines) (e : Problem) (first : ℕ) (c : Criterion) (n : ℕ) → TakesClauses IsSo →
    EachBehind IsSo now → EachBehind IsSo (now ++ sum_lines e first c n)
sums_anywhere IsSo now e first c zero takes h = subst (EachBehind IsSo) (sym (append-nil now)) h
sums_anywhere IsSo now e first c (suc n) takes h =
    let clauses : Lines = map Formula (e.sum first c (suc n)) in
    subst (EachBehind IsSo) (append_assoc now clauses (bound_lines c 1 (e.bounds first c (suc n))))
    (bounds_anywhere IsSo (now ++ clauses) c 1 (e.bounds first c (suc n)) takes (behind_mapped IsSo Formula now (e.sum first c (suc n)) takes.formula h))

pub first_anywhere : (IsSo : Lines → LogLine → Type 0) (p : Task) → TakesClauses IsSo → EachBehind IsSo (map Formula p.encoding.clauses)
first_anywhere IsSo p takes = behind_mapped IsSo Formula [] p.encoding.clauses takes.formula (behind_none IsSo)

pub clauses_under_bounds : (p : Task) → TakesClauses (IsUnderBounds p)
clauses_under_bounds p = record { formula = λ before c. tt; bound = λ before c k x. tt }
