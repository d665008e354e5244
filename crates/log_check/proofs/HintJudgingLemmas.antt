-- A hinted log that is read line by line.
use Rattle.std.proofs.Common.{◌≡◌, ◌≤◌, ◌<◌, ℕ, ◌+◌, List, [], ◌∷◌, ◌++◌, length, refl, sym, ◌∙◌, ap, subst, inl, inr, arith, append-nil, append_assoc}
use Rattle.std.proofs.Common.{length-append}
use Rattle.std.specs.Prelude.{Option, Some, None, Result, Ok, Err, IfOk, MatchOption, flat_map}
use Rattle.std.proofs.lemmas.Bool.{cases_lt}
use Rattle.plan_core.specs.declared.criterion.Criterion.{Criterion}
use Rattle.plan_core.proofs.ListFacts.{each_pushed}
use Rattle.cnf_core.specs.Clause.{Clauses, words_of}
use Rattle.cnf_core.specs.declared.limits.TheConstants.{ROOM}
use Rattle.refute_log.specs.Told.{Lines}
use Rattle.refute_log.specs.Log.{given}
use Rattle.refute_log.proofs.LogLemmas.{flat_map_last}
use Rattle.refute_check.specs.declared.told_bound.ToldBound.{ToldBound}
use Rattle.log_check.specs.declared.claim.Claim.{Claim}
use Rattle.log_check.specs.Expectation.{Expectation}
use Rattle.hint_log.specs.declared.hint_line.HintLine.{HintLine}
use Rattle.hint_log.specs.declared.hint_line.HintLine.TheVariants.{Learnt, Refuted}
use Rattle.hint_log.specs.Hint.{IsGood, FailsAt, shown_lits, hints_of}
use Rattle.hint_log.specs.Checked.{HintFacts, clauses_learnt, refuted_of, facts_with, LacksHintRoom, AcceptsHint}
use Rattle.hint_log.specs.HintedLines.{HintLines}
use Rattle.hint_log.proofs.HintLemmas.{not_both}
use Rattle.hint_log.proofs.HintedLinesLemmas.{good_more}
use Rattle.hint_log.specs.declared.text_fault.HintsWhat.{HintsWhat}
use Rattle.hint_log.specs.HintText.{ended_hint, MayBeWritten, MayAllBeWritten}
use Rattle.log_check.specs.Hinted.{log_of, KnowsHints}
use Rattle.log_check.specs.declared.hint_verdict.HintRefusal.{HintRefusal}
use Rattle.log_check.specs.declared.hint_verdict.HintRefusal.TheVariants.{BadHint}
use Rattle.log_check.specs.declared.hint_verdict.HintsVerdict.{HintsVerdict}
use Rattle.log_check.specs.HintAccepted.{clauses_with, AcceptsHints}
use Rattle.log_check.specs.HintRefused.{IsHintRefusedFor, HasNextHintFault}
use Rattle.log_check.specs.HintsJudged.{IsHintRefused, IsHintFaulty}
use Rattle.log_check.specs.HintProgress.{facts_for, HasAcceptedHints, HasBegun, AreHintsStopped, AreHintsJudged, IsBodyJudged}

-- ---- one line

clauses_more : (e : Expectation) (before : HintLines) (line : HintLine) → clauses_with e before ++ clauses_learnt line ≡ clauses_with e (before ++ line ∷ [])
clauses_more e before line =
    append_assoc (flat_map given e.lines) (flat_map clauses_learnt before) (clauses_learnt line)
    ∙ ap (λ (cs : Clauses). flat_map given e.lines ++ cs) (sym (flat_map_last clauses_learnt before line))

room_more : (e : Expectation) (before : HintLines) (line : HintLine) → words_of (clauses_with e before) ≤ ROOM → (LacksHintRoom (facts_for e before) line → ⊥) →
    words_of (clauses_with e (before ++ line ∷ [])) ≤ ROOM
room_more e before (Learnt lits hints) fits has = let is = ap words_of (clauses_more e before (Learnt lits hints)) in elim
    (cases_lt ROOM (words_of (clauses_with e before ++ lits ∷ []))) [
      | inl high ↦ absurd (has high)
      | inr low ↦ omega (arith, is, low)
    ]
room_more e before (Refuted lits hints) fits has = let is = ap words_of (clauses_more e before (Refuted lits hints)) in let none = ap words_of
    (append-nil (clauses_with e before)) in omega arith

abbrev kept_by : ℕ → Clauses → Clauses → HintFacts
kept_by room clauses refuted = record { room = room; clauses = clauses; refuted = refuted }

facts_more : (e : Expectation) (before : HintLines) (line : HintLine) (old : HintFacts) → old ≡ facts_for e before →
    facts_with old line ≡ facts_for e (before ++ line ∷ [])
facts_more e before line old is =
    ap (λ (k : HintFacts). facts_with k line) is
    ∙ ap (λ (cs : Clauses). kept_by ROOM cs (flat_map refuted_of before ++ refuted_of line)) (clauses_more e before line)
    ∙ ap (λ (cs : Clauses). kept_by ROOM (clauses_with e (before ++ line ∷ [])) cs) (sym (flat_map_last refuted_of before line))

pub accepted_next : (e : Expectation) (before : HintLines) (line : HintLine) (old new : HintFacts) → HasAcceptedHints e before old → AcceptsHint old new line →
    HasAcceptedHints e (before ++ line ∷ []) new
accepted_next e before line old new h a = record {
  accepted = record {
    within = h.accepted.within;
    good = good_more (flat_map given e.lines) before line h.accepted.good (subst (λ (k : HintFacts). IsGood k.clauses line) h.kept_is a.good);
    room = room_more e before line h.accepted.room (subst (λ (k : HintFacts). LacksHintRoom k line → ⊥) h.kept_is a.fits);
  };
  kept_is = a.kept ∙ facts_more e before line old h.kept_is;
}

pub bad_refused : (e : Expectation) (before : HintLines) (line : HintLine) (old : HintFacts) (k : ℕ) → HasAcceptedHints e before old →
    FailsAt old.clauses (shown_lits line) (hints_of line) k → IsHintRefusedFor e before line BadHint
bad_refused e before line old k h fails = λ good.
    not_both (clauses_with e before) (shown_lits line) (hints_of line) k good (subst (λ (f : HintFacts). FailsAt f.clauses (shown_lits line) (hints_of line) k)
    h.kept_is fails)

-- these lines of the text were accepted, and this is left
pub record HasRead (e : Expectation) (body rest : List ℕ) (number : ℕ) (kept : HintFacts) : Type 0 where
  pub lines : HintLines
  pub formed : MayAllBeWritten lines
  pub spelled : body ≡ flat_map ended_hint lines ++ rest
  pub numbered : number ≡ length lines + 3
  pub known : HasAcceptedHints e lines kept

pub read_none : (e : Expectation) (body : List ℕ) (kept : HintFacts) → HasAcceptedHints e [] kept → HasRead e body body 3 kept
read_none e body kept h = record { lines = []; formed = tt; spelled = refl; numbered = refl; known = h }

pub read_next : (e : Expectation) (body rest more : List ℕ) (number : ℕ) (line : HintLine) (old new : HintFacts) → MayBeWritten line →
    rest ≡ ended_hint line ++ more →
    ((before : HintLines) → HasAcceptedHints e before old → HasAcceptedHints e (before ++ line ∷ []) new) → HasRead e body rest number old →
    HasRead e body more (number + 1) new
read_next e body rest more number line old new told is step h = record {
  lines = h.lines ++ line ∷ [];
  formed = each_pushed MayBeWritten h.lines line h.formed told;
  spelled =
      h.spelled ∙ ap (λ (t : List ℕ). flat_map ended_hint h.lines ++ t) is ∙ sym (append_assoc (flat_map ended_hint h.lines) (ended_hint line) more)
      ∙ ap (λ (t : List ℕ). t ++ more) (sym (flat_map_last ended_hint h.lines line));
  numbered = let n = h.numbered in omega (arith, length-append h.lines (line ∷ []));
  known = step h.lines h.known;
}

pub read_whole : (e : Expectation) (body rest : List ℕ) (number : ℕ) (kept : HintFacts) → rest ≡ [] → HasRead e body rest number kept →
    (lines : HintLines) × AcceptsHints e body lines [] × HasAcceptedHints e lines kept
read_whole e body rest number kept none h = (
  h.lines,
  record { formed = h.formed; spelled = h.spelled ∙ ap (λ (t : List ℕ). flat_map ended_hint h.lines ++ t) none; accepted = h.known.accepted },
  h.known,
)

pub read_refused : (e : Expectation) (body rest more : List ℕ) (number : ℕ) (line : HintLine) (why : HintRefusal) (kept : HintFacts) → MayBeWritten line →
    rest ≡ ended_hint line ++ more →
    ((before : HintLines) → HasAcceptedHints e before kept → IsHintRefusedFor e before line why) → HasRead e body rest number kept →
    IsHintRefused e body why number
read_refused e body rest more number line why kept told is refused h = record {
  before = h.lines;
  line = line;
  more = more;
  accepts = record { formed = h.formed; spelled = h.spelled ∙ ap (λ (t : List ℕ). flat_map ended_hint h.lines ++ t) is; accepted = h.known.accepted };
  formed = told;
  refused = refused h.lines h.known;
  numbered = h.numbered;
}

pub read_faulty : (e : Expectation) (body rest : List ℕ) (number : ℕ) (what : HintsWhat) (kept : HintFacts) → HasNextHintFault rest what →
    HasRead e body rest number kept → IsHintFaulty e body what number
read_faulty e body rest number what kept fault h = record {
  before = h.lines;
  rest = rest;
  accepts = record { formed = h.formed; spelled = h.spelled; accepted = h.known.accepted };
  fault = fault;
  numbered = h.numbered;
}

-- what is answered to a line, by whether there is a cause
pub accepted_at : (e : Expectation) (line : HintLine) (old new : HintFacts) (r : Option HintRefusal) → r ≡ None →
    ((before : HintLines) → HasAcceptedHints e before old → MatchOption r (HasAcceptedHints e (before ++ line ∷ []) new) (IsHintRefusedFor e before line)) →
    (before : HintLines) → HasAcceptedHints e before old → HasAcceptedHints e (before ++ line ∷ []) new
accepted_at e line old new r is step = λ before h. subst (λ (o : Option HintRefusal). MatchOption o (HasAcceptedHints e (before ++ line ∷ []) new)
    (IsHintRefusedFor e before line)) is (step before h)

pub refused_at : (e : Expectation) (line : HintLine) (old new : HintFacts) (r : Option HintRefusal) (why : HintRefusal) → r ≡ Some why →
    ((before : HintLines) → HasAcceptedHints e before old → MatchOption r (HasAcceptedHints e (before ++ line ∷ []) new) (IsHintRefusedFor e before line)) →
    (before : HintLines) → HasAcceptedHints e before old → IsHintRefusedFor e before line why
refused_at e line old new r why is step = λ before h. subst (λ (o : Option HintRefusal). MatchOption o (HasAcceptedHints e (before ++ line ∷ []) new)
    (IsHintRefusedFor e before line)) is (step before h)

-- ---- the claim

pub knows : (e : Expectation) (lines : HintLines) (first kept : HintFacts) (bounds : List ToldBound) → HasBegun e first bounds → HasAcceptedHints e lines kept →
    KnowsHints e.lines lines kept bounds
knows e lines first kept bounds begun h = record { alone = begun.alone; refuted = ap (λ (k : HintFacts). k.refuted) h.kept_is; bounds_are = begun.bounds_are }

-- the lines of a text that was read to its end are judged
pub body_judged : {X : Type 0} (res : Result HintsVerdict X) (greatest : Criterion → ℕ) (order : List Criterion) (claim : Claim) (body : List ℕ)
    (first kept : HintFacts) (bounds : List ToldBound) (r : Option HintsVerdict) → r ≡ None →
    ((e : Expectation) → HasAcceptedHints e [] first → MatchOption r ((lines : HintLines) × AcceptsHints e body lines [] × HasAcceptedHints e lines kept)
    (AreHintsStopped e body)) →
    IfOk res (λ v. (told : Lines) (lines : HintLines) → KnowsHints told lines kept bounds → AreHintsJudged greatest (log_of told lines) order claim v) →
    IfOk res (λ v. (e : Expectation) → HasBegun e first bounds → IsBodyJudged greatest order claim e body v)
body_judged (Ok v) greatest order claim body first kept bounds r none judged k = λ e begun.
    let w = subst (λ (x : Option HintsVerdict). MatchOption x ((lines : HintLines) × AcceptsHints e body lines [] × HasAcceptedHints e lines kept)
    (AreHintsStopped e body)) none (judged e begun.none) in
    inl (w.0, w.1, k e.lines w.0 (knows e w.0 first kept bounds begun w.2))
body_judged (Err x) greatest order claim body first kept bounds r none judged k = tt

-- a checker that accepted the lines of a text knows some
pub body_known : (body : List ℕ) (first kept : HintFacts) (bounds : List ToldBound) (r : Option HintsVerdict) (e : Expectation) → r ≡ None →
    HasBegun e first bounds →
    ((e : Expectation) → HasAcceptedHints e [] first → MatchOption r ((lines : HintLines) × AcceptsHints e body lines [] × HasAcceptedHints e lines kept)
    (AreHintsStopped e body)) → (told : Lines) × (lines : HintLines) × KnowsHints told lines kept bounds
body_known body first kept bounds r e none begun judged =
    let w = subst (λ (x : Option HintsVerdict). MatchOption x ((lines : HintLines) × AcceptsHints e body lines [] × HasAcceptedHints e lines kept)
    (AreHintsStopped e body)) none (judged e begun.none) in
    (e.lines, w.0, knows e w.0 first kept bounds begun w.2)

pub body_stopped : (greatest : Criterion → ℕ) (order : List Criterion) (claim : Claim) (body : List ℕ) (first kept : HintFacts) (bounds : List ToldBound)
    (r : Option HintsVerdict) (v : HintsVerdict) → r ≡ Some v →
    ((e : Expectation) → HasAcceptedHints e [] first → MatchOption r ((lines : HintLines) × AcceptsHints e body lines [] × HasAcceptedHints e lines kept)
    (AreHintsStopped e body)) → (e : Expectation) → HasBegun e first bounds → IsBodyJudged greatest order claim e body v
body_stopped greatest order claim body first kept bounds r v is judged = λ e begun.
    inr (subst (λ (x : Option HintsVerdict). MatchOption x ((lines : HintLines) × AcceptsHints e body lines [] × HasAcceptedHints e lines kept)
    (AreHintsStopped e body)) is (judged e begun.none))

-- the claim, by its variant
pub judged_as : (greatest : Criterion → ℕ) (log : Lines) (order : List Criterion) (claim other : Claim) (verdict : HintsVerdict) → claim ≡ other →
    AreHintsJudged greatest log order other verdict → AreHintsJudged greatest log order claim verdict
judged_as greatest log order claim other verdict is h = subst (λ (x : Claim). AreHintsJudged greatest log order x verdict) (sym is) h
