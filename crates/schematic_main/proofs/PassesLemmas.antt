-- What draw wrote passes check: the lines of a search are accepted, and certify what its sheet claims.
use Rattle.std.proofs.Common.{◌≡◌, ◌≢◌, ◌⊎◌, ◌≤◌, List, [], length, None, Some, refl, sym, ◌∙◌, ap, subst, inl, inr, arith, append-nil}
use Rattle.std.specs.Prelude.{false, flat_map, IfSome}
use Rattle.std.proofs.lemmas.List.{take_all}
use Rattle.plan_core.specs.declared.criterion.Criterion.{Criterion}
use Rattle.plan_core.specs.Grid.{GridSize}
use Rattle.plan_core.specs.Graph.{Graph}
use Rattle.plan_core.specs.Lawful.{Lawful}
use Rattle.plan_core.specs.Values.{values_of, limit_of, Better}
use Rattle.track_order.specs.Order.{EdgeOrder, is_above}
use Rattle.cnf_core.specs.declared.limits.TheConstants.{ROOM}
use Rattle.cnf_core.specs.Clause.{words_of}
use Rattle.plan_text.specs.SheetText.{sheet_text}
use Rattle.plan_text.specs.SheetFaults.{IsSheetText}
use Rattle.refute_log.specs.Lines.{log_text}
use Rattle.refute_log.specs.Told.{Lines}
use Rattle.refute_log.specs.Log.{given, added, clause_lines}
use Rattle.refute_log.proofs.LogLemmas.{words_of_log}
use Rattle.refute_log.specs.Expected.{caps, IsAllExpected}
use Rattle.refute_log.proofs.MeetsLemmas.{given_of_clauses}
use Rattle.drawing_cnf.specs.Layout.{layout, problem_of}
use Rattle.search_least.specs.declared.outcome.Outcome.{Outcome}
use Rattle.search_least.specs.declared.outcome.Outcome.TheVariants as outcomes
use Rattle.search_least.specs.Outcome.{IsOutcome, IsSearched}
use Rattle.log_check.specs.declared.claim.Claim.{Claim}
use Rattle.log_check.specs.declared.verdict.Verdict.TheVariants as verdicts
use Rattle.log_check.specs.TextLines.{told_bound_line}
use Rattle.log_check.specs.Expectation.{Expectation, expectation, PassesLimits}
use Rattle.log_check.specs.Accepted.{AreAccepted}
use Rattle.log_check.specs.Claimed.{CertifiesClaim, IsTrueClaim}
use Rattle.log_check.specs.Judged.{IsLogJudged}
use Rattle.log_check.proofs.CountingLemmas.{caps_alone}
use Rattle.log_check.proofs.JudgingLemmas.{same_expectation}
use Rattle.run_check.specs.CheckLine.{claim_of}
use Rattle.run_draw_front.proofs.OutcomeLemmas.{searched_of}
use Rattle.run_draw_front.specs.Drawn.{Job, search_of, sheet_of}
use Rattle.run_check.specs.Checked.{PassesCheck}
use Rattle.log_trim.proofs.OwnLog.{own_bounds}

-- ---- the lines are accepted

abbrev expected_of : Graph → EdgeOrder → Job → Lines → Expectation
expected_of g o asked lines = expectation (layout g o asked.grid) asked.order (caps (limit_of g asked.grid) lines)

-- what is expected is told as a whole, or nothing is
abbrev IsWholeOrNone : Graph → EdgeOrder → Job → Lines → Type 0
IsWholeOrNone g o asked lines = IsAllExpected (problem_of (layout g o asked.grid)) (limit_of g asked.grid) asked.order lines ⊎ (lines ≡ [])

whole_or_none : (g : Graph) (o : EdgeOrder) (asked : Job) (outcome : Outcome) (lines : Lines) → IsOutcome (search_of g o asked) asked.order outcome lines →
    IsWholeOrNone g o asked lines
whole_or_none g o asked (outcomes.Best d) lines ended = inl ended.whole
whole_or_none g o asked outcomes.NoDrawing lines ended = inl ended.whole
whole_or_none g o asked (outcomes.Spent None settled) lines ended = ended.told
whole_or_none g o asked (outcomes.Spent (Some d) settled) lines ended = inl ended.whole
whole_or_none g o asked (outcomes.Room None settled) lines ended = ended.told
whole_or_none g o asked (outcomes.Room (Some d) settled) lines ended = inl ended.whole

-- its words have room where they are told
few_words : (e : Expectation) (lines : Lines) → clause_lines lines ≡ e.lines → words_of (flat_map added lines) ≤ ROOM → words_of (flat_map given e.lines) ≤ ROOM
few_words e lines whole fits =
    let split = words_of_log lines in
    let given_of : words_of (flat_map given e.lines) ≡ words_of (flat_map given lines) = ap (λ (xs : Lines). words_of (flat_map given xs)) (sym whole)
    ∙ ap words_of (given_of_clauses lines) in
    omega (arith, split, given_of, fits)

within : (g : Graph) (o : EdgeOrder) (asked : Job) (lines : Lines) → IsSearched (search_of g o asked) asked.order lines → IsWholeOrNone g o asked lines →
    clause_lines lines ≢ [] → PassesLimits (expected_of g o asked lines) → ⊥
within g o asked lines searched told some (inl many) = let few = searched.few some in omega (arith, few, many)
within g o asked lines searched (inl whole) some (inr long) = let short = few_words (expected_of g o asked lines) lines whole searched.fits in omega
    (arith, short, long)
within g o asked lines searched (inr none) some (inr long) = absurd (some (ap (λ (xs : Lines). clause_lines xs) none))

accepted : (g : Graph) (o : EdgeOrder) (asked : Job) (lines : Lines) → IsSearched (search_of g o asked) asked.order lines → IsWholeOrNone g o asked lines →
    AreAccepted (expected_of g o asked lines) lines
accepted g o asked lines searched told = record {
  front = searched.front;
  within = within g o asked lines searched told;
  derives = searched.derives;
  room = searched.fits;
}

-- ---- and certify the claim, which is so

lawful_found : (g : Graph) (o : EdgeOrder) (asked : Job) (outcome : Outcome) (lines : Lines) → IsOutcome (search_of g o asked) asked.order outcome lines →
    IfSome (sheet_of asked outcome).found (Lawful g (is_above o) asked.grid)
lawful_found g o asked (outcomes.Best d) lines ended = ended.lawful
lawful_found g o asked outcomes.NoDrawing lines ended = tt
lawful_found g o asked (outcomes.Spent None settled) lines ended = tt
lawful_found g o asked (outcomes.Spent (Some d) settled) lines ended = ended.lawful
lawful_found g o asked (outcomes.Room None settled) lines ended = tt
lawful_found g o asked (outcomes.Room (Some d) settled) lines ended = ended.lawful

abbrev claim_for : Job → Outcome → Claim
claim_for asked outcome = claim_of asked.order (sheet_of asked outcome).found (sheet_of asked outcome).ending

certifies : (g : Graph) (o : EdgeOrder) (asked : Job) (outcome : Outcome) (lines : Lines) → IsOutcome (search_of g o asked) asked.order outcome lines →
    CertifiesClaim (limit_of g asked.grid) lines asked.order (claim_for asked outcome)
certifies g o asked (outcomes.Best d) lines ended = ended.certified
certifies g o asked outcomes.NoDrawing lines ended = ended.certified
certifies g o asked (outcomes.Spent None settled) lines ended = tt
certifies g o asked (outcomes.Spent (Some d) settled) lines ended = ended.is_settled.certified
certifies g o asked (outcomes.Room None settled) lines ended = tt
certifies g o asked (outcomes.Room (Some d) settled) lines ended = ended.is_settled.certified

is_so : (g : Graph) (o : EdgeOrder) (asked : Job) (outcome : Outcome) (lines : Lines) → IsOutcome (search_of g o asked) asked.order outcome lines →
    IsTrueClaim (Lawful g (is_above o) asked.grid) asked.order (claim_for asked outcome)
is_so g o asked (outcomes.Best d) lines ended = λ other lawful better.
    ended.none_better other lawful (subst (λ (order : List Criterion). Better order (values_of other) (values_of d))
    (take_all (length asked.order) asked.order (omega arith)) better)
is_so g o asked outcomes.NoDrawing lines ended = ended.none_lawful
is_so g o asked (outcomes.Spent None settled) lines ended = tt
is_so g o asked (outcomes.Spent (Some d) settled) lines ended = ended.none_better
is_so g o asked (outcomes.Room None settled) lines ended = tt
is_so g o asked (outcomes.Room (Some d) settled) lines ended = ended.none_better

-- ---- so check ends with 0

-- the parts of a sheet of an outcome are those that were asked for
grid_asked : (asked : Job) (outcome : Outcome) → (sheet_of asked outcome).grid ≡ asked.grid
grid_asked asked (outcomes.Best d) = refl
grid_asked asked outcomes.NoDrawing = refl
grid_asked asked (outcomes.Spent found settled) = refl
grid_asked asked (outcomes.Room found settled) = refl

order_asked : (asked : Job) (outcome : Outcome) → (sheet_of asked outcome).order ≡ asked.order
order_asked asked (outcomes.Best d) = refl
order_asked asked outcomes.NoDrawing = refl
order_asked asked (outcomes.Spent found settled) = refl
order_asked asked (outcomes.Room found settled) = refl

judged : (g : Graph) (o : EdgeOrder) (asked : Job) (outcome : Outcome) (lines : Lines) → IsOutcome (search_of g o asked) asked.order outcome lines →
    IsLogJudged (layout g o asked.grid) asked.order (claim_for asked outcome) (log_text lines) verdicts.Certified
judged g o asked outcome lines ended =
    let searched = searched_of (search_of g o asked) asked.order outcome lines ended in
    record {
      expected = expected_of g o asked lines;
      is_expected = record {
        lines = flat_map told_bound_line lines;
        bounds = own_bounds lines searched.formed;
        expected_is = same_expectation (layout g o asked.grid) asked.order (caps (limit_of g asked.grid) lines)
            (caps (limit_of g asked.grid) (flat_map told_bound_line lines)) (λ c. sym (caps_alone (limit_of g asked.grid) lines c));
      };
      is_verdict = record {
        lines = lines;
        whole = record {
          formed = searched.formed;
          spelled = sym (append-nil (log_text lines));
          accepted = accepted g o asked lines searched (whole_or_none g o asked outcome lines ended);
        };
        certified = certifies g o asked outcome lines ended;
        is_so = is_so g o asked outcome lines ended;
      };
    }

pub ended_passes : (g : Graph) (o : EdgeOrder) (asked : Job) (outcome : Outcome) (lines : Lines) → IsOutcome (search_of g o asked) asked.order outcome lines →
    IsSheetText g false (sheet_text g (sheet_of asked outcome)) (sheet_of asked outcome) → PassesCheck g o (sheet_of asked outcome) lines
ended_passes g o asked outcome lines ended text =
    let sheet = sheet_of asked outcome in
    let claim = claim_of sheet.order sheet.found sheet.ending in
    let is_judged : IsLogJudged (layout g o sheet.grid) sheet.order claim (log_text lines) verdicts.Certified =
    subst (λ (grid : GridSize). IsLogJudged (layout g o grid) sheet.order claim (log_text lines) verdicts.Certified) (sym (grid_asked asked outcome))
    (subst (λ (order : List Criterion). IsLogJudged (layout g o asked.grid) order (claim_of order sheet.found sheet.ending) (log_text lines) verdicts.Certified)
    (sym (order_asked asked outcome))
    (judged g o asked outcome lines ended)) in
    let lawful : IfSome sheet.found (Lawful g (is_above o) sheet.grid) =
    subst (λ (grid : GridSize). IfSome sheet.found (Lawful g (is_above o) grid)) (sym (grid_asked asked outcome))
    (lawful_found g o asked outcome lines ended) in
    inl (record {
      said = sheet;
      is_text = text;
      answer = inr (record { lawful = lawful; verdict = verdicts.Certified; judged = is_judged; told = record { status_is = refl; line_is = refl } });
    })
