-- What the verdict on a hinted log says.
use Rattle.std.proofs.Common.{◌≡◌, ◌≤◌, ℕ, List, ◌++◌, refl, sym, ◌∙◌, ap, subst, inl, inr}
use Rattle.std.specs.Prelude.{Option, Some, None, MatchOption, Result, Ok, Err, IfOk}
use Rattle.std.specs.Borrow.{Bor}
use Rattle.plan_core.specs.declared.criterion.Criterion.{Criterion}
use Rattle.plan_core.specs.declared.criterion.Criterion.TheVariants.{Height, Bends, Diagonal, Width}
use Rattle.plan_core.specs.declared.criterion.Values.{Values}
use Rattle.plan_core.specs.Grid.{IsGrid}
use Rattle.plan_core.specs.Lawful.{Lawful}
use Rattle.plan_core.specs.Values.{values_of, value_of, limit_of}
use Rattle.port_graph.specs.StationGraph.{IsStationGraph}
use Rattle.track_order.specs.Order.{is_above, IsOrderOf}
use Rattle.refute_log.specs.Told.{Lines}
use Rattle.refute_log.proofs.CertifiedLemmas.{certifies_under}
use Rattle.refute_check.proofs.JudgeLemmas.{lacking_under}
use Rattle.drawing_cnf.specs.Encoding.{Encoding}
use Rattle.drawing_cnf.specs.Layout.{Layout}
use Rattle.drawing_cnf.proofs.CoverLemmas.{expected_cover}
use Rattle.log_check.specs.declared.awaited.Part.{Part}
use Rattle.log_check.specs.declared.claim.Claim.{Claim}
use Rattle.log_check.specs.declared.claim.Claim.TheVariants.{Least, NoDrawing, Nothing}
use Rattle.log_check.specs.Expectation.{expectation, PassesLimits}
use Rattle.log_check.specs.Claimed.{CertifiesClaim, IsTrueClaim}
use Rattle.hint_log.specs.HintedLines.{HintLines}
use Rattle.hint_log.specs.declared.text_fault.HintsWhat.{HintsWhat}
use Rattle.hint_log.specs.HintText.{hints_header}
use Rattle.hint_log.specs.declared.text_fault.HintsWhat.TheVariants as whats
use Rattle.hint_log.specs.Caps.{IsFitCap, AreInRange, HasCapsFault}
use Rattle.log_check.specs.Hinted.{log_of, AreClauseLines}
use Rattle.log_check.proofs.HintedLemmas.{none_better, none_meets}
use Rattle.log_check.specs.declared.hint_verdict.HintRefusal.TheVariants as refusals
use Rattle.log_check.specs.declared.hint_verdict.HintsVerdict.{HintsVerdict}
use Rattle.log_check.specs.declared.hint_verdict.HintsVerdict.TheVariants.{Certified, Lacks, Refused, Faulty}
use Rattle.log_check.specs.HintAccepted.{expected_for, BeginsWithCaps, AreAcceptedHints}
use Rattle.log_check.specs.HintRefused.{HasNextCapsFault}
use Rattle.log_check.specs.HintsJudged.{IsBodyVerdict, IsHintsJudged}
use Rattle.log_check.specs.HintProgress.{IsExpectingWithin, AreNextCaps, AreHintsJudged, IsBodyJudged}
use Rattle.log_check.proofs.HintExpectingLemmas.{expected_alone}

-- ---- what is certified is so

claim_is_so : (y : Layout) (order : List Criterion) (cap greatest : Criterion → ℕ) (lines : HintLines) (claim : Claim) → IsStationGraph y.graph →
    IsOrderOf y.graph y.order → IsGrid y.grid → AreClauseLines (expectation y order cap).lines →
    AreAcceptedHints (expectation y order cap) lines → CertifiesClaim greatest (log_of (expectation y order cap).lines lines) order claim →
    IsTrueClaim (Lawful y.graph (is_above y.order) y.grid) order claim
claim_is_so y order cap greatest lines (Least v places) station is size alone a certified = λ d lawful better.
    none_better greatest (expectation y order cap).lines lines order v (values_of d) places (record {
      alone = alone;
      meets = expected_cover y.graph y.order y.grid order cap station is size d lawful;
      good = a.good;
    }) certified better
claim_is_so y order cap greatest lines NoDrawing station is size alone a certified = λ d lawful.
    none_meets (expectation y order cap).lines lines (values_of d) (record {
      alone = alone;
      meets = expected_cover y.graph y.order y.grid order cap station is size d lawful;
      good = a.good;
    }) certified
claim_is_so y order cap greatest lines Nothing station is size alone a certified = tt

-- ---- the greatest values, whatever gives them

lines_judged_as : (greatest other : Criterion → ℕ) (log : Lines) (order : List Criterion) (claim : Claim) (v : HintsVerdict) →
    ((c : Criterion) → greatest c ≡ other c) → AreHintsJudged greatest log order claim v → AreHintsJudged other log order claim v
lines_judged_as greatest other log order (Least w places) Certified same h = certifies_under greatest other log order w places same h
lines_judged_as greatest other log order NoDrawing Certified same h = h
lines_judged_as greatest other log order Nothing Certified same h = h
lines_judged_as greatest other log order (Least w places) (Lacks place) same h = (h.0, h.1, lacking_under greatest other log order w places (Some h.0) same h.2)
lines_judged_as greatest other log order NoDrawing (Lacks place) same h = h
lines_judged_as greatest other log order Nothing (Lacks place) same h = h
lines_judged_as greatest other log order claim (Refused why number) same h = h
lines_judged_as greatest other log order claim (Faulty what number) same h = h

range_at : (greatest other : Criterion → ℕ) (order : List Criterion) (caps : Values) (c : Criterion) → greatest c ≡ other c → IsFitCap greatest order caps c →
    IsFitCap other order caps c
range_at greatest other order caps c same h = record { within = subst (λ n. value_of caps c ≤ n) same h.within; asked = h.asked }

pub range_as : (greatest other : Criterion → ℕ) (order : List Criterion) (caps : Values) → ((c : Criterion) → greatest c ≡ other c) →
    AreInRange greatest order caps → AreInRange other order caps
range_as greatest other order caps same h = (
  range_at greatest other order caps Height (same Height) h.0,
  (
    range_at greatest other order caps Bends (same Bends) h.1.0,
    (
      range_at greatest other order caps Diagonal (same Diagonal) h.1.1.0,
      (range_at greatest other order caps Width (same Width) h.1.1.1.0, tt),
    ),
  ),
)

pub caps_fault_as : (greatest other : Criterion → ℕ) (order : List Criterion) (rest : List ℕ) (what : HintsWhat) → ((c : Criterion) → greatest c ≡ other c) →
    HasNextCapsFault greatest order rest what → HasNextCapsFault other order rest what
caps_fault_as greatest other order rest what same (inl h) = inl (h.0, h.1, h.2, fault what h.3)
  where
    fault : (what : HintsWhat) → HasCapsFault greatest order h.0 what → HasCapsFault other order h.0 what
    fault whats.Header f = f
    fault whats.Form f = f
    fault whats.Number f = f
    fault whats.Twice f = f
    fault whats.Range f = (f.0, f.1, λ r. f.2 (range_as other greatest order f.0 (λ c. sym (same c)) r))
caps_fault_as greatest other order rest what same (inr h) = inr h

-- ---- the verdict on the whole

verdict_of : (y : Layout) (order : List Criterion) (cap greatest : Criterion → ℕ) (claim : Claim) (body : List ℕ) (verdict : HintsVerdict) →
    IsStationGraph y.graph → IsOrderOf y.graph y.order → IsGrid y.grid → AreClauseLines (expectation y order cap).lines →
    ((c : Criterion) → greatest c ≡ limit_of y.graph y.grid c) → IsBodyJudged greatest order claim (expectation y order cap) body verdict →
    IsBodyVerdict y order claim (expectation y order cap) body verdict
verdict_of y order cap greatest claim body Certified station is size alone same (inl h) =
    let certified = lines_judged_as greatest (limit_of y.graph y.grid) (log_of (expectation y order cap).lines h.0) order claim Certified same h.2 in
    record {
      certifies = record { lines = h.0; whole = h.1; certified = certified };
      is_so = claim_is_so y order cap (limit_of y.graph y.grid) h.0 claim station is size alone h.1.accepted certified;
    }
verdict_of y order cap greatest claim body (Lacks place) station is size alone same (inl h) =
    record {
      lines = h.0;
      whole = h.1;
      lacks = lines_judged_as greatest (limit_of y.graph y.grid) (log_of (expectation y order cap).lines h.0) order claim
          (Lacks place) same h.2;
    }
verdict_of y order cap greatest claim body (Refused why number) station is size alone same (inl h) = absurd h.2
verdict_of y order cap greatest claim body (Faulty what number) station is size alone same (inl h) = absurd h.2
verdict_of y order cap greatest claim body Certified station is size alone same (inr h) = absurd h
verdict_of y order cap greatest claim body (Lacks place) station is size alone same (inr h) = absurd h
verdict_of y order cap greatest claim body (Refused why number) station is size alone same (inr h) = inr h
verdict_of y order cap greatest claim body (Faulty what number) station is size alone same (inr h) = h

caps_begin : (y : Layout) (order : List Criterion) (greatest : Criterion → ℕ) (bytes rest : List ℕ) (caps : Values) (body : List ℕ) →
    ((c : Criterion) → greatest c ≡ limit_of y.graph y.grid c) → bytes ≡ hints_header ++ rest → AreNextCaps greatest order rest caps body →
    BeginsWithCaps y order bytes caps body
caps_begin y order greatest bytes rest caps body same is h = record {
  caps_for = record { small = h.small; range = range_as greatest (limit_of y.graph y.grid) order caps same h.range };
  spelled = is ∙ ap (λ (t : List ℕ). hints_header ++ t) h.spelled;
}

pub judged_behind : {X : Type 0} (res : Result HintsVerdict X) (y : Layout) (order : List Criterion) (greatest : Criterion → ℕ) (claim : Claim)
    (bytes rest : List ℕ) (caps : Values) (body : List ℕ) (e : Encoding) (parts : List Part) → IsStationGraph y.graph → IsOrderOf y.graph y.order →
    IsGrid y.grid → ((c : Criterion) → greatest c ≡ limit_of y.graph y.grid c) → bytes ≡ hints_header ++ rest → AreNextCaps greatest order rest caps body →
    IsExpectingWithin y order (value_of caps) e parts →
    IfOk res (λ v. (y : Layout) (cap : Criterion → ℕ) → IsExpectingWithin y order cap e parts →
    IsBodyJudged greatest order claim (expectation y order cap) body v) → IfOk res (IsHintsJudged y order claim bytes)
judged_behind (Ok v) y order greatest claim bytes rest caps body e parts station is size same begins h w k =
    let alone = expected_alone y order (value_of caps) e parts w.expecting in
    inr (record {
      caps = caps;
      body = body;
      begins = caps_begin y order greatest bytes rest caps body same begins h;
      is_verdict = verdict_of y order (value_of caps) greatest claim body v station is size alone same (k y (value_of caps) w);
    })
judged_behind (Err x) y order greatest claim bytes rest caps body e parts station is size same begins h w k = tt

pub over_limits : (y : Layout) (order : List Criterion) (greatest : Criterion → ℕ) (claim : Claim) (bytes rest : List ℕ) (caps : Values) (body : List ℕ) →
    ((c : Criterion) → greatest c ≡ limit_of y.graph y.grid c) → bytes ≡ hints_header ++ rest →
    AreNextCaps greatest order rest caps body → PassesLimits (expected_for y order caps) → IsHintsJudged y order claim bytes (Refused refusals.Room 2)
over_limits y order greatest claim bytes rest caps body same begins h passes =
    inr (record {
      caps = caps;
      body = body;
      begins = caps_begin y order greatest bytes rest caps body same begins h;
      is_verdict = inl (record {
        passes = passes;
        why_is = refl;
        numbered = refl;
      });
    })

pub caps_refused : (y : Layout) (order : List Criterion) (greatest : Criterion → ℕ) (claim : Claim) (bytes rest : List ℕ) (what : HintsWhat) →
    ((c : Criterion) → greatest c ≡ limit_of y.graph y.grid c) → bytes ≡ hints_header ++ rest →
    HasNextCapsFault greatest order rest what → IsHintsJudged y order claim bytes (Faulty what 2)
caps_refused y order greatest claim bytes rest what same begins fault =
    inl (inr (record { rest = rest; spelled = begins; fault = caps_fault_as greatest (limit_of y.graph y.grid) order rest what same fault; numbered = refl }))

pub header_refused : (y : Layout) (order : List Criterion) (claim : Claim) (bytes : List ℕ) (r : Option (Bor (List ℕ))) →
    MatchOption r ((rest : List ℕ) → bytes ≡ hints_header ++ rest → ⊥) (λ rest. bytes ≡ hints_header ++ rest.now) →
    ((x : Bor (List ℕ)) → r ≡ Some x → ⊥) → IsHintsJudged y order claim bytes (Faulty whats.Header 1)
header_refused y order claim bytes None h other = inl (inl (record { lacks = h; what_is = refl; numbered = refl }))
header_refused y order claim bytes (Some x) h other = absurd (other x refl)

-- ---- what is certified is so

pub certified_is_so : (y : Layout) (order : List Criterion) (claim : Claim) (hints : List ℕ) → IsHintsJudged y order claim hints Certified →
    IsTrueClaim (Lawful y.graph (is_above y.order) y.grid) order claim
certified_is_so y order claim hints (inl h) = absurd h
certified_is_so y order claim hints (inr h) = h.is_verdict.is_so
