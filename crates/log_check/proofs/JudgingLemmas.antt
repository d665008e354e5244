-- A log that is read line by line, and what the verdict on it says.
use Rattle.std.proofs.Common.{◌≡◌, ◌≤◌, ◌<◌, ℕ, ◌+◌, List, [], ◌∷◌, ◌++◌, length, refl, sym, ◌∙◌, ap, subst, inl, inr, arith, append_assoc, length-append}
use Rattle.std.specs.Prelude.{Bool, false, Option, Some, None, Result, Ok, Err, min, IfOk, IfSome, MatchOption}
use Rattle.std.specs.Borrow.{Bor}
use Rattle.plan_core.specs.declared.criterion.Criterion.{Criterion}
use Rattle.plan_core.specs.declared.criterion.Values.{Values}
use Rattle.plan_core.specs.Order.{IsOrder}
use Rattle.plan_core.proofs.OrderLemmas.{few_criteria}
use Rattle.plan_core.proofs.ListFacts.{each_pushed}
use Rattle.plan_core.specs.Grid.{IsGrid}
use Rattle.plan_core.specs.Lawful.{Lawful}
use Rattle.plan_core.specs.Values.{values_of, limit_of}
use Rattle.cnf_core.specs.declared.limits.TheConstants.{ROOM}
use Rattle.port_graph.specs.StationGraph.{IsStationGraph}
use Rattle.track_order.specs.Order.{is_above, IsOrderOf}
use Rattle.refute_log.specs.declared.line.LogLine.{LogLine}
use Rattle.refute_log.specs.declared.fault.LogWhat.{LogWhat}
use Rattle.refute_log.specs.Lines.{header, ended_text, log_text, log_line_text, MayBeTold, MayAllBeTold}
use Rattle.refute_log.specs.Told.{Lines}
use Rattle.refute_log.specs.Log.{Facts, facts_of}
use Rattle.refute_log.proofs.LogLemmas.{derives_none}
use Rattle.refute_log.proofs.TextLemmas.{log_text_more}
use Rattle.refute_check.specs.Kept.{CheckedFacts}
use Rattle.refute_log.specs.Bounds.{MeetsLog, CoversDrawings}
use Rattle.refute_log.specs.Expected.{bound_vars, caps}
use Rattle.refute_log.proofs.CertifiedLemmas.{none_better, none_meets, certifies_under}
use Rattle.refute_log.proofs.MeetsLemmas.{meets_front}
use Rattle.refute_log.proofs.ExpectedLemmas.{expected_same, expected_vars_same}
use Rattle.refute_log.specs.Certified.{Certifies}
use Rattle.refute_check.specs.Lacking.{KnowsLog, IsFirstLacking}
use Rattle.refute_check.proofs.JudgeLemmas.{lacking_under}
use Rattle.drawing_cnf.specs.Layout.{Layout, problem_of}
use Rattle.drawing_cnf.proofs.CoverLemmas.{expected_cover}
use Rattle.log_check.specs.declared.claim.Claim.{Claim}
use Rattle.log_check.specs.declared.claim.Claim.TheVariants.{Least, NoDrawing, Nothing}
use Rattle.log_check.specs.declared.reading.Next.{Next}
use Rattle.log_check.specs.declared.reading.Next.TheVariants.{Line, Fault}
use Rattle.log_check.specs.declared.verdict.Refusal.{Refusal}
use Rattle.log_check.specs.declared.verdict.Verdict.{Verdict}
use Rattle.log_check.specs.declared.verdict.Verdict.TheVariants.{Certified, Lacks, Refused, Faulty}
use Rattle.log_check.specs.declared.awaited.Awaited.{Awaited}
use Rattle.log_check.specs.declared.accepting.Progress.{Progress}
use Rattle.log_check.specs.TextLines.{HasNextFault, HasToldBounds}
use Rattle.log_check.specs.Expectation.{Expectation, expectation, PassesLimits}
use Rattle.log_check.specs.Accepted.{AreAccepted, AcceptsFront}
use Rattle.log_check.specs.Refused.{IsRefusedFor, kept_of_lines}
use Rattle.log_check.specs.Claimed.{IsClaimOf, CertifiesClaim, LacksAt, IsTrueClaim}
use Rattle.log_check.specs.Judged.{IsLineRefused, IsTextRefused, IsLogVerdict, IsLogJudged}
use Rattle.log_check.specs.Awaited.{awaited_lines, IsAwaited}
use Rattle.log_check.specs.Progress.{IsNext, AreAwaited, HasAccepted, IsStopped, AreLinesJudged, IsTextJudged}

-- ---- the lines so far

-- these lines of the text were accepted, and this is left
pub record HasRead (e : Expectation) (log rest : List ℕ) (number : ℕ) (p : Progress) : Type 0 where
  pub lines : Lines
  pub formed : MayAllBeTold lines
  pub spelled : log ≡ log_text lines ++ rest
  pub numbered : number ≡ length lines + 2
  pub known : HasAccepted e lines p

pub read_none : (e : Expectation) (log rest : List ℕ) (p : Progress) → log ≡ header ++ rest → HasAccepted e [] p → HasRead e log rest 2 p
read_none e log rest p is h = record {
  lines = [];
  formed = tt;
  spelled = is ∙ ap (λ (t : List ℕ). t ++ rest) (let e : header ≡ header ++ [] = nothing_more header in e);
  numbered = refl;
  known = h;
}
  where
    nothing_more : (t : List ℕ) → t ≡ t ++ []
    nothing_more [] = refl
    nothing_more (b ∷ t) = ap (λ (s : List ℕ). b ∷ s) (nothing_more t)

pub read_next : (e : Expectation) (log rest more : List ℕ) (number : ℕ) (line : LogLine) (old new : Progress) → MayBeTold line →
    rest ≡ ended_text line ++ more →
    ((before : Lines) → HasAccepted e before old → HasAccepted e (before ++ line ∷ []) new) → HasRead e log rest number old →
    HasRead e log more (number + 1) new
read_next e log rest more number line old new told is step h = record {
  lines = h.lines ++ line ∷ [];
  formed = each_pushed MayBeTold h.lines line h.formed told;
  spelled =
      h.spelled ∙ ap (λ (t : List ℕ). log_text h.lines ++ t) is ∙ sym (append_assoc (log_text h.lines) (ended_text line) more)
      ∙ ap (λ (t : List ℕ). t ++ more) (log_text_more h.lines line);
  numbered = let n = h.numbered in omega (arith, length-append h.lines (line ∷ []));
  known = step h.lines h.known;
}

pub read_whole : (e : Expectation) (log rest : List ℕ) (number : ℕ) (p : Progress) → rest ≡ [] → HasRead e log rest number p →
    (lines : Lines) × AcceptsFront e log lines [] × HasAccepted e lines p
read_whole e log rest number p none h = (
  h.lines,
  record { formed = h.formed; spelled = h.spelled ∙ ap (λ (t : List ℕ). log_text h.lines ++ t) none; accepted = h.known.accepted },
  h.known,
)

pub read_refused : (e : Expectation) (log rest more : List ℕ) (number : ℕ) (line : LogLine) (why : Refusal) (p : Progress) → MayBeTold line →
    rest ≡ ended_text line ++ more →
    ((before : Lines) → HasAccepted e before p → IsRefusedFor e before line why) → HasRead e log rest number p → IsLineRefused e log why number
read_refused e log rest more number line why p told is refused h = record {
  before = h.lines;
  line = line;
  more = more;
  accepts = record { formed = h.formed; spelled = h.spelled ∙ ap (λ (t : List ℕ). log_text h.lines ++ t) is; accepted = h.known.accepted };
  formed = told;
  refused = refused h.lines h.known;
  numbered = h.numbered;
}

pub read_faulty : (e : Expectation) (log rest : List ℕ) (number : ℕ) (what : LogWhat) (p : Progress) → HasNextFault rest what → HasRead e log rest number p →
    IsTextRefused e log what number
read_faulty e log rest number what p fault h = record {
  before = h.lines;
  rest = rest;
  accepts = record { formed = h.formed; spelled = h.spelled; accepted = h.known.accepted };
  fault = fault;
  numbered = h.numbered;
}

-- ---- the first line

pub accepted_none : (e : Expectation) (awaited : Option Awaited) (p : Progress) → AreAwaited e [] awaited → p.awaited ≡ awaited → p.checker ≡ kept_of_lines [] →
    p.bounds.items ≡ [] → HasAccepted e [] p
accepted_none e awaited p h is checker bounds = record {
  accepted = record { front = (e.lines, refl); within = λ some. absurd (some refl); derives = derives_none; room = omega arith };
  awaited = subst (AreAwaited e []) (sym is) h;
  checker = checker;
  bounds = bounds;
}

pub knows : (e : Expectation) (lines : Lines) (p : Progress) → HasAccepted e lines p → KnowsLog lines p.checker p.bounds.items
knows e lines p h = record { facts = ap (λ (k : CheckedFacts). k.facts) h.checker; told = h.bounds }

-- ---- what the verdict says

-- lines that begin what is expected cover the lawful drawings
covers : (y : Layout) (order : List Criterion) (cap : Criterion → ℕ) (e : Expectation) (lines : Lines) → IsStationGraph y.graph → IsOrderOf y.graph y.order →
    IsGrid y.grid → e ≡ expectation y order cap → AreAccepted e lines →
    CoversDrawings y.graph (is_above y.order) y.grid lines
covers y order cap e lines station is size expected a = λ d lawful.
    let all : MeetsLog (expectation y order cap).lines (values_of d) = expected_cover y.graph y.order y.grid order cap station is size d lawful in
    meets_front e.lines lines (values_of d) a.front (subst (λ (f : Expectation). MeetsLog f.lines (values_of d)) (sym expected) all)

pub claim_is_so : (y : Layout) (order : List Criterion) (cap greatest : Criterion → ℕ) (e : Expectation) (lines : Lines) (claim : Claim) →
    IsStationGraph y.graph → IsOrderOf y.graph y.order → IsGrid y.grid → e ≡ expectation y order cap →
    AreAccepted e lines → CertifiesClaim greatest lines order claim → IsTrueClaim (Lawful y.graph (is_above y.order) y.grid) order claim
claim_is_so y order cap greatest e lines (Least v places) station is size expected a certified =
    λ d lawful better. none_better greatest lines order v (values_of d) places (covers y order cap e lines station is size expected a d lawful) a.derives
    certified better
claim_is_so y order cap greatest e lines NoDrawing station is size expected a certified =
    λ d lawful. none_meets lines (values_of d) (covers y order cap e lines station is size expected a d lawful) a.derives certified
claim_is_so y order cap greatest e lines Nothing station is size expected a certified = tt

-- the greatest values, whatever gives them
pub certifies_as : (greatest other : Criterion → ℕ) (lines : Lines) (order : List Criterion) (claim : Claim) → ((c : Criterion) → greatest c ≡ other c) →
    CertifiesClaim greatest lines order claim → CertifiesClaim other lines order claim
certifies_as greatest other lines order (Least v places) same h = certifies_under greatest other lines order v places same h
certifies_as greatest other lines order NoDrawing same h = h
certifies_as greatest other lines order Nothing same h = h

lacks_as : (greatest other : Criterion → ℕ) (lines : Lines) (order : List Criterion) (claim : Claim) (place : ℕ) → ((c : Criterion) → greatest c ≡ other c) →
    LacksAt greatest lines order claim place → LacksAt other lines order claim place
lacks_as greatest other lines order (Least v places) place same h = (h.0, h.1, lacking_under greatest other lines order v places (Some h.0) same h.2)
lacks_as greatest other lines order NoDrawing place same h = h
lacks_as greatest other lines order Nothing place same h = h

-- the verdict on the text is the one on the log
verdict_of : (y : Layout) (order : List Criterion) (cap greatest : Criterion → ℕ) (e : Expectation) (claim : Claim) (log : List ℕ) (verdict : Verdict) →
    IsStationGraph y.graph → IsOrderOf y.graph y.order → IsGrid y.grid → e ≡ expectation y order cap →
    ((c : Criterion) → greatest c ≡ limit_of y.graph y.grid c) → IsTextJudged greatest order claim e log verdict → IsLogVerdict y order claim e log verdict
verdict_of y order cap greatest e claim log Certified station is size expected same (inl h) =
    let certified = certifies_as greatest (limit_of y.graph y.grid) h.0 order claim same h.2 in
    record {
      lines = h.0;
      whole = h.1;
      certified = certified;
      is_so = claim_is_so y order cap (limit_of y.graph y.grid) e h.0 claim station is size expected
          h.1.accepted certified;
    }
verdict_of y order cap greatest e claim log (Lacks place) station is size expected same (inl h) =
    record { lines = h.0; whole = h.1; lacks = lacks_as greatest (limit_of y.graph y.grid) h.0 order claim place same h.2 }
verdict_of y order cap greatest e claim log (Refused why number) station is size expected same (inl h) = absurd h.2
verdict_of y order cap greatest e claim log (Faulty what number) station is size expected same (inl h) = absurd h.2
verdict_of y order cap greatest e claim log Certified station is size expected same (inr h) = absurd h
verdict_of y order cap greatest e claim log (Lacks place) station is size expected same (inr h) = absurd h
verdict_of y order cap greatest e claim log (Refused why number) station is size expected same (inr h) = h
verdict_of y order cap greatest e claim log (Faulty what number) station is size expected same (inr h) = h

abbrev expected_with : Lines → ℕ → Expectation
expected_with lines vars = record { lines = lines; vars = vars }

-- what is expected for equal caps is the same
pub same_expectation : (y : Layout) (order : List Criterion) (f h : Criterion → ℕ) → ((c : Criterion) → f c ≡ h c) →
    expectation y order f ≡ expectation y order h
same_expectation y order f h same =
    ap (λ (ls : Lines). expected_with ls (expectation y order f).vars) (expected_same (problem_of y) order f h same)
    ∙ ap (λ n. expected_with (expectation y order h).lines n) (expected_vars_same (problem_of y) order f h same)

-- the caps that are counted are those of the whole text
pub judged_log : (y : Layout) (order : List Criterion) (cap greatest : Criterion → ℕ) (claim : Claim) (log : List ℕ) (verdict : Verdict) →
    IsStationGraph y.graph → IsOrderOf y.graph y.order → IsGrid y.grid →
    ((c : Criterion) → greatest c ≡ limit_of y.graph y.grid c) → (lines : Lines) → HasToldBounds log lines → ((c : Criterion) → cap c ≡ caps greatest lines c) →
    IsTextJudged greatest order claim (expectation y order cap) log verdict → IsLogJudged y order claim log verdict
judged_log y order cap greatest claim log verdict station is size same lines bounds counted h =
    let limits : (c : Criterion) → cap c ≡ caps (limit_of y.graph y.grid) lines c = λ c. counted c ∙ ap (λ n. min (length (bound_vars c lines)) n) (same c) in
    record {
      expected = expectation y order cap;
      is_expected = record { lines = lines; bounds = bounds; expected_is = same_expectation y order cap (caps (limit_of y.graph y.grid) lines) limits };
      is_verdict = verdict_of y order cap greatest (expectation y order cap) claim log verdict station is size refl same h;
    }

-- ---- what a loop over the lines needs

pub awaited_ready : (e : Expectation) (lines : Lines) (o : Option Awaited) → AreAwaited e lines o → IfSome o IsAwaited
awaited_ready e lines None h = tt
awaited_ready e lines (Some a) h = h.1

pub line_leaves_less : (rest more : List ℕ) (line : LogLine) → rest ≡ ended_text line ++ more → length more + 1 ≤ length rest
line_leaves_less rest more line is =
    let whole = ap length is in
    let size = length-append (ended_text line) more in
    let feed = length-append (log_line_text line) (10 ∷ []) in
    omega arith

pub header_leaves_less : (log rest : List ℕ) → log ≡ header ++ rest → length rest ≤ length log
header_leaves_less log rest is = let whole = ap length is in let size = length-append header rest in omega arith

-- the lines of a text that was read to its end are known to the checker
pub read_knows : (e : Expectation) (log rest : List ℕ) (number : ℕ) (p : Progress) → HasRead e log rest number p →
    (lines : Lines) × KnowsLog lines p.checker p.bounds.items
read_knows e log rest number p h = (h.lines, knows e h.lines p h.known)

-- what stands next, by its variant
pub fault_next : (rest : List ℕ) (n : Next) (what : LogWhat) → n ≡ Fault what → IsNext rest n → HasNextFault rest what
fault_next rest n what is h = subst (IsNext rest) is h

pub line_next : (rest : List ℕ) (n : Next) (line : LogLine) (after : Bor (List ℕ)) → n ≡ Line line after → IsNext rest n →
    MayBeTold line × (rest ≡ ended_text line ++ after.now)
line_next rest n line after is h = subst (IsNext rest) is h

-- what is answered to a line, by whether there is a cause
pub accepted_at : (e : Expectation) (line : LogLine) (old new : Progress) (r : Option Refusal) → r ≡ None →
    ((before : Lines) → HasAccepted e before old → MatchOption r (HasAccepted e (before ++ line ∷ []) new) (IsRefusedFor e before line)) → (before : Lines) →
    HasAccepted e before old → HasAccepted e (before ++ line ∷ []) new
accepted_at e line old new r is step = λ before h. subst (λ (o : Option Refusal). MatchOption o (HasAccepted e (before ++ line ∷ []) new)
    (IsRefusedFor e before line)) is (step before h)

pub refused_at : (e : Expectation) (line : LogLine) (old new : Progress) (r : Option Refusal) (why : Refusal) → r ≡ Some why →
    ((before : Lines) → HasAccepted e before old → MatchOption r (HasAccepted e (before ++ line ∷ []) new) (IsRefusedFor e before line)) → (before : Lines) →
    HasAccepted e before old → IsRefusedFor e before line why
refused_at e line old new r why is step = λ before h. subst (λ (o : Option Refusal). MatchOption o (HasAccepted e (before ++ line ∷ []) new)
    (IsRefusedFor e before line)) is (step before h)

-- a place that is lacking is one of those that are claimed
pub lacking_low : (greatest : Criterion → ℕ) (lines : Lines) (order : List Criterion) (v : Values) (s i : ℕ) (found : Option ℕ) → found ≡ Some i →
    IsFirstLacking greatest lines order v s found → i < s
lacking_low greatest lines order v s i found is h = (subst (IsFirstLacking greatest lines order v s) is h).0

pub place_is_small : (order : List Criterion) (claim : Claim) (v : Values) (s i : ℕ) → IsOrder order → IsClaimOf order claim → claim ≡ Least v s → i < s → i < 4
place_is_small order claim v s i distinct within is low =
    let few = few_criteria order distinct.each_once in
    let most : s ≤ length order = subst (IsClaimOf order) is within in
    omega arith

-- the claim, by its variant
pub judged_as : (greatest : Criterion → ℕ) (lines : Lines) (order : List Criterion) (claim other : Claim) (verdict : Verdict) → claim ≡ other →
    AreLinesJudged greatest lines order other verdict → AreLinesJudged greatest lines order claim verdict
judged_as greatest lines order claim other verdict is h = subst (λ (x : Claim). AreLinesJudged greatest lines order x verdict) (sym is) h

pub none_lacks : (greatest : Criterion → ℕ) (lines : Lines) (order : List Criterion) (v : Values) (s : ℕ) (found : Option ℕ) → found ≡ None →
    IsFirstLacking greatest lines order v s found → Certifies greatest lines order v s
none_lacks greatest lines order v s found is h = subst (IsFirstLacking greatest lines order v s) is h

-- ---- the whole of a log

pub caps_within : (greatest cap limit : Criterion → ℕ) (lines : Lines) → ((c : Criterion) → cap c ≡ caps greatest lines c) →
    ((c : Criterion) → greatest c ≡ limit c) → (c : Criterion) → cap c ≤ limit c
caps_within greatest cap limit lines counted same c = let a = counted c in let b = same c in omega arith

pub awaited_begun : (e : Expectation) (a : Awaited) → (PassesLimits e → ⊥) → IsAwaited a → awaited_lines a ≡ e.lines → AreAwaited e [] (Some a)
awaited_begun e a fits h is = (fits, h, sym is)

pub log_judged : {X : Type 0} (res : Result Verdict X) (y : Layout) (order : List Criterion) (cap greatest : Criterion → ℕ) (claim : Claim) (log : List ℕ)
    (o : Option Awaited) → IsStationGraph y.graph → IsOrderOf y.graph y.order → IsGrid y.grid →
    ((c : Criterion) → greatest c ≡ limit_of y.graph y.grid c) → (lines : Lines) → HasToldBounds log lines → ((c : Criterion) → cap c ≡ caps greatest lines c) →
    AreAwaited (expectation y order cap) [] o →
    IfOk res (λ v. (e : Expectation) → AreAwaited e [] o → IsTextJudged greatest order claim e log v) → IfOk res (IsLogJudged y order claim log)
log_judged (Ok v) y order cap greatest claim log o station is size same lines bounds counted h k =
    judged_log y order cap greatest claim log v station is size same lines bounds counted (k (expectation y order cap) h)
log_judged (Err x) y order cap greatest claim log o station is size same lines bounds counted h k = tt

-- the text doesn't begin with the first line of every log
pub no_header : (log : List ℕ) (r : Option (Bor (List ℕ))) → MatchOption r ((rest : List ℕ) → log ≡ header ++ rest → ⊥) (λ rest. log ≡ header ++ rest.now) →
    ((x : Bor (List ℕ)) → r ≡ Some x → ⊥) →
    (rest : List ℕ) → log ≡ header ++ rest → ⊥
no_header log None h other = h
no_header log (Some x) h other = absurd (other x refl)

abbrev kept_by : ℕ → Facts → Bool → CheckedFacts
kept_by room facts lost = record { room = room; facts = facts; lost = lost }

-- a new checker accepted no lines
pub new_keeps : (k : CheckedFacts) → k.room ≡ ROOM → k.facts ≡ facts_of [] → k.lost ≡ false → k ≡ kept_of_lines []
new_keeps k room facts there = ap (λ n. kept_by n k.facts k.lost) room ∙ ap (λ (f : Facts). kept_by ROOM f k.lost) facts
    ∙ ap (λ b. kept_by ROOM (facts_of []) b) there

-- the claim is judged by the lines of a text that was read to its end
pub text_judged : {X : Type 0} (res : Result Verdict X) (greatest : Criterion → ℕ) (order : List Criterion) (claim : Claim) (log : List ℕ) (o : Option Awaited)
    (old new : Progress) (r : Option Verdict) → r ≡ None →
    ((e : Expectation) → AreAwaited e [] o → HasAccepted e [] old) →
    ((e : Expectation) → HasAccepted e [] old → MatchOption r ((lines : Lines) × AcceptsFront e log lines [] × HasAccepted e lines new) (IsStopped e log)) →
    IfOk res (λ v. (lines : Lines) → KnowsLog lines new.checker new.bounds.items → AreLinesJudged greatest lines order claim v) →
    IfOk res (λ v. (e : Expectation) → AreAwaited e [] o → IsTextJudged greatest order claim e log v)
text_judged (Ok v) greatest order claim log o old new r none begin judged k = λ e h.
    let w = subst (λ (x : Option Verdict). MatchOption x ((lines : Lines) × AcceptsFront e log lines [] × HasAccepted e lines new) (IsStopped e log)) none
    (judged e (begin e h)) in
    inl (w.0, w.1, k w.0 (knows e w.0 new w.2))
text_judged (Err x) greatest order claim log o old new r none begin judged k = tt
