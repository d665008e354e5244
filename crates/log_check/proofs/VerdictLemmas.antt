-- One verdict at most is due to a log.
use Rattle.std.proofs.Common.{◌≡◌, ℕ, ◌+◌, ◌⊎◌, List, [], ◌∷◌, ◌++◌, length, refl, sym, ◌∙◌, ap, subst, inl, inr, append-nil, append_assoc}
use Rattle.std.specs.Prelude.{Some, None, flat_map}
use Rattle.plan_core.specs.declared.criterion.Criterion.{Criterion}
use Rattle.plan_core.specs.Grid.{IsGrid}
use Rattle.plan_core.specs.Values.{limit_of}
use Rattle.port_graph.specs.StationGraph.{IsStationGraph}
use Rattle.track_order.specs.Order.{IsOrderOf}
use Rattle.refute_log.specs.declared.line.LogLine.{LogLine}
use Rattle.refute_log.specs.declared.fault.LogWhat.{LogWhat}
use Rattle.refute_log.specs.Lines.{header, ended_text, MayBeTold, MayAllBeTold}
use Rattle.refute_log.specs.Told.{Lines}
use Rattle.refute_log.specs.Expected.{caps}
use Rattle.refute_check.proofs.JudgeLemmas.{none_lacking, lacking_once}
use Rattle.drawing_cnf.specs.Layout.{Layout}
use Rattle.drawing_cnf.proofs.ProblemThere.{expected_clauses_there}
use Rattle.log_check.specs.declared.claim.Claim.{Claim}
use Rattle.log_check.specs.declared.claim.Claim.TheVariants.{Least, NoDrawing, Nothing}
use Rattle.log_check.specs.declared.verdict.Refusal.{Refusal}
use Rattle.log_check.specs.declared.verdict.Verdict.{Verdict}
use Rattle.log_check.specs.declared.verdict.Verdict.TheVariants.{Certified, Lacks, Refused, Faulty}
use Rattle.log_check.specs.TextLines.{HasNextFault}
use Rattle.log_check.specs.Expectation.{Expectation, expectation, IsExpectedOf}
use Rattle.log_check.specs.Accepted.{AreAccepted, AcceptsFront}
use Rattle.log_check.specs.Refused.{IsRefusedFor}
use Rattle.log_check.specs.Claimed.{IsClaimOf, CertifiesClaim, LacksAt}
use Rattle.log_check.specs.Judged.{IsHeaderRefused, IsLogVerdict, IsLogJudged}
use Rattle.log_check.proofs.JudgingLemmas.{claim_is_so}
use Rattle.log_check.proofs.CutLemmas.{bounds_once, same_line, line_goes_on, line_has_no_fault, next_fault_once, no_next_fault, Begins, log_fronts}
use Rattle.log_check.proofs.CauseLemmas.{NamesItsOwn, accepted_first, accepted_not_refused, refused_once}

-- ---- where a log stops

-- a line that is refused behind the accepted ones
record Refuses (e : Expectation) (lines : Lines) (rest : List ℕ) (why : Refusal) : Type 0 where
  line : LogLine
  more : List ℕ
  is : rest ≡ ended_text line ++ more
  told : MayBeTold line
  refused : IsRefusedFor e lines line why

-- what stands behind the accepted lines, by the verdict: nothing, a refused line, or a fault
abbrev StopsAt : Layout → List Criterion → Claim → Expectation → Lines → List ℕ → Verdict → Type 0
StopsAt y order claim e lines rest Certified = (rest ≡ []) × CertifiesClaim (limit_of y.graph y.grid) lines order claim
StopsAt y order claim e lines rest (Lacks place) = (rest ≡ []) × LacksAt (limit_of y.graph y.grid) lines order claim place
StopsAt y order claim e lines rest (Refused why number) = Refuses e lines rest why × (number ≡ length lines + 2)
StopsAt y order claim e lines rest (Faulty what number) = HasNextFault rest what × (number ≡ length lines + 2)

record Stops (y : Layout) (order : List Criterion) (claim : Claim) (e : Expectation) (bytes : List ℕ) (verdict : Verdict) : Type 0 where
  lines : Lines
  rest : List ℕ
  accepts : AcceptsFront e bytes lines rest
  at : StopsAt y order claim e lines rest verdict

-- the first line of the text is refused
abbrev AtHeader : List ℕ → Verdict → Type 0
AtHeader bytes v = (what : LogWhat) × (number : ℕ) × (v ≡ Faulty what number) × IsHeaderRefused bytes what number

-- a verdict stops behind accepted lines, or there
stops : (y : Layout) (order : List Criterion) (claim : Claim) (e : Expectation) (bytes : List ℕ) (v : Verdict) → IsLogVerdict y order claim e bytes v →
    Stops y order claim e bytes v ⊎ AtHeader bytes v
stops y order claim e bytes Certified h = inl (record { lines = h.lines; rest = []; accepts = h.whole; at = (refl, h.certified) })
stops y order claim e bytes (Lacks place) h = inl (record { lines = h.lines; rest = []; accepts = h.whole; at = (refl, h.lacks) })
stops y order claim e bytes (Refused why number) h = inl (record {
  lines = h.before;
  rest = ended_text h.line ++ h.more;
  accepts = h.accepts;
  at = (record { line = h.line; more = h.more; is = refl; told = h.formed; refused = h.refused }, h.numbered);
})
stops y order claim e bytes (Faulty what number) (inl h) = inl (record { lines = h.before; rest = h.rest; accepts = h.accepts; at = (h.fault, h.numbered) })
stops y order claim e bytes (Faulty what number) (inr h) = inr (what, number, refl, h)

-- ---- no verdict stops where a further line is accepted

goes_on : (y : Layout) (order : List Criterion) (claim : Claim) (e : Expectation) (lines : Lines) (rest : List ℕ) (v : Verdict) (line : LogLine)
    (after : List ℕ) → NamesItsOwn e → MayBeTold line → rest ≡ ended_text line ++ after →
    AreAccepted e (lines ++ line ∷ []) → StopsAt y order claim e lines rest v → ⊥
goes_on y order claim e lines rest Certified line after own told is accepted s = line_goes_on line after (sym s.0 ∙ is)
goes_on y order claim e lines rest (Lacks place) line after own told is accepted s = line_goes_on line after (sym s.0 ∙ is)
goes_on y order claim e lines rest (Refused why number) line after own told is accepted s =
    let r = s.0 in
    let same = same_line r.line line r.more after r.told told (sym r.is ∙ is) in
    accepted_not_refused e lines line why own accepted (subst (λ (l : LogLine). IsRefusedFor e lines l why) same.line r.refused)
goes_on y order claim e lines rest (Faulty what number) line after own told is accepted s = line_has_no_fault line rest after what told is s.0

-- ---- two that stop behind the same lines

claim_once : (y : Layout) (order : List Criterion) (claim : Claim) (lines : Lines) (place : ℕ) → IsClaimOf order claim →
    CertifiesClaim (limit_of y.graph y.grid) lines order claim → LacksAt (limit_of y.graph y.grid) lines order claim place → ⊥
claim_once y order (Least v places) lines place within h k =
    let none : Some k.0 ≡ None = none_lacking (limit_of y.graph y.grid) lines order v places (Some k.0) within h k.2 in
    cc
claim_once y order NoDrawing lines place within h k = k.1 h
claim_once y order Nothing lines place within h k = k

lacks_once : (y : Layout) (order : List Criterion) (claim : Claim) (lines : Lines) (a b : ℕ) → IsClaimOf order claim →
    LacksAt (limit_of y.graph y.grid) lines order claim a → LacksAt (limit_of y.graph y.grid) lines order claim b → a ≡ b
lacks_once y order (Least v places) lines a b within h k =
    let same : Some h.0 ≡ Some k.0 = lacking_once (limit_of y.graph y.grid) lines order v places (Some h.0) (Some k.0) within h.2 k.2 in
    let place : h.0 ≡ k.0 = cc in
    h.1 ∙ ap (λ n. n + 1) place ∙ sym k.1
lacks_once y order NoDrawing lines a b within h k = h.0 ∙ sym k.0
lacks_once y order Nothing lines a b within h k = absurd h

refused_same : (e : Expectation) (lines : Lines) (rest : List ℕ) (a b : Refusal) (m n : ℕ) → Refuses e lines rest a × (m ≡ length lines + 2) →
    Refuses e lines rest b × (n ≡ length lines + 2) → Refused a m ≡ Refused b n
refused_same e lines rest a b m n h k =
    let r = h.0 in
    let s = k.0 in
    let same = same_line r.line s.line r.more s.more r.told s.told (sym r.is ∙ s.is) in
    let why : a ≡ b = refused_once e lines s.line a b (subst (λ (l : LogLine). IsRefusedFor e lines l a) same.line r.refused) s.refused in
    let number : m ≡ n = h.1 ∙ sym k.1 in
    ap (λ (w : Refusal). Refused w m) why ∙ ap (Refused b) number

faulty_same : (lines : Lines) (rest : List ℕ) (a b : LogWhat) (m n : ℕ) → HasNextFault rest a × (m ≡ length lines + 2) →
    HasNextFault rest b × (n ≡ length lines + 2) → Faulty a m ≡ Faulty b n
faulty_same lines rest a b m n h k =
    let what : a ≡ b = next_fault_once rest a b h.0 k.0 in
    let number : m ≡ n = h.1 ∙ sym k.1 in
    ap (λ (w : LogWhat). Faulty w m) what ∙ ap (Faulty b) number

-- nothing follows, or a refused line does
not_refused : (e : Expectation) (lines : Lines) (rest : List ℕ) (why : Refusal) → rest ≡ [] → Refuses e lines rest why → ⊥
not_refused e lines rest why none r = line_goes_on r.line r.more (sym none ∙ r.is)

not_faulty : (rest : List ℕ) (what : LogWhat) → rest ≡ [] → HasNextFault rest what → ⊥
not_faulty rest what none h = no_next_fault what (subst (λ (t : List ℕ). HasNextFault t what) none h)

refused_not_faulty : (e : Expectation) (lines : Lines) (rest : List ℕ) (why : Refusal) (what : LogWhat) → Refuses e lines rest why → HasNextFault rest what → ⊥
refused_not_faulty e lines rest why what r fault = line_has_no_fault r.line rest r.more what r.told r.is fault

stops_once : (y : Layout) (order : List Criterion) (claim : Claim) (e : Expectation) (lines : Lines) (rest : List ℕ) (v w : Verdict) → IsClaimOf order claim →
    StopsAt y order claim e lines rest v → StopsAt y order claim e lines rest w → v ≡ w
stops_once y order claim e lines rest Certified Certified within h k = refl
stops_once y order claim e lines rest Certified (Lacks b) within h k = absurd (claim_once y order claim lines b within h.1 k.1)
stops_once y order claim e lines rest Certified (Refused b n) within h k = absurd (not_refused e lines rest b h.0 k.0)
stops_once y order claim e lines rest Certified (Faulty b n) within h k = absurd (not_faulty rest b h.0 k.0)
stops_once y order claim e lines rest (Lacks a) Certified within h k = absurd (claim_once y order claim lines a within k.1 h.1)
stops_once y order claim e lines rest (Lacks a) (Lacks b) within h k = ap (λ n. Lacks n) (lacks_once y order claim lines a b within h.1 k.1)
stops_once y order claim e lines rest (Lacks a) (Refused b n) within h k = absurd (not_refused e lines rest b h.0 k.0)
stops_once y order claim e lines rest (Lacks a) (Faulty b n) within h k = absurd (not_faulty rest b h.0 k.0)
stops_once y order claim e lines rest (Refused a m) Certified within h k = absurd (not_refused e lines rest a k.0 h.0)
stops_once y order claim e lines rest (Refused a m) (Lacks b) within h k = absurd (not_refused e lines rest a k.0 h.0)
stops_once y order claim e lines rest (Refused a m) (Refused b n) within h k = refused_same e lines rest a b m n h k
stops_once y order claim e lines rest (Refused a m) (Faulty b n) within h k = absurd (refused_not_faulty e lines rest a b h.0 k.0)
stops_once y order claim e lines rest (Faulty a m) Certified within h k = absurd (not_faulty rest a k.0 h.0)
stops_once y order claim e lines rest (Faulty a m) (Lacks b) within h k = absurd (not_faulty rest a k.0 h.0)
stops_once y order claim e lines rest (Faulty a m) (Refused b n) within h k = absurd (refused_not_faulty e lines rest b a k.0 h.0)
stops_once y order claim e lines rest (Faulty a m) (Faulty b n) within h k = faulty_same lines rest a b m n h k

-- ---- two that stop in one text

-- one begins the other
one_front : (y : Layout) (order : List Criterion) (claim : Claim) (e : Expectation) (bytes : List ℕ) (v w : Verdict) → NamesItsOwn e → IsClaimOf order claim →
    (a : Stops y order claim e bytes v) (b : Stops y order claim e bytes w) → Begins a.lines b.lines a.rest b.rest → v ≡ w
one_front y order claim e bytes v w own within a b f = by f.more f.lines f.rest f.told
  where
    by : (more : Lines) → b.lines ≡ a.lines ++ more → a.rest ≡ flat_map ended_text more ++ b.rest → MayAllBeTold more → v ≡ w
    by [] lines rest told =
        let same : a.lines ≡ b.lines = sym (append-nil a.lines) ∙ sym lines in
        stops_once y order claim e b.lines b.rest v w within (subst (λ (t : List ℕ). StopsAt y order claim e b.lines t v) rest
        (subst (λ (ls : Lines). StopsAt y order claim e ls a.rest v) same a.at)) b.at
    by (l ∷ more) lines rest told =
        let accepted : AreAccepted e (a.lines ++ l ∷ []) = accepted_first e a.lines l more (subst (AreAccepted e) lines b.accepts.accepted) in
        absurd (goes_on y order claim e a.lines a.rest v l (flat_map ended_text more ++ b.rest) own told.0
        (rest ∙ append_assoc (ended_text l) (flat_map ended_text more) b.rest) accepted a.at)

both_stop : (y : Layout) (order : List Criterion) (claim : Claim) (e : Expectation) (bytes : List ℕ) (v w : Verdict) → NamesItsOwn e → IsClaimOf order claim →
    Stops y order claim e bytes v → Stops y order claim e bytes w → v ≡ w
both_stop y order claim e bytes v w own within a b =
    elim (log_fronts bytes a.lines b.lines a.rest b.rest a.accepts.formed b.accepts.formed a.accepts.spelled b.accepts.spelled) [
      | inl f ↦ one_front y order claim e bytes v w own within a b f
      | inr f ↦ sym (one_front y order claim e bytes w v own within b a f)
    ]

-- the text of accepted lines has the first line of every log
has_header : (y : Layout) (order : List Criterion) (claim : Claim) (e : Expectation) (bytes : List ℕ) (v : Verdict) (what : LogWhat) (number : ℕ) →
    Stops y order claim e bytes v → IsHeaderRefused bytes what number → ⊥
has_header y order claim e bytes v what number a h =
    h.lacks (flat_map ended_text a.lines ++ a.rest) (a.accepts.spelled ∙ append_assoc header (flat_map ended_text a.lines) a.rest)

verdict_once : (y : Layout) (order : List Criterion) (claim : Claim) (e : Expectation) (bytes : List ℕ) (v w : Verdict) → NamesItsOwn e →
    IsClaimOf order claim → IsLogVerdict y order claim e bytes v → IsLogVerdict y order claim e bytes w → v ≡ w
verdict_once y order claim e bytes v w own within h k = by (stops y order claim e bytes v h) (stops y order claim e bytes w k)
  where
    by : Stops y order claim e bytes v ⊎ AtHeader bytes v → Stops y order claim e bytes w ⊎ AtHeader bytes w → v ≡ w
    by (inl a) (inl b) = both_stop y order claim e bytes v w own within a b
    by (inl a) (inr b) = absurd (has_header y order claim e bytes v b.0 b.1 a b.3)
    by (inr a) (inl b) = absurd (has_header y order claim e bytes w a.0 a.1 b a.3)
    by (inr a) (inr b) =
        let what : a.0 ≡ b.0 = a.3.what_is ∙ sym b.3.what_is in
        let number : a.1 ≡ b.1 = a.3.numbered ∙ sym b.3.numbered in
        a.2 ∙ ap (λ (x : LogWhat). Faulty x a.1) what ∙ ap (Faulty b.0) number ∙ sym b.2

-- ---- the verdict on a log

pub expected_once : (y : Layout) (order : List Criterion) (bytes : List ℕ) (a b : Expectation) → IsExpectedOf y order bytes a → IsExpectedOf y order bytes b →
    a ≡ b
expected_once y order bytes a b h k =
    h.expected_is ∙ ap (λ (ls : Lines). expectation y order (caps (limit_of y.graph y.grid) ls)) (bounds_once bytes h.lines k.lines h.bounds k.bounds)
    ∙ sym k.expected_is

names_its_own : (y : Layout) (order : List Criterion) (bytes : List ℕ) (e : Expectation) → IsStationGraph y.graph → IsOrderOf y.graph y.order → IsGrid y.grid →
    IsExpectedOf y order bytes e → NamesItsOwn e
names_its_own y order bytes e station is size h =
    subst NamesItsOwn (sym h.expected_is) (expected_clauses_there y.graph y.order y.grid order (caps (limit_of y.graph y.grid) h.lines) station is size)

pub judged_once : (y : Layout) (order : List Criterion) (claim : Claim) (log : List ℕ) (v w : Verdict) → IsStationGraph y.graph → IsOrderOf y.graph y.order →
    IsGrid y.grid → IsClaimOf order claim → IsLogJudged y order claim log v → IsLogJudged y order claim log w → v ≡ w
judged_once y order claim log v w station is size within h k =
    verdict_once y order claim h.expected log v w (names_its_own y order log h.expected station is size h.is_expected) within h.is_verdict
    (subst (λ (e : Expectation). IsLogVerdict y order claim e log w) (expected_once y order log k.expected h.expected k.is_expected h.is_expected) k.is_verdict)

-- where all is accepted and certifies the claim, that is the verdict
pub certified_due : (y : Layout) (order : List Criterion) (claim : Claim) (log : List ℕ) (e : Expectation) (lines : Lines) (v : Verdict) →
    IsStationGraph y.graph → IsOrderOf y.graph y.order → IsGrid y.grid → IsClaimOf order claim →
    IsExpectedOf y order log e → AcceptsFront e log lines [] → CertifiesClaim (limit_of y.graph y.grid) lines order claim → IsLogJudged y order claim log v →
    v ≡ Certified
certified_due y order claim log e lines v station is size within expected whole certified h =
    let so = claim_is_so y order (caps (limit_of y.graph y.grid) expected.lines) (limit_of y.graph y.grid) e lines claim station is size expected.expected_is
    whole.accepted certified in
    judged_once y order claim log v Certified station is size within h
    (record { expected = e; is_expected = expected; is_verdict = record { lines = lines; whole = whole; certified = certified; is_so = so } })
