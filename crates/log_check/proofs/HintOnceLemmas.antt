-- One verdict at most is due to a hinted log.
use Rattle.std.proofs.Common.{◌≡◌, ◌≤◌, ℕ, ◌+◌, ◌⊎◌, List, [], ◌∷◌, ◌++◌, length, refl, sym, ◌∙◌, ap, subst, inl, inr, arith, append-nil, append_assoc}
use Rattle.std.specs.Prelude.{Some, None, flat_map}
use Rattle.std.proofs.lemmas.Grind.{flat_map-append}
use Rattle.std.proofs.lemmas.List.{append_cancel_left}
use Rattle.plan_core.specs.declared.criterion.Criterion.{Criterion}
use Rattle.plan_core.specs.declared.criterion.Values.{Values}
use Rattle.plan_core.specs.Values.{limit_of}
use Rattle.cnf_core.specs.declared.limits.TheConstants.{ROOM}
use Rattle.cnf_core.specs.Clause.{Clauses, words_of}
use Rattle.cnf_core.proofs.ClauseLemmas.{words_append}
use Rattle.refute_log.specs.Told.{Lines}
use Rattle.refute_log.specs.Log.{given}
use Rattle.refute_check.proofs.JudgeLemmas.{none_lacking, lacking_once}
use Rattle.drawing_cnf.specs.Layout.{Layout}
use Rattle.log_check.specs.declared.claim.Claim.{Claim}
use Rattle.log_check.specs.declared.claim.Claim.TheVariants.{Least, NoDrawing, Nothing}
use Rattle.log_check.specs.Expectation.{Expectation, PassesLimits}
use Rattle.log_check.specs.Claimed.{IsClaimOf, CertifiesClaim, LacksAt}
use Rattle.log_check.proofs.CutLemmas.{same_cut, no_cut}
use Rattle.hint_log.specs.declared.hint_line.HintLine.{HintLine}
use Rattle.hint_log.specs.Hint.{IsGood}
use Rattle.hint_log.specs.Checked.{clauses_learnt}
use Rattle.hint_log.specs.HintedLines.{HintLines, AreGood}
use Rattle.hint_log.specs.declared.text_fault.HintsWhat.{HintsWhat}
use Rattle.hint_log.specs.HintText.{MayBeWritten, MayAllBeWritten, hint_text, ended_hint, hints_header, caps_text, ended_caps}
use Rattle.hint_log.specs.HintFaults.{IsHintOf, HasHintTextFault}
use Rattle.hint_log.specs.Caps.{AreCapsOf, HasCapsFault}
use Rattle.hint_log.proofs.CapsLemmas.{caps_once, caps_fault_once, caps_no_fault, caps_lack}
use Rattle.hint_log.proofs.OnceLemmas.{hint_once, hint_no_fault, fault_once, hint_lacks}
use Rattle.log_check.specs.Hinted.{log_of}
use Rattle.log_check.specs.declared.hint_verdict.HintRefusal.{HintRefusal}
use Rattle.log_check.specs.declared.hint_verdict.HintRefusal.TheVariants.{BadHint, Room}
use Rattle.log_check.specs.declared.hint_verdict.HintsVerdict.{HintsVerdict}
use Rattle.log_check.specs.declared.hint_verdict.HintsVerdict.TheVariants.{Certified, Lacks, Refused, Faulty}
use Rattle.log_check.specs.HintAccepted.{expected_for, AreCapsFor, BeginsWithCaps, clauses_with, AreAcceptedHints, AcceptsHints}
use Rattle.log_check.specs.HintRefused.{IsHintRefusedFor, HasNextHintFault, HasNextCapsFault}
use Rattle.log_check.specs.HintsJudged.{BodyCertifies, IsBodyVerdict, IsJudgedBehind, IsCapsRefused, IsHintsHeaderRefused, HintsCertify, IsHintsJudged}

-- ---- the lines of a text

one_more : (l : HintLine) (r : List ℕ) → ended_hint l ++ r ≡ hint_text l ++ 10 ∷ r
one_more l r = append_assoc (hint_text l) (10 ∷ []) r

is_read : (line : HintLine) → MayBeWritten line → IsHintOf (hint_text line) line
is_read line h = record { spells = record { formed = h.formed; spelled = refl }; once = h.once }

record SameLine (k l : HintLine) (r s : List ℕ) : Type 0 where
  line : k ≡ l
  rest : r ≡ s

same_line : (k l : HintLine) (r s : List ℕ) → MayBeWritten k → MayBeWritten l → ended_hint k ++ r ≡ ended_hint l ++ s → SameLine k l r s
same_line k l r s a b e =
    let cut = same_cut (hint_text k) (hint_text l) r s (hint_lacks k a) (hint_lacks l b) (sym (one_more k r) ∙ e ∙ one_more l s) in
    record {
      line = hint_once (hint_text l) k l (record { formed = a.formed; spelled = cut.front }) (record { formed = b.formed; spelled = refl });
      rest = cut.rest;
    }

line_goes_on : (l : HintLine) (r : List ℕ) → [] ≡ ended_hint l ++ r → ⊥
line_goes_on l r e = no_cut [] (hint_text l) r tt (e ∙ one_more l r)

line_has_no_fault : (l : HintLine) (rest r : List ℕ) (what : HintsWhat) → MayBeWritten l → rest ≡ ended_hint l ++ r → HasNextHintFault rest what → ⊥
line_has_no_fault l rest r what told e (inl h) =
    let cut = same_cut (hint_text l) h.0 r h.1 (hint_lacks l told) h.2.first (sym (one_more l r) ∙ sym e ∙ h.2.spelled) in
    hint_no_fault h.0 l what (subst (λ (t : List ℕ). IsHintOf t l) cut.front (is_read l told)) h.3
line_has_no_fault l rest r what told e (inr h) = no_cut rest (hint_text l) r h.2 (e ∙ one_more l r)

next_fault_once : (rest : List ℕ) (a b : HintsWhat) → HasNextHintFault rest a → HasNextHintFault rest b → a ≡ b
next_fault_once rest a b (inl h) (inl k) =
    let cut = same_cut h.0 k.0 h.1 k.1 h.2.first k.2.first (sym h.2.spelled ∙ k.2.spelled) in
    fault_once k.0 a b (subst (λ (t : List ℕ). HasHintTextFault t a) cut.front h.3) k.3
next_fault_once rest a b (inl h) (inr k) = absurd (no_cut rest h.0 h.1 k.2 h.2.spelled)
next_fault_once rest a b (inr h) (inl k) = absurd (no_cut rest k.0 k.1 h.2 k.2.spelled)
next_fault_once rest a b (inr h) (inr k) = h.0 ∙ sym k.0

no_next_fault : (what : HintsWhat) → HasNextHintFault [] what → ⊥
no_next_fault what (inl h) = no_cut [] h.0 h.1 tt h.2.spelled
no_next_fault what (inr h) = h.1 refl

-- the first list begins the second, and its rest begins with the other lines
record Begins (xs ys : HintLines) (r s : List ℕ) : Type 0 where
  more : HintLines
  lines : ys ≡ xs ++ more
  rest : r ≡ flat_map ended_hint more ++ s
  told : MayAllBeWritten more

fronts : (xs ys : HintLines) (r s : List ℕ) → MayAllBeWritten xs → MayAllBeWritten ys → flat_map ended_hint xs ++ r ≡ flat_map ended_hint ys ++ s →
    Begins xs ys r s ⊎ Begins ys xs s r
fronts [] ys r s h k e = inl (record { more = ys; lines = refl; rest = e; told = k })
fronts (x ∷ xs) [] r s h k e = inr (record { more = x ∷ xs; lines = refl; rest = sym e; told = h })
fronts (x ∷ xs) (y ∷ ys) r s h k e =
    let split : (l : HintLine) (ls : HintLines) (t : List ℕ) → flat_map ended_hint (l ∷ ls) ++ t ≡ ended_hint l ++ (flat_map ended_hint ls ++ t) = λ l ls
    t. append_assoc (ended_hint l) (flat_map ended_hint ls) t in
    let same = same_line x y (flat_map ended_hint xs ++ r) (flat_map ended_hint ys ++ s) h.0 k.0 (sym (split x xs r) ∙ e ∙ split y ys s) in
    elim (fronts xs ys r s h.1 k.1 same.rest) [
      | inl b ↦ inl (record { more = b.more; lines = cc (same.line, b.lines); rest = b.rest; told = b.told })
      | inr b ↦ inr (record { more = b.more; lines = cc (same.line, b.lines); rest = b.rest; told = b.told })
    ]

-- ---- an accepted line has no cause

good_at : (clauses : Clauses) (xs : HintLines) (l : HintLine) (more : HintLines) → AreGood clauses (xs ++ l ∷ more) →
    IsGood (clauses ++ flat_map clauses_learnt xs) l
good_at clauses [] l more g = subst (λ (cs : Clauses). IsGood cs l) (sym (append-nil clauses)) g.0
good_at clauses (x ∷ xs) l more g = subst (λ (cs : Clauses). IsGood cs l) (append_assoc clauses (clauses_learnt x) (flat_map clauses_learnt xs))
    (good_at (clauses ++ clauses_learnt x) xs l more g.1)

room_at : (e : Expectation) (xs : HintLines) (l : HintLine) (more : HintLines) → words_of (clauses_with e (xs ++ l ∷ more)) ≤ ROOM →
    words_of (clauses_with e (xs ++ l ∷ [])) ≤ ROOM
room_at e xs l more low =
    let given_of = flat_map given e.lines in
    let here = flat_map clauses_learnt (xs ++ l ∷ []) in
    let later = flat_map clauses_learnt more in
    let split : clauses_with e (xs ++ l ∷ more) ≡ clauses_with e (xs ++ l ∷ []) ++ later =
    ap (λ (ls : HintLines). given_of ++ flat_map clauses_learnt ls) (sym (append_assoc xs (l ∷ []) more))
    ∙ ap (λ (cs : Clauses). given_of ++ cs) (flat_map-append clauses_learnt (xs ++ l ∷ []) more) ∙ sym (append_assoc given_of here later) in
    let all = ap words_of split in
    let size = words_append (clauses_with e (xs ++ l ∷ [])) later in
    omega arith

not_refused_for : (e : Expectation) (xs : HintLines) (l : HintLine) (more : HintLines) (why : HintRefusal) → AreAcceptedHints e (xs ++ l ∷ more) →
    IsHintRefusedFor e xs l why → ⊥
not_refused_for e xs l more BadHint a h = h (good_at (flat_map given e.lines) xs l more a.good)
not_refused_for e xs l more Room a h = let low = room_at e xs l more a.room in let high = h.1 in omega arith

refused_once : (e : Expectation) (xs : HintLines) (l : HintLine) (a b : HintRefusal) → IsHintRefusedFor e xs l a → IsHintRefusedFor e xs l b → a ≡ b
refused_once e xs l BadHint BadHint h k = refl
refused_once e xs l BadHint Room h k = absurd (h k.0)
refused_once e xs l Room BadHint h k = absurd (k h.0)
refused_once e xs l Room Room h k = refl

-- ---- where a text stops

record Refuses (e : Expectation) (lines : HintLines) (rest : List ℕ) (why : HintRefusal) : Type 0 where
  line : HintLine
  more : List ℕ
  is : rest ≡ ended_hint line ++ more
  told : MayBeWritten line
  refused : IsHintRefusedFor e lines line why

-- what stands behind the accepted lines, by the verdict: nothing, a refused line, or a fault
abbrev StopsAt : Layout → List Criterion → Claim → Expectation → HintLines → List ℕ → HintsVerdict → Type 0
StopsAt y order claim e lines rest Certified = (rest ≡ []) × CertifiesClaim (limit_of y.graph y.grid) (log_of e.lines lines) order claim
StopsAt y order claim e lines rest (Lacks place) = (rest ≡ []) × LacksAt (limit_of y.graph y.grid) (log_of e.lines lines) order claim place
StopsAt y order claim e lines rest (Refused why number) = Refuses e lines rest why × (number ≡ length lines + 3)
StopsAt y order claim e lines rest (Faulty what number) = HasNextHintFault rest what × (number ≡ length lines + 3)

record Stops (y : Layout) (order : List Criterion) (claim : Claim) (e : Expectation) (body : List ℕ) (verdict : HintsVerdict) : Type 0 where
  lines : HintLines
  rest : List ℕ
  accepts : AcceptsHints e body lines rest
  at : StopsAt y order claim e lines rest verdict

-- or at the caps, since there is no room for what is expected
record IsOver (e : Expectation) (verdict : HintsVerdict) : Type 0 where
  passes : PassesLimits e
  is : verdict ≡ Refused Room 2

-- lines that certify stop at the end
certified_stops : (y : Layout) (order : List Criterion) (claim : Claim) (e : Expectation) (body : List ℕ) → BodyCertifies y order claim e body →
    Stops y order claim e body Certified
certified_stops y order claim e body h = record { lines = h.lines; rest = []; accepts = h.whole; at = (refl, h.certified) }

stops : (y : Layout) (order : List Criterion) (claim : Claim) (e : Expectation) (body : List ℕ) (v : HintsVerdict) → IsBodyVerdict y order claim e body v →
    Stops y order claim e body v ⊎ IsOver e v
stops y order claim e body Certified h = inl (certified_stops y order claim e body h.certifies)
stops y order claim e body (Lacks place) h = inl (record { lines = h.lines; rest = []; accepts = h.whole; at = (refl, h.lacks) })
stops y order claim e body (Refused why number) (inl h) =
    inr (record { passes = h.passes; is = ap (λ (w : HintRefusal). Refused w number) h.why_is ∙ ap (λ n. Refused Room n) h.numbered })
stops y order claim e body (Refused why number) (inr h) = inl (record {
  lines = h.before;
  rest = ended_hint h.line ++ h.more;
  accepts = h.accepts;
  at = (record { line = h.line; more = h.more; is = refl; told = h.formed; refused = h.refused }, h.numbered);
})
stops y order claim e body (Faulty what number) h = inl (record { lines = h.before; rest = h.rest; accepts = h.accepts; at = (h.fault, h.numbered) })

-- no verdict stops where a further line is accepted
goes_on : (y : Layout) (order : List Criterion) (claim : Claim) (e : Expectation) (lines : HintLines) (rest : List ℕ) (v : HintsVerdict) (line : HintLine)
    (more : HintLines) (after : List ℕ) → MayBeWritten line → rest ≡ ended_hint line ++ after →
    AreAcceptedHints e (lines ++ line ∷ more) → StopsAt y order claim e lines rest v → ⊥
goes_on y order claim e lines rest Certified line more after told is accepted s = line_goes_on line after (sym s.0 ∙ is)
goes_on y order claim e lines rest (Lacks place) line more after told is accepted s = line_goes_on line after (sym s.0 ∙ is)
goes_on y order claim e lines rest (Refused why number) line more after told is accepted s =
    let r = s.0 in
    let same = same_line r.line line r.more after r.told told (sym r.is ∙ is) in
    not_refused_for e lines line more why accepted (subst (λ (l : HintLine). IsHintRefusedFor e lines l why) same.line r.refused)
goes_on y order claim e lines rest (Faulty what number) line more after told is accepted s = line_has_no_fault line rest after what told is s.0

-- ---- two that stop behind the same lines

claim_once : (greatest : Criterion → ℕ) (order : List Criterion) (claim : Claim) (log : Lines) (place : ℕ) → IsClaimOf order claim →
    CertifiesClaim greatest log order claim → LacksAt greatest log order claim place → ⊥
claim_once greatest order (Least v places) log place within h k =
    let none : Some k.0 ≡ None = none_lacking greatest log order v places (Some k.0) within h k.2 in
    cc
claim_once greatest order NoDrawing log place within h k = k.1 h
claim_once greatest order Nothing log place within h k = k

lacks_once : (greatest : Criterion → ℕ) (order : List Criterion) (claim : Claim) (log : Lines) (a b : ℕ) → IsClaimOf order claim →
    LacksAt greatest log order claim a → LacksAt greatest log order claim b → a ≡ b
lacks_once greatest order (Least v places) log a b within h k =
    let same : Some h.0 ≡ Some k.0 = lacking_once greatest log order v places (Some h.0) (Some k.0) within h.2 k.2 in
    let place : h.0 ≡ k.0 = cc in
    h.1 ∙ ap (λ n. n + 1) place ∙ sym k.1
lacks_once greatest order NoDrawing log a b within h k = h.0 ∙ sym k.0
lacks_once greatest order Nothing log a b within h k = absurd h

refused_same : (e : Expectation) (lines : HintLines) (rest : List ℕ) (a b : HintRefusal) (m n : ℕ) → Refuses e lines rest a × (m ≡ length lines + 3) →
    Refuses e lines rest b × (n ≡ length lines + 3) → Refused a m ≡ Refused b n
refused_same e lines rest a b m n h k =
    let r = h.0 in
    let s = k.0 in
    let same = same_line r.line s.line r.more s.more r.told s.told (sym r.is ∙ s.is) in
    let why : a ≡ b = refused_once e lines s.line a b (subst (λ (l : HintLine). IsHintRefusedFor e lines l a) same.line r.refused) s.refused in
    let number : m ≡ n = h.1 ∙ sym k.1 in
    ap (λ (w : HintRefusal). Refused w m) why ∙ ap (Refused b) number

faulty_same : (lines : HintLines) (rest : List ℕ) (a b : HintsWhat) (m n : ℕ) → HasNextHintFault rest a × (m ≡ length lines + 3) →
    HasNextHintFault rest b × (n ≡ length lines + 3) → Faulty a m ≡ Faulty b n
faulty_same lines rest a b m n h k =
    let what : a ≡ b = next_fault_once rest a b h.0 k.0 in
    let number : m ≡ n = h.1 ∙ sym k.1 in
    ap (λ (w : HintsWhat). Faulty w m) what ∙ ap (Faulty b) number

not_refused : (e : Expectation) (lines : HintLines) (rest : List ℕ) (why : HintRefusal) → rest ≡ [] → Refuses e lines rest why → ⊥
not_refused e lines rest why none r = line_goes_on r.line r.more (sym none ∙ r.is)

not_faulty : (rest : List ℕ) (what : HintsWhat) → rest ≡ [] → HasNextHintFault rest what → ⊥
not_faulty rest what none h = no_next_fault what (subst (λ (t : List ℕ). HasNextHintFault t what) none h)

refused_not_faulty : (e : Expectation) (lines : HintLines) (rest : List ℕ) (why : HintRefusal) (what : HintsWhat) → Refuses e lines rest why →
    HasNextHintFault rest what → ⊥
refused_not_faulty e lines rest why what r fault = line_has_no_fault r.line rest r.more what r.told r.is fault

stops_once : (y : Layout) (order : List Criterion) (claim : Claim) (e : Expectation) (lines : HintLines) (rest : List ℕ) (v w : HintsVerdict) →
    IsClaimOf order claim → StopsAt y order claim e lines rest v → StopsAt y order claim e lines rest w → v ≡ w
stops_once y order claim e lines rest Certified Certified within h k = refl
stops_once y order claim e lines rest Certified (Lacks b) within h k = absurd (claim_once (limit_of y.graph y.grid) order claim (log_of e.lines lines) b within
    h.1 k.1)
stops_once y order claim e lines rest Certified (Refused b n) within h k = absurd (not_refused e lines rest b h.0 k.0)
stops_once y order claim e lines rest Certified (Faulty b n) within h k = absurd (not_faulty rest b h.0 k.0)
stops_once y order claim e lines rest (Lacks a) Certified within h k = absurd (claim_once (limit_of y.graph y.grid) order claim (log_of e.lines lines) a within
    k.1 h.1)
stops_once y order claim e lines rest (Lacks a) (Lacks b) within h k = ap (λ n. Lacks n)
    (lacks_once (limit_of y.graph y.grid) order claim (log_of e.lines lines) a b within h.1 k.1)
stops_once y order claim e lines rest (Lacks a) (Refused b n) within h k = absurd (not_refused e lines rest b h.0 k.0)
stops_once y order claim e lines rest (Lacks a) (Faulty b n) within h k = absurd (not_faulty rest b h.0 k.0)
stops_once y order claim e lines rest (Refused a m) Certified within h k = absurd (not_refused e lines rest a k.0 h.0)
stops_once y order claim e lines rest (Refused a m) (Lacks b) within h k = absurd (not_refused e lines rest a k.0 h.0)
stops_once y order claim e lines rest (Refused a m) (Refused b n) within h k = refused_same e lines rest a b m n h k
stops_once y order claim e lines rest (Refused a m) (Faulty b n) within h k = absurd (refused_not_faulty e lines rest a b h.0 k.0)
stops_once y order claim e lines rest (Faulty a m) Certified within h k = absurd (not_faulty rest a k.0 h.0)
stops_once y order claim e lines rest (Faulty a m) (Lacks b) within h k = absurd (not_faulty rest a k.0 h.0)
stops_once y order claim e lines rest (Faulty a m) (Refused b n) within h k = absurd (refused_not_faulty e lines rest b a k.0 h.0)
stops_once y order claim e lines rest (Faulty a m) (Faulty b n) within h k = faulty_same lines rest a b m n h k

-- one begins the other
one_front : (y : Layout) (order : List Criterion) (claim : Claim) (e : Expectation) (body : List ℕ) (v w : HintsVerdict) → IsClaimOf order claim →
    (a : Stops y order claim e body v) (b : Stops y order claim e body w) → Begins a.lines b.lines a.rest b.rest → v ≡ w
one_front y order claim e body v w within a b f = by f.more f.lines f.rest f.told
  where
    by : (more : HintLines) → b.lines ≡ a.lines ++ more → a.rest ≡ flat_map ended_hint more ++ b.rest → MayAllBeWritten more → v ≡ w
    by [] lines rest told =
        let same : a.lines ≡ b.lines = sym (append-nil a.lines) ∙ sym lines in
        stops_once y order claim e b.lines b.rest v w within (subst (λ (t : List ℕ). StopsAt y order claim e b.lines t v) rest
        (subst (λ (ls : HintLines). StopsAt y order claim e ls a.rest v) same a.at)) b.at
    by (l ∷ more) lines rest told =
        let accepted : AreAcceptedHints e (a.lines ++ l ∷ more) = subst (AreAcceptedHints e) lines b.accepts.accepted in
        absurd (goes_on y order claim e a.lines a.rest v l more (flat_map ended_hint more ++ b.rest) told.0
        (rest ∙ append_assoc (ended_hint l) (flat_map ended_hint more) b.rest) accepted a.at)

-- two texts behind the caps, or the caps, stop with one verdict
stopped_once : (y : Layout) (order : List Criterion) (claim : Claim) (e : Expectation) (body : List ℕ) (v w : HintsVerdict) → IsClaimOf order claim →
    Stops y order claim e body v ⊎ IsOver e v → Stops y order claim e body w ⊎ IsOver e w → v ≡ w
stopped_once y order claim e body v w within (inl a) (inl b) =
    elim (fronts a.lines b.lines a.rest b.rest a.accepts.formed b.accepts.formed (sym a.accepts.spelled ∙ b.accepts.spelled)) [
      | inl f ↦ one_front y order claim e body v w within a b f
      | inr f ↦ sym (one_front y order claim e body w v within b a f)
    ]
stopped_once y order claim e body v w within (inl a) (inr b) = absurd (a.accepts.accepted.within b.passes)
stopped_once y order claim e body v w within (inr a) (inl b) = absurd (b.accepts.accepted.within a.passes)
stopped_once y order claim e body v w within (inr a) (inr b) = a.is ∙ sym b.is

body_once : (y : Layout) (order : List Criterion) (claim : Claim) (e : Expectation) (body : List ℕ) (v w : HintsVerdict) → IsClaimOf order claim →
    IsBodyVerdict y order claim e body v → IsBodyVerdict y order claim e body w → v ≡ w
body_once y order claim e body v w within h k = stopped_once y order claim e body v w within (stops y order claim e body v h) (stops y order claim e body w k)

-- ---- the first two lines

caps_more : (caps : Values) (r : List ℕ) → ended_caps caps ++ r ≡ caps_text caps ++ 10 ∷ r
caps_more caps r = append_assoc (caps_text caps) (10 ∷ []) r

caps_of : (y : Layout) (order : List Criterion) (caps : Values) → AreCapsFor y order caps → AreCapsOf (limit_of y.graph y.grid) order (caps_text caps) caps
caps_of y order caps h = record { is_text = record { small = h.small; spelled = refl }; range = h.range }

record SameCaps (a b : Values) (r s : List ℕ) : Type 0 where
  caps : a ≡ b
  body : r ≡ s

same_caps : (y : Layout) (order : List Criterion) (bytes : List ℕ) (a b : Values) (r s : List ℕ) → BeginsWithCaps y order bytes a r →
    BeginsWithCaps y order bytes b s → SameCaps a b r s
same_caps y order bytes a b r s h k =
    let behind = append_cancel_left hints_header (ended_caps a ++ r) (ended_caps b ++ s) (sym h.spelled ∙ k.spelled) in
    let cut = same_cut (caps_text a) (caps_text b) r s (caps_lack a h.caps_for.small) (caps_lack b k.caps_for.small)
    (sym (caps_more a r) ∙ behind ∙ caps_more b s) in
    record {
      caps = caps_once (caps_text b) a b (record {
        small = h.caps_for.small;
        spelled = sym cut.front;
      }) (record { small = k.caps_for.small; spelled = refl });
      body = cut.rest;
    }

caps_fault : (y : Layout) (order : List Criterion) (rest : List ℕ) (caps : Values) (body : List ℕ) (what : HintsWhat) → AreCapsFor y order caps →
    rest ≡ ended_caps caps ++ body → HasNextCapsFault (limit_of y.graph y.grid) order rest what → ⊥
caps_fault y order rest caps body what h e (inl f) =
    let cut = same_cut (caps_text caps) f.0 body f.1 (caps_lack caps h.small) f.2.first (sym (caps_more caps body) ∙ sym e ∙ f.2.spelled) in
    caps_no_fault (limit_of y.graph y.grid) order f.0 caps what (subst (λ (t : List ℕ). AreCapsOf (limit_of y.graph y.grid) order t caps) cut.front
    (caps_of y order caps h)) f.3
caps_fault y order rest caps body what h e (inr f) = no_cut rest (caps_text caps) body f.1 (e ∙ caps_more caps body)

next_caps_once : (greatest : Criterion → ℕ) (order : List Criterion) (rest : List ℕ) (a b : HintsWhat) → HasNextCapsFault greatest order rest a →
    HasNextCapsFault greatest order rest b → a ≡ b
next_caps_once greatest order rest a b (inl h) (inl k) =
    let cut = same_cut h.0 k.0 h.1 k.1 h.2.first k.2.first (sym h.2.spelled ∙ k.2.spelled) in
    caps_fault_once greatest order k.0 a b (subst (λ (t : List ℕ). HasCapsFault greatest order t a) cut.front h.3) k.3
next_caps_once greatest order rest a b (inl h) (inr k) = absurd (no_cut rest h.0 h.1 k.1 h.2.spelled)
next_caps_once greatest order rest a b (inr h) (inl k) = absurd (no_cut rest k.0 k.1 h.1 k.2.spelled)
next_caps_once greatest order rest a b (inr h) (inr k) = h.0 ∙ sym k.0

-- ---- the whole

-- where a text stops: at its first line, at its caps, or behind them
data HintsStop (y : Layout) (order : List Criterion) (claim : Claim) (bytes : List ℕ) (v : HintsVerdict) : Type 0 where
  AtHeader : (what : HintsWhat) (number : ℕ) → v ≡ Faulty what number → IsHintsHeaderRefused bytes what number → HintsStop y order claim bytes v
  AtCaps : (what : HintsWhat) (number : ℕ) → v ≡ Faulty what number → IsCapsRefused y order bytes what number → HintsStop y order claim bytes v
  Behind : IsJudgedBehind y order claim bytes v → HintsStop y order claim bytes v

stop_of : (y : Layout) (order : List Criterion) (claim : Claim) (bytes : List ℕ) (v : HintsVerdict) → IsHintsJudged y order claim bytes v →
    HintsStop y order claim bytes v
stop_of y order claim bytes (Faulty what number) (inl (inl h)) = AtHeader what number refl h
stop_of y order claim bytes (Faulty what number) (inl (inr h)) = AtCaps what number refl h
stop_of y order claim bytes Certified (inl h) = absurd h
stop_of y order claim bytes (Lacks place) (inl h) = absurd h
stop_of y order claim bytes (Refused why number) (inl h) = absurd h
stop_of y order claim bytes v (inr h) = Behind h

pub judged_once : (y : Layout) (order : List Criterion) (claim : Claim) (bytes : List ℕ) (v w : HintsVerdict) → IsClaimOf order claim →
    IsHintsJudged y order claim bytes v → IsHintsJudged y order claim bytes w → v ≡ w
judged_once y order claim bytes v w within h k = by (stop_of y order claim bytes v h) (stop_of y order claim bytes w k)
  where
    faulty : (a b : HintsWhat) (m n : ℕ) → v ≡ Faulty a m → w ≡ Faulty b n → a ≡ b → m ≡ n → v ≡ w
    faulty a b m n p q what number = p ∙ ap (λ (x : HintsWhat). Faulty x m) what ∙ ap (Faulty b) number ∙ sym q

    by : HintsStop y order claim bytes v → HintsStop y order claim bytes w → v ≡ w
    by (AtHeader a m p x) (AtHeader b n q z) = faulty a b m n p q (x.what_is ∙ sym z.what_is) (x.numbered ∙ sym z.numbered)
    by (AtHeader a m p x) (AtCaps b n q z) = absurd (x.lacks z.rest z.spelled)
    by (AtHeader a m p x) (Behind z) = absurd (x.lacks (ended_caps z.caps ++ z.body) z.begins.spelled)
    by (AtCaps a m p x) (AtHeader b n q z) = absurd (z.lacks x.rest x.spelled)
    by (AtCaps a m p x) (AtCaps b n q z) =
        let rest = append_cancel_left hints_header x.rest z.rest (sym x.spelled ∙ z.spelled) in
        faulty a b m n p q (next_caps_once (limit_of y.graph y.grid) order z.rest a b
        (subst (λ (t : List ℕ). HasNextCapsFault (limit_of y.graph y.grid) order t a) rest x.fault) z.fault) (x.numbered ∙ sym z.numbered)
    by (AtCaps a m p x) (Behind z) =
        absurd (caps_fault y order x.rest z.caps z.body a z.begins.caps_for (append_cancel_left hints_header x.rest (ended_caps z.caps ++ z.body)
        (sym x.spelled ∙ z.begins.spelled)) x.fault)
    by (Behind x) (AtHeader b n q z) = absurd (z.lacks (ended_caps x.caps ++ x.body) x.begins.spelled)
    by (Behind x) (AtCaps b n q z) =
        absurd (caps_fault y order z.rest x.caps x.body b x.begins.caps_for (append_cancel_left hints_header z.rest (ended_caps x.caps ++ x.body)
        (sym z.spelled ∙ x.begins.spelled)) z.fault)
    by (Behind x) (Behind z) =
        let same = same_caps y order bytes x.caps z.caps x.body z.body x.begins z.begins in
        body_once y order claim (expected_for y order z.caps) z.body v w within
        (subst (λ (t : List ℕ). IsBodyVerdict y order claim (expected_for y order z.caps) t v) same.body
        (subst (λ (c : Values). IsBodyVerdict y order claim (expected_for y order c) x.body v) same.caps x.is_verdict)) z.is_verdict

-- ---- what certifies has no other verdict

pub certified_due : (y : Layout) (order : List Criterion) (claim : Claim) (bytes : List ℕ) (v : HintsVerdict) → IsClaimOf order claim →
    HintsCertify y order claim bytes → IsHintsJudged y order claim bytes v → v ≡ Certified
certified_due y order claim bytes v within x k = by (stop_of y order claim bytes v k)
  where
    by : HintsStop y order claim bytes v → v ≡ Certified
    by (AtHeader b n q z) = absurd (z.lacks (ended_caps x.caps ++ x.body) x.begins.spelled)
    by (AtCaps b n q z) =
        absurd (caps_fault y order z.rest x.caps x.body b x.begins.caps_for (append_cancel_left hints_header z.rest (ended_caps x.caps ++ x.body)
        (sym z.spelled ∙ x.begins.spelled)) z.fault)
    by (Behind z) =
        let same = same_caps y order bytes x.caps z.caps x.body z.body x.begins z.begins in
        let e = expected_for y order z.caps in
        let certifies : BodyCertifies y order claim e z.body = subst (λ (t : List ℕ). BodyCertifies y order claim e t) same.body
        (subst (λ (c : Values). BodyCertifies y order claim (expected_for y order c) x.body) same.caps x.certifies) in
        stopped_once y order claim e z.body v Certified within (stops y order claim e z.body v z.is_verdict)
        (inl (certified_stops y order claim e z.body certifies))

pub certified_only : (y : Layout) (order : List Criterion) (claim : Claim) (bytes : List ℕ) → IsHintsJudged y order claim bytes Certified →
    HintsCertify y order claim bytes
certified_only y order claim bytes (inl h) = absurd h
certified_only y order claim bytes (inr h) = record { caps = h.caps; body = h.body; begins = h.begins; certifies = h.is_verdict.certifies }
