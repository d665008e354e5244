-- What is known of a log that certifies a claim: its lines, its caps, and that the wanted lines are there.
use Rattle.std.proofs.Common.{◌≡◌, ℕ, inl, inr, List, [], ◌∷◌, take, Some, sym, ◌∙◌, ap, subst, append-nil}
use Rattle.std.specs.Prelude.{Contains, flat_map, slice_get, length, min}
use Rattle.std.proofs.lemmas.List.Elements.{All-weaker, Contains-push_cases}
use Rattle.plan_core.specs.declared.criterion.Criterion.{Criterion}
use Rattle.plan_core.specs.declared.criterion.Values.{Values}
use Rattle.plan_core.specs.Values.{value_of, limit_of}
use Rattle.cnf_core.specs.Lit.{Literal}
use Rattle.refute_log.specs.declared.line.LogLine.TheVariants.{Refuted}
use Rattle.refute_log.specs.Lines.{log_text}
use Rattle.refute_log.specs.Told.{Lines}
use Rattle.refute_log.specs.OneText.{log_text_once, formed_lines}
use Rattle.refute_log.specs.Log.{learnt}
use Rattle.refute_log.specs.Certified.{IsOutOfReach}
use Rattle.refute_log.specs.Expected.{caps, bound_vars}
use Rattle.refute_log.proofs.CertifiedLemmas.{out_of_reach_under}
use Rattle.refute_check.proofs.JudgeLemmas.{nothing}
use Rattle.drawing_cnf.specs.Layout.{Layout}
use Rattle.log_check.specs.declared.claim.Claim.{Claim}
use Rattle.log_check.specs.declared.claim.Claim.TheVariants.{Least, NoDrawing, Nothing}
use Rattle.log_check.specs.TextLines.{HasToldBounds, told_bound_line}
use Rattle.log_check.specs.Expectation.{Expectation, expectation}
use Rattle.log_check.specs.Accepted.{AreAccepted}
use Rattle.log_check.specs.Claimed.{CertifiesClaim}
use Rattle.log_check.specs.Judged.{CertifiesWhole}
use Rattle.log_check.proofs.CountingLemmas.{caps_alone}
use Rattle.log_check.proofs.CutLemmas.{bounds_once}
use Rattle.log_check.proofs.JudgingLemmas.{same_expectation, certifies_as}
use Rattle.log_trim.specs.Trimmed.{AreRefutedLines}
use Rattle.log_trim.specs.declared.trimming.TrimmedLog.{TrimmedLog}
use Rattle.log_trim.specs.Wanted.{ShowsLeast, AreWanted}
use Rattle.log_trim.specs.TrimmedLog.{IsSpelledLog, IsTrimmedLog}
use Rattle.log_trim.specs.HintRoom.{LinesPassLimits, LogPassesLimits}
use Rattle.log_trim.specs.Shown.{IsSomeLog, IsKeptOf}
use Rattle.log_trim.proofs.OwnLog.{own_bounds}

-- ---- the lines

pub some_log : (y : Layout) (order : List Criterion) (claim : Claim) (log : List ℕ) → CertifiesWhole y order claim log → IsSomeLog log
some_log y order claim log h = (h.lines, record { formed = h.whole.formed; spelled = h.whole.spelled ∙ append-nil (log_text h.lines) })

one_log : (log : List ℕ) (a b : Lines) → IsSpelledLog log a → IsSpelledLog log b → a ≡ b
one_log log a b h k = log_text_once a b (formed_lines a h.formed) (formed_lines b k.formed) (sym h.spelled ∙ k.spelled)

bounds_of : (log : List ℕ) (lines : Lines) → IsSpelledLog log lines → HasToldBounds log (flat_map told_bound_line lines)
bounds_of log lines h = subst (λ (text : List ℕ). HasToldBounds text (flat_map told_bound_line lines)) (sym h.spelled) (own_bounds lines h.formed)

-- what was counted of the text is what the lines have
abbrev pub AreCounted : (Criterion → ℕ) → List ℕ → (Criterion → ℕ) → Type 0
AreCounted greatest log counted_of = (lines : Lines) × HasToldBounds log lines × ((c : Criterion) → counted_of c ≡ caps greatest lines c)

pub caps_of : (greatest limit counted_of : Criterion → ℕ) (log : List ℕ) (lines : Lines) → IsSpelledLog log lines → ((c : Criterion) → greatest c ≡ limit c) →
    AreCounted greatest log counted_of → (c : Criterion) → counted_of c ≡ caps limit lines c
caps_of greatest limit counted_of log lines is same (others, bounds, are) c =
    let one : others ≡ flat_map told_bound_line lines = bounds_once log others (flat_map told_bound_line lines) bounds (bounds_of log lines is) in
    are c ∙ ap (λ (ls : Lines). caps greatest ls c) one ∙ caps_alone greatest lines c ∙ ap (λ n. min (length (bound_vars c lines)) n) (same c)

-- ---- what is expected

pub accepted_by : (y : Layout) (order : List Criterion) (claim : Claim) (log : List ℕ) (greatest counted_of : Criterion → ℕ) (lines : Lines) →
    CertifiesWhole y order claim log → IsSpelledLog log lines →
    ((c : Criterion) → greatest c ≡ limit_of y.graph y.grid c) → AreCounted greatest log counted_of → AreAccepted (expectation y order counted_of) lines
unfolding some_log
accepted_by y order claim log greatest counted_of lines h is same counted =
    let limit = limit_of y.graph y.grid in
    let one : h.lines ≡ lines = one_log log h.lines lines (some_log y order claim log h).1 is in
    let others = h.is_expected.lines in
    let these : others ≡ flat_map told_bound_line lines = bounds_once log others (flat_map told_bound_line lines) h.is_expected.bounds
    (bounds_of log lines is) in
    let e : h.expected ≡ expectation y order counted_of =
    h.is_expected.expected_is ∙ ap (λ (ls : Lines). expectation y order (caps limit ls)) these
    ∙ same_expectation y order (caps limit (flat_map told_bound_line lines)) counted_of
    (λ c. caps_alone limit lines c ∙ sym (caps_of greatest limit counted_of log lines is same counted c)) in
    subst (λ (x : Expectation). AreAccepted x lines) e (subst (λ (ls : Lines). AreAccepted h.expected ls) one h.whole.accepted)

-- ---- the claim

pub certified_by : (y : Layout) (order : List Criterion) (claim : Claim) (log : List ℕ) (greatest : Criterion → ℕ) (lines : Lines) →
    CertifiesWhole y order claim log → IsSpelledLog log lines →
    ((c : Criterion) → greatest c ≡ limit_of y.graph y.grid c) → CertifiesClaim greatest lines order claim
unfolding some_log
certified_by y order claim log greatest lines h is same =
    let limit = limit_of y.graph y.grid in
    let one : h.lines ≡ lines = one_log log h.lines lines (some_log y order claim log h).1 is in
    certifies_as limit greatest lines order claim (λ c. sym (same c)) (subst (λ (ls : Lines). CertifiesClaim limit ls order claim) one h.certified)

-- ---- both

pub whole_by : (y : Layout) (order : List Criterion) (claim : Claim) (log : List ℕ) (greatest counted_of : Criterion → ℕ) (lines : Lines) →
    IsSpelledLog log lines → ((c : Criterion) → greatest c ≡ limit_of y.graph y.grid c) →
    AreCounted greatest log counted_of → AreAccepted (expectation y order counted_of) lines → CertifiesClaim greatest lines order claim →
    CertifiesWhole y order claim log
whole_by y order claim log greatest counted_of lines is same counted accepted certified =
    let limit = limit_of y.graph y.grid in
    let bounds = flat_map told_bound_line lines in
    record {
      expected = expectation y order counted_of;
      lines = lines;
      is_expected = record {
        lines = bounds;
        bounds = bounds_of log lines is;
        expected_is = same_expectation y order counted_of (caps limit bounds) (λ c. caps_of greatest limit counted_of log lines is same counted c
            ∙ sym (caps_alone limit lines c));
      };
      whole = record { formed = is.formed; spelled = is.spelled ∙ sym (append-nil (log_text lines)); accepted = accepted };
      certified = certifies_as greatest limit lines order claim same certified;
    }

-- ---- the wanted lines

pub are_refuted : (greatest : Criterion → ℕ) (lines : Lines) (order : List Criterion) (claim : Claim) (wanted : List ℕ) →
    AreWanted greatest lines order claim wanted → AreRefutedLines lines wanted
are_refuted greatest lines order (Least v s) wanted h = λ p among. let r = h.only p among in (r.3.clause, r.3.there)
are_refuted greatest lines order NoDrawing wanted h = λ p among. ([], only p (subst (λ (ns : List ℕ). Contains ns p) h.2 among))
  where
    only : (p : ℕ) → Contains (h.0 ∷ []) p → slice_get lines p ≡ Some (Refuted [])
    only p among = elim (Contains-push_cases [] h.0 p among) [
      | inl before ↦ nothing p (slice_get lines p ≡ Some (Refuted [])) before
      | inr same ↦ subst (λ n. slice_get lines n ≡ Some (Refuted [])) same h.1.there
    ]
are_refuted greatest lines order Nothing wanted h = λ p among. nothing p ((c : List Literal) × (slice_get lines p ≡ Some (Refuted c)))
    (subst (λ (ns : List ℕ). Contains ns p) h among)

-- by greatest values that are the same
shows_so : (greatest other : Criterion → ℕ) (lines : Lines) (earlier : List Criterion) (c : Criterion) (v : Values) (p : ℕ) →
    ((b : Criterion) → greatest b ≡ other b) → ShowsLeast greatest lines earlier c v p → ShowsLeast other lines earlier c v p
shows_so greatest other lines earlier c v p same s = record {
  clause = s.clause;
  there = s.there;
  each = All-weaker (IsOutOfReach greatest lines earlier c v) (IsOutOfReach other lines earlier c v)
      (λ l. out_of_reach_under greatest other lines earlier c v l same) s.clause s.each;
  first = λ q d below at out. s.first q d below at
      (All-weaker (IsOutOfReach other lines earlier c v) (IsOutOfReach greatest lines earlier c v)
      (λ l. out_of_reach_under other greatest lines earlier c v l (λ b. sym (same b))) d out);
}

wanted_under : (greatest other : Criterion → ℕ) (lines : Lines) (order : List Criterion) (claim : Claim) (wanted : List ℕ) →
    ((c : Criterion) → greatest c ≡ other c) → AreWanted greatest lines order claim wanted → AreWanted other lines order claim wanted
wanted_under greatest other lines order (Least v s) wanted same h = record {
  only = λ p among. let r = h.only p among in (r.0, r.1, r.2, shows_so greatest other lines (take r.0 order) r.1 v p same r.3);
  each = λ i c claimed. let r = h.each i c claimed in (r.0, r.1, shows_so greatest other lines (take i order) c v r.0 same r.2);
}
wanted_under greatest other lines order NoDrawing wanted same h = h
wanted_under greatest other lines order Nothing wanted same h = h

-- ---- all of it

pub trimmed_log : (y : Layout) (order : List Criterion) (claim : Claim) (log : List ℕ) (greatest : Criterion → ℕ) (r : TrimmedLog) (lines : Lines)
    (wanted : List ℕ) → IsSpelledLog log lines →
    ((c : Criterion) → greatest c ≡ limit_of y.graph y.grid c) → AreCounted greatest log (value_of r.caps) → AreWanted greatest lines order claim wanted →
    IsKeptOf (expectation y order (value_of r.caps)) lines wanted r.kept → r.learnt ≡ length (flat_map learnt lines) → IsTrimmedLog y order claim log r
trimmed_log y order claim log greatest r lines wanted is same counted are kept count = record {
  lines = lines;
  is_log = is;
  caps_are = caps_of greatest (limit_of y.graph y.grid) (value_of r.caps) log lines is same counted;
  begins = kept.accepted.front;
  missing = kept.missing;
  whole = kept.whole;
  wanted = wanted;
  are_wanted = wanted_under greatest (limit_of y.graph y.grid) lines order claim wanted same are;
  trimmed = kept.trimmed;
  learnt_is = count;
}

-- ---- past the limits

pub passing_log : (y : Layout) (order : List Criterion) (claim : Claim) (log : List ℕ) (greatest counted_of : Criterion → ℕ) (lines : Lines)
    (wanted : List ℕ) → IsSpelledLog log lines →
    ((c : Criterion) → greatest c ≡ limit_of y.graph y.grid c) → AreCounted greatest log counted_of → AreWanted greatest lines order claim wanted →
    LinesPassLimits (expectation y order counted_of) lines wanted → LogPassesLimits y order claim log
passing_log y order claim log greatest counted_of lines wanted is same counted are pass = record {
  lines = lines;
  is_log = is;
  wanted = wanted;
  are_wanted = wanted_under greatest (limit_of y.graph y.grid) lines order claim wanted same are;
  cap = counted_of;
  caps_are = caps_of greatest (limit_of y.graph y.grid) counted_of log lines is same counted;
  pass = pass;
}
