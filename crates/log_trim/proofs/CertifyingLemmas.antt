-- The lines that are left are good after what is expected, and certify the claim with it.
use Rattle.std.proofs.Common.{◌≡◌, ℕ, ◌+◌, inl, inr, List, [], ◌∷◌, ◌++◌, map, take, length, Some, sym, ◌∙◌, ap, subst}
use Rattle.std.specs.Prelude.{Contains, flat_map, slice_get}
use Rattle.std.proofs.lemmas.Grind.{flat_map-append}
use Rattle.std.proofs.lemmas.Option.{same_Some}
use Rattle.std.proofs.lemmas.List.Elements.{All-weaker, Contains-append_left, Contains-append_right, Contains-append_cases, Contains-push_cases}
use Rattle.plan_core.specs.declared.criterion.Criterion.{Criterion}
use Rattle.plan_core.specs.declared.criterion.Values.{Values}
use Rattle.plan_core.specs.Values.{value_of, limit_of}
use Rattle.plan_core.proofs.Listing.{Contains-head, Contains-tail, Contains-flat_map, Contains-map}
use Rattle.cnf_core.specs.declared.literal.Var.{Var}
use Rattle.cnf_core.specs.Lit.{Literal}
use Rattle.cnf_core.specs.Clause.{Clauses}
use Rattle.refute_log.specs.declared.line.LogLine.TheVariants.{Formula, Bound, Refuted}
use Rattle.refute_log.specs.Told.{Lines}
use Rattle.refute_log.specs.Log.{given, clause_line, clause_lines, BeginsLines}
use Rattle.refute_log.specs.Bounds.{SaysAtLeast}
use Rattle.refute_log.specs.Certified.{IsOutOfReach}
use Rattle.refute_check.proofs.JudgeLemmas.{nothing}
use Rattle.drawing_cnf.specs.Layout.{Layout}
use Rattle.drawing_cnf.proofs.ListLemmas.{given_formulas}
use Rattle.log_check.specs.declared.claim.Claim.{Claim}
use Rattle.log_check.specs.declared.claim.Claim.TheVariants.{Least, NoDrawing, Nothing}
use Rattle.log_check.specs.Claimed.{CertifiesClaim}
use Rattle.hint_log.specs.declared.hint_line.HintLine.{HintLine}
use Rattle.hint_log.specs.HintedLines.{HintLines, line_of, AreGood}
use Rattle.log_trim.specs.Trimmed.{StandAt, IsTrimmed}
use Rattle.log_check.specs.Hinted.{log_of}
use Rattle.log_trim.specs.declared.trimming.TrimmedLog.{TrimmedLog}
use Rattle.log_trim.specs.Wanted.{AreWanted}
use Rattle.log_trim.specs.TrimmedLog.{expected_by, IsTrimmedLog}
use Rattle.log_trim.proofs.CompletingLemmas.{at_front}

pub left_good : (y : Layout) (order : List Criterion) (claim : Claim) (log : List ℕ) (r : TrimmedLog) → IsTrimmedLog y order claim log r →
    AreGood (flat_map given (expected_by y order r).lines) r.kept
left_good y order claim log r h =
    let all : flat_map given (h.lines ++ map Formula h.missing) ≡ flat_map given (expected_by y order r).lines =
    flat_map-append given h.lines (map Formula h.missing) ∙ ap (λ (cs : Clauses). flat_map given h.lines ++ cs) (given_formulas h.missing) ∙ sym h.whole in
    subst (λ (cs : Clauses). AreGood cs r.kept) all h.trimmed.good

-- ---- the line at a place that was kept

record IsKeptAt (lines : Lines) (p : ℕ) (kept : HintLines) : Type 0 where
  line : HintLine
  among : Contains kept line
  there : slice_get lines p ≡ Some (line_of line)

kept_at : (lines : Lines) (wanted : List ℕ) (low high : ℕ) (places : List ℕ) (kept : HintLines) (p : ℕ) → StandAt lines wanted low high places kept →
    Contains places p → IsKeptAt lines p kept
kept_at lines wanted low high [] kept p stand among = nothing p (IsKeptAt lines p kept) among
kept_at lines wanted low high (q ∷ places) [] p stand among = absurd stand
kept_at lines wanted low high (q ∷ places) (line ∷ kept) p stand among = elim (Contains-append_cases (q ∷ []) places p among) [
  | inl one ↦ elim (Contains-push_cases [] q p one) [
    | inl before ↦ nothing p (IsKeptAt lines p (line ∷ kept)) before
    | inr same ↦ record { line = line; among = Contains-head line kept; there = subst (λ n. slice_get lines n ≡ Some (line_of line)) same stand.1.there }
  ]
  | inr more ↦
      let later = kept_at lines wanted (q + 1) high places kept p stand.2 more in
      record { line = later.line; among = Contains-tail line kept later.line later.among; there = later.there }
]

-- the log of the lines that are left has the Refuted line of a wanted place
refuted_kept : (lines told : Lines) (missing : Clauses) (wanted : List ℕ) (kept : HintLines) (p : ℕ) (c : List Literal) →
    IsTrimmed (lines ++ map Formula missing) wanted kept → Contains wanted p → slice_get lines p ≡ Some (Refuted c) →
    Contains (log_of told kept) (Refuted c)
refuted_kept lines told missing wanted kept p c trimmed among at =
    let all = lines ++ map Formula missing in
    let k = kept_at all wanted 0 (length all) trimmed.places kept p trimmed.stand (trimmed.all p among) in
    let same : line_of k.line ≡ Refuted c = same_Some (line_of k.line) (Refuted c) (sym k.there ∙ at_front lines (map Formula missing) p (Refuted c) at) in
    Contains-append_right told (map line_of kept) (Refuted c) (subst (Contains (map line_of kept)) same (Contains-map line_of kept k.line k.among))

-- ---- bounds that the log tells are expected

bound_expected : (lines told : Lines) (kept : HintLines) (c : Criterion) (k : ℕ) (x : Var) → BeginsLines (clause_lines lines) told →
    Contains lines (Bound c k x) → Contains (log_of told kept) (Bound c k x)
bound_expected lines told kept c k x (rest, is) there =
    let one : Contains (clause_lines lines) (Bound c k x) = Contains-flat_map clause_line lines (Bound c k x) (Bound c k x) there
    (Contains-head (Bound c k x) []) in
    Contains-append_left told (map line_of kept) (Bound c k x) (subst (λ (ls : Lines). Contains ls (Bound c k x)) (sym is)
    (Contains-append_left (clause_lines lines) rest (Bound c k x) one))

says_still : (greatest : Criterion → ℕ) (lines told : Lines) (kept : HintLines) (c : Criterion) (k : ℕ) (l : Literal) → BeginsLines (clause_lines lines) told →
    SaysAtLeast greatest lines c k l → SaysAtLeast greatest (log_of told kept) c k l
says_still greatest lines told kept c k l begins s = record {
  within = s.within;
  variable = s.variable;
  told = bound_expected lines told kept c k s.variable begins s.told;
  is = s.is;
}

reaches_still : (greatest : Criterion → ℕ) (lines told : Lines) (kept : HintLines) (earlier : List Criterion) (c : Criterion) (v : Values) →
    BeginsLines (clause_lines lines) told → (l : Literal) →
    IsOutOfReach greatest lines earlier c v l → IsOutOfReach greatest (log_of told kept) earlier c v l
reaches_still greatest lines told kept earlier c v begins l (inl any) = inl (
  any.0,
  any.1,
  any.2,
  any.3,
  says_still greatest lines told kept any.1
      (value_of v any.1 + 1) l begins any.4,
)
reaches_still greatest lines told kept earlier c v begins l (inr s) = inr (says_still greatest lines told kept c (value_of v c) l begins s)

-- ---- so they certify what the log does

certifies_still : (greatest : Criterion → ℕ) (lines told : Lines) (missing : Clauses) (wanted : List ℕ) (kept : HintLines) (order : List Criterion)
    (claim : Claim) → BeginsLines (clause_lines lines) told →
    IsTrimmed (lines ++ map Formula missing) wanted kept → AreWanted greatest lines order claim wanted → CertifiesClaim greatest (log_of told kept) order claim
certifies_still greatest lines told missing wanted kept order (Least v s) begins trimmed are = λ i c low at positive.
    let r = are.each i c (record { below = low; at = at; positive = positive }) in
    record {
      clause = r.2.clause;
      among = refuted_kept lines told missing wanted kept r.0 r.2.clause trimmed r.1 r.2.there;
      each =
          All-weaker (IsOutOfReach greatest lines (take i order) c v) (IsOutOfReach greatest (log_of told kept) (take i order) c v)
          (reaches_still greatest lines told kept (take i order) c v begins) r.2.clause
          r.2.each;
    }
certifies_still greatest lines told missing wanted kept order NoDrawing begins trimmed are =
    refuted_kept lines told missing wanted kept are.0 [] trimmed (subst (λ (ns : List ℕ). Contains ns are.0) (sym are.2) (Contains-head are.0 [])) are.1.there
certifies_still greatest lines told missing wanted kept order Nothing begins trimmed are = tt

pub left_certify : (y : Layout) (order : List Criterion) (claim : Claim) (log : List ℕ) (r : TrimmedLog) → IsTrimmedLog y order claim log r →
    CertifiesClaim (limit_of y.graph y.grid) (log_of (expected_by y order r).lines r.kept) order claim
left_certify y order claim log r h =
    certifies_still (limit_of y.graph y.grid) h.lines (expected_by y order r).lines h.missing h.wanted r.kept order claim h.begins h.trimmed h.are_wanted
