-- What is left of a log is accepted where it is checked again.
use Rattle.std.proofs.Common.{◌≡◌, ◌≤◌, ◌≢◌, ℕ, zero, suc, ◌+◌, ◌⊎◌, inl, inr, List, [], ◌∷◌, ◌++◌, length, map, Some, refl, sym, ◌∙◌, ap, subst, arith}
use Rattle.std.proofs.Common.{append-nil, append_assoc, length-append}
use Rattle.std.specs.Prelude.{All, Contains, flat_map, slice_get, true, false}
use Rattle.std.specs.List.{AllByRecursion}
use Rattle.std.proofs.lemmas.Bool.{false≢true}
use Rattle.std.proofs.lemmas.Grind.{flat_map-append}
use Rattle.std.proofs.lemmas.Option.{slice_get_within, same_Some}
use Rattle.std.proofs.lemmas.List.Elements.{All-nil, All-cons}
use Rattle.plan_core.specs.declared.criterion.Criterion.{Criterion}
use Rattle.plan_core.specs.declared.criterion.Criterion.TheVariants.{Height, Bends, Diagonal, Width}
use Rattle.plan_core.specs.Grid.{IsGrid}
use Rattle.plan_core.specs.Graph.{Graph}
use Rattle.plan_core.specs.Values.{value_of, limit_of}
use Rattle.plan_core.proofs.Listing.{Contains-head, Contains-tail}
use Rattle.port_graph.specs.StationGraph.{IsStationGraph}
use Rattle.cnf_core.specs.declared.limits.TheConstants.{ROOM, LAST_VAR}
use Rattle.cnf_core.specs.declared.literal.Var.{Var}
use Rattle.cnf_core.specs.Lit.{Literal}
use Rattle.cnf_core.specs.Clause.{Clauses, words_of}
use Rattle.cnf_core.proofs.ClauseLemmas.{words_append}
use Rattle.track_order.specs.Order.{EdgeOrder}
use Rattle.plan_text.specs.SheetText.{Sheet}
use Rattle.refute_log.specs.declared.line.LogLine.TheVariants.{Formula}
use Rattle.refute_log.specs.Lines.{MayBeTold, MayAllBeTold}
use Rattle.refute_log.specs.Told.{Lines}
use Rattle.refute_log.specs.Log.{given, clause_lines, BeginsLines}
use Rattle.refute_log.specs.Expected.{Problem, same_criterion, bound_var, bound_vars, sums, expected_lines}
use Rattle.refute_log.proofs.ExpectedLemmas.{same_itself, same_tells}
use Rattle.refute_log.proofs.CapsLemmas.{formulas_none, sums_without, bounds_of_clauses}
use Rattle.drawing_cnf.specs.Layout.{Layout, layout, problem_of}
use Rattle.drawing_cnf.proofs.LimitLemmas.{small_limit}
use Rattle.log_check.specs.Expectation.{PassesLimits}
use Rattle.log_check.specs.declared.claim.Claim.{Claim}
use Rattle.hint_log.specs.declared.hint_line.HintLine.{HintLine}
use Rattle.hint_log.specs.declared.hint_line.HintLine.TheVariants.{Learnt, Refuted}
use Rattle.hint_log.specs.Hint.{hints_of, Leads, IsGood}
use Rattle.hint_log.specs.Checked.{clauses_learnt}
use Rattle.hint_log.specs.HintedLines.{HintLines, line_of, AreGood}
use Rattle.log_trim.specs.Trimmed.{StandAt}
use Rattle.hint_log.specs.HintText.{IsClauseNumber, MayBeWritten, MayAllBeWritten, ended_hint}
use Rattle.hint_log.specs.Caps.{AreSmallCaps, IsFitCap}
use Rattle.log_check.specs.HintAccepted.{AreCapsFor, AreAcceptedHints}
use Rattle.log_check.specs.HintsJudged.{HintsCertify}
use Rattle.log_trim.specs.declared.trimming.TrimmedLog.{TrimmedLog}
use Rattle.log_trim.specs.TrimmedLog.{IsTrimmedLog}
use Rattle.log_trim.proofs.CertifyingLemmas.{left_good, left_certify}
use Rattle.run_input.specs.declared.status.Status.{Status}
use Rattle.run_input.specs.declared.status.Status.TheVariants.{Done}
use Rattle.run_check.specs.CheckLine.{claim_of}
use Rattle.run_check.proofs.CheckedLemmas.{read_grid}
use Rattle.run_check.specs.Texts.{left_text}
use Rattle.run_check.specs.Trimmed.{IsLeftFor, LeavesLines}
use Rattle.run_check.specs.Rechecked.{IsRechecked, HintsCertifySheet}
use Rattle.run_check.specs.Fitting.{expected_again, FitsRoom}
use Rattle.run_check.proofs.RecheckedLemmas.{recheck_due}

-- ---- the caps

-- the criterion is one of the order, or another than each of it
one_of : (order : List Criterion) (c : Criterion) → Contains order c ⊎ All (λ d. c ≢ d) order
one_of [] c = inr (All-nil (λ d. c ≢ d))
one_of (d ∷ order) c = elim (same_criterion c d) as (λ b. same_criterion c d ≡ b → Contains (d ∷ order) c ⊎ All (λ e. c ≢ e) (d ∷ order)) [
  | true ↦ λ is. inl (subst (λ (e : Criterion). Contains (d ∷ order) e) (sym (same_tells c d is)) (Contains-head d order))
  | false ↦ λ differs. elim (one_of order c) [
    | inl among ↦ inl (Contains-tail d order c among)
    | inr other ↦ inr (All-cons (λ e. c ≢ e) d order (λ same. no_same c d same differs) other)
  ]
] refl
  where
    no_same : (a b : Criterion) → a ≡ b → same_criterion a b ≡ false → ⊥
    no_same a b same differs = false≢true (sym differs ∙ ap (λ (e : Criterion). same_criterion a e) (sym same) ∙ same_itself a)

-- another one has no Bound line among those that are expected, and so none in a log that begins with these
no_bounds : (e : Problem) (order : List Criterion) (cap : Criterion → ℕ) (lines : Lines) (c : Criterion) → All (λ d. c ≢ d) order →
    BeginsLines (clause_lines lines) (expected_lines e order cap) → length (bound_vars c lines) ≤ 0
no_bounds e order cap lines c out (rest, is) =
    let none : bound_vars c (expected_lines e order cap) ≡ [] =
    flat_map-append (bound_var c) (map Formula e.clauses) (sums e e.vars order cap)
    ∙ ap (λ (xs : List Var). xs ++ bound_vars c (sums e e.vars order cap)) (formulas_none c e.clauses) ∙ sums_without e e.vars order cap c out in
    let all : bound_vars c (expected_lines e order cap) ≡ bound_vars c lines ++ bound_vars c rest =
    ap (bound_vars c) is ∙ flat_map-append (bound_var c) (clause_lines lines) rest
    ∙ ap (λ (xs : List Var). xs ++ bound_vars c rest) (bounds_of_clauses c lines) in
    let size = ap length (sym all ∙ none) in
    let both = length-append (bound_vars c lines) (bound_vars c rest) in
    omega (arith, size, both)

in_range : (y : Layout) (order : List Criterion) (claim : Claim) (log : List ℕ) (r : TrimmedLog) (c : Criterion) → IsTrimmedLog y order claim log r →
    IsFitCap (limit_of y.graph y.grid) order r.caps c
in_range y order claim log r c h = record {
  within = (let is = h.caps_are c in omega (arith, is));
  asked = λ some. elim (one_of order c) [
    | inl among ↦ among
    | inr out ↦
        let none = no_bounds (problem_of y) order (value_of r.caps) h.lines c out h.begins in
        let is = h.caps_are c in
        absurd (omega (arith, is, some, none))
  ];
}

small_cap : (y : Layout) (order : List Criterion) (claim : Claim) (log : List ℕ) (r : TrimmedLog) → IsStationGraph y.graph → IsGrid y.grid →
    IsTrimmedLog y order claim log r → AreSmallCaps r.caps
small_cap y order claim log r station sized h = λ c.
    let is = h.caps_are c in
    let low = small_limit y.graph y.grid c station sized in
    omega (arith, is, low)

caps_for : (y : Layout) (order : List Criterion) (claim : Claim) (log : List ℕ) (r : TrimmedLog) → IsStationGraph y.graph → IsGrid y.grid →
    IsTrimmedLog y order claim log r → AreCapsFor y order r.caps
caps_for y order claim log r station sized h = record {
  small = small_cap y order claim log r station sized h;
  range = (
    in_range y order claim log r Height h,
    (
      in_range y order claim log r Bends h,
      (in_range y order claim log r Diagonal h, (in_range y order claim log r Width h, tt)),
    ),
  );
}

-- ---- the lines may be written

-- a line of a log with Formula lines at its end, which isn't one of these
told_line : (lines : Lines) (missing : Clauses) (line : HintLine) (p : ℕ) → MayAllBeTold lines →
    slice_get (lines ++ map Formula missing) p ≡ Some (line_of line) → MayBeTold (line_of line)
told_line [] [] line p told at = absurd (let low = slice_get_within [] p (line_of line) at in omega (arith, low))
told_line [] (c ∷ missing) line zero told at = absurd (no_formula line c (same_Some (Formula c) (line_of line) at))
  where
    no_formula : (l : HintLine) (d : List Literal) → Formula d ≡ line_of l → ⊥
    no_formula (Learnt lits hints) d e = cc
    no_formula (Refuted lits hints) d e = cc
told_line [] (c ∷ missing) line (suc p) told at = told_line [] missing line p told at
told_line (l ∷ lines) missing line zero told at = subst MayBeTold (same_Some l (line_of line) at) told.0
told_line (l ∷ lines) missing line (suc p) told at = told_line lines missing line p told.1 at

-- the numbers that lead are numbers of clauses
lead_numbers : (clauses : Clauses) (set to : List Literal) (ns : List ℕ) → length clauses ≤ LAST_VAR → Leads clauses set ns to →
    AllByRecursion IsClauseNumber ns
lead_numbers clauses set to [] few leads = tt
lead_numbers clauses set to (n ∷ ns) few (l, one, more) =
    let from = one.number.from in
    let high = one.number.to in
    (record { from = from; to = (omega (arith, high, few)) }, lead_numbers clauses (set ++ l ∷ []) to ns few more)

numbers_push : (ns : List ℕ) (n : ℕ) → AllByRecursion IsClauseNumber ns → IsClauseNumber n → AllByRecursion IsClauseNumber (ns ++ n ∷ [])
numbers_push [] n all one = (one, tt)
numbers_push (m ∷ ns) n all one = (all.0, numbers_push ns n all.1 one)

good_written : (clauses : Clauses) (line : HintLine) → length clauses ≤ LAST_VAR → IsGood clauses line → MayBeTold (line_of line) → MayBeWritten line
good_written clauses line few good told =
    let high = good.none.number.to in
    let last : IsClauseNumber good.last = record { from = good.none.number.from; to = (omega (arith, high, few)) } in
    let size : length (hints_of line) ≡ length good.front + 1 = ap length good.are ∙ length-append good.front (good.last ∷ []) in
    record {
      formed = record {
        formed = told.formed;
        some = (omega (arith, size));
        numbers = subst (AllByRecursion IsClauseNumber) (sym good.are) (numbers_push good.front good.last
            (lead_numbers clauses _ good.to good.front few good.leads) last);
      };
      once = told.once;
    }

few_clauses : (cs : Clauses) → length cs ≤ words_of cs
few_clauses [] = omega arith
few_clauses (c ∷ cs) = let more = few_clauses cs in omega (arith, more)

all_written : (lines : Lines) (missing : Clauses) (wanted : List ℕ) (low high : ℕ) (places : List ℕ) (clauses : Clauses) (kept : HintLines) →
    MayAllBeTold lines → StandAt (lines ++ map Formula missing) wanted low high places kept →
    AreGood clauses kept → words_of (clauses ++ flat_map clauses_learnt kept) ≤ ROOM → MayAllBeWritten kept
all_written lines missing wanted low high places clauses [] told stand good fits = tt
all_written lines missing wanted low high [] clauses (line ∷ kept) told stand good fits = absurd stand
all_written lines missing wanted low high (p ∷ places) clauses (line ∷ kept) told stand good fits =
    let sum = words_append clauses (flat_map clauses_learnt (line ∷ kept)) in
    let few = few_clauses clauses in
    let here = good_written clauses line (omega (arith, few, sum, fits)) good.0 (told_line lines missing line p told stand.1.there) in
    let next : words_of ((clauses ++ clauses_learnt line) ++ flat_map clauses_learnt kept) ≤ ROOM =
    subst (λ (cs : Clauses). words_of cs ≤ ROOM) (sym (append_assoc clauses (clauses_learnt line) (flat_map clauses_learnt kept))) fits in
    (here, all_written lines missing wanted (p + 1) high places (clauses ++ clauses_learnt line) kept told stand.2 good.1 next)

-- ---- so it is accepted

fits_limits : (g : Graph) (o : EdgeOrder) (said : Sheet) (r : TrimmedLog) → FitsRoom g o said r → PassesLimits (expected_again g o said r) → ⊥
fits_limits g o said r fits (inl many) = let few = fits.vars in omega (arith, few, many)
fits_limits g o said r fits (inr long) =
    let words = fits.words in
    let sum = words_append (flat_map given (expected_again g o said r).lines) (flat_map clauses_learnt r.kept) in
    omega (arith, words, sum, long)

left_accepted : (g : Graph) (o : EdgeOrder) (said : Sheet) (log : List ℕ) (r : TrimmedLog) → IsLeftFor g o said log r → FitsRoom g o said r →
    AreAcceptedHints (expected_again g o said r) r.kept
left_accepted g o said log r left fits = record {
  within = fits_limits g o said r fits;
  good = left_good (layout g o said.grid) said.order (claim_of said.order said.found said.ending) log r left;
  room = fits.words;
}

left_certifies : (g : Graph) (o : EdgeOrder) (said : Sheet) (log : List ℕ) (r : TrimmedLog) → IsStationGraph g → IsGrid said.grid → IsLeftFor g o said log r →
    FitsRoom g o said r →
    HintsCertify (layout g o said.grid) said.order (claim_of said.order said.found said.ending) (left_text r)
left_certifies g o said log r station sized left fits =
    let y = layout g o said.grid in
    let claim = claim_of said.order said.found said.ending in
    let good = left_good y said.order claim log r left in
    record {
      caps = r.caps;
      body = flat_map ended_hint r.kept;
      begins = record { caps_for = caps_for y said.order claim log r station sized left; spelled = refl };
      certifies = record {
        lines = r.kept;
        whole = record {
          formed = all_written left.lines left.missing left.wanted 0 (length (left.lines ++ map Formula left.missing)) left.trimmed.places
              (flat_map given (expected_again g o said r).lines) r.kept left.is_log.formed left.trimmed.stand good fits.words;
          spelled = sym (append-nil (flat_map ended_hint r.kept));
          accepted = left_accepted g o said log r left fits;
        };
        certified = left_certify y said.order claim log r left;
      };
    }

pub left_is_certified : (file sheet log : List ℕ) (r : TrimmedLog) (status : Status) (text : List ℕ) → (left : LeavesLines file sheet log r) →
    FitsRoom left.graph left.order left.said r → IsRechecked file sheet (left_text r) status text →
    status ≡ Done
left_is_certified file sheet log r status text left fits answer =
    let c = left.certifies in
    let certify : HintsCertifySheet left.graph left.order sheet (left_text r) left.said = record {
      is_text = c.is_text;
      lawful = c.lawful;
      certify = left_certifies left.graph left.order left.said log r left.station.has_graph.built.station (read_grid left.graph sheet left.said c.is_text)
          left.left fits;
    } in
    (recheck_due file sheet (left_text r) left.graph left.order left.said status text left.station certify answer).0
