-- What is expected, as a checker and a list of bounds have it.
use Rattle.std.proofs.Common.{◌≡◌, ◌≤◌, ◌<◌, ℕ, suc, ◌+◌, ◌-◌, List, [], ◌∷◌, ◌++◌, length, map, take, drop, get_or, refl, sym, ◌∙◌, ap, subst, inl, inr}
use Rattle.std.proofs.Common.{arith, append-nil, append_assoc}
use Rattle.std.specs.Prelude.{Result, Ok, Err, IfOk, flat_map}
use Rattle.std.proofs.lemmas.Grind.{flat_map-append}
use Rattle.std.proofs.lemmas.Bool.{cases_lt}
use Rattle.std.proofs.lemmas.List.{take_more, take-append-drop}
use Rattle.plan_core.specs.declared.criterion.Criterion.{Criterion}
use Rattle.cnf_core.specs.declared.literal.Var.{Var}
use Rattle.cnf_core.specs.Lit.{Literal, positive_of}
use Rattle.cnf_core.specs.Clause.{Clauses, words_of}
use Rattle.cnf_core.specs.declared.limits.TheConstants.{ROOM}
use Rattle.cnf_core.specs.Formula.{Cnf, IsFormula, Full, clause_at}
use Rattle.cnf_core.proofs.ClauseLemmas.{words_append}
use Rattle.refute_log.specs.declared.line.LogLine.TheVariants.{Formula, Bound}
use Rattle.refute_log.specs.Told.{Lines}
use Rattle.refute_log.specs.Log.{given, clause_line, clause_lines}
use Rattle.refute_log.specs.Expected.{bound_lines}
use Rattle.refute_check.specs.declared.told_bound.ToldBound.{ToldBound}
use Rattle.refute_check.specs.Lacking.{told_bound}
use Rattle.drawing_cnf.specs.Lists.{variables_behind}
use Rattle.drawing_cnf.specs.Layout.{Layout}
use Rattle.drawing_cnf.specs.Encoding.{Encoding}
use Rattle.log_check.specs.declared.claim.Claim.{Claim}
use Rattle.log_check.specs.declared.awaited.Part.{Part}
use Rattle.log_check.specs.declared.awaited.Part.TheVariants.{ClausesTo, Bounds}
use Rattle.log_check.specs.Awaited.{lines_from}
use Rattle.log_check.specs.Expectation.{Expectation, expectation, PassesLimits}
use Rattle.log_check.specs.Expecting.{IsExpecting}
use Rattle.hint_log.specs.Checked.{HintFacts}
use Rattle.log_check.specs.Hinted.{AreClauseLines}
use Rattle.log_check.specs.HintExpected.{bounds_of}
use Rattle.log_check.specs.declared.hint_verdict.HintsVerdict.{HintsVerdict}
use Rattle.log_check.specs.HintProgress.{HasBegun, IsExpectingWithin, IsBodyJudged}

-- ---- clauses one by one

-- the clauses up to a place, and the one there, have no more words than all of them
pub words_front : (cs : Clauses) (i : ℕ) → i < length cs → words_of (take i cs) + length (get_or cs i []) + 3 ≤ words_of cs
words_front cs i low =
    let more = ap words_of (take_more cs i [] low) in
    let one = words_append (take i cs) (get_or cs i [] ∷ []) in
    let all = ap words_of (take-append-drop (i + 1) cs) in
    let both = words_append (take (i + 1) cs) (drop (i + 1) cs) in
    omega arith

-- a copy of a formula has room for its next clause
pub copy_has_room : (f copy : Cnf) (i : ℕ) (lits : List Literal) → IsFormula f → copy.room ≡ ROOM → copy.clauses ≡ take i f.clauses → i < length f.clauses →
    lits ≡ clause_at f i → Full copy (length lits) → ⊥
copy_has_room f copy i lits formula room clauses low is full =
    let front = words_front f.clauses i low in
    let taken = ap words_of clauses in
    let long = ap length is in
    let most = formula.within_room in
    let limit = formula.room_limit in
    omega arith

-- ---- bounds one by one

-- the next variable, and those behind it
pub variables_step : (last cap i : ℕ) → i < cap → variables_behind (last + i) (cap - i) ≡ record {
  0 = last + (i + 1);
} ∷ variables_behind (last + (i + 1)) (cap - (i + 1))
variables_step last cap i low =
    let F : ℕ → Var = λ n. record { 0 = n } in
    let left : cap - i ≡ suc (cap - (i + 1)) = omega arith in
    let next : (last + i) + 1 ≡ last + (i + 1) = omega arith in
    ap (variables_behind (last + i)) left
    ∙ ap (λ n. F n ∷ variables_behind n (cap - (i + 1))) next

abbrev pub bounds_from : Criterion → ℕ → ℕ → ℕ → List ToldBound
bounds_from c last cap i = flat_map told_bound (bound_lines c (i + 1) (variables_behind (last + i) (cap - i)))

pub bounds_step : (c : Criterion) (last cap i : ℕ) → i < cap → bounds_from c last cap i ≡ record {
  criterion = c;
  k = i + 1;
  literal = positive_of (last + (i + 1));
} ∷ bounds_from c last cap (i + 1)
bounds_step c last cap i low = ap (λ (xs : List Var). flat_map told_bound (bound_lines c (i + 1) xs)) (variables_step last cap i low)

pub bounds_all : (c : Criterion) (last cap : ℕ) → bounds_from c last cap 0 ≡ flat_map told_bound (bound_lines c 1 (variables_behind last cap))
bounds_all c last cap =
    let first : last + 0 ≡ last = omega arith in
    let all : cap - 0 ≡ cap = omega arith in
    ap (λ n. flat_map told_bound (bound_lines c 1 (variables_behind n (cap - 0)))) first
    ∙ ap (λ n. flat_map told_bound (bound_lines c 1 (variables_behind last n))) all

-- one more of them, and all
pub bounds_pushed : (c : Criterion) (last cap i : ℕ) (l : Literal) (old new all : List ToldBound) → i < cap → l ≡ positive_of (last + (i + 1)) →
    new ≡ old ++ record { criterion = c; k = i + 1; literal = l } ∷ [] →
    old ++ bounds_from c last cap i ≡ all → new ++ bounds_from c last cap (i + 1) ≡ all
bounds_pushed c last cap i l old new all low is pushed h =
    let B : Literal → ToldBound = λ m. record { criterion = c; k = i + 1; literal = m } in
    ap (λ (bs : List ToldBound). bs ++ bounds_from c last cap (i + 1)) pushed ∙ append_assoc old (B l ∷ []) (bounds_from c last cap (i + 1))
    ∙ ap (λ (m : Literal). old ++ B m ∷ bounds_from c last cap (i + 1)) is ∙ ap (λ (bs : List ToldBound). old ++ bs) (sym (bounds_step c last cap i low)) ∙ h

no_bounds : (cs : Clauses) → flat_map told_bound (map Formula cs) ≡ []
no_bounds [] = refl
no_bounds (c ∷ cs) = no_bounds cs

pub bounds_in_lines : (cs : Clauses) (parts : List Part) (n : ℕ) → flat_map told_bound (lines_from cs parts n 0) ≡ bounds_of parts
bounds_in_lines cs [] n = refl
bounds_in_lines cs (ClausesTo end ∷ parts) n =
    flat_map-append told_bound (map Formula (take (end - n) (drop n cs))) (lines_from cs parts end 0)
    ∙ ap (λ (bs : List ToldBound). bs ++ flat_map told_bound (lines_from cs parts end 0)) (no_bounds (take (end - n) (drop n cs)))
    ∙ bounds_in_lines cs parts end
bounds_in_lines cs (Bounds c last cap ∷ parts) n =
    flat_map-append told_bound (bound_lines c 1 (variables_behind (last + 0) (cap - 0))) (lines_from cs parts n 0)
    ∙ ap (λ (bs : List ToldBound). bs ++ flat_map told_bound (lines_from cs parts n 0)) (bounds_all c last cap)
    ∙ ap (λ (bs : List ToldBound). flat_map told_bound (bound_lines c 1 (variables_behind last cap)) ++ bs) (bounds_in_lines cs parts n)

-- ---- Formula and Bound lines alone

formulas_alone : (cs : Clauses) → AreClauseLines (map Formula cs)
formulas_alone [] = refl
formulas_alone (c ∷ cs) = ap (λ (ls : Lines). Formula c ∷ ls) (formulas_alone cs)

bounds_alone : (c : Criterion) (k : ℕ) (xs : List Var) → AreClauseLines (bound_lines c k xs)
bounds_alone c k [] = refl
bounds_alone c k (x ∷ xs) = ap (λ (ls : Lines). Bound c k x ∷ ls) (bounds_alone c (k + 1) xs)

both_alone : (xs ys : Lines) → AreClauseLines xs → AreClauseLines ys → AreClauseLines (xs ++ ys)
both_alone xs ys h k = flat_map-append clause_line xs ys ∙ ap (λ (ls : Lines). ls ++ clause_lines ys) h ∙ ap (λ (ls : Lines). xs ++ ls) k

lines_alone : (cs : Clauses) (parts : List Part) (n : ℕ) → AreClauseLines (lines_from cs parts n 0)
lines_alone cs [] n = refl
lines_alone cs (ClausesTo end ∷ parts) n = both_alone (map Formula (take (end - n) (drop n cs))) (lines_from cs parts end 0)
    (formulas_alone (take (end - n) (drop n cs))) (lines_alone cs parts end)
lines_alone cs (Bounds c last cap ∷ parts) n = both_alone (bound_lines c 1 (variables_behind (last + 0) (cap - 0))) (lines_from cs parts n 0)
    (bounds_alone c 1 (variables_behind (last + 0) (cap - 0))) (lines_alone cs parts n)

-- ---- the begin

has_room : (e : Expectation) → (PassesLimits e → ⊥) → words_of (flat_map given e.lines ++ []) ≤ ROOM
has_room e fits = elim (cases_lt ROOM (words_of (flat_map given e.lines))) [
  | inl high ↦ absurd (fits (inr high))
  | inr low ↦ (let is = ap words_of (append-nil (flat_map given e.lines)) in omega (arith, is, low))
]

pub expected_alone : (y : Layout) (order : List Criterion) (cap : Criterion → ℕ) (e : Encoding) (parts : List Part) → IsExpecting y order cap e parts →
    AreClauseLines (expectation y order cap).lines
expected_alone y order cap e parts x = subst AreClauseLines x.lines (lines_alone e.formula.clauses parts 0)

abbrev kept_by : ℕ → Clauses → Clauses → HintFacts
kept_by room clauses refuted = record { room = room; clauses = clauses; refuted = refuted }

pub begun : (y : Layout) (order : List Criterion) (cap : Criterion → ℕ) (e : Encoding) (parts : List Part) (kept : HintFacts) (bounds : List ToldBound) →
    IsExpecting y order cap e parts → (PassesLimits (expectation y order cap) → ⊥) →
    kept.room ≡ ROOM → kept.clauses ≡ e.formula.clauses → kept.refuted ≡ [] → bounds ≡ bounds_of parts → HasBegun (expectation y order cap) kept bounds
begun y order cap e parts kept bounds x fits room clauses refuted is = record {
  none = record {
    accepted = record { within = fits; good = tt; room = has_room (expectation y order cap) fits };
    kept_is =
        ap (λ n. kept_by n kept.clauses kept.refuted) room
        ∙ ap (λ (cs : Clauses). kept_by ROOM cs kept.refuted) (clauses ∙ x.clauses ∙ sym (append-nil (flat_map given (expectation y order cap).lines)))
        ∙ ap (λ (cs : Clauses). kept_by ROOM (flat_map given (expectation y order cap).lines ++ []) cs) refuted;
  };
  alone = expected_alone y order cap e parts x;
  bounds_are = is ∙ sym (bounds_in_lines e.formula.clauses parts 0) ∙ ap (λ (ls : Lines). flat_map told_bound ls) x.lines;
}

-- what stands behind the caps is judged by what is expected
pub body_within : {X : Type 0} (res : Result HintsVerdict X) (greatest : Criterion → ℕ) (order : List Criterion) (claim : Claim) (body : List ℕ) (e : Encoding)
    (parts : List Part) (kept : HintFacts) (bounds : List ToldBound) → kept.room ≡ ROOM → kept.clauses ≡ e.formula.clauses →
    kept.refuted ≡ [] → bounds ≡ bounds_of parts → IfOk res (λ v. (x : Expectation) → HasBegun x kept bounds → IsBodyJudged greatest order claim x body v) →
    IfOk res (λ v. (y : Layout) (cap : Criterion → ℕ) → IsExpectingWithin y order cap e parts →
    IsBodyJudged greatest order claim (expectation y order cap) body v)
body_within (Ok v) greatest order claim body e parts kept bounds room clauses refuted is k = λ y cap w.
    k (expectation y order cap) (begun y order cap e parts kept bounds w.expecting w.fits room clauses refuted is)
body_within (Err x) greatest order claim body e parts kept bounds room clauses refuted is k = tt
