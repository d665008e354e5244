-- Accepted lines are closed under fronts, and a line behind them is accepted, or refused for one cause.
use Rattle.std.proofs.Common.{◌≡◌, ◌≤◌, ◌<◌, ℕ, List, [], ◌∷◌, ◌++◌, refl, sym, ◌∙◌, ap, subst, inl, inr, arith, append_assoc}
use Rattle.std.specs.Prelude.{All, Contains, flat_map}
use Rattle.std.proofs.lemmas.List.Elements.{All-nil, All-cons, All-contains, Contains-append_left, Contains-append_right}
use Rattle.cnf_core.specs.declared.limits.TheConstants.{VARS}
use Rattle.cnf_core.specs.Lit.{Literal}
use Rattle.cnf_core.specs.Clause.{Clauses, AreThere, AllThere, words_of}
use Rattle.cnf_core.specs.Propagation.{greatest_in}
use Rattle.refute_log.specs.declared.line.LogLine.{LogLine}
use Rattle.refute_log.specs.declared.line.LogLine.TheVariants.{Formula, Learnt, Bound, Query, Refuted, Model}
use Rattle.refute_log.specs.Told.{Lines}
use Rattle.refute_log.specs.Log.{given, added, facts_of, Stands, clause_line, clause_lines}
use Rattle.refute_log.proofs.LogLemmas.{flat_map_last, derives_front, derives_last}
use Rattle.refute_check.specs.Kept.{LacksRoom, NamesNew, NamesNoNew, PassesRoom, IsKnown}
use Rattle.plan_core.proofs.Listing.{Contains-flat_map}
use Rattle.log_check.specs.declared.verdict.Refusal.{Refusal}
use Rattle.log_check.specs.declared.verdict.Refusal.TheVariants.{Room, Differs, NewVar, WrongQuery, NotImplied, NotNew}
use Rattle.log_check.specs.Expectation.{Expectation}
use Rattle.log_check.specs.Accepted.{AreAccepted}
use Rattle.log_check.specs.Refused.{IsOverLimits, IsComparedLine, kept_of_lines, IsRefusedFor}

-- ---- fronts

words_front : (cs ds : Clauses) → words_of cs ≤ words_of (cs ++ ds)
words_front [] ds = omega arith
words_front (c ∷ cs) ds = omega (arith, words_front cs ds)

not_empty : (xs ys : Lines) → (xs ≡ [] → ⊥) → xs ++ ys ≡ [] → ⊥
not_empty [] ys some e = some refl
not_empty (x ∷ xs) ys some e = cc

pub accepted_front : (e : Expectation) (lines : Lines) (line : LogLine) → AreAccepted e (lines ++ line ∷ []) → AreAccepted e lines
accepted_front e lines line a = record {
  front = (
    clause_line line ++ a.front.0,
    a.front.1 ∙ ap (λ (ls : Lines). ls ++ a.front.0) (flat_map_last clause_line lines line) ∙ append_assoc (clause_lines lines) (clause_line line) a.front.0,
  );
  within = λ some. a.within (λ none. not_empty (clause_lines lines) (clause_line line) some (sym (flat_map_last clause_line lines line) ∙ none));
  derives = derives_front lines line a.derives;
  room =
      let all = a.room in
      let split : words_of (flat_map added (lines ++ line ∷ [])) ≡ words_of (flat_map added lines ++ added line) = ap words_of
      (flat_map_last added lines line) in
      omega (arith, words_front (flat_map added lines) (added line));
}

-- the lines before the last ones, and the first of these
pub accepted_first : (e : Expectation) (lines : Lines) (line : LogLine) (more : Lines) → AreAccepted e (lines ++ line ∷ more) →
    AreAccepted e (lines ++ line ∷ [])
accepted_first e lines line [] a = a
accepted_first e lines line (l ∷ more) a =
    accepted_front e (lines ++ line ∷ []) l
    (accepted_first e (lines ++ line ∷ []) l more (subst (AreAccepted e) (sym (append_assoc lines (line ∷ []) (l ∷ more))) a))

-- ---- an accepted line has no cause

-- what is expected names no variable but those that there are with it
abbrev pub NamesItsOwn : Expectation → Type 0
NamesItsOwn e = AllThere e.vars (flat_map given e.lines)

there_greatest : (vars : ℕ) (c : List Literal) → AreThere vars c → greatest_in c ≤ vars
there_greatest vars [] h = omega arith
there_greatest vars (l ∷ ls) h = let top = h.0.1 in omega (arith, there_greatest vars ls h.1)

all_greatest : (vars : ℕ) (cs : Clauses) (c : List Literal) → AllThere vars cs → Contains cs c → greatest_in c ≤ vars
all_greatest vars cs c h among = All-contains (λ (d : List Literal). greatest_in d ≤ vars) cs c (by cs h) among
  where
    by : (ds : Clauses) → AllThere vars ds → All (λ (d : List Literal). greatest_in d ≤ vars) ds
    by [] h = All-nil (λ (d : List Literal). greatest_in d ≤ vars)
    by (d ∷ ds) h = All-cons (λ (d : List Literal). greatest_in d ≤ vars) d ds (there_greatest vars d h.0) (by ds h.1)

-- an expected clause names no variable above VARS
expected_small : (e : Expectation) (lines : Lines) (c : List Literal) → NamesItsOwn e → AreAccepted e (lines ++ Formula c ∷ []) → VARS < greatest_in c → ⊥
expected_small e lines c own a over =
    let is : clause_lines (lines ++ Formula c ∷ []) ≡ clause_lines lines ++ Formula c ∷ [] = flat_map_last clause_line lines (Formula c) in
    let whole : e.lines ≡ (clause_lines lines ++ Formula c ∷ []) ++ a.front.0 = a.front.1 ∙ ap (λ (ls : Lines). ls ++ a.front.0) is in
    let among : Contains e.lines (Formula c) =
    subst (λ (ls : Lines). Contains ls (Formula c)) (sym whole)
    (Contains-append_left (clause_lines lines ++ Formula c ∷ []) a.front.0 (Formula c)
    (Contains-append_right (clause_lines lines) (Formula c ∷ []) (Formula c) (0, omega arith, refl))) in
    let clause : Contains (flat_map given e.lines) c = Contains-flat_map given e.lines (Formula c) c among (0, omega arith, refl) in
    let low : greatest_in c ≤ e.vars = all_greatest e.vars (flat_map given e.lines) c own clause in
    let some : clause_lines (lines ++ Formula c ∷ []) ≡ [] → ⊥ = λ none. ends_not (clause_lines lines) (Formula c) (sym is ∙ none) in
    a.within some (inl (omega arith))
  where
    ends_not : (ls : Lines) (l : LogLine) → ls ++ l ∷ [] ≡ [] → ⊥
    ends_not [] l e = cc
    ends_not (x ∷ ls) l e = cc

has_room : (e : Expectation) (lines : Lines) (line : LogLine) → NamesItsOwn e → AreAccepted e (lines ++ line ∷ []) → LacksRoom (kept_of_lines lines) line → ⊥
has_room e lines (Formula c) own a (inl more) = let all = a.room in let split : words_of (flat_map added (lines ++ Formula c ∷ [])) ≡ words_of
    (flat_map added lines ++ c ∷ []) = ap words_of (flat_map_last added lines (Formula c)) in omega arith
has_room e lines (Formula c) own a (inr over) = expected_small e lines c own a over
has_room e lines (Learnt c) own a more = let all = a.room in let split : words_of (flat_map added (lines ++ Learnt c ∷ [])) ≡ words_of
    (flat_map added lines ++ c ∷ []) = ap words_of (flat_map_last added lines (Learnt c)) in omega arith
has_room e lines (Bound c k x) own a h = h
has_room e lines (Query c) own a h = h
has_room e lines (Refuted c) own a h = h
has_room e lines Model own a h = h

names_none : (lines : Lines) (line : LogLine) → NamesNoNew (facts_of lines) line → NamesNew (facts_of lines) line → ⊥
names_none lines line none some =
    let low = none some.0 some.1 some.2 in
    let high = some.4 in
    let same = ap (λ (l : Literal). l.var) some.3 in
    omega arith

says_more : (lines : Lines) (line : LogLine) → Stands lines line → IsKnown (facts_of lines).clauses line → ⊥
says_more lines (Learnt []) s known = known
says_more lines (Learnt (first ∷ others)) s (inl falsifies) = s.says_more.unfalsified falsifies
says_more lines (Learnt (first ∷ others)) s (inr follows) = s.says_more.unknown follows
says_more lines (Formula c) s known = known
says_more lines (Bound c k x) s known = known
says_more lines (Query c) s known = known
says_more lines (Refuted c) s known = known
says_more lines Model s known = known

not_over : (e : Expectation) (lines : Lines) (line : LogLine) → AreAccepted e (lines ++ line ∷ []) → IsOverLimits e lines line → ⊥
not_over e lines line a o = a.within (λ none. o.compared (behind_nothing (clause_lines lines) (clause_line line)
    (sym (flat_map_last clause_line lines line) ∙ none))) o.passes
  where
    behind_nothing : (xs ys : Lines) → xs ++ ys ≡ [] → ys ≡ []
    behind_nothing [] ys e = e
    behind_nothing (x ∷ xs) ys e = absurd (cc)

pub accepted_not_refused : (e : Expectation) (lines : Lines) (line : LogLine) (why : Refusal) → NamesItsOwn e → AreAccepted e (lines ++ line ∷ []) →
    IsRefusedFor e lines line why → ⊥
accepted_not_refused e lines line Room own a (inl over) = not_over e lines line a over
accepted_not_refused e lines line Room own a (inr h) = has_room e lines line own a h.1.passes
accepted_not_refused e lines line Differs own a h = h.1 a.front
accepted_not_refused e lines line NewVar own a h = names_none lines line (derives_last lines line a.derives).named h.1
accepted_not_refused e lines line WrongQuery own a h = h.1.wrong (derives_last lines line a.derives).answers
accepted_not_refused e lines line NotImplied own a h = h.1.unproved (derives_last lines line a.derives).implied
accepted_not_refused e lines line NotNew own a h = says_more lines line (derives_last lines line a.derives) h.1.known

-- ---- one cause

abbrev HasFirst : Expectation → Lines → LogLine → Refusal → Refusal → Type 0
HasFirst e lines line why other = IsRefusedFor e lines line why → IsRefusedFor e lines line other → ⊥

room_differs : (e : Expectation) (lines : Lines) (line : LogLine) → HasFirst e lines line Room Differs
room_differs e lines line (inl over) k = k.0 over
room_differs e lines line (inr h) k = k.1 h.0.expected

room_compared : (e : Expectation) (lines : Lines) (line : LogLine) → IsRefusedFor e lines line Room → IsComparedLine e lines line →
    (PassesRoom (kept_of_lines lines) line → ⊥) → ⊥
room_compared e lines line (inl over) k not = k.within over
room_compared e lines line (inr h) k not = not h.1

room_new_var : (e : Expectation) (lines : Lines) (line : LogLine) → HasFirst e lines line Room NewVar
room_new_var e lines line h k = room_compared e lines line h k.0 (λ p. names_none lines line p.named k.1)

room_wrong_query : (e : Expectation) (lines : Lines) (line : LogLine) → HasFirst e lines line Room WrongQuery
room_wrong_query e lines line h k = room_compared e lines line h k.0 (λ p. k.1.wrong p.answers)

room_not_implied : (e : Expectation) (lines : Lines) (line : LogLine) → HasFirst e lines line Room NotImplied
room_not_implied e lines line h k = room_compared e lines line h k.0 (λ p. k.1.fits p.passes)

room_not_new : (e : Expectation) (lines : Lines) (line : LogLine) → HasFirst e lines line Room NotNew
room_not_new e lines line h k = room_compared e lines line h k.0 (λ p. k.1.fits p.passes)

pub refused_once : (e : Expectation) (lines : Lines) (line : LogLine) (a b : Refusal) → IsRefusedFor e lines line a → IsRefusedFor e lines line b → a ≡ b
refused_once e lines line Room Room h k = refl
refused_once e lines line Room Differs h k = absurd (room_differs e lines line h k)
refused_once e lines line Room NewVar h k = absurd (room_new_var e lines line h k)
refused_once e lines line Room WrongQuery h k = absurd (room_wrong_query e lines line h k)
refused_once e lines line Room NotImplied h k = absurd (room_not_implied e lines line h k)
refused_once e lines line Room NotNew h k = absurd (room_not_new e lines line h k)
refused_once e lines line Differs Room h k = absurd (room_differs e lines line k h)
refused_once e lines line Differs Differs h k = refl
refused_once e lines line Differs NewVar h k = absurd (h.1 k.0.expected)
refused_once e lines line Differs WrongQuery h k = absurd (h.1 k.0.expected)
refused_once e lines line Differs NotImplied h k = absurd (h.1 k.0.expected)
refused_once e lines line Differs NotNew h k = absurd (h.1 k.0.expected)
refused_once e lines line NewVar Room h k = absurd (room_new_var e lines line k h)
refused_once e lines line NewVar Differs h k = absurd (k.1 h.0.expected)
refused_once e lines line NewVar NewVar h k = refl
refused_once e lines line NewVar WrongQuery h k = absurd (names_none lines line k.1.named h.1)
refused_once e lines line NewVar NotImplied h k = absurd (names_none lines line k.1.named h.1)
refused_once e lines line NewVar NotNew h k = absurd (names_none lines line k.1.named h.1)
refused_once e lines line WrongQuery Room h k = absurd (room_wrong_query e lines line k h)
refused_once e lines line WrongQuery Differs h k = absurd (k.1 h.0.expected)
refused_once e lines line WrongQuery NewVar h k = absurd (names_none lines line h.1.named k.1)
refused_once e lines line WrongQuery WrongQuery h k = refl
refused_once e lines line WrongQuery NotImplied h k = absurd (h.1.wrong k.1.answers)
refused_once e lines line WrongQuery NotNew h k = absurd (h.1.wrong k.1.answers)
refused_once e lines line NotImplied Room h k = absurd (room_not_implied e lines line k h)
refused_once e lines line NotImplied Differs h k = absurd (k.1 h.0.expected)
refused_once e lines line NotImplied NewVar h k = absurd (names_none lines line h.1.named k.1)
refused_once e lines line NotImplied WrongQuery h k = absurd (k.1.wrong h.1.answers)
refused_once e lines line NotImplied NotImplied h k = refl
refused_once e lines line NotImplied NotNew h k = absurd (h.1.unproved k.1.implied)
refused_once e lines line NotNew Room h k = absurd (room_not_new e lines line k h)
refused_once e lines line NotNew Differs h k = absurd (k.1 h.0.expected)
refused_once e lines line NotNew NewVar h k = absurd (names_none lines line h.1.named k.1)
refused_once e lines line NotNew WrongQuery h k = absurd (k.1.wrong h.1.answers)
refused_once e lines line NotNew NotImplied h k = absurd (k.1.unproved h.1.implied)
refused_once e lines line NotNew NotNew h k = refl
