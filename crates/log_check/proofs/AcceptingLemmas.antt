-- One line more: how it is compared, and what is known of the lines with it.
use Rattle.std.proofs.Common.{◌≡◌, ◌≤◌, ◌<◌, ℕ, List, [], ◌∷◌, ◌++◌, refl, sym, ◌∙◌, ap, subst, inl, inr, arith, append-nil, append_assoc}
use Rattle.std.specs.Prelude.{false, Option, Some, None, Result, Ok, Err, IfOk, OnOk, IfSome, flat_map, MatchOption, option_to_list}
use Rattle.cnf_core.specs.declared.limits.TheConstants.{ROOM}
use Rattle.cnf_core.specs.Clause.{Clauses, words_of}
use Rattle.refute_log.specs.declared.line.LogLine.{LogLine}
use Rattle.refute_log.specs.declared.line.LogLine.TheVariants.{Formula, Learnt, Bound, Query, Refuted, Model}
use Rattle.refute_log.specs.Told.{Lines}
use Rattle.refute_log.specs.Log.{Facts, added, StandsOn, clause_line, clause_lines, BeginsLines}
use Rattle.refute_log.proofs.LogLemmas.{flat_map_last, facts_more, derives_more}
use Rattle.refute_check.specs.declared.fault.LineFault.TheVariants as faults
use Rattle.refute_check.specs.Kept.{CheckedFacts, kept_after, LacksRoom, Accepts}
use Rattle.refute_check.specs.declared.told_bound.ToldBound.{ToldBound}
use Rattle.refute_check.specs.Lacking.{told_bound}
use Rattle.log_check.specs.declared.awaited.Awaited.{Awaited}
use Rattle.log_check.specs.declared.accepting.Progress.{Progress}
use Rattle.log_check.specs.declared.accepting.Compared.TheVariants.{Wrong}
use Rattle.log_check.specs.declared.verdict.Refusal.{Refusal}
use Rattle.log_check.specs.declared.verdict.Refusal.TheVariants as refusals
use Rattle.log_check.specs.Expectation.{Expectation, PassesLimits}
use Rattle.log_check.specs.Accepted.{AreAccepted}
use Rattle.log_check.specs.Refused.{IsOverLimits, IsNextExpected, kept_of_lines, IsRefusedFor}
use Rattle.log_check.specs.Awaited.{awaited_lines, IsAwaited}
use Rattle.log_check.specs.Progress.{AreAwaited, HasAccepted, HasCompared, IsCompared}
use Rattle.refute_log.proofs.StepLemmas.{same_clauses}

-- ---- Formula and Bound lines

clauses_last : (lines : Lines) (line : LogLine) → clause_lines (lines ++ line ∷ []) ≡ clause_lines lines ++ clause_line line
clauses_last lines line = flat_map_last clause_line lines line

same_rest : (xs ys zs : Lines) → xs ++ ys ≡ xs ++ zs → ys ≡ zs
same_rest [] ys zs e = e
same_rest (x ∷ xs) ys zs e = same_rest xs ys zs (let t : xs ++ ys ≡ xs ++ zs = cc in t)

-- where what is expected passes the limits none was accepted
pub none_over : (e : Expectation) (lines : Lines) → AreAccepted e lines → PassesLimits e → clause_lines lines ≡ []
none_over e lines a passes = by (clause_lines lines) refl
  where
    by : (ls : Lines) → clause_lines lines ≡ ls → ls ≡ []
    by [] is = refl
    by (l ∷ ls) is = absurd (a.within (λ none. let two : l ∷ ls ≡ [] = sym is ∙ none in cc) passes)

-- ---- comparing

pub over : (e : Expectation) (lines : Lines) (line : LogLine) → AreAccepted e lines → PassesLimits e → clause_line line ≡ line ∷ [] → IsOverLimits e lines line
over e lines line a passes is = record {
  compared = λ none. let two : line ∷ [] ≡ [] = sym is ∙ none in cc;
  first = none_over e lines a passes;
  passes = passes;
}

pub next_comes : (e : Expectation) (lines : Lines) (line : LogLine) (now more : Awaited) → clause_line line ≡ line ∷ [] → AreAwaited e lines (Some now) →
    IsAwaited more → awaited_lines now ≡ line ∷ awaited_lines more →
    AreAwaited e (lines ++ line ∷ []) (Some more)
next_comes e lines line now more is h ready comes = (
  h.0,
  ready,
  h.2 ∙ ap (λ (ls : Lines). clause_lines lines ++ ls) comes ∙ sym (append_assoc (clause_lines lines) (line ∷ []) (awaited_lines more))
      ∙ ap (λ (ls : Lines). (clause_lines lines ++ ls) ++ awaited_lines more) (sym is)
      ∙ ap (λ (ls : Lines). ls ++ awaited_lines more) (sym (clauses_last lines line)),
)

pub other_comes : (e : Expectation) (lines : Lines) (line : LogLine) (now : Awaited) → clause_line line ≡ line ∷ [] → AreAwaited e lines (Some now) →
    ((more : Lines) → awaited_lines now ≡ line ∷ more → ⊥) →
    (IsOverLimits e lines line → ⊥) × (IsNextExpected e lines line → ⊥)
other_comes e lines line now is h none = (
  (λ o. h.0 o.passes),
  (
      λ next.
      let split : clause_lines lines ++ awaited_lines now ≡ clause_lines lines ++ (line ∷ next.0) =
      sym h.2 ∙ next.1 ∙ ap (λ (ls : Lines). ls ++ next.0) (clauses_last lines line ∙ ap (λ (ls : Lines). clause_lines lines ++ ls) is)
      ∙ append_assoc (clause_lines lines) (line ∷ []) next.0 in
      none next.0 (same_rest (clause_lines lines) (awaited_lines now) (line ∷ next.0) split)
      ),
)

-- ---- behind the comparison

-- the next expected line
pub compared_next : (e : Expectation) (lines : Lines) (line : LogLine) (old new : Progress) (more : Awaited) → HasAccepted e lines old →
    AreAwaited e (lines ++ line ∷ []) (Some more) →
    new.awaited ≡ Some more → new.checker ≡ old.checker → new.bounds.items ≡ old.bounds.items → HasCompared e lines line new
compared_next e lines line old new more h next awaited checker bounds = record {
  accepted = h.accepted;
  compared = record { within = λ o. next.0 o.passes; expected = (awaited_lines more, next.2) };
  within = λ some. next.0;
  awaited = subst (AreAwaited e (lines ++ line ∷ [])) (sym awaited) next;
  checker = checker ∙ h.checker;
  bounds = bounds ∙ h.bounds;
}

-- a line that isn't compared
pub compared_same : (e : Expectation) (lines : Lines) (line : LogLine) (p : Progress) → HasAccepted e lines p → clause_line line ≡ [] →
    HasCompared e lines line p
compared_same e lines line p h none =
    let same : clause_lines lines ≡ clause_lines (lines ++ line ∷ []) = sym (same_clauses lines line none) in
    record {
      accepted = h.accepted;
      compared = record { within = λ o. o.compared none; expected = subst (λ (ls : Lines). BeginsLines ls e.lines) same h.accepted.front };
      within = λ some. h.accepted.within (λ empty. some (sym same ∙ empty));
      awaited = by p.awaited h.awaited;
      checker = h.checker;
      bounds = h.bounds;
    }
  where
    by : (awaited : Option Awaited) → AreAwaited e lines awaited → AreAwaited e (lines ++ line ∷ []) awaited
    by None h = h
    by (Some a) h = (h.0, h.1, h.2 ∙ ap (λ (ls : Lines). ls ++ awaited_lines a) (sym (same_clauses lines line none)))

-- ---- the checker accepts it

words_within : (kept : CheckedFacts) (lines : Lines) (line : LogLine) → kept ≡ kept_of_lines lines → words_of (flat_map added lines) ≤ ROOM →
    (LacksRoom kept line → ⊥) → words_of (flat_map added (lines ++ line ∷ [])) ≤ ROOM
words_within kept lines line is room fits =
    subst (λ (cs : Clauses). words_of cs ≤ ROOM) (sym (flat_map_last added lines line)) (by line (subst (λ (k : CheckedFacts). LacksRoom k line → ⊥) is fits))
  where
    not_more : (n : ℕ) → (ROOM < n → ⊥) → n ≤ ROOM
    not_more n free = omega (arith, free)

    by : (l : LogLine) → (LacksRoom (kept_of_lines lines) l → ⊥) → words_of (flat_map added lines ++ added l) ≤ ROOM
    by (Formula c) free = not_more (words_of (flat_map added lines ++ c ∷ [])) (λ more. free (inl more))
    by (Learnt c) free = not_more (words_of (flat_map added lines ++ c ∷ [])) free
    by (Bound c k x) free = subst (λ (cs : Clauses). words_of cs ≤ ROOM) (sym (append-nil (flat_map added lines))) room
    by (Query c) free = subst (λ (cs : Clauses). words_of cs ≤ ROOM) (sym (append-nil (flat_map added lines))) room
    by (Refuted c) free = subst (λ (cs : Clauses). words_of cs ≤ ROOM) (sym (append-nil (flat_map added lines))) room
    by Model free = subst (λ (cs : Clauses). words_of cs ≤ ROOM) (sym (append-nil (flat_map added lines))) room

pub accepted_more : (e : Expectation) (lines : Lines) (line : LogLine) (p : Progress) (new : CheckedFacts) → HasCompared e lines line p →
    Accepts p.checker new line → AreAccepted e (lines ++ line ∷ [])
accepted_more e lines line p new h a = record {
  front = h.compared.expected;
  within = h.within;
  derives = derives_more lines line h.accepted.derives (subst (λ (k : CheckedFacts). StandsOn k.facts line) h.checker a.stands);
  room = words_within p.checker lines line h.checker h.accepted.room a.fits;
}

abbrev kept_with : Facts → CheckedFacts
kept_with facts = record { room = ROOM; facts = facts; lost = false }

kept_more : (old new : CheckedFacts) (lines : Lines) (line : LogLine) → old ≡ kept_of_lines lines → new ≡ kept_after old line →
    new ≡ kept_of_lines (lines ++ line ∷ [])
kept_more old new lines line is more =
    more ∙ ap (λ (k : CheckedFacts). kept_after k line) is ∙ ap kept_with (sym (facts_more lines line))

pub has_accepted : (e : Expectation) (lines : Lines) (line : LogLine) (old new : Progress) → HasCompared e lines line old →
    Accepts old.checker new.checker line → new.awaited ≡ old.awaited → new.bounds.items ≡ old.bounds.items ++ told_bound line →
    HasAccepted e (lines ++ line ∷ []) new
has_accepted e lines line old new h a awaited bounds = record {
  accepted = accepted_more e lines line old new.checker h a;
  awaited = subst (AreAwaited e (lines ++ line ∷ [])) (sym awaited) h.awaited;
  checker = kept_more old.checker new.checker lines line h.checker a.kept;
  bounds = bounds ∙ ap (λ (bs : List ToldBound). bs ++ told_bound line) h.bounds ∙ sym (flat_map_last told_bound lines line);
}

-- ---- the checker refuses it

-- the bounds with those of one line more
pub bounds_pushed : (line : LogLine) (old new : List ToldBound) (b : ToldBound) → option_to_list (Some b) ≡ told_bound line → new ≡ old ++ b ∷ [] →
    new ≡ old ++ told_bound line
bounds_pushed line old new b told is = is ∙ ap (λ (bs : List ToldBound). old ++ bs) told

pub bounds_kept : (line : LogLine) (bounds : List ToldBound) (r : Option ToldBound) → option_to_list r ≡ told_bound line → ((b : ToldBound) → r ≡ Some b → ⊥) →
    bounds ≡ bounds ++ told_bound line
bounds_kept line bounds None told other = sym (append-nil bounds) ∙ ap (λ (bs : List ToldBound). bounds ++ bs) told
bounds_kept line bounds (Some b) told other = absurd (other b refl)

-- ---- one line, compared and fed

pub wrong_refused : (e : Expectation) (lines : Lines) (line : LogLine) (why : Refusal) → IsCompared e lines line (Wrong why) → IsRefusedFor e lines line why
wrong_refused e lines line refusals.Room h = inl h
wrong_refused e lines line refusals.Differs h = h
wrong_refused e lines line refusals.NewVar h = absurd h
wrong_refused e lines line refusals.WrongQuery h = absurd h
wrong_refused e lines line refusals.NotImplied h = absurd h
wrong_refused e lines line refusals.NotNew h = absurd h

pub feed_judged : {X : Type 0} (res : Result (Option Refusal) X) (line : LogLine) (old mid new : Progress) →
    ((e : Expectation) (before : Lines) → HasAccepted e before old → HasCompared e before line mid) →
    IfOk res (λ r. (e : Expectation) (before : Lines) → HasCompared e before line mid →
    MatchOption r (HasAccepted e (before ++ line ∷ []) new) (IsRefusedFor e before line)) →
    IfOk res (λ r. (e : Expectation) (before : Lines) → HasAccepted e before old →
    MatchOption r (HasAccepted e (before ++ line ∷ []) new) (IsRefusedFor e before line))
feed_judged (Ok r) line old mid new step h = λ e before known. h e before (step e before known)
feed_judged (Err x) line old mid new step h = tt
