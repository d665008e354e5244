-- The state between two lines of a log.
use Rattle.std.proofs.Common.{◌≡◌, ℕ, ◌+◌, ◌^◌, ◌<◌, ◌≤◌, Bool, true, false, List, [], ◌∷◌, ◌++◌, length, get_or, take, Some, refl, sym, ◌∙◌, ap, subst, inl}
use Rattle.std.proofs.Common.{inr, arith, append-nil, append_assoc, length-append, None}
use Rattle.std.specs.Prelude.{All, MatchOption, Option, slice_get, flat_map}
use Rattle.std.proofs.lemmas.List.{get_or_append_left, take_all}
use Rattle.std.proofs.lemmas.List.Concat.{flat_map-cons, get_or-flat_map}
use Rattle.std.proofs.lemmas.List.Elements.{All-weaker}
use Rattle.std.proofs.lemmas.List.Folds.{length-flat_map-take}
use Rattle.std.proofs.lemmas.Option.{slice_get_within, get_or_from_slice_get}
use Rattle.cnf_core.specs.Lit.{Literal}
use Rattle.cnf_core.specs.Clause.{Clauses}
use Rattle.cnf_core.specs.Propagation.{Rup, greatest_var}
use Rattle.cnf_core.proofs.GreatestLemmas.{greatest_var-append}
use Rattle.refute_log.specs.declared.line.LogLine.{LogLine}
use Rattle.refute_log.specs.declared.line.LogLine.TheVariants.{Formula, Learnt, Bound, Query, Refuted, Model}
use Rattle.refute_log.specs.Told.{Lines}
use Rattle.refute_log.specs.Log.{added, given, learnt, IsImplied, SaysMore, IsNewClause, Stands, Derives}
use Rattle.refute_log.proofs.LogLemmas.{derives_none, derives_more}
use Rattle.refute_check.specs.Kept.{IsKnownClause}
use Rattle.refute_check.specs.Timely.{AreTimely}
use Rattle.hint_log.specs.declared.hint_line.HintLine.TheVariants.{Learnt as HintLearnt}
use Rattle.hint_log.specs.Hint.{numbered, NamesClause}
use Rattle.log_trim.specs.Found.{IsFinder, IsLeanHint, ShowsOrNone, ShowsNewOrNone}
use Rattle.log_trim.specs.declared.finder.Finder.{Finder}
use Rattle.log_trim.specs.declared.hint_trimming.Hinting.{Hinting}
use Rattle.hint_log.specs.HintedLines.{HintLines}
use Rattle.log_trim.specs.Trimmed.{AreRefutedLines}
use Rattle.log_trim.specs.HintRoom.{IsLineWithin}
use Rattle.log_trim.specs.Hinting.{IsHinted, IsHinting, nameable}
use Rattle.log_trim.proofs.FinderLemmas.{finder_more}
use Rattle.log_trim.proofs.ShortenLemmas.{numbered_at, numbered_last}
use Rattle.log_trim.proofs.HintedLemmas.{next_line, gathered_next, counted_next, hinted_none, hinted_learnt, hinted_plain}

-- there are no more clauses than lines
one_at_most : (line : LogLine) → length (given line) + length (learnt line) ≤ 1
one_at_most (Formula c) = omega arith
one_at_most (Learnt c) = omega arith
one_at_most (Bound x k v) = omega arith
one_at_most (Query c) = omega arith
one_at_most (Refuted c) = omega arith
one_at_most Model = omega arith

as_many_at_most : (lines : Lines) → length (flat_map given lines) + length (flat_map learnt lines) ≤ length lines
as_many_at_most [] = omega arith
as_many_at_most (line ∷ lines) =
    let a = ap length (flat_map-cons given line lines) ∙ length-append (given line) (flat_map given lines) in
    let b = ap length (flat_map-cons learnt line lines) ∙ length-append (learnt line) (flat_map learnt lines) in
    omega (arith, a, b, one_at_most line, as_many_at_most lines)

up_to_line : (f : LogLine → Clauses) (lines : Lines) (i : ℕ) (line : LogLine) → slice_get lines i ≡ Some line →
    length (flat_map f (take i lines)) + length (f line) ≤ length (flat_map f lines)
up_to_line f lines i line e = subst (λ (k : LogLine). length (flat_map f (take i lines)) + length (f k) ≤ length (flat_map f lines))
    (get_or_from_slice_get lines i line line e) (length-flat_map-take f lines i line (slice_get_within lines i line e))

-- the number of the Formula line at a place
formula_within : (lines : Lines) (i n : ℕ) (c : List Literal) → slice_get lines i ≡ Some (Formula c) → n ≡ length (flat_map given (take i lines)) →
    n < length (flat_map given lines)
formula_within lines i n c e is = let h = up_to_line given lines i (Formula c) e in omega (arith, h, is)

formula_named : (lines : Lines) (i n m : ℕ) (c : List Literal) → slice_get lines i ≡ Some (Formula c) → n ≡ length (flat_map given (take i lines)) → m ≡ n + 1 →
    NamesClause (nameable lines i) m
formula_named lines i n m c e is next = record {
  from = omega arith;
  to = let lt = formula_within lines i n c e is in let size = length-append (flat_map given lines) (flat_map learnt (take i lines)) in omega
      (arith, lt, size, next);
}

formula_numbered : (lines : Lines) (i n m : ℕ) (c : List Literal) → slice_get lines i ≡ Some (Formula c) → n ≡ length (flat_map given (take i lines)) →
    m ≡ n + 1 → numbered (nameable lines i) m ≡ c
formula_numbered lines i n m c e is next =
    let line = Formula c in
    let here : get_or lines i line ≡ line = get_or_from_slice_get lines i line line e in
    let lt = formula_within lines i n c e is in
    let place : length (flat_map given (take i lines)) + 0 ≡ n = omega (arith, is) in
    let one : 0 < length (given (get_or lines i line)) = subst (λ (k : LogLine). 0 < length (given k)) (sym here) (omega arith) in
    let at : get_or (flat_map given lines) (length (flat_map given (take i lines)) + 0) [] ≡ get_or (given (get_or lines i line)) 0 [] = get_or-flat_map given
    lines i 0 line [] (slice_get_within lines i line e) one in
    numbered_at (nameable lines i) m n next
    ∙ get_or_append_left (flat_map given lines) (flat_map learnt (take i lines)) [] n lt
    ∙ ap (λ k. get_or (flat_map given lines) k []) (sym place)
    ∙ at
    ∙ ap (λ (k : LogLine). get_or (given k) 0 []) here

-- numbers fit a word
pub given_few : (lines : Lines) → length (flat_map given lines) ≤ length lines
given_few lines = let all = as_many_at_most lines in omega (arith, all)

pub formula_fits : (lines : Lines) (i n : ℕ) (c : List Literal) → slice_get lines i ≡ Some (Formula c) → n ≡ length (flat_map given (take i lines)) →
    length lines < 2 ^ 32 → n + 1 < 2 ^ 32
formula_fits lines i n c e is few = let lt = formula_within lines i n c e is in let all = as_many_at_most lines in omega (arith, lt, all, few)

pub learnt_fits : (lines : Lines) (i n : ℕ) (c : List Literal) → slice_get lines i ≡ Some (Learnt c) → n ≡ length (nameable lines i) → length lines < 2 ^ 32 →
    n + 1 < 2 ^ 32
learnt_fits lines i n c e is few =
    let size = length-append (flat_map given lines) (flat_map learnt (take i lines)) in
    let lt = up_to_line learnt lines i (Learnt c) e in
    let all = as_many_at_most lines in
    omega (arith, size, lt, all, is, few)

-- what may be named, one line further
nameable_next : (lines : Lines) (i : ℕ) (line : LogLine) → slice_get lines i ≡ Some line → nameable lines (i + 1) ≡ nameable lines i ++ learnt line
nameable_next lines i line e = ap (λ (cs : Clauses). flat_map given lines ++ cs) (gathered_next learnt lines i line e)
    ∙ sym (append_assoc (flat_map given lines) (flat_map learnt (take i lines)) (learnt line))

-- nothing was taken
pub hinting_none : (lines : Lines) (wanted : List ℕ) (h : Hinting) → IsFinder (flat_map given lines) [] h.finder → All (IsLineWithin h.finder.vars) lines →
    h.formula ≡ 0 → h.learnt ≡ length (flat_map given lines) → h.list ≡ [] → IsHinting lines wanted 0 h
hinting_none lines wanted h finder within formula learnt_is none = record {
  derives = derives_none;
  finder = subst (λ (cs : Clauses). IsFinder cs [] h.finder) (sym (append-nil (flat_map given lines))) finder;
  within = within;
  formula = formula;
  learnt = learnt_is ∙ ap length (sym (append-nil (flat_map given lines)));
  hinted = hinted_none lines wanted h.list none;
}

-- a clause that is new
given_greatest : (line : LogLine) → greatest_var (given line) ≤ greatest_var (added line)
given_greatest (Formula c) = omega arith
given_greatest (Learnt c) = omega arith
given_greatest (Bound x k v) = omega arith
given_greatest (Query c) = omega arith
given_greatest (Refuted c) = omega arith
given_greatest Model = omega arith

greatest_added : (lines : Lines) → greatest_var (flat_map given lines) ≤ greatest_var (flat_map added lines)
greatest_added [] = omega arith
greatest_added (line ∷ lines) =
    let a = ap greatest_var (flat_map-cons given line lines) ∙ greatest_var-append (given line) (flat_map given lines) in
    let b = ap greatest_var (flat_map-cons added line lines) ∙ greatest_var-append (added line) (flat_map added lines) in
    omega (arith, a, b, given_greatest line, greatest_added lines)

new_clause : (lines : Lines) (c : List Literal) → All (λ l. l.var ≤ greatest_var (flat_map given lines)) c → 1 ≤ length c →
    (IsKnownClause (flat_map added lines) c → ⊥) → IsNewClause (flat_map added lines) c
new_clause lines [] named some unknown = absurd (omega arith)
new_clause lines (first ∷ others) named some unknown = record {
  named = All-weaker (λ l. l.var ≤ greatest_var (flat_map given lines)) (λ l. l.var ≤ greatest_var (flat_map added lines))
      (λ l h. let le = greatest_added lines in omega (arith, h, le)) (first ∷ others) named;
  unfalsified = λ f. unknown (inl f);
  unknown = λ k. unknown (inr k);
}

not_known : (clauses : Clauses) (c : List Literal) → IsNewClause clauses c → IsKnownClause clauses c → ⊥
not_known clauses [] new known = known
not_known clauses (first ∷ others) new (inl f) = new.unfalsified f
not_known clauses (first ∷ others) new (inr k) = new.unknown k

-- one line further
hinting_next : (lines : Lines) (wanted : List ℕ) (i : ℕ) (line : LogLine) (h new : Hinting) → slice_get lines i ≡ Some line → AreTimely lines →
    IsHinting lines wanted i h → IsImplied (flat_map added (take i lines)) line → SaysMore (flat_map added (take i lines)) line →
    IsFinder (nameable lines i ++ learnt line) (flat_map added (take i lines) ++ added line) new.finder → new.finder.vars ≡ h.finder.vars →
    new.formula ≡ h.formula + length (given line) → new.learnt ≡ h.learnt + length (learnt line) → IsHinted lines wanted (i + 1) new.list →
    IsHinting lines wanted (i + 1) new
hinting_next lines wanted i line h new e timely old implied says_more finder vars formula learnt_is hinted =
    let here_timely = timely i line e in
    let stands : Stands (take i lines) line = record { named = here_timely.named; answers = here_timely.answers; implied = implied; says_more = says_more } in
    record {
      derives = subst Derives (sym (next_line lines i line e)) (derives_more (take i lines) line old.derives stands);
      finder = subst (λ (cs : Clauses). IsFinder cs (flat_map added (take (i + 1) lines)) new.finder) (sym (nameable_next lines i line e))
          (subst (λ (cs : Clauses). IsFinder (nameable lines i ++ learnt line) cs new.finder) (sym (gathered_next added lines i line e)) finder);
      within = subst (λ n. All (IsLineWithin n) lines) (sym vars) old.within;
      formula = formula ∙ sym (counted_next given lines i h.formula line e old.formula);
      learnt = learnt_is ∙ ap (λ n. n + length (learnt line)) old.learnt ∙ sym (ap length (nameable_next lines i line e)
          ∙ length-append (nameable lines i) (learnt line));
      hinted = hinted;
    }

pub took_formula : (lines : Lines) (wanted : List ℕ) (i n : ℕ) (c : List Literal) (h new : Hinting) → slice_get lines i ≡ Some (Formula c) →
    AreRefutedLines lines wanted → AreTimely lines → IsHinting lines wanted i h → new.finder.vars ≡ h.finder.vars →
    ((all taken : Clauses) → IsFinder all taken h.finder → NamesClause all n → numbered all n ≡ c → IsFinder all (taken ++ c ∷ []) new.finder) →
    n ≡ h.formula + 1 → new.formula ≡ n → new.learnt ≡ h.learnt → new.list ≡ h.list → IsHinting lines wanted (i + 1) new
took_formula lines wanted i n c h new e refuted timely old vars add next formula learnt_is list =
    let all = nameable lines i in
    let taken = flat_map added (take i lines) in
    let now = add all taken old.finder (formula_named lines i h.formula n c e old.formula next) (formula_numbered lines i h.formula n c e old.formula next) in
    hinting_next lines wanted i (Formula c) h new e timely old tt tt (subst (λ (cs : Clauses). IsFinder cs (taken ++ c ∷ []) new.finder) (sym (append-nil all))
    now) vars (formula ∙ next) (omega (arith, learnt_is))
    (subst (λ (hs : HintLines). IsHinted lines wanted (i + 1) hs) (sym list) (hinted_plain lines wanted i h.list (Formula c) refuted e refl old.hinted))

pub took_learnt : (lines : Lines) (wanted : List ℕ) (i n : ℕ) (c : List Literal) (answer : Option (List ℕ)) (hints : List ℕ) (h new : Hinting) (mid : Finder) →
    slice_get lines i ≡ Some (Learnt c) → 1 ≤ length c → AreTimely lines → IsHinting lines wanted i h →
    ((all taken : Clauses) → IsFinder all taken h.finder → ShowsNewOrNone all taken c answer) → answer ≡ Some hints →
    ((all taken : Clauses) → IsFinder all taken h.finder → IsFinder all taken mid) → new.finder.vars ≡ h.finder.vars →
    ((all taken : Clauses) → IsFinder all taken mid → NamesClause all n → numbered all n ≡ c → IsFinder all (taken ++ c ∷ []) new.finder) →
    n ≡ h.learnt + 1 → new.formula ≡ h.formula → new.learnt ≡ n → new.list ≡ h.list ++ HintLearnt c hints ∷ [] →
    IsHinting lines wanted (i + 1) new
took_learnt lines wanted i n c answer hints h new mid e some timely old found is goes vars add next formula learnt_is list =
    let all = nameable lines i in
    let taken = flat_map added (take i lines) in
    let shown : ShowsNewOrNone all taken c (Some hints) = subst (ShowsNewOrNone all taken c) is (found all taken old.finder) in
    let here_timely = timely i (Learnt c) e in
    let place : n ≡ length all + 1 = next ∙ ap (λ k. k + 1) old.learnt in
    let names : NamesClause (all ++ c ∷ []) n = record {
      from = omega (arith, place);
      to = let size = length-append all (c ∷ []) in omega (arith, size, place);
    } in
    let now = add (all ++ c ∷ []) taken (finder_more all taken c mid (goes all taken old.finder)) names (numbered_last all c n place) in
    hinting_next lines wanted i (Learnt c) h new e timely old shown.0 (new_clause (take i lines) c here_timely.named some shown.1) now vars
    (omega (arith, formula)) (learnt_is ∙ next)
    (hinted_learnt lines wanted i h.list new.list c hints e old.hinted shown.2 list)

-- a Learnt line that doesn't stand
pub learnt_fails : (lines : Lines) (wanted : List ℕ) (i : ℕ) (c : List Literal) (answer : Option (List ℕ)) (h : Hinting) → slice_get lines i ≡ Some (Learnt c) →
    IsHinting lines wanted i h → ((all taken : Clauses) → IsFinder all taken h.finder → ShowsNewOrNone all taken c answer) → answer ≡ None → Derives lines → ⊥
learnt_fails lines wanted i c answer h e old found is derives =
    let taken = flat_map added (take i lines) in
    let stands = derives i (Learnt c) e in
    let unshown : ShowsNewOrNone (nameable lines i) taken c None = subst (ShowsNewOrNone (nameable lines i) taken c) is
    (found (nameable lines i) taken old.finder) in
    not_known taken c stands.says_more (unshown stands.implied)

pub took_refuted : (lines : Lines) (wanted : List ℕ) (i : ℕ) (c : List Literal) (answer : Option (List ℕ)) (hints : List ℕ) (h new : Hinting) →
    slice_get lines i ≡ Some (Refuted c) → AreTimely lines → IsHinting lines wanted i h →
    ((all taken : Clauses) → IsFinder all taken h.finder → ShowsOrNone all taken c answer) → answer ≡ Some hints →
    ((all taken : Clauses) → IsFinder all taken h.finder → IsFinder all taken new.finder) → new.finder.vars ≡ h.finder.vars → new.formula ≡ h.formula →
    new.learnt ≡ h.learnt → (IsLeanHint (nameable lines i) c hints → IsHinted lines wanted (i + 1) new.list) → IsHinting lines wanted (i + 1) new
took_refuted lines wanted i c answer hints h new e timely old found is goes vars formula learnt_is hinted =
    let all = nameable lines i in
    let taken = flat_map added (take i lines) in
    let shown : ShowsOrNone all taken c (Some hints) = subst (ShowsOrNone all taken c) is (found all taken old.finder) in
    let now = goes all taken old.finder in
    hinting_next lines wanted i (Refuted c) h new e timely old shown.0 tt
    (subst (λ (cs : Clauses). IsFinder cs (taken ++ []) new.finder) (sym (append-nil all))
    (subst (λ (cs : Clauses). IsFinder all cs new.finder) (sym (append-nil taken)) now))
    vars (omega (arith, formula)) (omega (arith, learnt_is)) (hinted shown.1)

pub refuted_fails : (lines : Lines) (wanted : List ℕ) (i : ℕ) (c : List Literal) (answer : Option (List ℕ)) (h : Hinting) →
    slice_get lines i ≡ Some (Refuted c) → IsHinting lines wanted i h → ((all taken : Clauses) → IsFinder all taken h.finder → ShowsOrNone all taken c answer) →
    answer ≡ None → Derives lines → ⊥
refuted_fails lines wanted i c answer h e old found is derives =
    let all = nameable lines i in
    let taken = flat_map added (take i lines) in
    let unshown : ShowsOrNone all taken c None = subst (ShowsOrNone all taken c) is (found all taken old.finder) in
    unshown (derives i (Refuted c) e).implied

-- whether a line has a clause that is judged or taken
abbrev pub has_clause : LogLine → Bool
has_clause (Formula c) = true
has_clause (Learnt c) = true
has_clause (Bound x k v) = false
has_clause (Query c) = false
has_clause (Refuted c) = true
has_clause Model = false

pub took_other : (lines : Lines) (wanted : List ℕ) (i : ℕ) (line : LogLine) (h : Hinting) → has_clause line ≡ false → slice_get lines i ≡ Some line →
    AreRefutedLines lines wanted → AreTimely lines → IsHinting lines wanted i h → IsHinting lines wanted (i + 1) h
took_other lines wanted i line h none e refuted timely old = by line none e
  where
    stays : IsFinder (nameable lines i ++ []) (flat_map added (take i lines) ++ []) h.finder
    stays = subst (λ (cs : Clauses). IsFinder cs (flat_map added (take i lines) ++ []) h.finder) (sym (append-nil (nameable lines i)))
        (subst (λ (cs : Clauses). IsFinder (nameable lines i) cs h.finder) (sym (append-nil (flat_map added (take i lines)))) old.finder)

    by : (l : LogLine) → has_clause l ≡ false → slice_get lines i ≡ Some l → IsHinting lines wanted (i + 1) h
    by (Formula c) n f = absurd (cc)
    by (Learnt c) n f = absurd (cc)
    by (Bound x k v) n f = hinting_next lines wanted i (Bound x k v) h h f timely old tt tt stays refl (omega arith) (omega arith)
        (hinted_plain lines wanted i h.list (Bound x k v) refuted f refl old.hinted)
    by (Query c) n f = hinting_next lines wanted i (Query c) h h f timely old tt tt stays refl (omega arith) (omega arith)
        (hinted_plain lines wanted i h.list (Query c) refuted f refl old.hinted)
    by (Refuted c) n f = absurd (cc)
    by Model n f = hinting_next lines wanted i Model h h f timely old tt tt stays refl (omega arith) (omega arith)
        (hinted_plain lines wanted i h.list Model refuted f refl old.hinted)

pub given_first : (lines : Lines) (wanted : List ℕ) (h : Hinting) → IsHinting lines wanted 0 h → h.learnt ≡ length (flat_map given lines)
given_first lines wanted h hinting = hinting.learnt ∙ ap length (append-nil (flat_map given lines))

-- behind the last line
pub hinting_all : (lines : Lines) (wanted : List ℕ) (i : ℕ) (h : Hinting) → i ≡ length lines → IsHinting lines wanted i h →
    Derives lines × IsHinted lines wanted (length lines) h.list
hinting_all lines wanted i h end hinting = (
  subst Derives (take_all i lines (omega (arith, end))) hinting.derives,
  subst (λ k. IsHinted lines wanted k h.list)
      end hinting.hinted,
)
