-- Hinted lines of a log, one after another.
use Rattle.std.proofs.Common.{◌≡◌, ℕ, ◌+◌, ◌≤◌, max, Bool, true, false, List, [], ◌∷◌, ◌++◌, length, take, Some, refl, sym, ◌∙◌, ap, subst, inl, inr, arith}
use Rattle.std.proofs.Common.{append-nil, length-append, map}
use Rattle.std.specs.Prelude.{All, Contains, slice_get, flat_map}
use Rattle.std.proofs.lemmas.Bool.{cases_lt, both_ways}
use Rattle.std.proofs.lemmas.List.{take_more, take_all}
use Rattle.std.proofs.lemmas.List.Elements.{Contains-append_left, Contains-push, All-more, All-weaker}
use Rattle.std.proofs.lemmas.Option.{slice_get_within, get_or_from_slice_get}
use Rattle.cnf_core.specs.Lit.{Literal, negate}
use Rattle.cnf_core.specs.Clause.{Clauses}
use Rattle.cnf_core.proofs.ClauseLemmas.{there_more}
use Rattle.refute_log.specs.declared.line.LogLine.{LogLine}
use Rattle.refute_log.specs.declared.line.LogLine.TheVariants.{Formula as FormulaLine, Learnt as LearntLine, Bound as BoundLine, Query as QueryLine}
use Rattle.refute_log.specs.declared.line.LogLine.TheVariants.{Refuted as RefutedLine, Model as ModelLine}
use Rattle.refute_log.specs.Told.{Lines}
use Rattle.refute_log.specs.Log.{given, learnt}
use Rattle.hint_log.specs.declared.hint_line.HintLine.{HintLine}
use Rattle.hint_log.specs.declared.hint_line.HintLine.TheVariants.{Learnt, Refuted}
use Rattle.hint_log.specs.Hint.{shown_lits, hints_of, IsGood}
use Rattle.hint_log.specs.Checked.{clauses_learnt}
use Rattle.hint_log.specs.HintedLines.{HintLines, line_of, AreGood}
use Rattle.hint_log.proofs.HintedLinesLemmas.{good_more}
use Rattle.log_trim.specs.Trimmed.{IsLineAt, StandAt, AreLean, HaveLeanHints, AreRefutedLines}
use Rattle.log_trim.specs.Found.{IsLeanHint}
use Rattle.log_trim.proofs.LeanLemmas.{lean_line_more}
use Rattle.log_trim.specs.HintRoom.{IsLineWithin}
use Rattle.log_trim.specs.Hinting.{IsHinted, nameable}
use Rattle.refute_log.proofs.LogLemmas.{flat_map_last}

-- one more line at a later place
pub stand_more : (lines : Lines) (wanted : List ℕ) (low mid high p : ℕ) (places : List ℕ) (hinted : HintLines) (line : HintLine) →
    StandAt lines wanted low mid places hinted → mid ≤ p → IsLineAt lines wanted p line → p + 1 ≤ high →
    StandAt lines wanted low high (places ++ p ∷ []) (hinted ++ line ∷ [])
stand_more lines wanted low mid high p [] [] line h le at lt = (omega (arith, h), at, lt)
stand_more lines wanted low mid high p (q ∷ places) (k ∷ hinted) line h le at lt = (
  h.0,
  h.1,
  stand_more lines wanted (q + 1) mid high p places hinted line h.2
      le at lt,
)
stand_more lines wanted low mid high p [] (k ∷ hinted) line h le at lt = absurd h
stand_more lines wanted low mid high p (q ∷ places) [] line h le at lt = absurd h

pub stand_wider : (lines : Lines) (wanted : List ℕ) (low mid high : ℕ) (places : List ℕ) (hinted : HintLines) → StandAt lines wanted low mid places hinted →
    mid ≤ high → StandAt lines wanted low high places hinted
stand_wider lines wanted low mid high [] [] h le = omega (arith, h)
stand_wider lines wanted low mid high (q ∷ places) (k ∷ hinted) h le = (h.0, h.1, stand_wider lines wanted (q + 1) mid high places hinted h.2 le)
stand_wider lines wanted low mid high [] (k ∷ hinted) h le = absurd h
stand_wider lines wanted low mid high (q ∷ places) [] h le = absurd h

-- the line at a place, and the lines up to it
pub next_line : (lines : Lines) (i : ℕ) (line : LogLine) → slice_get lines i ≡ Some line → take (i + 1) lines ≡ take i lines ++ line ∷ []
next_line lines i line e =
    let within = slice_get_within lines i line e in
    take_more lines i line within ∙ ap (λ (k : LogLine). take i lines ++ k ∷ []) (get_or_from_slice_get lines i line line e)

-- what each line gives, gathered
pub gathered_next : {Y : Type 0} (f : LogLine → List Y) (lines : Lines) (i : ℕ) (line : LogLine) → slice_get lines i ≡ Some line →
    flat_map f (take (i + 1) lines) ≡ flat_map f (take i lines) ++ f line
gathered_next f lines i line e = ap (flat_map f) (next_line lines i line e) ∙ flat_map_last f (take i lines) line

pub counted_next : {Y : Type 0} (f : LogLine → List Y) (lines : Lines) (i n : ℕ) (line : LogLine) → slice_get lines i ≡ Some line →
    n ≡ length (flat_map f (take i lines)) → length (flat_map f (take (i + 1) lines)) ≡ n + length (f line)
counted_next f lines i n line e is =
    ap length (gathered_next f lines i line e) ∙ length-append (flat_map f (take i lines)) (f line) ∙ ap (λ m. m + length (f line)) (sym is)

pub one_given : (line : LogLine) (c : List Literal) → line ≡ FormulaLine c → length (given line) ≡ 1
one_given line c is = ap (λ (l : LogLine). length (given l)) is

pub no_given : (line : LogLine) → ((c : List Literal) → line ≡ FormulaLine c → ⊥) → length (given line) ≡ 0
no_given (FormulaLine c) other = absurd (other c refl)
no_given (LearntLine c) other = refl
no_given (BoundLine d k x) other = refl
no_given (QueryLine c) other = refl
no_given (RefutedLine c) other = refl
no_given ModelLine other = refl

-- nothing is hinted before the first line
pub hinted_none : (lines : Lines) (wanted : List ℕ) (answer : HintLines) → answer ≡ [] → IsHinted lines wanted 0 answer
hinted_none lines wanted answer f = record {
  learnt_are = ap (flat_map clauses_learnt) f;
  places = [];
  stand = subst (λ (hs : HintLines). StandAt lines wanted 0 0 [] hs) (sym f) (omega arith);
  all = λ p among lt. absurd (omega (arith, lt));
  good = subst (λ (hs : HintLines). AreGood (flat_map given lines) hs) (sym f) tt;
  lean = subst (λ (hs : HintLines). HaveLeanHints (flat_map given lines) hs) (sym f) tt;
}

good_here : (lines : Lines) (wanted : List ℕ) (i : ℕ) (answer : HintLines) (line : HintLine) → IsHinted lines wanted i answer → IsGood (nameable lines i) line →
    AreGood (flat_map given lines) (answer ++ line ∷ [])
good_here lines wanted i answer line h g = good_more (flat_map given lines) answer line h.good
    (subst (λ (cs : Clauses). IsGood (flat_map given lines ++ cs) line) (sym h.learnt_are) g)

lean_here : (lines : Lines) (wanted : List ℕ) (i : ℕ) (answer : HintLines) (line : HintLine) → IsHinted lines wanted i answer →
    AreLean (nameable lines i) (map negate (shown_lits line)) (hints_of line) → HaveLeanHints (flat_map given lines) (answer ++ line ∷ [])
lean_here lines wanted i answer line h v = lean_line_more (flat_map given lines) answer line h.lean
    (subst (λ (cs : Clauses). AreLean (flat_map given lines ++ cs) (map negate (shown_lits line)) (hints_of line)) (sym h.learnt_are) v)

-- one more hinted line, of the line at a place
hinted_here : (lines : Lines) (wanted : List ℕ) (i : ℕ) (answer : HintLines) (line : HintLine) → clauses_learnt line ≡ learnt (line_of line) →
    IsLineAt lines wanted i line → IsHinted lines wanted i answer → IsLeanHint (nameable lines i) (shown_lits line) (hints_of line) →
    IsHinted lines wanted (i + 1) (answer ++ line ∷ [])
hinted_here lines wanted i answer line same at h g = record {
  learnt_are = flat_map_last clauses_learnt answer line ∙ ap (λ (cs : Clauses). cs ++ clauses_learnt line) h.learnt_are
      ∙ ap (λ (cs : Clauses). flat_map learnt (take i lines) ++ cs) same ∙ sym (gathered_next learnt lines i (line_of line) at.there);
  places = h.places ++ i ∷ [];
  stand = stand_more lines wanted 0 i (i + 1) i h.places answer line h.stand (omega arith) at (omega arith);
  all = λ p among lt. elim (cases_lt p i) [
    | inl less ↦ Contains-append_left h.places (i ∷ []) p (h.all p among less)
    | inr ge ↦
        let same_place : p ≡ i = omega arith in
        subst (λ q. Contains (h.places ++ i ∷ []) q) (sym same_place) (Contains-push h.places i)
  ];
  good = good_here lines wanted i answer line h g.good;
  lean = lean_here lines wanted i answer line h g.lean;
}

pub hinted_learnt : (lines : Lines) (wanted : List ℕ) (i : ℕ) (answer now : HintLines) (c : List Literal) (hints : List ℕ) →
    slice_get lines i ≡ Some (LearntLine c) → IsHinted lines wanted i answer → IsLeanHint (nameable lines i) c hints → now ≡ answer ++ Learnt c hints ∷ [] →
    IsHinted lines wanted (i + 1) now
hinted_learnt lines wanted i answer now c hints e h good is = subst (λ (hs : HintLines). IsHinted lines wanted (i + 1) hs) (sym is)
    (hinted_here lines wanted i answer (Learnt c hints) refl (record { there = e; asked = tt }) h good)

pub hinted_refuted : (lines : Lines) (wanted : List ℕ) (i : ℕ) (answer now : HintLines) (c : List Literal) (hints : List ℕ) → Contains wanted i →
    slice_get lines i ≡ Some (RefutedLine c) → IsHinted lines wanted i answer → IsLeanHint (nameable lines i) c hints → now ≡ answer ++ Refuted c hints ∷ [] →
    IsHinted lines wanted (i + 1) now
hinted_refuted lines wanted i answer now c hints asked e h good is = subst (λ (hs : HintLines). IsHinted lines wanted (i + 1) hs) (sym is)
    (hinted_here lines wanted i answer (Refuted c hints) refl (record { there = e; asked = asked }) h good)

-- a line that is neither a Learnt line nor wanted
pub hinted_past : (lines : Lines) (wanted : List ℕ) (i : ℕ) (answer : HintLines) (line : LogLine) → slice_get lines i ≡ Some line → learnt line ≡ [] →
    (Contains wanted i → ⊥) → IsHinted lines wanted i answer → IsHinted lines wanted (i + 1) answer
hinted_past lines wanted i answer line e none not_wanted h = record {
  learnt_are = h.learnt_are ∙ sym (gathered_next learnt lines i line e ∙ ap (λ (cs : Clauses). flat_map learnt (take i lines) ++ cs) none
      ∙ append-nil (flat_map learnt (take i lines)));
  places = h.places;
  stand = stand_wider lines wanted 0 i (i + 1) h.places answer h.stand (omega arith);
  all = λ p among lt. elim (cases_lt p i) [
    | inl less ↦ h.all p among less
    | inr ge ↦
        let same_place : p ≡ i = omega arith in
        absurd (not_wanted (subst (λ q. Contains wanted q) same_place among))
  ];
  good = h.good;
  lean = h.lean;
}

-- a line that is neither a Learnt nor a Refuted line
abbrev pub is_plain : LogLine → Bool
is_plain (FormulaLine d) = true
is_plain (LearntLine d) = false
is_plain (BoundLine x k v) = true
is_plain (QueryLine d) = true
is_plain (RefutedLine d) = false
is_plain ModelLine = true

learnt_plain : (line : LogLine) → is_plain line ≡ true → learnt line ≡ []
learnt_plain (FormulaLine d) h = refl
learnt_plain (LearntLine d) h = cc
learnt_plain (BoundLine x k v) h = refl
learnt_plain (QueryLine d) h = refl
learnt_plain (RefutedLine d) h = refl
learnt_plain ModelLine h = refl

pub same_line : (lines : Lines) (i : ℕ) (a b : LogLine) → slice_get lines i ≡ Some a → slice_get lines i ≡ Some b → a ≡ b
same_line lines i a b e f = sym (get_or_from_slice_get lines i a a e) ∙ get_or_from_slice_get lines i b a f

pub hinted_plain : (lines : Lines) (wanted : List ℕ) (i : ℕ) (answer : HintLines) (line : LogLine) → AreRefutedLines lines wanted →
    slice_get lines i ≡ Some line → is_plain line ≡ true → IsHinted lines wanted i answer → IsHinted lines wanted (i + 1) answer
hinted_plain lines wanted i answer line refuted e plain h = hinted_past lines wanted i answer line e (learnt_plain line plain) (λ among.
    let r = refuted i among in
    let same : line ≡ RefutedLine r.0 = same_line lines i line (RefutedLine r.0) e r.1 in
    let lacks : is_plain line ≡ false = ap is_plain same in
    absurd (both_ways (is_plain line) lacks plain)) h

-- variables of lines
pub within_more : (m n : ℕ) (line : LogLine) → m ≤ n → IsLineWithin m line → IsLineWithin n line
within_more m n (FormulaLine d) le h = there_more m n d le h
within_more m n (LearntLine d) le h = there_more m n d le h
within_more m n (BoundLine x k v) le h = tt
within_more m n (QueryLine d) le h = tt
within_more m n (RefutedLine d) le h = there_more m n d le h
within_more m n ModelLine le h = tt

pub within_at : (vars : ℕ) (lines : Lines) (i : ℕ) (line : LogLine) → All (IsLineWithin vars) lines → slice_get lines i ≡ Some line → IsLineWithin vars line
within_at vars lines i line all e = subst (IsLineWithin vars) (get_or_from_slice_get lines i line line e) (all i line (slice_get_within lines i line e))

pub within_next : (m n most : ℕ) (lines : Lines) (i : ℕ) (line : LogLine) → slice_get lines i ≡ Some line → most ≡ max n m →
    All (IsLineWithin m) (take i lines) → IsLineWithin n line → All (IsLineWithin most) (take (i + 1) lines)
within_next m n most lines i line e is all here =
    let lt = slice_get_within lines i line e in
    All-more (IsLineWithin most) lines i line lt
    (All-weaker (IsLineWithin m) (IsLineWithin most) (λ k h. within_more m most k (omega (arith, is)) h) (take i lines) all)
    (subst (IsLineWithin most) (sym (get_or_from_slice_get lines i line line e)) (within_more n most line (omega (arith, is)) here))

pub within_all : (most : ℕ) (lines : Lines) (i : ℕ) → length lines ≤ i → All (IsLineWithin most) (take i lines) → All (IsLineWithin most) lines
within_all most lines i le all = subst (λ (ls : Lines). All (IsLineWithin most) ls) (take_all i lines le) all
