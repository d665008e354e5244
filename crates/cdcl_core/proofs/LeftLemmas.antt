-- What a log tells after an error, and how many Learnt lines it counts.
use Rattle.std.proofs.Common.{◌≡◌, ℕ, zero, suc, ◌+◌, ◌<◌, ◌≤◌, List, [], ◌∷◌, ◌++◌, map, refl, sym, ◌∙◌, ap, subst, inl, inr, arith, append-nil}
use Rattle.std.specs.Prelude.{Result, Ok, Err, OnErr}
use Rattle.std.proofs.lemmas.Grind.{flat_map-append}
use Rattle.std.proofs.lemmas.List.Concat.{flat_map-cons}
use Rattle.outside_io.specs.Counts.{next_count, rose_by}
use Rattle.cnf_core.specs.Lit.{Literal}
use Rattle.cnf_core.specs.Clause.{Clauses}
use Rattle.refute_log.specs.declared.line.LogLine.{LogLine}
use Rattle.refute_log.specs.declared.line.LogLine.TheVariants.{Formula, Learnt, Query}
use Rattle.refute_log.specs.Told.{Lines, AddsLine, TellsNoMore}
use Rattle.refute_log.specs.Log.{clause_line, clause_lines, Derives}
use Rattle.refute_log.proofs.LogLemmas.{flat_map_last}
use Rattle.cdcl_core.specs.declared.fault.SolveFault.{SolveFault}
use Rattle.cdcl_core.specs.declared.answer.Answer.{Answer}
use Rattle.cdcl_core.specs.declared.answer.Answer.TheVariants.{Model, Refuted, Spent, Room}
use Rattle.cdcl_core.specs.Belongs.{EndsWith, HasSpent, HasCounted, GivesAtMost, search_lines}
use Rattle.cdcl_core.specs.Rounds.{BreaksOff}
use Rattle.refute_log.proofs.StepLemmas.{learnt_no_clauses, same_clauses, rose_both}

-- ---- Formula and Bound lines

pub clause_behind : (lines more : Lines) → clause_lines more ≡ [] → clause_lines (lines ++ more) ≡ clause_lines lines
clause_behind lines more none = flat_map-append clause_line lines more ∙ ap (λ (ls : Lines). clause_lines lines ++ ls) none ∙ append-nil (clause_lines lines)

pub clause_ending : (answer : Answer) (assume : List Literal) (ending : Lines) → EndsWith answer assume ending → clause_lines ending ≡ []
clause_ending Model assume ending e = ap clause_lines e
clause_ending Refuted assume ending e = ap clause_lines e.is
clause_ending Spent assume ending e = ap clause_lines e
clause_ending Room assume ending e = ap clause_lines e

pub clause_searched : (answer : Answer) (assume : List Literal) (cs : Clauses) (ending : Lines) → EndsWith answer assume ending →
    clause_lines (search_lines assume cs ending) ≡ []
clause_searched answer assume cs ending e = flat_map-cons clause_line (Query assume) (map Learnt cs ++ ending)
    ∙ clause_behind (map Learnt cs) ending (clause_ending answer assume ending e) ∙ learnt_no_clauses cs

-- ---- what is told: nothing more, a line was refused, or a line that isn't a Formula or Bound line

pub left_same : (before P : Lines → Type 0) → ((a b : Lines) → before a → before b → a ≡ b) → ((lines : Lines) → P lines → Derives lines) →
    BreaksOff before before P
left_same before P one derives lines told more m =
    let e : lines ≡ more = one lines more told m in
    record { derives = λ p. subst Derives e (derives lines p); gives = ap clause_lines (sym e) }

pub left_refused : (before now P : Lines → Type 0) → ((a b : Lines) → before a → before b → a ≡ b) → TellsNoMore before now →
    ((lines : Lines) → P lines → Derives lines) → BreaksOff before now P
left_refused before now P one fewer derives lines told more m = left_same before P one derives lines told more (fewer more m)

pub left_told : (before now P : Lines → Type 0) (line : LogLine) → clause_line line ≡ [] → ((a b : Lines) → now a → now b → a ≡ b) → AddsLine before now line →
    ((lines : Lines) → P lines → Derives (lines ++ line ∷ [])) → BreaksOff before now P
left_told before now P line none one adds derives lines told more m =
    let e : lines ++ line ∷ [] ≡ more = one (lines ++ line ∷ []) more (adds lines told) m in
    record { derives = λ p. subst Derives e (derives lines p); gives = ap clause_lines (sym e) ∙ same_clauses lines line none }

-- a clause is given

pub most_same : (before : Lines → Type 0) (c : List Literal) → ((a b : Lines) → before a → before b → a ≡ b) → GivesAtMost before before c
most_same before c one lines told more m = inl (ap clause_lines (one more lines m told))

pub most_refused : (before now : Lines → Type 0) (c : List Literal) → ((a b : Lines) → before a → before b → a ≡ b) → TellsNoMore before now →
    GivesAtMost before now c
most_refused before now c one fewer lines told more m = most_same before c one lines told more (fewer more m)

pub most_told : (before now : Lines → Type 0) (c : List Literal) → ((a b : Lines) → now a → now b → a ≡ b) → AddsLine before now (Formula c) →
    GivesAtMost before now c
most_told before now c one adds lines told more m = inr (ap clause_lines (one more (lines ++ Formula c ∷ []) m (adds lines told))
    ∙ flat_map_last clause_line lines (Formula c))

-- ---- how many are counted

pub counted_none : (budget count after : ℕ) → after ≡ count → HasCounted budget count after
counted_none budget count after e = record { number = 0; few = omega arith; counted = e }

pub counted_one : (count after : ℕ) → after ≡ next_count count → HasCounted 1 count after
counted_one count after e = record { number = 1; few = omega arith; counted = e }

-- after some rounds
pub counted_more : (budget told count between after : ℕ) → told < budget → between ≡ rose_by told count → HasCounted 1 between after →
    HasCounted budget count after
counted_more budget told count between after lt e h = record {
  number = told + h.number;
  few = let f = h.few in omega arith;
  counted = h.counted ∙ ap (rose_by h.number) e ∙ rose_both told h.number count;
}

pub counted_after : {T : Type 0} (res : Result T SolveFault) (budget count between after : ℕ) → between ≡ rose_by budget count → OnErr res (after ≡ between) →
    OnErr res (HasCounted budget count after)
counted_after (Ok x) budget count between after e h = tt
counted_after (Err f) budget count between after e h = record { number = budget; few = omega arith; counted = h ∙ e }

pub counted_from : {T : Type 0} (res : Result T SolveFault) (budget count between after : ℕ) → between ≡ count → OnErr res (HasCounted budget between after) →
    OnErr res (HasCounted budget count after)
counted_from (Ok x) budget count between after e h = tt
counted_from (Err f) budget count between after e h = record { number = h.number; few = h.few; counted = h.counted ∙ ap (rose_by h.number) e }

pub within_spent : (answer : Answer) (budget n : ℕ) → HasSpent answer budget n → n ≤ budget
within_spent Model budget n h = h
within_spent Refuted budget n h = h
within_spent Spent budget n h = let e = h in omega arith
within_spent Room budget n h = h
