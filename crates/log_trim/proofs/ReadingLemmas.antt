-- The lines of a log's text, one after another.
use Rattle.std.proofs.Common.{◌≡◌, ◌≤◌, ℕ, ◌+◌, List, [], ◌∷◌, ◌++◌, length, take, Some, None, inl, inr, refl, sym, ◌∙◌, ap, subst, arith, append-nil}
use Rattle.std.proofs.Common.{append_assoc, length-append}
use Rattle.std.specs.Prelude.{Contains, Option, MatchOption, flat_map, slice_get}
use Rattle.std.proofs.lemmas.Option.{slice_get_within, get_or_from_slice_get}
use Rattle.plan_core.proofs.Listing.{Contains-head, Contains-flat_map}
use Rattle.plan_core.proofs.ListFacts.{each_pushed}
use Rattle.cnf_core.specs.Lit.{Literal}
use Rattle.refute_log.specs.declared.line.LogLine.{LogLine}
use Rattle.refute_log.specs.declared.line.LogLine.TheVariants.{Formula, Learnt, Bound, Query, Refuted, Model}
use Rattle.refute_log.specs.declared.fault.LogWhat.{LogWhat}
use Rattle.refute_log.specs.Lines.{header, ended_text, log_text, MayBeTold, MayAllBeTold}
use Rattle.refute_log.specs.Told.{Lines}
use Rattle.refute_log.specs.Log.{given, learnt, clause_line, clause_lines}
use Rattle.refute_log.proofs.LogLemmas.{flat_map_last}
use Rattle.refute_log.proofs.TextLemmas.{log_text_more}
use Rattle.refute_check.specs.declared.told_bound.ToldBound.{ToldBound}
use Rattle.refute_check.specs.Lacking.{told_bound}
use Rattle.refute_check.proofs.JudgeLemmas.{nothing}
use Rattle.log_check.specs.TextLines.{HasNextFault}
use Rattle.log_check.proofs.CutLemmas.{line_goes_on, line_has_no_fault, no_next_fault, log_fronts}
use Rattle.log_check.proofs.JudgingLemmas.{line_leaves_less}
use Rattle.log_trim.proofs.HintedLemmas.{gathered_next}
use Rattle.log_trim.specs.TrimmedLog.{IsSpelledLog}
use Rattle.log_trim.specs.Shown.{IsSomeLog}

-- what is said of an answer that isn't there
pub where_none : {X : Type 0} (P : Type 0) (Q : X → Type 0) (r : Option X) → MatchOption r P Q → ((x : X) → r ≡ Some x → ⊥) → P
where_none P Q None h other = h
where_none P Q (Some x) h other = absurd (other x refl)

-- these are lines of the log, and the rest follows
pub record HasReadTo (log : List ℕ) (lines : Lines) (rest : List ℕ) : Type 0 where
  pub formed : MayAllBeTold lines
  pub spelled : log ≡ log_text lines ++ rest

pub read_none : (log rest : List ℕ) (lines : Lines) → lines ≡ [] → log ≡ header ++ rest → HasReadTo log lines rest
read_none log rest lines none is =
    let nothing_more : header ≡ header ++ [] = sym (append-nil header) in
    subst (λ (ls : Lines). HasReadTo log ls rest) (sym none) (record { formed = tt; spelled = is ∙ ap (λ (t : List ℕ). t ++ rest) nothing_more })

pub read_next : (log rest after : List ℕ) (lines new : Lines) (line : LogLine) → MayBeTold line → rest ≡ ended_text line ++ after → new ≡ lines ++ line ∷ [] →
    HasReadTo log lines rest → HasReadTo log new after
read_next log rest after lines new line told is pushed h = subst (λ (ls : Lines). HasReadTo log ls after) (sym pushed) (record {
  formed = each_pushed MayBeTold lines line h.formed told;
  spelled =
      h.spelled ∙ ap (λ (t : List ℕ). log_text lines ++ t) is ∙ sym (append_assoc (log_text lines) (ended_text line) after)
      ∙ ap (λ (t : List ℕ). t ++ after) (log_text_more lines line);
})

pub read_whole : (log rest : List ℕ) (lines : Lines) → rest ≡ [] → HasReadTo log lines rest → IsSpelledLog log lines
read_whole log rest lines empty h = record {
  formed = h.formed;
  spelled = h.spelled ∙ ap (λ (t : List ℕ). log_text lines ++ t) empty ∙ append-nil (log_text lines);
}

-- where a line has a fault no lines are so spelled
pub read_faulty : (log rest : List ℕ) (lines : Lines) (what : LogWhat) → HasReadTo log lines rest → HasNextFault rest what → IsSomeLog log → ⊥
read_faulty log rest lines what h fault (all, is) =
    elim (log_fronts log lines all rest [] h.formed is.formed h.spelled (is.spelled ∙ sym (append-nil (log_text all)))) [
      | inl b ↦ behind b.more b.told b.rest
      | inr b ↦ before b.more b.rest
    ]
  where
    none_left : rest ≡ [] → ⊥
    none_left none = no_next_fault what (subst (λ (t : List ℕ). HasNextFault t what) none fault)

    behind : (more : Lines) → MayAllBeTold more → rest ≡ flat_map ended_text more ++ [] → ⊥
    behind [] told e = none_left e
    behind (l ∷ more) told e = line_has_no_fault l rest (flat_map ended_text more ++ []) what told.0
        (e ∙ append_assoc (ended_text l) (flat_map ended_text more) []) fault

    before : (more : Lines) → [] ≡ flat_map ended_text more ++ rest → ⊥
    before [] e = none_left (sym e)
    before (l ∷ more) e = line_goes_on l (flat_map ended_text more ++ rest) (e ∙ append_assoc (ended_text l) (flat_map ended_text more) rest)

-- nor where the first line is another
pub read_headless : (log : List ℕ) → ((rest : List ℕ) → log ≡ header ++ rest → ⊥) → IsSomeLog log → ⊥
read_headless log lacks some = lacks (flat_map ended_text some.0) some.1.spelled

-- ---- the lines at places

pub one_learnt : (line : LogLine) (c : List Literal) → line ≡ Learnt c → length (learnt line) ≡ 1
one_learnt line c is = ap (λ (l : LogLine). length (learnt l)) is

pub no_learnt : (line : LogLine) → ((c : List Literal) → line ≡ Learnt c → ⊥) → length (learnt line) ≡ 0
no_learnt (Formula c) other = refl
no_learnt (Learnt c) other = absurd (other c refl)
no_learnt (Bound d k x) other = refl
no_learnt (Query c) other = refl
no_learnt (Refuted c) other = refl
no_learnt Model other = refl

pub bounds_next : (lines : Lines) (i : ℕ) (line : LogLine) (old new : List ToldBound) → slice_get lines i ≡ Some line →
    old ≡ flat_map told_bound (take i lines) → new ≡ old ++ told_bound line → new ≡ flat_map told_bound (take (i + 1) lines)
bounds_next lines i line old new at is pushed = pushed ∙ ap (λ (bs : List ToldBound). bs ++ told_bound line) is ∙ sym (gathered_next told_bound lines i line at)

-- each line has a byte at least
few_lines : (lines : Lines) → length lines ≤ length (flat_map ended_text lines)
few_lines [] = omega arith
few_lines (line ∷ lines) =
    let more = few_lines lines in
    let less = line_leaves_less (flat_map ended_text (line ∷ lines)) (flat_map ended_text lines) line refl in
    omega (arith, more, less)

pub short_log : (log : List ℕ) (lines : Lines) → IsSpelledLog log lines → length lines ≤ length log
short_log log lines h =
    let few = few_lines lines in
    let is : length log ≡ length header + length (flat_map ended_text lines) = ap length h.spelled ∙ length-append header (flat_map ended_text lines) in
    omega (arith, few, is)
