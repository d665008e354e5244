-- The text of hinted lines, cut at their line feeds.
use Rattle.std.proofs.Common.{◌≡◌, ℕ, ◌+◌, ◌≤◌, List, [], ◌∷◌, ◌++◌, length, decimal, sym, ◌∙◌, ap, subst, arith, append_assoc, length-append}
use Rattle.std.specs.Borrow.{Bor}
use Rattle.outside_io.specs.Fields.{IsCutAt, spaced}
use Rattle.refute_log.specs.Lines.{log_line_text}
use Rattle.hint_log.specs.declared.hint_line.HintLine.{HintLine}
use Rattle.hint_log.specs.Hint.{hints_of}
use Rattle.hint_log.specs.HintedLines.{line_of}
use Rattle.hint_log.specs.HintText.{MayBeWritten, number_fields, hint_text, ended_hint}
use Rattle.hint_log.specs.HintFaults.{IsHintOf}
use Rattle.hint_log.specs.declared.text_fault.HintsWhat.{HintsWhat}
use Rattle.log_check.specs.declared.hint_reading.Next.{Next}
use Rattle.log_check.specs.declared.hint_reading.Next.TheVariants.{Line, Fault}
use Rattle.log_check.specs.HintRefused.{HasNextHintFault}
use Rattle.log_check.specs.HintProgress.{IsNextHint}

-- a line is longer than its hints are many
many_fields : (ns : List ℕ) → length ns ≤ length (spaced (number_fields ns))
many_fields [] = omega arith
many_fields (n ∷ ns) =
    let more = many_fields ns in
    let size = length-append (decimal n) (spaced (number_fields ns)) in
    omega arith

few_hints : (line : HintLine) (text rest more : List ℕ) → hint_text line ≡ text → rest ≡ text ++ more → length (hints_of line) ≤ length rest
few_hints line text rest more is e =
    let fields = many_fields (hints_of line) in
    let whole = ap length is in
    let size = length-append (log_line_text (line_of line)) (spaced (number_fields (hints_of line))) in
    let all = ap length e in
    let both = length-append text more in
    omega arith

-- the text of a line and what follows its line feed
pub next_line : (rest text more : List ℕ) (line : HintLine) → IsCutAt 10 rest text more → IsHintOf text line →
    MayBeWritten line × (length (hints_of line) ≤ length rest) × (rest ≡ ended_hint line ++ more)
next_line rest text more line cut is = (
  record { formed = is.spells.formed; once = is.once },
  few_hints line text rest (10 ∷ more) is.spells.spelled cut.spelled,
  cut.spelled ∙ ap (λ (t : List ℕ). t ++ 10 ∷ more) (sym is.spells.spelled) ∙ sym (append_assoc (hint_text line) (10 ∷ []) more),
)

pub line_leaves_less : (rest more : List ℕ) (line : HintLine) → rest ≡ ended_hint line ++ more → length more + 1 ≤ length rest
line_leaves_less rest more line is =
    let whole = ap length is in
    let size = length-append (ended_hint line) more in
    let feed = length-append (hint_text line) (10 ∷ []) in
    omega arith

-- what stands next, by its variant
pub fault_next : (rest : List ℕ) (n : Next) (what : HintsWhat) → n ≡ Fault what → IsNextHint rest n → HasNextHintFault rest what
fault_next rest n what is h = subst (IsNextHint rest) is h

pub line_next : (rest : List ℕ) (n : Next) (line : HintLine) (after : Bor (List ℕ)) → n ≡ Line line after → IsNextHint rest n →
    MayBeWritten line × (length (hints_of line) ≤ length rest) × (rest ≡ ended_hint line ++ after.now)
line_next rest n line after is h = subst (IsNextHint rest) is h
