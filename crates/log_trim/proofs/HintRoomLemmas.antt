-- Words of lines in which hints are found.
use Rattle.std.proofs.Common.{◌≡◌, ℕ, ◌+◌, ◌<◌, List, take, get_or, ap, arith, Some}
use Rattle.std.specs.Prelude.{slice_get}
use Rattle.std.specs.List.{sum_by}
use Rattle.std.proofs.lemmas.List.Sums.{sum_by_more, sum_by_more_le}
use Rattle.std.proofs.lemmas.Option.{slice_get_within, get_or_from_slice_get}
use Rattle.log_check.specs.Expectation.{Expectation}
use Rattle.refute_log.specs.declared.line.LogLine.{LogLine}
use Rattle.refute_log.specs.Told.{Lines}
use Rattle.log_trim.specs.HintRoom.{line_words, AllowHints, LinesPassLimits}
use Rattle.log_trim.specs.Shown.{MayBeTrimmed}

pub words_more : (whole room left : ℕ) (lines : Lines) (i : ℕ) (line : LogLine) → slice_get lines i ≡ Some line →
    room + sum_by line_words (take i lines) ≡ whole → left + line_words line ≡ room → left + sum_by line_words (take (i + 1) lines) ≡ whole
words_more whole room left lines i line e is more =
    let within = slice_get_within lines i line e in
    let same = ap line_words (get_or_from_slice_get lines i line line e) in
    let next = sum_by_more line_words lines i line within in
    omega (arith, is, more, same, next)

pub words_missed : (whole room : ℕ) (lines : Lines) (i : ℕ) (line : LogLine) → slice_get lines i ≡ Some line →
    room + sum_by line_words (take i lines) ≡ whole → room < line_words line → whole < sum_by line_words lines
words_missed whole room lines i line e is over =
    let within = slice_get_within lines i line e in
    let same = ap line_words (get_or_from_slice_get lines i line line e) in
    let part = sum_by_more_le line_words lines i line within in
    omega (arith, is, over, same, part)

-- lines that were completed, or left as they are, pass where these do
pub passing : (e : Expectation) (old : Lines) (wanted : List ℕ) (new : Lines) → MayBeTrimmed e old wanted new → (AllowHints new → ⊥) →
    LinesPassLimits e old wanted
passing e old wanted new may passes = record {
  tried = new;
  which = may.completed;
  passes = passes;
}
