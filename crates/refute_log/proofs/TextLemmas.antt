-- How the text of a log in a file grows.
use Rattle.std.proofs.Common.{◌≡◌, ℕ, List, [], ◌∷◌, ◌++◌, None, Some, sym, ◌∙◌, ap, append_assoc}
use Rattle.std.proofs.lemmas.List.{append-nil, flat_map_more}
use Rattle.std.specs.declared.option.Option.{Option}
use Rattle.outside_io.specs.Contents.{Told, WhereTold, AppendsTo}
use Rattle.refute_log.specs.declared.line.LogLine.{LogLine}
use Rattle.refute_log.specs.Lines.{log_text, ended_text, header}
use Rattle.refute_log.specs.Told.{Lines}
use Rattle.refute_log.specs.FileLog.{IsLogText}

pub log_text_more : (lines : Lines) (line : LogLine) → log_text lines ++ ended_text line ≡ log_text (lines ++ line ∷ [])
log_text_more lines line = flat_map_more ended_text header lines line

-- one more line's text is gathered
pub text_gathered : (contents : Option Told) (name gathered now : List ℕ) (lines : Lines) (line : LogLine) → now ≡ gathered ++ ended_text line →
    IsLogText contents name gathered lines → IsLogText contents name now (lines ++ line ∷ [])
text_gathered None name gathered now lines line e h = absurd h
text_gathered (Some told) name gathered now lines line e h = (
  h.0,
  h.1,
  ap (λ (xs : List ℕ). h.0 ++ xs) e ∙ sym (append_assoc h.0 gathered (ended_text line)) ∙ ap (λ (xs : List ℕ). xs ++ ended_text line) h.2
      ∙ log_text_more lines line,
)

-- what was gathered has gone into the file
pub text_appended : (old new : Option Told) (name gathered now : List ℕ) (lines : Lines) → now ≡ [] → WhereTold old new (AppendsTo name gathered) →
    IsLogText old name gathered lines → IsLogText new name now lines
text_appended None new name gathered now lines e w h = absurd h
text_appended (Some a) None name gathered now lines e w h = absurd w
text_appended (Some a) (Some b) name gathered now lines e w h =
    (h.0 ++ gathered, w.grown h.0 h.1, ap (λ (xs : List ℕ). (h.0 ++ gathered) ++ xs) e ∙ append-nil (h.0 ++ gathered) ∙ h.2)
