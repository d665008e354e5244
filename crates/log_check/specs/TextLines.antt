-- The lines of a log's text: which of them are Bound lines without a fault, and the next one's fault.
use Rattle.std.specs.Prelude.{◌≡◌, ◌≢◌, ◌⊎◌, ℕ, ⊤, List, [], ◌∷◌, ◌++◌, All, flat_map, codes}
use Rattle.outside_io.specs.Fields.{LacksByte, IsCutAt}
use Rattle.refute_log.specs.declared.line.LogLine.{LogLine}
use Rattle.refute_log.specs.declared.line.LogLine.TheVariants.{Formula, Learnt, Bound, Query, Refuted, Model}
use Rattle.refute_log.specs.declared.fault.LogWhat.{LogWhat}
use Rattle.refute_log.specs.declared.fault.LogWhat.TheVariants as whats
use Rattle.refute_log.specs.LineText.{IsTextOf, HasLineFault}
use Rattle.refute_log.specs.Told.{Lines}

-- the text is these lines, each with its line feed behind it, and then what has no line feed
pub record AreTextLines (text : List ℕ) (lines : List (List ℕ)) : Type 0 where
  pub rest : List ℕ
  pub each : All (LacksByte 10) lines
  pub unended : LacksByte 10 rest
  pub spelled : text ≡ flat_map (λ line. line ++ codes "\n") lines ++ rest

-- the line, where it is a Bound line
abbrev pub told_bound_line : LogLine → Lines
told_bound_line (Formula c) = []
told_bound_line (Learnt c) = []
told_bound_line (Bound c k x) = Bound c k x ∷ []
told_bound_line (Query c) = []
told_bound_line (Refuted c) = []
told_bound_line Model = []

-- the text is that of this Bound line
abbrev pub IsBoundText : List ℕ → LogLine → Type 0
IsBoundText text line = (told_bound_line line ≡ line ∷ []) × IsTextOf text line

-- of these texts the Bound lines that they are, one after another; what is the text of no Bound line is left out
abbrev pub AreToldBounds : List (List ℕ) → Lines → Type 0
AreToldBounds [] [] = ⊤
AreToldBounds [] (line ∷ lines) = ⊥
AreToldBounds (text ∷ texts) lines =
    ((line : LogLine) × (more : Lines) × (lines ≡ line ∷ more) × IsBoundText text line × AreToldBounds texts more)
    ⊎ (((line : LogLine) → IsBoundText text line → ⊥) × AreToldBounds texts lines)

-- the Bound lines of the whole text that have no fault; its first line is taken for one like any other
pub record HasToldBounds (bytes : List ℕ) (lines : Lines) : Type 0 where
  pub texts : List (List ℕ)
  pub cut : AreTextLines bytes texts
  pub bounds : AreToldBounds texts lines

-- the next line of the text has this fault, or has no line feed
abbrev pub HasNextFault : List ℕ → LogWhat → Type 0
HasNextFault rest what =
    ((text : List ℕ) × (more : List ℕ) × IsCutAt 10 rest text more × HasLineFault text what)
    ⊎ ((what ≡ whats.Form) × (rest ≢ []) × LacksByte 10 rest)
