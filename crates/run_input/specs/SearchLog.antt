-- The log of a search: the lines that a run told, to the file that is named for them or else to the trace, and what
-- they are. The trace is the log that is handed to a run; the program's keeps no line.
use Rattle.std.specs.Prelude.{◌≡◌, ℕ, List, [], None, Some}
use Rattle.std.specs.declared.option.Option.{Option}
use Rattle.outside_io.specs.Contents.{Told, WhereTold}
use Rattle.refute_log.specs.Lines.{log_text, MayAllBeTold}
use Rattle.refute_log.specs.Told.{Lines}
use Rattle.refute_log.specs.Log.{Derives}
use Rattle.run_input.specs.Met.{Met}

-- a search told these lines, and they are those of its end
pub record HasToldEnd (IsEnd IsTold : Lines → Type 0) : Type 0 where
  pub lines : Lines
  pub told : IsTold lines
  pub ended : IsEnd lines

-- where a log told no line before, what it tells is so
abbrev pub TellsIfNew : (So : Lines → Type 0) → (old new : Lines → Type 0) → Type 0
TellsIfNew So old new = old [] → (lines : Lines) → new lines → So lines

-- where a log told no line before, what it tells derives
abbrev pub DerivesIfNew : (old new : Lines → Type 0) → Type 0
DerivesIfNew old new = TellsIfNew Derives old new

-- the file of this name is the text of these lines, and of no other list
pub record IsLogFile (name : List ℕ) (lines : Lines) (contents : Told) : Type 0 where
  pub text : contents name ≡ Some (log_text lines)
  pub formed : MayAllBeTold lines

-- where contents are told, the file of this name is that at the end
abbrev pub HoldsLog : (before after : Option Told) → List ℕ → Lines → Type 0
HoldsLog before after name lines = WhereTold before after (λ _ contents. IsLogFile name lines contents)

-- the run told these lines: the file that is named for a log has them, or where none is named, the trace was told them
abbrev pub IsRunLog : (named : Option (List ℕ)) → Met → (traced : Lines → Type 0) → Lines → Type 0
IsRunLog None met traced lines = traced lines
IsRunLog (Some name) met traced lines = HoldsLog met.before.contents met.after.contents name lines
