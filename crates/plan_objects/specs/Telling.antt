-- Which fault of signals is found first, and what is told with it.
use Rattle.std.specs.Prelude.{◌≡◌, ◌<◌, ℕ, List, [], length, Option, Some, None, slice_get, ℤ}
use Rattle.std.specs.Option.{unwrap_or}
use Rattle.plan_core.specs.declared.topology.Topology.{Topology}
use Rattle.plan_core.specs.declared.topology.Track.{Track}
use Rattle.plan_core.specs.Topology.{IsMileage}
use Rattle.railml_read.specs.declared.rows.Elem.{Elem}
use Rattle.railml_read.specs.Formed.{AreFormed}
use Rattle.railml_faults.specs.Faults.{IsNoNumber}
use Rattle.railml_read.specs.declared.rows.SignalElem.{SignalElem}
use Rattle.plan_objects.specs.declared.fault.SignalWhat.{SignalWhat}
use Rattle.plan_objects.specs.declared.fault.SignalWhat.TheVariants.{TooMany, Missing, Id}
use Rattle.plan_objects.specs.declared.finding.Finding.{Finding}
use Rattle.plan_objects.specs.Rows.{Station, id_of, HasPositionAt}
use Rattle.plan_objects.specs.Faults.{first_lacking, HasSignalFault, number_of}
use Rattle.plan_core.specs.Searching.{NoneBefore, IsFirst}

-- signal i has this fault, whatever is told with it
abbrev pub HasKind : Station → List SignalElem → SignalWhat → ℕ → SignalElem → Type 0
HasKind s signals what i signal = (first : List ℕ) × HasSignalFault s signals what i signal first

-- no signal has a fault with a number below this one
pub record HasNoneBelow (s : Station) (signals : List SignalElem) (number : ℕ) : Type 0 where
  pub none : (what : SignalWhat) → number_of what < number →
      NoneBefore (HasKind s signals what) signals (length signals)

-- of all kinds this is the lowest that a signal has, and this is the first signal that has it
pub record IsLowest (s : Station) (signals : List SignalElem) (what : SignalWhat) (i : ℕ) : Type 0 where
  pub first : IsFirst (HasKind s signals what) signals i
  pub lower : HasNoneBelow s signals (number_of what)

-- a fault of one of the kinds below a number is found, or there is none
abbrev pub FindsBelow : Station → List SignalElem → ℕ → Option Finding → Type 0
FindsBelow s signals number (Some found) = IsLowest s signals found.what found.signal
FindsBelow s signals number None = HasNoneBelow s signals number

-- the text that is told of a signal with this fault
abbrev pub text_told : SignalElem → SignalWhat → List ℕ
text_told signal TooMany = []
text_told signal Missing = unwrap_or (first_lacking signal) []
text_told signal Id = []
text_told signal what = id_of signal

-- the text is there, and isn't no number
abbrev pub IsGiven : Option (List ℕ) → Type 0
IsGiven None = ⊥
IsGiven (Some text) = IsNoNumber (Some text) → ⊥

-- a signal whose position, and whose mileage where it has one, are numbers
pub record HasNumbers (signal : SignalElem) : Type 0 where
  pub position : IsGiven signal.pos
  pub mileage : IsNoNumber signal.abs_pos → ⊥

-- a signal that stands on a track, with what its edge and its mileage are told from
pub record StandsOn (rows : List Elem) (t : Topology) (signal : SignalElem) : Type 0 where
  pub formed : AreFormed rows
  pub track : Track
  pub on : slice_get t.tracks signal.track ≡ Some track
  pub begin : (z : ℤ) × HasPositionAt rows track.begin.at z
  pub end : (z : ℤ) × HasPositionAt rows track.end.at z
  pub start : IsMileage track.begin.mile.0
  pub numbers : HasNumbers signal

-- each of the signals does
pub record AllStand (rows : List Elem) (t : Topology) (signals : List SignalElem) : Type 0 where
  pub each : (i : ℕ) (signal : SignalElem) → slice_get signals i ≡ Some signal → StandsOn rows t signal
