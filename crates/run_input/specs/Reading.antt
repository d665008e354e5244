-- What reading an input gives.
use Rattle.std.specs.Prelude.{◌≡◌, ◌⊎◌, ℕ, List, ⊤}
use Rattle.std.specs.declared.option.Option.{Option}
use Rattle.outside_io.specs.Contents.{Told, IsFileWhereTold}
use Rattle.run_input.specs.declared.fault.RunFault.TheVariants.{Long, ReadFailed}
use Rattle.run_input.specs.declared.input.InputRefusal.{InputRefusal}
use Rattle.run_input.specs.declared.input.InputRefusal.TheVariants as refusals
use Rattle.run_input.specs.Input.{IsLong, IsShort, HasFileFault, IsOfFile}
use Rattle.run_input.specs.Met.{Met, HasRead, ReadFails}
use Rattle.run_input.specs.Answer.{InputFile}

-- these are the bytes of the input, and they aren't more than it may have
pub record IsInput (input : InputFile) (contents : Option Told) (bytes : List ℕ) : Type 0 where
  pub is_file : IsFileWhereTold contents input.name bytes
  pub short : IsShort input.limit bytes

-- the input was read and is too long, or it couldn't be read
abbrev pub IsUnreadInput : InputFile → Met → InputRefusal → Type 0
IsUnreadInput input met (refusals.Fault fault) =
    (IsOfFile (IsLong input.limit) input.name met.before.contents × HasRead met 1 × (fault ≡ Long input.number))
    ⊎ (ReadFails met 0 × (fault ≡ ReadFailed input.number))
IsUnreadInput input met refusals.Memory = ⊤

-- the file was read and has this fault, or it couldn't be read
abbrev pub IsRefusalOf : List ℕ → Met → InputRefusal → Type 0
IsRefusalOf name met (refusals.Fault fault) =
    (IsOfFile (λ bytes. HasFileFault bytes fault) name met.before.contents × HasRead met 1)
    ⊎ (ReadFails met 0 × (fault ≡ ReadFailed 1))
IsRefusalOf name met refusals.Memory = ⊤
