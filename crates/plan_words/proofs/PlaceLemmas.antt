-- Where arguments stand, and that faults of one argument stand at its words.
use Rattle.std.proofs.Common.{ℕ, ◌+◌, ◌<◌, ◌≤◌, true, false, None, Some, List, [], ◌∷◌, ◌++◌, length, refl, arith}
use Rattle.std.specs.Prelude.{◌*◌, if◌then◌else◌}
use Rattle.plan_words.specs.declared.command.CommandWord.{CommandWord}
use Rattle.plan_words.specs.declared.arguments.Argument.{Argument}
use Rattle.plan_words.specs.declared.arguments.Argument.TheVariants.{Name, Setting}
use Rattle.plan_words.specs.declared.fault.WordWhat.{WordWhat}
use Rattle.plan_words.specs.declared.fault.WordWhat.TheVariants.{NoCommand, UnknownCommand, MissingName, ExtraWord, UnknownOption, RepeatedOption, BadValue}
use Rattle.plan_words.specs.Arguments.{is_option, arguments_from}
use Rattle.plan_words.specs.WordFaults.{HasWordFault}
use Rattle.plan_words.specs.Soundness.{argument_place, next_place, StandFrom}

pub arguments_stand : (at : ℕ) (words : List (List ℕ)) → StandFrom at (arguments_from at words)
arguments_stand at [] = tt
arguments_stand at (word ∷ []) =
    elim (is_option word) as (λ b. StandFrom at ((if b then Setting at word None else Name at word) ∷ [])) [ true ↦ (refl, tt) | false ↦ (refl, tt) ]
arguments_stand at (word ∷ next ∷ words) =
    elim (is_option word) as (λ b. StandFrom at (if b then Setting at word (Some next) ∷ arguments_from (at + 2) words else Name at word ∷ arguments_from
    (at + 1) (next ∷ words))) [
      | true ↦ (refl, arguments_stand (at + 2) words)
      | false ↦ (refl, arguments_stand (at + 1) (next ∷ words))
    ]

-- an argument reaches over at least one word and at most two
pub next_within : (argument : Argument) → (argument_place argument < next_place argument) × (next_place argument ≤ argument_place argument + 2)
next_within (Name at word) = (omega arith, omega arith)
next_within (Setting at word value) = (omega arith, omega arith)

-- a later argument stands behind
pub stands_behind : (at : ℕ) (before : List Argument) (argument : Argument) (after : List Argument) → StandFrom at (before ++ argument ∷ after) →
    at ≤ argument_place argument
stands_behind at [] argument after h = let e = h.0 in omega (arith, e)
stands_behind at (first ∷ before) argument after h =
    let e = h.0 in
    let later = stands_behind (next_place first) before argument after h.1 in
    let within = (next_within first).0 in
    omega (arith, e, later, within)

-- and not far behind
pub stands_near : (at : ℕ) (before : List Argument) (argument : Argument) (after : List Argument) → StandFrom at (before ++ argument ∷ after) →
    argument_place argument ≤ at + 2 * length before
stands_near at [] argument after h = let e = h.0 in omega (arith, e)
stands_near at (first ∷ before) argument after h =
    let e = h.0 in
    let later = stands_near (next_place first) before argument after h.1 in
    let within = (next_within first).1 in
    omega (arith, e, later, within)

-- ---- faults stand at the argument's own words

pub fault_from : (command : CommandWord) (before : List Argument) (argument : Argument) (what : WordWhat) (position : ℕ) →
    HasWordFault command before argument what position → argument_place argument ≤ position
fault_from command before (Name at name) NoCommand position h = absurd h
fault_from command before (Name at name) UnknownCommand position h = absurd h
fault_from command before (Name at name) MissingName position h = absurd h
fault_from command before (Name at name) ExtraWord position h = let e = h.1 in omega (arith, e)
fault_from command before (Name at name) UnknownOption position h = absurd h
fault_from command before (Name at name) RepeatedOption position h = absurd h
fault_from command before (Name at name) BadValue position h = let e = h.1 in omega (arith, e)
fault_from command before (Setting at word value) NoCommand position h = absurd h
fault_from command before (Setting at word value) UnknownCommand position h = absurd h
fault_from command before (Setting at word value) MissingName position h = absurd h
fault_from command before (Setting at word value) ExtraWord position h = absurd h
fault_from command before (Setting at word value) UnknownOption position h = let e = h.1 in omega (arith, e)
fault_from command before (Setting at word value) RepeatedOption position h = let e = h.1 in omega (arith, e)
fault_from command before (Setting at word None) BadValue position h = omega (arith, h)
fault_from command before (Setting at word (Some value)) BadValue position h = let e = h.3 in omega (arith, e)

pub fault_to : (command : CommandWord) (before : List Argument) (argument : Argument) (what : WordWhat) (position : ℕ) →
    HasWordFault command before argument what position → position < next_place argument
fault_to command before (Name at name) NoCommand position h = absurd h
fault_to command before (Name at name) UnknownCommand position h = absurd h
fault_to command before (Name at name) MissingName position h = absurd h
fault_to command before (Name at name) ExtraWord position h = let e = h.1 in omega (arith, e)
fault_to command before (Name at name) UnknownOption position h = absurd h
fault_to command before (Name at name) RepeatedOption position h = absurd h
fault_to command before (Name at name) BadValue position h = let e = h.1 in omega (arith, e)
fault_to command before (Setting at word value) NoCommand position h = absurd h
fault_to command before (Setting at word value) UnknownCommand position h = absurd h
fault_to command before (Setting at word value) MissingName position h = absurd h
fault_to command before (Setting at word value) ExtraWord position h = absurd h
fault_to command before (Setting at word value) UnknownOption position h = let e = h.1 in omega (arith, e)
fault_to command before (Setting at word value) RepeatedOption position h = let e = h.1 in omega (arith, e)
fault_to command before (Setting at word None) BadValue position h = omega (arith, h)
fault_to command before (Setting at word (Some value)) BadValue position h = let e = h.3 in omega (arith, e)
