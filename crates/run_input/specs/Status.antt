-- How a run ends: the number of each status, and what some of them have in common.
use Rattle.std.specs.Prelude.{◌≡◌, ℕ}
use Rattle.run_input.specs.declared.status.Status.{Status}
use Rattle.run_input.specs.declared.status.Status.TheVariants.{Done, Refused, WordsRefused, NoDrawing, Unfinished}
use Rattle.run_input.specs.declared.status.Status.TheVariants.{Unread, Unwritten, NoMemory, Broken}

-- what the program ends with; no two statuses have one number
abbrev pub number_of : Status → ℕ
number_of Done = 0
number_of Refused = 1
number_of WordsRefused = 2
number_of NoDrawing = 3
number_of Unfinished = 4
number_of Unread = 5
number_of Unwritten = 6
number_of NoMemory = 7
number_of Broken = 8

-- the run came to what its command is there for
abbrev pub IsAnswered : Status → Type 0
IsAnswered Done = Unit {0}
IsAnswered Refused = ⊥
IsAnswered WordsRefused = ⊥
IsAnswered NoDrawing = Unit {0}
IsAnswered Unfinished = Unit {0}
IsAnswered Unread = ⊥
IsAnswered Unwritten = ⊥
IsAnswered NoMemory = ⊥
IsAnswered Broken = Unit {0}

-- the words or an input were refused, or an input couldn't be read: the answer is one fault line
abbrev pub IsRefused : Status → Type 0
IsRefused Done = ⊥
IsRefused Refused = Unit {0}
IsRefused WordsRefused = Unit {0}
IsRefused NoDrawing = ⊥
IsRefused Unfinished = ⊥
IsRefused Unread = Unit {0}
IsRefused Unwritten = ⊥
IsRefused NoMemory = ⊥
IsRefused Broken = ⊥

-- the run was cut short: what was due isn't written, or not whole
abbrev pub IsCutShort : Status → Type 0
IsCutShort Done = ⊥
IsCutShort Refused = ⊥
IsCutShort WordsRefused = ⊥
IsCutShort NoDrawing = ⊥
IsCutShort Unfinished = ⊥
IsCutShort Unread = ⊥
IsCutShort Unwritten = Unit {0}
IsCutShort NoMemory = Unit {0}
IsCutShort Broken = ⊥

-- the number is that of a status with this property
abbrev pub EndsAs : ℕ → (Status → Type 0) → Type 0
EndsAs number P = (status : Status) × (number ≡ number_of status) × P status
