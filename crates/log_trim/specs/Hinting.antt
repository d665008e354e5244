-- What is known between two lines of a log: those before stand, their clauses are taken, and they are hinted.
use Rattle.std.specs.Prelude.{◌≡◌, ◌<◌, ℕ, List, ◌++◌, All, Contains, length, flat_map, take}
use Rattle.cnf_core.specs.Clause.{Clauses}
use Rattle.refute_log.specs.Told.{Lines}
use Rattle.refute_log.specs.Log.{added, given, learnt, Derives}
use Rattle.log_trim.specs.declared.hint_trimming.Hinting.{Hinting}
use Rattle.hint_log.specs.Checked.{clauses_learnt}
use Rattle.log_trim.specs.Found.{IsFinder}
use Rattle.hint_log.specs.HintedLines.{HintLines, AreGood}
use Rattle.log_trim.specs.Trimmed.{StandAt, HaveLeanHints}
use Rattle.log_trim.specs.HintRoom.{IsLineWithin}

-- the clauses that hints of the line at a place may name: those of all Formula lines and of the Learnt lines before it
abbrev pub nameable : Lines → ℕ → Clauses
nameable lines i = flat_map given lines ++ flat_map learnt (take i lines)

-- hinted lines of all Learnt lines before a place, and of the Refuted lines there that are wanted
pub record IsHinted (lines : Lines) (wanted : List ℕ) (i : ℕ) (answer : HintLines) : Type 0 where
  pub learnt_are : flat_map clauses_learnt answer ≡ flat_map learnt (take i lines)
  pub places : List ℕ
  pub stand : StandAt lines wanted 0 i places answer
  pub all : (p : ℕ) → Contains wanted p → p < i → Contains places p
  pub good : AreGood (flat_map given lines) answer
  pub lean : HaveLeanHints (flat_map given lines) answer

-- the lines before a place stand, their clauses are taken, and they are hinted
pub record IsHinting (lines : Lines) (wanted : List ℕ) (i : ℕ) (h : Hinting) : Type 0 where
  pub derives : Derives (take i lines)
  pub finder : IsFinder (nameable lines i) (flat_map added (take i lines)) h.finder
  pub within : All (IsLineWithin h.finder.vars) lines
  pub formula : h.formula ≡ length (flat_map given (take i lines))
  pub learnt : h.learnt ≡ length (nameable lines i)
  pub hinted : IsHinted lines wanted i h.list
