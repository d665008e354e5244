-- What is left of a log: hinted lines that show the Refuted lines that are wanted.
use Rattle.std.specs.Prelude.{◌≡◌, ◌≤◌, ℕ, ◌+◌, ⊤, false, Some, List, [], ◌∷◌, ◌++◌, Any, Contains, length, map}
use Rattle.std.specs.Prelude.{flat_map, slice_get}
use Rattle.cnf_core.specs.Lit.{Literal, negate, has}
use Rattle.cnf_core.specs.Clause.{Clauses}
use Rattle.refute_log.specs.declared.line.LogLine.TheVariants.{Refuted as RefutedLine}
use Rattle.refute_log.specs.Told.{Lines}
use Rattle.refute_log.specs.Log.{given}
use Rattle.hint_log.specs.declared.hint_line.HintLine.{HintLine}
use Rattle.hint_log.specs.declared.hint_line.HintLine.TheVariants.{Learnt, Refuted}
use Rattle.hint_log.specs.Hint.{shown_lits, hints_of, numbered, LeavesOne}
use Rattle.hint_log.specs.Checked.{clauses_learnt}
use Rattle.hint_log.specs.HintedLines.{HintLines, line_of, AreGood}

-- a Refuted line is one that is wanted
abbrev pub IsWanted : List ℕ → ℕ → HintLine → Type 0
IsWanted wanted p (Learnt lits hints) = ⊤
IsWanted wanted p (Refuted lits hints) = Contains wanted p

-- the line at this place of the log is the one that the hinted line is, and a Refuted line is wanted
pub record IsLineAt (lines : Lines) (wanted : List ℕ) (p : ℕ) (line : HintLine) : Type 0 where
  pub there : slice_get lines p ≡ Some (line_of line)
  pub asked : IsWanted wanted p line

-- the hinted lines stand in the log at these places, which rise, from low on and below high
abbrev pub StandAt : Lines → List ℕ → ℕ → ℕ → List ℕ → HintLines → Type 0
StandAt lines wanted low high [] [] = low ≤ high
StandAt lines wanted low high (p ∷ places) (line ∷ rest) = (low ≤ p) × IsLineAt lines wanted p line
    × StandAt lines wanted (p + 1) high places rest
StandAt lines wanted low high [] (line ∷ rest) = ⊥
StandAt lines wanted low high (p ∷ places) [] = ⊥

-- some line names the clause of this number
abbrev pub IsNamedLater : ℕ → HintLines → Type 0
IsNamedLater n lines = Any (λ line. Contains (hints_of line) n) lines

-- behind so many clauses, each Learnt line is a hint of a later line
abbrev pub AreUsed : ℕ → HintLines → Type 0
AreUsed count [] = ⊤
AreUsed count (Learnt lits hints ∷ rest) = IsNamedLater (count + 1) rest × AreUsed (count + 1) rest
AreUsed count (Refuted lits hints ∷ rest) = AreUsed count rest

-- the literal stands in a clause that one of the hints names
abbrev pub IsInNamed : Clauses → Literal → List ℕ → Type 0
IsInNamed clauses l hints = Any (λ n. Contains (numbered clauses n) l) hints

-- each hint but the last leaves a literal that is new to the set, and whose negation stands in a clause that a later
-- hint names; it joins the set
abbrev pub AreLean : Clauses → List Literal → List ℕ → Type 0
AreLean clauses set [] = ⊤
AreLean clauses set (n ∷ []) = ⊤
AreLean clauses set (n ∷ m ∷ ns) = (l : Literal) × LeavesOne clauses (has set) n l × (has set l ≡ false)
    × IsInNamed clauses (negate l) (m ∷ ns) × AreLean clauses (set ++ l ∷ []) (m ∷ ns)

-- the hints of each line are lean after the clauses and the Learnt lines before it, beginning with the negations of its
-- literals
abbrev pub HaveLeanHints : Clauses → HintLines → Type 0
HaveLeanHints clauses [] = ⊤
HaveLeanHints clauses (line ∷ rest) = AreLean clauses (map negate (shown_lits line)) (hints_of line)
    × HaveLeanHints (clauses ++ clauses_learnt line) rest

-- these lines are left of a log: they stand in it at places that rise; each wanted place is among them;
-- each Learnt line is a hint of a later one; and each line is good after the clauses of the Formula lines
-- and the Learnt lines before it, by hints that are lean
pub record IsTrimmed (lines : Lines) (wanted : List ℕ) (answer : HintLines) : Type 0 where
  pub places : List ℕ
  pub stand : StandAt lines wanted 0 (length lines) places answer
  pub all : (p : ℕ) → Contains wanted p → Contains places p
  pub used : AreUsed (length (flat_map given lines)) answer
  pub good : AreGood (flat_map given lines) answer
  pub lean : HaveLeanHints (flat_map given lines) answer

-- the places are those of Refuted lines
abbrev pub AreRefutedLines : Lines → List ℕ → Type 0
AreRefutedLines lines wanted = (p : ℕ) → Contains wanted p →
    (c : List Literal) × (slice_get lines p ≡ Some (RefutedLine c))
