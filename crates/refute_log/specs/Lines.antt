-- Lines of a log: which are well formed, and the text of each.
use Rattle.std.specs.Prelude.{◌≤◌, ℕ, Bool, true, false, ⊤, cond, codes, decimal, map, List, [], ◌∷◌, ◌++◌, length}
use Rattle.std.specs.Prelude.{flat_map}
use Rattle.std.specs.List.{AllByRecursion}
use Rattle.outside_io.specs.Criteria.{criterion_word}
use Rattle.outside_io.specs.Fields.{unended_text, line_text}
use Rattle.outside_io.specs.declared.numbers.TheConstants.{MAX_NUMBER}
use Rattle.cnf_core.specs.declared.limits.TheConstants.{LAST_VAR}
use Rattle.cnf_core.specs.Lit.{Literal}
use Rattle.cnf_core.specs.Clause.{AreThere, AreDistinct}
use Rattle.refute_log.specs.declared.line.LogLine.{LogLine}
use Rattle.refute_log.specs.declared.line.LogLine.TheVariants.{Formula, Learnt, Bound, Query, Refuted, Model}

-- a Learnt clause has a literal, each variable is 1 to 1,073,741,823 (`LAST_VAR`), and the number of a
-- Bound line is 1 to 65,535 (`MAX_NUMBER`)
abbrev pub IsWellFormed : LogLine → Type 0
IsWellFormed (Formula c) = AreThere LAST_VAR c
IsWellFormed (Learnt c) = AreThere LAST_VAR c × (1 ≤ length c)
IsWellFormed (Bound criterion k x) = (1 ≤ k) × (k ≤ MAX_NUMBER) × (1 ≤ x.0) × (x.0 ≤ LAST_VAR)
IsWellFormed (Query c) = AreThere LAST_VAR c
IsWellFormed (Refuted c) = AreThere LAST_VAR c
IsWellFormed Model = ⊤

-- each of the lines is well formed
abbrev pub AreWellFormed : List LogLine → Type 0
AreWellFormed lines = AllByRecursion IsWellFormed lines

-- no variable stands twice in the line
abbrev pub NamesOnce : LogLine → Type 0
NamesOnce (Formula c) = AreDistinct c
NamesOnce (Learnt c) = AreDistinct c
NamesOnce (Bound criterion k x) = ⊤
NamesOnce (Query c) = AreDistinct c
NamesOnce (Refuted c) = AreDistinct c
NamesOnce Model = ⊤

-- a line that a log takes, and that is read again from its text
pub record MayBeTold (line : LogLine) : Type 0 where
  pub formed : IsWellFormed line
  pub once : NamesOnce line

-- each of the lines is one that a log takes (`MayBeTold`)
abbrev pub MayAllBeTold : List LogLine → Type 0
MayAllBeTold lines = AllByRecursion MayBeTold lines

-- the line is a Learnt line
abbrev pub is_learnt : LogLine → Bool
is_learnt (Formula c) = false
is_learnt (Learnt c) = true
is_learnt (Bound criterion k x) = false
is_learnt (Query c) = false
is_learnt (Refuted c) = false
is_learnt Model = false

-- nothing in front of a positive literal's number
abbrev pub literal_sign : Bool → List ℕ
literal_sign positive = cond positive [] (codes "-")

-- the variable's number, with `-` in front where the literal is negative
abbrev pub literal_text : Literal → List ℕ
literal_text l = literal_sign l.positive ++ decimal l.var

-- fields, and `0` as the last one
abbrev pub with_zero : List (List ℕ) → List (List ℕ)
with_zero fields = fields ++ codes "0" ∷ []

-- the fields of a clause: each literal, and `0`
abbrev pub clause_fields : List Literal → List (List ℕ)
clause_fields ls = with_zero (map literal_text ls)

-- the first field of a line, a letter
abbrev pub line_letter : LogLine → List ℕ
line_letter (Formula c) = codes "f"
line_letter (Learnt c) = codes "l"
line_letter (Bound criterion k x) = codes "b"
line_letter (Query c) = codes "q"
line_letter (Refuted c) = codes "r"
line_letter Model = codes "m"

-- the other fields of a line
abbrev pub line_fields : LogLine → List (List ℕ)
line_fields (Formula c) = clause_fields c
line_fields (Learnt c) = clause_fields c
line_fields (Bound criterion k x) = criterion_word criterion ∷ decimal k ∷ decimal x.0 ∷ []
line_fields (Query c) = clause_fields c
line_fields (Refuted c) = clause_fields c
line_fields Model = []

-- the text of a line, without the line feed at its end
abbrev pub log_line_text : LogLine → List ℕ
log_line_text line = unended_text (line_letter line) (line_fields line)

-- the text of a line, with the line feed at its end
abbrev pub ended_text : LogLine → List ℕ
ended_text line = line_text (line_letter line) (line_fields line)

-- the first line of every log's text
abbrev pub header : List ℕ
header = codes "railplan-log 1\n"

-- the text of a whole log
abbrev pub log_text : List LogLine → List ℕ
log_text lines = header ++ flat_map ended_text lines
