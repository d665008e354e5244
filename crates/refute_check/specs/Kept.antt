-- What a checker keeps of the lines that it accepted, and why it refuses a line.
use Rattle.std.specs.Prelude.{◌≡◌, ◌≤◌, ◌<◌, ◌⊎◌, ℕ, max, ⊤, Result, Ok, Err, Option, List, [], ◌∷◌, ◌++◌, All, Any}
use Rattle.std.specs.Prelude.{Bool, Contains}
use Rattle.cnf_core.specs.Lit.{Literal}
use Rattle.cnf_core.specs.Clause.{Clauses, HasAllOf, words_of}
use Rattle.cnf_core.specs.Formula.{Cnf}
use Rattle.cnf_core.specs.Propagation.{Falsifies, Closure, negations, greatest_in}
use Rattle.cnf_core.specs.declared.limits.TheConstants.{VARS}
use Rattle.refute_log.specs.declared.line.LogLine.{LogLine}
use Rattle.refute_log.specs.declared.line.LogLine.TheVariants.{Formula, Learnt}
use Rattle.refute_check.specs.declared.fault.LineFault.{LineFault}
use Rattle.refute_check.specs.declared.fault.LineFault.TheVariants.{NewVar, WrongQuery, Room, NotImplied, NotNew}
use Rattle.refute_check.specs.declared.fault.LineFault.TheVariants.{Memory}
use Rattle.refute_log.specs.Log.{Facts, facts_after, bounded, Answers, IsImplied, StandsOn}

-- the room for words, the facts of the accepted lines, and whether memory was wanting once: then nothing is accepted
-- any more
pub record CheckedFacts : Type 0 where
  pub room : ℕ
  pub facts : Facts
  pub lost : Bool

-- what a checker's parts are seen as: its room, its formula, the latest query, the clauses of the Refuted
-- lines, and whether memory was wanting once
abbrev pub checked_facts : ℕ → Cnf → Option (List Literal) → Clauses → Bool → CheckedFacts
checked_facts room f query refuted lost = record {
  room = room;
  facts =
      record { greatest = f.vars; clauses = f.clauses; query = query; refuted = refuted };
  lost = lost;
}

abbrev pub kept_after : CheckedFacts → LogLine → CheckedFacts
kept_after kept line = record { room = kept.room; facts = facts_after kept.facts line; lost = kept.lost }

-- a literal names a variable greater than all in the Formula lines
abbrev pub NamesNew : Facts → LogLine → Type 0
NamesNew facts line = Any (λ l. facts.greatest < l.var) (bounded line)

-- a Learnt, Query or Refuted line names no variable above the greatest of the Formula lines
abbrev pub NamesNoNew : Facts → LogLine → Type 0
NamesNoNew facts line = All (λ l. l.var ≤ facts.greatest) (bounded line)

-- with the line's clause the words pass the room, or a Formula line names a variable above VARS
abbrev pub LacksRoom : CheckedFacts → LogLine → Type 0
LacksRoom kept (Formula c) = (kept.room < words_of (kept.facts.clauses ++ c ∷ [])) ⊎ (VARS < greatest_in c)
LacksRoom kept (Learnt c) = kept.room < words_of (kept.facts.clauses ++ c ∷ [])
LacksRoom kept line = ⊥

-- the first literal follows already where the others are false, or these falsify a clause
abbrev pub IsKnownClause : Clauses → List Literal → Type 0
IsKnownClause clauses [] = ⊥
IsKnownClause clauses (first ∷ others) = Falsifies clauses (negations others) ⊎ Closure clauses (negations others) first

-- the line is a Learnt line whose clause is known already
abbrev pub IsKnown : Clauses → LogLine → Type 0
IsKnown clauses (Learnt c) = IsKnownClause clauses c
IsKnown clauses line = ⊥

-- the line is kept: it stands, there is room for it, and the facts are those with it
pub record Accepts (old new : CheckedFacts) (line : LogLine) : Type 0 where
  pub stands : StandsOn old.facts line
  pub fits : LacksRoom old line → ⊥
  pub kept : new ≡ kept_after old line

-- the line names no new variable, and is a Refuted line that doesn't answer the latest query. Each cause of
-- the five refusals is one only where those before it don't hold: NamesNew, AnswersWrongly, PassesRoom,
-- IsUnproved, IsOld
pub record AnswersWrongly (kept : CheckedFacts) (line : LogLine) : Type 0 where
  pub named : NamesNoNew kept.facts line
  pub wrong : Answers kept.facts.query line → ⊥

-- no cause before holds, and there is no room for the line
pub record PassesRoom (kept : CheckedFacts) (line : LogLine) : Type 0 where
  pub named : NamesNoNew kept.facts line
  pub answers : Answers kept.facts.query line
  pub passes : LacksRoom kept line

-- no cause before holds, and the line's clause doesn't follow
pub record IsUnproved (kept : CheckedFacts) (line : LogLine) : Type 0 where
  pub named : NamesNoNew kept.facts line
  pub answers : Answers kept.facts.query line
  pub fits : LacksRoom kept line → ⊥
  pub unproved : IsImplied kept.facts.clauses line → ⊥

-- no cause before holds, and the line is a Learnt line whose clause is known already
pub record IsOld (kept : CheckedFacts) (line : LogLine) : Type 0 where
  pub named : NamesNoNew kept.facts line
  pub answers : Answers kept.facts.query line
  pub fits : LacksRoom kept line → ⊥
  pub implied : IsImplied kept.facts.clauses line
  pub known : IsKnown kept.facts.clauses line

-- the one answer that is due, and what it leaves; after want of memory that is the Refuted lines
abbrev pub IsAnswer : CheckedFacts → CheckedFacts → LogLine → Result Unit LineFault → Type 0
IsAnswer old new line (Ok u) = Accepts old new line
IsAnswer old new line (Err NewVar) = NamesNew old.facts line × (new ≡ old)
IsAnswer old new line (Err WrongQuery) = AnswersWrongly old line × (new ≡ old)
IsAnswer old new line (Err Room) = PassesRoom old line × (new ≡ old)
IsAnswer old new line (Err NotImplied) = IsUnproved old line × (new ≡ old)
IsAnswer old new line (Err NotNew) = IsOld old line × (new ≡ old)
IsAnswer old new line (Err Memory) = new.facts.refuted ≡ old.facts.refuted

-- the same with one more clause, of the variables up to vars
abbrev pub with_clause : CheckedFacts → List Literal → ℕ → CheckedFacts
with_clause kept c vars = record {
  room = kept.room;
  facts = record {
    greatest = max kept.facts.greatest vars;
    clauses = kept.facts.clauses ++ c ∷ [];
    query = kept.facts.query;
    refuted = kept.facts.refuted;
  };
  lost = kept.lost;
}

-- a Learnt line's clause has all the literals of none of the clauses
abbrev pub IncludesNone : Clauses → LogLine → Type 0
IncludesNone clauses (Learnt c) = (d : List Literal) → Contains clauses d → HasAllOf c d → ⊥
IncludesNone clauses line = ⊤

-- some Refuted line has only literals that are allowed
abbrev pub Refutes : CheckedFacts → List Literal → Type 0
Refutes kept allowed = Any (λ c. HasAllOf allowed c) kept.facts.refuted
