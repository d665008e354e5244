-- What contracts see of a solver, and of the clauses that it was given.
use Rattle.std.specs.Prelude.{◌≡◌, ◌≤◌, ◌<◌, ℕ, zero, suc, ◌+◌, ◌-◌, ◌^◌, min, Bool, true, false, Option, None, Some}
use Rattle.std.specs.Prelude.{List, [], ◌∷◌, ◌++◌, All, Contains, length}
use Rattle.cnf_core.specs.Lit.{Literal, has}
use Rattle.cnf_core.specs.Clause.{Clauses, words_of}
use Rattle.cnf_core.specs.Assignment.{Assignment, truth, SatisfiesAll}
use Rattle.cnf_core.specs.Truths.{assignment}
use Rattle.cnf_core.specs.Propagation.{Falsifies, Rup, AreAmong}
use Rattle.refute_log.specs.declared.line.LogLine.TheVariants.{Learnt}
use Rattle.refute_log.specs.Lines.{MayBeTold}
use Rattle.refute_log.specs.Log.{IsNewClause}
use Rattle.cdcl_core.specs.declared.answer.Answer.{Answer}
use Rattle.cdcl_core.specs.declared.answer.Answer.TheVariants.{Model, Refuted, Spent, Room}

-- the most words, the variables, the clauses that were given or learnt (in no certain order, nor are
-- their literals) and their words, how many were learnt, how many entries of watched clauses propagation
-- has gone through, the latest model, the assumptions that were refuted last, and whether a call has failed
pub record Kept : Type 0 where
  pub room : ℕ
  pub vars : ℕ
  pub clauses : Clauses
  pub words : ℕ
  pub learnt : ℕ
  pub visits : ℕ
  pub model : Option (List Bool)
  pub refuted : List Literal
  pub failed : Bool

-- a new solver
abbrev pub blank : ℕ → Kept
blank room = record {
  room = room;
  vars = 0;
  clauses = [];
  words = 0;
  learnt = 0;
  visits = 0;
  model = None;
  refuted =
      [];
  failed = false;
}

-- further variables are there, and no model and no refuted assumptions any more
abbrev pub with_more_vars : Kept → ℕ → Kept
with_more_vars k n = record {
  room = k.room;
  vars = k.vars + n;
  clauses = k.clauses;
  words = k.words;
  learnt =
      k.learnt;
  visits = k.visits;
  model = None;
  refuted = [];
  failed = k.failed;
}

-- the same clauses, as sets of literals
pub record AreSameClauses (clauses more : Clauses) : Type 0 where
  pub there : AreAmong clauses more
  pub back : AreAmong more clauses

-- how many clauses were learnt after n more, a count that stops at its type's end
abbrev pub more_learnt : ℕ → ℕ → ℕ
more_learnt learnt zero = learnt
more_learnt learnt (suc n) = min (more_learnt learnt n + 1) (2 ^ 32 - 1)

-- one clause was given
pub record IsGivenOne (old new : Kept) (c : List Literal) : Type 0 where
  pub clauses : AreSameClauses (old.clauses ++ c ∷ []) new.clauses
  pub words : new.words ≡ old.words + length c + 3
  pub room : new.room ≡ old.room
  pub vars : new.vars ≡ old.vars
  pub learnt : new.learnt ≡ old.learnt
  pub visits : new.visits ≡ old.visits
  pub model : new.model ≡ None
  pub refuted : new.refuted ≡ []
  pub failed : new.failed ≡ false

-- these clauses were learnt
pub record HasLearnt (old new : Kept) (cs : Clauses) : Type 0 where
  pub clauses : AreSameClauses (old.clauses ++ cs) new.clauses
  pub words : new.words ≡ old.words + words_of cs
  pub room : new.room ≡ old.room
  pub vars : new.vars ≡ old.vars
  pub learnt : new.learnt ≡ more_learnt old.learnt (length cs)
  pub visits : old.visits ≤ new.visits
  pub failed : new.failed ≡ false

-- each of the given clauses is kept, and all that are kept follow from them, so that what is said of given
-- clauses holds whatever was learnt
pub record AreGiven (given clauses : Clauses) : Type 0 where
  pub kept : AreAmong given clauses
  pub follow : (v : Assignment) → SatisfiesAll v given → SatisfiesAll v clauses

-- the assignment makes all assumptions true
abbrev pub MakesTrue : Assignment → List Literal → Type 0
MakesTrue v assume = All (λ l. truth v l ≡ true) assume

-- the solver has a model: a truth value for each variable, which satisfies the clauses and makes the
-- assumptions true
pub record HasModel (given : Clauses) (assume : List Literal) (k : Kept) : Type 0 where
  pub values : List Bool
  pub model : k.model ≡ Some values
  pub vars : length values ≡ k.vars
  pub clauses : SatisfiesAll (assignment values) given
  pub assumptions : MakesTrue (assignment values) assume

-- no assignment satisfies the clauses and makes the assumptions true
abbrev pub HasNoModel : Clauses → List Literal → Type 0
HasNoModel given assume = (v : Assignment) → SatisfiesAll v given → MakesTrue v assume → ⊥

-- propagation from the assumptions falsifies no clause
abbrev pub IsOpenQuery : Clauses → List Literal → Type 0
IsOpenQuery clauses assume = Falsifies clauses (has assume) → ⊥

-- the clause follows by unit propagation, and says more than propagation knows
pub record IsDeduced (clauses : Clauses) (c : List Literal) : Type 0 where
  pub follows : Rup clauses c
  pub new : IsNewClause clauses c

-- with some such clause, which may be told, the words pass the room
pub record IsFull (room words : ℕ) (clauses : Clauses) : Type 0 where
  pub clause : List Literal
  pub formed : MayBeTold (Learnt clause)
  pub deduced : IsDeduced clauses clause
  pub passes : room < words + length clause + 3

-- what an answer says of the given clauses, the assumptions and the solver
abbrev pub IsTrueAnswer : Answer → Clauses → List Literal → Kept → Type 0
IsTrueAnswer Model given assume k = HasModel given assume k
IsTrueAnswer Refuted given assume k = HasNoModel given assume
IsTrueAnswer Spent given assume k = IsOpenQuery k.clauses assume
IsTrueAnswer Room given assume k = IsFull k.room k.words k.clauses

-- a model is there exactly after the answer Model
abbrev pub HasModelOnly : Answer → Kept → Type 0
HasModelOnly Model k = (values : List Bool) × (k.model ≡ Some values)
HasModelOnly Refuted k = k.model ≡ None
HasModelOnly Spent k = k.model ≡ None
HasModelOnly Room k = k.model ≡ None

-- these are among the assumptions, and no assignment satisfies the clauses and makes them true
pub record AreRefuted (given : Clauses) (assume refuted : List Literal) : Type 0 where
  pub among : All (λ l. Contains assume l) refuted
  pub none : HasNoModel given refuted

-- such assumptions are there exactly after the answer Refuted
abbrev pub HasRefuted : Answer → Clauses → List Literal → List Literal → Type 0
HasRefuted Model given assume refuted = refuted ≡ []
HasRefuted Refuted given assume refuted = AreRefuted given assume refuted
HasRefuted Spent given assume refuted = refuted ≡ []
HasRefuted Room given assume refuted = refuted ≡ []
