-- The solver as one value.
use Rattle.std.proofs.Common.{◌≡◌, ◌≤◌, ℕ, Bool, false, List, [], ◌∷◌, ◌++◌, refl, sym, ◌∙◌, ap, subst, None}
use Rattle.std.specs.Prelude.{Option, All, Contains}
use Rattle.std.proofs.lemmas.List.Elements.{Contains-push}
use Rattle.cnf_core.specs.declared.limits.TheConstants.{ROOM}
use Rattle.cnf_core.specs.Lit.{Literal}
use Rattle.cnf_core.specs.Clause.{Clauses, IsNamed}
use Rattle.refute_log.specs.declared.line.LogLine.TheVariants.{Formula}
use Rattle.refute_log.specs.Lines.{MayBeTold}
use Rattle.refute_log.specs.Told.{Lines}
use Rattle.refute_log.specs.Steps.{StillDerives}
use Rattle.cdcl_core.specs.declared.search.Search.{Search}
use Rattle.cdcl_core.specs.declared.answer.Answer.{Answer}
use Rattle.cdcl_core.specs.Kept.{Kept, blank, with_more_vars, AreGiven, IsGivenOne, HasRefuted}
use Rattle.cdcl_core.specs.Belongs.{Belongs, BelongsTo, HasSolved}
use Rattle.cdcl_core.specs.Search.{clauses, seen, kept_of, IsIdle, IsSolver, IsKeptOne}
use Rattle.cdcl_core.proofs.SetLemmas.{among_itself}
use Rattle.cdcl_core.proofs.LogLemmas.{belongs_none, belongs_given}
use Rattle.cdcl_core.proofs.RoundLemmas.{given_added}

-- a new solver
pub new_given : (k : Kept) (room : ℕ) → k ≡ blank room → AreGiven [] k.clauses
new_given k room e = subst (λ (x : Kept). AreGiven [] x.clauses) (sym e) (record { kept = among_itself []; follow = λ v h. h })

pub new_belongs : (k : Kept) (room : ℕ) → k ≡ blank room → Belongs [] k
new_belongs k room e = subst (Belongs []) (sym e) belongs_none

-- a variable of a clause that is given is named
pub named_given : (old new : Kept) (c : List Literal) (l : Literal) → IsGivenOne old new c → Contains c l → IsNamed new.clauses l.var
named_given old new c l given inside =
    let d = given.clauses.there c (Contains-push old.clauses c) in
    record { clause = d.0; among = d.1; lit = l; inside = (d.2 l).0 inside; var = refl }

-- whether the solver has failed, as its fields say
pub failed_field : (s : Search) (model : Option (List Bool)) (refuted : List Literal) (failed : Bool) (k : Kept) → kept_of s model refuted failed ≡ k →
    k.failed ≡ false → failed ≡ false
failed_field s model refuted failed k view e = ap (λ (x : Kept). x.failed) view ∙ e

pub idle_now : (s : Search) (model : Option (List Bool)) (refuted : List Literal) (failed : Bool) (k : Kept) → IsSolver s failed →
    kept_of s model refuted failed ≡ k → k.failed ≡ false → IsIdle s
idle_now s model refuted failed k invariant view e = invariant (failed_field s model refuted failed k view e)

-- the words of a solver that hasn't failed are within its room, and that within the greatest one
pub words_view : (s : Search) (model : Option (List Bool)) (refuted : List Literal) (failed : Bool) (k : Kept) → IsSolver s failed →
    kept_of s model refuted failed ≡ k → k.failed ≡ false → k.words ≤ k.room
words_view s model refuted failed k invariant view e = subst (λ (x : Kept). x.words ≤ x.room) view
    (idle_now s model refuted failed k invariant view e).search.fitted.within

pub room_view : (s : Search) (model : Option (List Bool)) (refuted : List Literal) (failed : Bool) (k : Kept) → IsSolver s failed →
    kept_of s model refuted failed ≡ k → k.failed ≡ false → k.room ≤ ROOM
room_view s model refuted failed k invariant view e = subst (λ (x : Kept). x.room ≤ ROOM) view
    (idle_now s model refuted failed k invariant view e).search.fitted.room_limit

-- further variables
pub wide_view : (s t : Search) (model : Option (List Bool)) (refuted : List Literal) (failed : Bool) (k : Kept) (n : ℕ) → kept_of s model refuted failed ≡ k →
    k.failed ≡ false → kept_of t None [] false ≡ with_more_vars (kept_of s None [] false) n → kept_of t None [] failed ≡ with_more_vars k n
wide_view s t model refuted failed k n view e more =
    let f = failed_field s model refuted failed k view e in
    ap (kept_of t None []) f ∙ more ∙ ap (λ b. with_more_vars (kept_of s model refuted b) n) (sym f) ∙ ap (λ (x : Kept). with_more_vars x n) view

pub wide_given : (k now : Kept) (n : ℕ) → now ≡ with_more_vars k n → (given : Clauses) → AreGiven given k.clauses → AreGiven given now.clauses
wide_given k now n e given g = subst (λ (x : Kept). AreGiven given x.clauses) (sym e) g

pub wide_belongs : (k now : Kept) (n : ℕ) → now ≡ with_more_vars k n → (lines : Lines) → Belongs lines k → Belongs lines now
wide_belongs k now n e lines b = subst (Belongs lines) (sym e) b

-- a clause was given
pub given_view : (s t : Search) (model : Option (List Bool)) (refuted : List Literal) (failed : Bool) (k : Kept) (c : List Literal) →
    kept_of s model refuted failed ≡ k → k.failed ≡ false → IsKeptOne s t c → t.learnt ≡ s.learnt → IsGivenOne k (kept_of t None [] failed) c
given_view s t model refuted failed k c view e kept learnt = subst (λ (x : Kept). IsGivenOne x (kept_of t None [] failed) c) view (record {
  clauses = kept.clauses;
  words = kept.words;
  room = kept.room;
  vars = kept.vars;
  learnt = learnt;
  visits = kept.visits;
  model = refl;
  refuted = refl;
  failed = failed_field s model refuted failed k view e;
})

pub given_now : (k now : Kept) (c : List Literal) → IsGivenOne k now c → (given : Clauses) → AreGiven given k.clauses → AreGiven (given ++ c ∷ []) now.clauses
given_now k now c one given g = given_added given k.clauses now.clauses c one.clauses g

pub belongs_now : (k now : Kept) (c : List Literal) → MayBeTold (Formula c) → IsGivenOne k now c → (lines : Lines) → Belongs lines k →
    Belongs (lines ++ Formula c ∷ []) now
belongs_now k now c formed one lines b = subst (BelongsTo (lines ++ Formula c ∷ []) now.clauses) (sym one.words)
    (belongs_given lines k.clauses now.clauses k.words c formed one.clauses b)

-- what stands of a log after an error
pub still_view : (before now : Lines → Type 0) (s : Search) (model : Option (List Bool)) (refuted : List Literal) (failed : Bool) (k : Kept) →
    kept_of s model refuted failed ≡ k → StillDerives (λ ls. Belongs ls (seen s)) before now → StillDerives (λ ls. Belongs ls k) before now
still_view before now s model refuted failed k view d = subst (λ (x : Kept). StillDerives (λ ls. Belongs ls x) before now) view
    (λ lines b told more m. d lines b told more m)

pub named_view : (s : Search) (model : Option (List Bool)) (refuted : List Literal) (failed : Bool) (k : Kept) (query : List Literal) →
    kept_of s model refuted failed ≡ k → All (λ l. IsNamed k.clauses l.var) query → All (λ l. IsNamed (clauses s) l.var) query
named_view s model refuted failed k query view h = subst (λ (x : Kept). All (λ l. IsNamed x.clauses l.var) query) (sym view) h

-- the same with another model
abbrev with_model : Kept → Option (List Bool) → List Literal → Bool → Kept
with_model k model refuted failed = record {
  room = k.room;
  vars = k.vars;
  clauses = k.clauses;
  words = k.words;
  learnt = k.learnt;
  visits = k.visits;
  model = model;
  refuted = refuted;
  failed = failed;
}

pub solved_given : (s t : Search) (model : Option (List Bool)) (refuted : List Literal) (failed : Bool) (k : Kept) → kept_of s model refuted failed ≡ k →
    ((given : Clauses) → AreGiven given (clauses s) → AreGiven given (clauses t)) → (given : Clauses) → AreGiven given k.clauses → AreGiven given (clauses t)
solved_given s t model refuted failed k view h given g = h given (subst (λ (x : Kept). AreGiven given x.clauses) (sym view) g)

pub searched_view : (before now : Lines → Type 0) (query : List Literal) (s t : Search) (model new : Option (List Bool)) (refuted needed : List Literal)
    (failed : Bool) (k : Kept) (a : Answer) (budget count after : ℕ) → kept_of s model refuted failed ≡ k → k.failed ≡ false →
    HasSolved before now query (seen s) (seen t) a budget count after → HasSolved before now query k (kept_of t new needed failed) a budget count after
searched_view before now query s t model new refuted needed failed k a budget count after view e h = subst
    (λ (x : Kept). HasSolved before now query x (kept_of t new needed failed) a budget count after) view (record {
      learnt = h.learnt;
      ending = h.ending;
      kept = record {
        clauses = h.kept.clauses;
        words = h.kept.words;
        room = h.kept.room;
        vars = h.kept.vars;
        learnt = h.kept.learnt;
        visits = h.kept.visits;
        failed = failed_field s model refuted failed k view e;
      };
      spent = h.spent;
      counted = h.counted;
      ends = h.ends;
      told = h.told;
      belongs = λ lines b. h.belongs lines b;
    })

pub suggest_view : (s t : Search) (model : Option (List Bool)) (refuted : List Literal) (failed : Bool) (k : Kept) → kept_of s model refuted failed ≡ k →
    k.failed ≡ false → kept_of t None [] false ≡ kept_of s None [] false → kept_of t model refuted failed ≡ k
suggest_view s t model refuted failed k view e same = ap (λ (x : Kept). with_model x model refuted failed) same ∙ view

-- assumptions that were refuted
pub refuted_view : (s : Search) (model : Option (List Bool)) (refuted needed : List Literal) (failed : Bool) (k : Kept) (query : List Literal) (a : Answer) →
    kept_of s model refuted failed ≡ k → ((given : Clauses) → AreGiven given (clauses s) → HasRefuted a given query needed) → (given : Clauses) →
    AreGiven given k.clauses → HasRefuted a given query needed
refuted_view s model refuted needed failed k query a view h given g = h given (subst (λ (x : Kept). AreGiven given x.clauses) (sym view) g)
