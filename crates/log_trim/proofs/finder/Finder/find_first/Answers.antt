use Rattle.std.proofs.Common.{◌≡◌, ◌∷◌, ◌⊎◌, Bool, List, Some, true, false, inl, inr, sym, subst}
use Rattle.std.specs.Prelude.{Option}
use Rattle.std.proofs.lemmas.Bool.{both_ways}
use Rattle.cnf_core.specs.Lit.{Literal, has}
use Rattle.cnf_core.specs.Clause.{Clauses}
use Rattle.cnf_core.specs.Propagation.{Closure, Falsifies, Rup, negations}
use Rattle.watch_arena.specs.Trail.{IsValue, IsUnset}
use Rattle.log_trim.specs.Found.{IsSupposing, IsUnfalsifiedEnd}
use Rattle.log_trim.proofs.FoundLemmas.{never_follows, ends_with_first, trail_follows}
use Rattle.log_trim.proofs.finder.Finder.find_first.Goals as goal

pub take_back-requires-in-None-suppose_first : goal.take_back-requires-in-None-suppose_first
take_back-requires-in-None-suppose_first c = let s = c.requires.supposing in (s.0, s.1, c.args.first ∷ s.2, c.suppose_first.ensures.supposing s.0 s.1 s.2 s.3)

pub hints_to-requires-clause-supposing : goal.hints_to-requires-clause-supposing
hints_to-requires-clause-supposing c = let s = c.requires.supposing in (s.0, s.1, c.args.first ∷ s.2, c.suppose_first.ensures.supposing s.0 s.1 s.2 s.3)

pub returns-in-Some-clause-found : goal.returns-in-Some-clause-found
returns-in-Some-clause-found c = λ all taken others h still rup. by all taken others h still rup c.in-Some.field-0
    (subst (IsValue c.args.self.now.trail.lits c.args.first) c.in-Some.is c.value.ensures)
  where
    by : (all taken : Clauses) (others : List Literal) → IsSupposing all taken others c.args.self.now →
        IsUnfalsifiedEnd taken others (has c.args.self.now.trail.lits) → Rup taken (c.args.first ∷ others) → (b : Bool) →
        IsValue c.args.self.now.trail.lits c.args.first (Some b) → Falsifies taken (negations others) ⊎ Closure taken (negations others) c.args.first
    by all taken others h still rup true here =
        let old = c.args.self.now in
        inr (trail_follows old.vars all taken old.arena old.numbers.items others old.trail h.clauses h.denying.reasons c.args.first here c.requires.there.1)
    by all taken others h still rup false here = absurd (never_follows taken (c.args.first ∷ others) (has c.args.self.now.trail.lits)
        (ends_with_first taken c.args.first others (has c.args.self.now.trail.lits) here still) rup)

pub returns-in-None-suppose_first-clause-finder : goal.returns-in-None-suppose_first-clause-finder
returns-in-None-suppose_first-clause-finder c = λ all taken others h. c.take_back-in-None-suppose_first.ensures.finder all taken (c.args.first ∷ others)
    (c.suppose_first.ensures.supposing all taken others h)

pub returns-in-None-suppose_first-clause-found : goal.returns-in-None-suppose_first-clause-found
returns-in-None-suppose_first-clause-found c = λ all taken others h still rup.
    absurd (never_follows taken (c.args.first ∷ others) (has c.suppose_first.new.self.trail.lits)
    (c.suppose_first.ensures.ends c.in-None-suppose_first.is all taken others h) rup)

pub returns-in_ok-hints-in-Some-suppose_first-clause-finder :
    goal.returns-in_ok-hints-in-Some-suppose_first-clause-finder
returns-in_ok-hints-in-Some-suppose_first-clause-finder c = λ all taken others h.
    c.in_ok-hints-in-Some-suppose_first.ensures.finder all taken (c.args.first ∷ others) (c.suppose_first.ensures.supposing all taken others h)

pub returns-in_ok-hints-in-Some-suppose_first-clause-found :
    goal.returns-in_ok-hints-in-Some-suppose_first-clause-found
returns-in_ok-hints-in-Some-suppose_first-clause-found c = λ all taken others h still.
    let s = c.suppose_first.ensures.supposing all taken others h in
    let f = c.in_ok-hints-in-Some-suppose_first.ensures in
    let set = has c.args.self.now.trail.lits in
    let unset : IsUnset c.args.self.now.trail.lits c.args.first = subst (IsValue c.args.self.now.trail.lits c.args.first) c.in-None.is c.value.ensures in (
      f.follows all taken (c.args.first ∷ others) s,
      λ known. elim known [
        | inl falsifies ↦ never_follows taken others set still falsifies
        | inr closure ↦ both_ways (set c.args.first) unset.0 (closure set still.closed still.includes)
      ],
      f.good all taken (c.args.first ∷ others) s,
    )
