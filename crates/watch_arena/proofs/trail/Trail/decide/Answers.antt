use Rattle.std.proofs.Common.{refl, sym, ◌∙◌, subst, length, ◌<◌, ◌≡◌, rules, take, length-take-le}
use Rattle.cnf_core.specs.Clause.{IsThere}
use Rattle.watch_arena.specs.Trail.{Marks, IsMarks, IsUnset}
use Rattle.watch_arena.specs.Arena.{AreWatched, AreReasoned}
use Rattle.watch_arena.proofs.LevelLemmas.{watched_decided}
use Rattle.watch_arena.proofs.ReasonLemmas.{reasoned_decided}
use Rattle.watch_arena.proofs.TrailLemmas.{kept_short, kept_level, kept_decide, marks_kept, decide_view}
use Rattle.watch_arena.proofs.trail.Trail.decide.Goals as goal

pub index_mut-requires : goal.index_mut-requires
index_mut-requires c =
    let short : c.self.inside.level < length c.self.inside.starts.items = kept_level _ _ _ _ _ _ _ _ _ c.self.invariant c.args.l
    (subst (λ (m : Marks). IsThere m.vars c.args.l) (sym c.self.view_is) c.requires.there)
    (subst (λ (m : Marks). IsUnset m.lits c.args.l) (sym c.self.view_is) c.requires.unset) in
    search (rules, short)

pub index_mut-requires-3 : goal.index_mut-requires-3
index_mut-requires-3 c =
    let short : c.self.inside.len < length c.self.inside.order.items = kept_short _ _ _ _ _ _ _ _ _ c.self.invariant c.args.l
    (subst (λ (m : Marks). IsThere m.vars c.args.l) (sym c.self.view_is) c.requires.there)
    (subst (λ (m : Marks). IsUnset m.lits c.args.l) (sym c.self.view_is) c.requires.unset) in
    search (rules, short)

pub invariant_of-self : goal.invariant_of-self
invariant_of-self c =
    let all : c.self.inside.front ≡ length (take c.self.inside.len c.self.inside.order.items) = subst (λ (m : Marks). m.front ≡ length m.lits)
    (sym c.self.view_is) c.requires.all in
    rw (c.word.ensures.value, c.var-v.ensures.value) (kept_decide _ _ _ _ _ _ _ _ _ c.self.invariant c.args.l 0
    (all ∙ length-take-le c.self.inside.len c.self.inside.order.items c.self.invariant.within)
    (subst (λ (m : Marks). IsThere m.vars c.args.l) (sym c.self.view_is) c.requires.there)
    (subst (λ (m : Marks). IsUnset m.lits c.args.l) (sym c.self.view_is) c.requires.unset))

pub returns-clause-value : goal.returns-clause-value
returns-clause-value c = decide_view _ _ _ _ _ _ _ _ _ c.self.invariant c.args.self.now c.args.l c.var-v.result.0 0 c.self.view_is
    (subst (λ (m : Marks). IsThere m.vars c.args.l) (sym c.self.view_is) c.requires.there)
    (subst (λ (m : Marks). IsUnset m.lits c.args.l) (sym c.self.view_is) c.requires.unset) c.var-v.ensures.value

pub returns-clause-marks : goal.returns-clause-marks
returns-clause-marks c = marks_kept _ _ _ _ _ _ _ _ _ (invariant_of-self c)

pub returns-clause-watched : goal.returns-clause-watched
returns-clause-watched c = λ a w. subst (λ (m : Marks). AreWatched a m) (sym (returns-clause-value c))
    (watched_decided a c.args.self.now c.args.l (subst IsMarks c.self.view_is (marks_kept _ _ _ _ _ _ _ _ _ c.self.invariant)) w)

pub returns-clause-reasoned : goal.returns-clause-reasoned
returns-clause-reasoned c = λ a r. subst (λ (m : Marks). AreReasoned a m) (sym (returns-clause-value c))
    (reasoned_decided c.args.self.now c.args.l 0 (subst IsMarks c.self.view_is (marks_kept _ _ _ _ _ _ _ _ _ c.self.invariant)) c.requires.there
    c.requires.unset a.words a.places r refl)
