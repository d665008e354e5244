use Rattle.std.proofs.Common.{sym, subst, ◌∙◌, ap, length, ◌<◌, rules}
use Rattle.cnf_core.specs.Clause.{IsThere}
use Rattle.watch_arena.specs.Trail.{Marks, IsMarks, IsUnset, with_lit, place_of}
use Rattle.watch_arena.specs.Arena.{AreWatched, AreReasoned}
use Rattle.watch_arena.proofs.LevelLemmas.{watched_with, reasoned_set}
use Rattle.watch_arena.proofs.TrailLemmas.{kept_short, kept_set, marks_kept, set_view}
use Rattle.watch_arena.proofs.trail.Trail.set.Goals as goal

pub index_mut-requires-2 : goal.index_mut-requires-2
index_mut-requires-2 c =
    let short : c.self.inside.len < length c.self.inside.order.items = kept_short _ _ _ _ _ _ _ _ _ c.self.invariant c.args.l
    (subst (λ (m : Marks). IsThere m.vars c.args.l) (sym c.self.view_is) c.requires.there)
    (subst (λ (m : Marks). IsUnset m.lits c.args.l) (sym c.self.view_is) c.requires.unset) in
    search (rules, short)

pub invariant_of-self : goal.invariant_of-self
invariant_of-self c = rw (c.word.ensures.value, c.var-v.ensures.value) (kept_set _ _ _ _ _ _ _ _ _ c.self.invariant c.args.l c.place_of.result
    (subst (λ (m : Marks). IsThere m.vars c.args.l) (sym c.self.view_is) c.requires.there)
    (subst (λ (m : Marks). IsUnset m.lits c.args.l) (sym c.self.view_is) c.requires.unset))

pub returns-clause-value : goal.returns-clause-value
returns-clause-value c = set_view _ _ _ _ _ _ _ _ _ c.self.invariant c.args.self.now c.args.l c.var-v.result.0 c.place_of.result c.self.view_is
    (subst (λ (m : Marks). IsThere m.vars c.args.l) (sym c.self.view_is) c.requires.there)
    (subst (λ (m : Marks). IsUnset m.lits c.args.l) (sym c.self.view_is) c.requires.unset) c.var-v.ensures.value
    ∙ ap (with_lit c.args.self.now c.args.l) c.place_of.ensures

pub returns-clause-marks : goal.returns-clause-marks
returns-clause-marks c = marks_kept _ _ _ _ _ _ _ _ _ (invariant_of-self c)

pub returns-clause-watched : goal.returns-clause-watched
returns-clause-watched c = λ a w. subst (λ (m : Marks). AreWatched a m) (sym (returns-clause-value c))
    (watched_with a c.args.self.now c.args.l (place_of c.args.reason) (subst IsMarks c.self.view_is (marks_kept _ _ _ _ _ _ _ _ _ c.self.invariant)) w)

pub returns-clause-reasoned : goal.returns-clause-reasoned
returns-clause-reasoned c = λ a may r. subst (λ (m : Marks). AreReasoned a m) (sym (returns-clause-value c))
    (reasoned_set a c.args.self.now c.args.l c.args.reason (subst IsMarks c.self.view_is (marks_kept _ _ _ _ _ _ _ _ _ c.self.invariant)) c.requires.there
    c.requires.unset may r)
