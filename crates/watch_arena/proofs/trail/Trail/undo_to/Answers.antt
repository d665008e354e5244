use Rattle.std.proofs.Common.{rules, arith, ◌≡◌, ◌∙◌, ◌<◌, length, take, drop, get_or, List, Bool, sym, ap, subst, vec_len}
use Rattle.std.specs.Vec.{with_items}
use Rattle.std.proofs.lemmas.List.{take_at, get_or_default}
use Rattle.cnf_core.specs.Lit.{Literal}
use Rattle.cnf_core.specs.Trail.{IsTrail}
use Rattle.watch_arena.specs.Trail.{IsStoredTrail, Marks, IsMarks, marks_of}
use Rattle.watch_arena.specs.Arena.{AreWatched, AreReasoned}
use Rattle.watch_arena.proofs.LevelLemmas.{watched_undone, reasoned_undone}
use Rattle.watch_arena.proofs.TrailLemmas.{marks_kept}
use Rattle.watch_arena.proofs.UndoLemmas.{kept_undone, undone_view, end_below}
use Rattle.watch_arena.proofs.trail.Trail.undo_to.Goals as goal

pub unset-requires-clause-from : goal.unset-requires-clause-from
unset-requires-clause-from c =
    let lt = c.if-level-self.true in
    let short : c.args.level < length c.self.inside.starts.items = let within = c.self.invariant.level_within in omega arith in
    let is : get_or c.self.inside.starts.items c.args.level 0 ≡ c.index-end.result.now = get_or_default c.self.inside.starts.items c.args.level 0
    c.index-end.result.now short ∙ sym c.index-end.ensures in
    let below = end_below _ _ _ _ _ _ _ _ _ c.self.invariant c.args.level c.index-end.result.now lt is in
    omega arith

pub unset-requires-clause-trail : goal.unset-requires-clause-trail
unset-requires-clause-trail c = (
  c.self.inside.vars,
  subst (λ (t : List Bool). IsTrail c.self.inside.vars t (take c.self.inside.len c.deref.result.now)) (sym c.deref_mut.ensures.value)
      (subst (λ (o : List Literal). IsTrail c.self.inside.vars c.self.inside.truth.items (take c.self.inside.len o)) (sym c.deref.ensures.value)
      c.self.invariant.table),
)

pub invariant_of-self : goal.invariant_of-self
invariant_of-self c =
    let lt = c.if-level-self.true in
    let short : c.args.level < length c.self.inside.starts.items = let within = c.self.invariant.level_within in omega arith in
    let is : get_or c.self.inside.starts.items c.args.level 0 ≡ c.index-end.result.now = get_or_default c.self.inside.starts.items c.args.level 0
    c.index-end.result.now short ∙ sym c.index-end.ensures in
    let size : length c.unset.new.truth ≡ length c.deref_mut.result.now = c.unset.auto.truth in
    let len : length c.deref_mut.result.now ≡ vec_len c.self.inside.truth = search rules in
    let truth = with_items c.self.inside.truth c.unset.new.truth in
    let items : truth.items ≡ c.unset.new.truth = take_at c.unset.new.truth (drop (length c.unset.new.truth) c.self.inside.truth.items)
    (vec_len c.self.inside.truth) (size ∙ len) in
    let start : IsTrail c.self.inside.vars c.deref_mut.result.now (take c.self.inside.len c.deref.result.now) =
    subst (λ (t : List Bool). IsTrail c.self.inside.vars t (take c.self.inside.len c.deref.result.now)) (sym c.deref_mut.ensures.value)
    (subst (λ (o : List Literal). IsTrail c.self.inside.vars c.self.inside.truth.items (take c.self.inside.len o)) (sym c.deref.ensures.value)
    c.self.invariant.table) in
    let table : IsTrail c.self.inside.vars c.unset.new.truth (take c.index-end.result.now c.self.inside.order.items) =
    subst (λ (o : List Literal). IsTrail c.self.inside.vars c.unset.new.truth (take c.index-end.result.now o)) c.deref.ensures.value
    (c.unset.ensures c.self.inside.vars start) in
    let k = kept_undone _ _ _ _ _ _ _ _ _ c.self.invariant c.args.level c.index-end.result.now lt is c.unset.new.truth table in
    subst (λ (t : List Bool). IsStoredTrail c.self.inside.vars t c.self.inside.order.items c.index-end.result.now c.min-self-inside.result
    c.self.inside.starts.items c.args.level c.self.inside.reasons.items c.self.inside.levels.items) (sym items)
    (subst (λ n. IsStoredTrail c.self.inside.vars c.unset.new.truth c.self.inside.order.items c.index-end.result.now n c.self.inside.starts.items c.args.level
    c.self.inside.reasons.items c.self.inside.levels.items) (sym c.min-self-inside.ensures) k)

pub returns-then-level-self-clause-value : goal.returns-then-level-self-clause-value
returns-then-level-self-clause-value c =
    let lt = c.if-level-self.true in
    let short : c.args.level < length c.self.inside.starts.items = let within = c.self.invariant.level_within in omega arith in
    let is : get_or c.self.inside.starts.items c.args.level 0 ≡ c.index-end.result.now = get_or_default c.self.inside.starts.items c.args.level 0
    c.index-end.result.now short ∙ sym c.index-end.ensures in
    ap (λ n. marks_of c.self.inside.vars c.self.inside.order.items c.index-end.result.now n c.self.inside.starts.items c.args.level c.self.inside.reasons.items
    c.self.inside.levels.items) c.min-self-inside.ensures
    ∙ undone_view _ _ _ _ _ _ _ _ _ c.self.invariant c.args.level c.index-end.result.now lt is c.args.self.now c.self.view_is

pub returns-then-level-self-clause-marks : goal.returns-then-level-self-clause-marks
returns-then-level-self-clause-marks c = marks_kept _ _ _ _ _ _ _ _ _ (invariant_of-self c)

pub returns-then-level-self-clause-watched : goal.returns-then-level-self-clause-watched
returns-then-level-self-clause-watched c = λ a w. subst (λ (m : Marks). AreWatched a m) (sym (returns-then-level-self-clause-value c))
    (watched_undone a c.args.self.now c.args.level (subst IsMarks c.self.view_is (marks_kept _ _ _ _ _ _ _ _ _ c.self.invariant)) c.requires w)

pub returns-then-level-self-clause-reasoned : goal.returns-then-level-self-clause-reasoned
returns-then-level-self-clause-reasoned c = λ a r. subst (λ (m : Marks). AreReasoned a m) (sym (returns-then-level-self-clause-value c))
    (reasoned_undone c.args.self.now c.args.level (subst IsMarks c.self.view_is (marks_kept _ _ _ _ _ _ _ _ _ c.self.invariant)) c.requires a.words a.places r)
