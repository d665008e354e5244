use Rattle.std.proofs.Common.{◌≤◌, ◌+◌, ◌++◌, ◌*◌, ◌∙◌, List, ℕ, Bool, false, true, replicate, take, refl, sym, subst, ap}
use Rattle.cnf_core.specs.declared.limits.TheConstants.{VARS}
use Rattle.cnf_core.specs.Lit.{Literal, literal}
use Rattle.watch_arena.specs.Trail.{Marks, IsStoredTrail}
use Rattle.watch_arena.specs.Arena.{AreWatched, AreReasoned}
use Rattle.watch_arena.proofs.TrailLemmas.{kept_widened, widened_view, marks_kept, marks_same}
use Rattle.watch_arena.proofs.LevelLemmas.{watched_widened, reasoned_widened}
use Rattle.watch_arena.proofs.trail.Trail.add_vars.Goals as goal

pub invariant_of-self-2 : goal.invariant_of-self-2
invariant_of-self-2 c =
    let n = c.args.n in
    let s = c.self.inside in
    let new = c.lengthen_all.new in
    let e = c.in_ok-lengthen_all.ensures in
    let k = kept_widened _ _ _ _ _ _ _ _ _ c.self.invariant n (literal 1 true) (subst (λ (m : Marks). m.vars + n ≤ VARS) (sym c.self.view_is) c.requires) in
    subst (λ (t : List Bool). IsStoredTrail (s.vars + n) t new.order.items s.len s.front new.starts.items s.level new.reasons.items new.levels.items)
    (sym e.truth)
    (subst (λ (o : List Literal). IsStoredTrail (s.vars + n) (s.truth.items ++ replicate (2 * n) false) o s.len s.front new.starts.items s.level
    new.reasons.items new.levels.items) (sym e.order)
    (subst (λ (t : List ℕ). IsStoredTrail (s.vars + n) (s.truth.items ++ replicate (2 * n) false) (s.order.items ++ replicate (2 * n) (literal 1 true)) s.len
    s.front t s.level new.reasons.items new.levels.items) (sym e.starts)
    (subst (λ (t : List ℕ). IsStoredTrail (s.vars + n) (s.truth.items ++ replicate (2 * n) false) (s.order.items ++ replicate (2 * n) (literal 1 true)) s.len
    s.front (s.starts.items ++ replicate (2 * n) 0) s.level t new.levels.items) (sym e.reasons)
    (subst (λ (t : List ℕ). IsStoredTrail (s.vars + n) (s.truth.items ++ replicate (2 * n) false) (s.order.items ++ replicate (2 * n) (literal 1 true)) s.len
    s.front (s.starts.items ++ replicate (2 * n) 0) s.level (s.reasons.items ++ replicate n 0) t) (sym e.levels) k))))

pub returns-clause-more : goal.returns-clause-more
returns-clause-more c =
    let n = c.args.n in
    let s = c.self.inside in
    let new = c.lengthen_all.new in
    let e = c.in_ok-lengthen_all.ensures in
    marks_same (s.vars + n) (take s.len new.order.items) (take s.len (s.order.items ++ replicate (2 * n) (literal 1 true))) s.front s.front
    (take s.level new.starts.items) (take s.level (s.starts.items ++ replicate (2 * n) 0))
    new.reasons.items (s.reasons.items ++ replicate n 0) new.levels.items (s.levels.items ++ replicate n 0)
    (ap (take s.len) e.order) refl (ap (take s.level) e.starts) e.reasons e.levels
    ∙ widened_view _ _ _ _ _ _ _ _ _ c.self.invariant n (literal 1 true) c.args.self.now c.self.view_is

pub returns-clause-marks : goal.returns-clause-marks
returns-clause-marks c = marks_kept _ _ _ _ _ _ _ _ _ (invariant_of-self-2 c)

pub returns-clause-watched : goal.returns-clause-watched
returns-clause-watched c = λ a w. subst (λ (m : Marks). AreWatched a m) (sym (returns-clause-more c)) (watched_widened a c.args.self.now c.args.n w)

pub returns-clause-reasoned : goal.returns-clause-reasoned
returns-clause-reasoned c = λ a r. subst (λ (m : Marks). AreReasoned a m) (sym (returns-clause-more c))
    (reasoned_widened c.args.self.now c.args.n a.words a.places r)
