use Rattle.std.proofs.Common.{◌≤◌, ◌+◌, ◌++◌, ◌∙◌, List, ℕ, Bool, false, true, replicate, take, sym, subst, ap}
use Rattle.cnf_core.specs.declared.limits.TheConstants.{VARS}
use Rattle.cnf_core.specs.Lit.{Literal, literal}
use Rattle.cdcl_learn.specs.Cut.{Cut, IsWork}
use Rattle.cdcl_learn.proofs.WorkLemmas.{work_wide, met_wide, rest_wide}
use Rattle.cdcl_learn.proofs.work.Work.add_vars.Goals as goal

pub invariant_of-self-2 : goal.invariant_of-self-2
invariant_of-self-2 c =
    let n = c.args.n in
    let s = c.self.inside in
    let new = c.lengthen_all.new in
    let e = c.in_ok-lengthen_all.ensures in
    let k = work_wide _ _ _ _ _ _ _ n (literal 1 true) (subst (λ (m : Cut). m.vars + n ≤ VARS) (sym c.self.view_is) c.requires) c.self.invariant in
    subst (λ (t : List Bool). IsWork (s.vars + n) t new.touched.items s.count new.rest.items s.len s.pending) (sym e.seen)
    (subst (λ (t : List ℕ). IsWork (s.vars + n) (s.seen.items ++ replicate n false) t s.count new.rest.items s.len s.pending) (sym e.touched)
    (subst (λ (t : List Literal). IsWork (s.vars + n) (s.seen.items ++ replicate n false) (s.touched.items ++ replicate n 0) s.count t s.len s.pending)
    (sym e.rest) k))

pub returns-clause-rest : goal.returns-clause-rest
returns-clause-rest c =
    ap (take c.self.inside.len) c.in_ok-lengthen_all.ensures.rest ∙ rest_wide _ _ _ _ _ _ _ c.args.n (literal 1 true) c.self.invariant
    ∙ ap (λ (m : Cut). m.rest) c.self.view_is

pub returns-clause-met : goal.returns-clause-met
returns-clause-met c =
    ap (take c.self.inside.count) c.in_ok-lengthen_all.ensures.touched ∙ met_wide _ _ _ _ _ _ _ c.args.n c.self.invariant
    ∙ ap (λ (m : Cut). m.met) c.self.view_is
