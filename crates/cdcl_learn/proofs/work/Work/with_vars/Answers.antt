use Rattle.std.proofs.Common.{rules, ◌≡◌, ◌+◌, sym, subst, List, ℕ, Bool, true, false, replicate}
use Rattle.cnf_core.specs.Lit.{Literal, literal}
use Rattle.cdcl_learn.specs.Cut.{IsWork}
use Rattle.cdcl_learn.proofs.WorkLemmas.{work_new}
use Rattle.cdcl_learn.proofs.work.Work.with_vars.Goals as goal

pub invariant_of-result : goal.invariant_of-result
invariant_of-result c =
    let seen : c.in_ok-vec.field-0.items ≡ replicate (c.args.vars + 1) false = search rules in
    let touched : c.in_ok-vec-2.field-0.items ≡ replicate (c.args.vars + 1) 0 = search rules in
    let rest : c.in_ok-vec-3.field-0.items ≡ replicate (c.args.vars + 1) (literal 1 true) = search rules in
    subst (λ (t : List Bool). IsWork c.args.vars t c.in_ok-vec-2.field-0.items 0 c.in_ok-vec-3.field-0.items 0 0) (sym seen)
    (subst (λ (t : List ℕ). IsWork c.args.vars (replicate (c.args.vars + 1) false) t 0 c.in_ok-vec-3.field-0.items 0 0) (sym touched)
    (subst (λ (t : List Literal). IsWork c.args.vars (replicate (c.args.vars + 1) false) (replicate (c.args.vars + 1) 0) 0 t 0 0) (sym rest)
    (work_new c.args.vars (literal 1 true) c.requires)))
