use Rattle.std.proofs.Common.{rules, ◌≡◌, ◌≤◌, ◌+◌, ◌++◌, [], ◌∷◌, List, ◌∙◌, ap, subst, sym, arith}
use Rattle.cnf_core.specs.declared.limits.TheConstants.{VARS}
use Rattle.cnf_laws.specs.Expected.{drawing_vars}
use Rattle.drawing_cnf.specs.Bounds.{bound_sums}
use Rattle.drawing_cnf.specs.Kept.{AreKept}
use Rattle.drawing_cnf.specs.declared.kept_bound.KeptBound.{KeptBound}
use Rattle.drawing_cnf.proofs.CriterionLemmas.{cap_fits, kept_more}
use Rattle.drawing_cnf.proofs.adding.add_kept.Goals as goal

pub invariant_of-result : goal.invariant_of-result
invariant_of-result c =
    let g = c.e.inside.graph.now in
    let d = c.e.inside.grid.now in
    let made = c.in_ok-sums.ensures.adds.made in
    let limit = c.vars.ensures.formula.vars_limit in
    let at = c.vars-last.ensures.value in
    let fits = cap_fits g (drawing_vars g d) d c.e.inside.formula.vars c.args.cap c.args.c in
    let all : c.vars-last.result + c.args.cap ≤ VARS = omega arith in
    all

pub invariant_of-e-2 : goal.invariant_of-e-2
invariant_of-e-2 c =
    let g = c.e.inside.graph.now in
    let d = c.e.inside.grid.now in
    let x = drawing_vars g d in
    let k : KeptBound = record { criterion = c.args.c; last = c.vars-last.result; cap = c.args.cap; sums = c.in_ok-sums.sums } in
    let grown : c.push.new.self.items ≡ c.e.inside.bounds.items ++ k ∷ [] = search rules in
    let has : c.in_ok-sums.sums.items ≡ bound_sums g x d c.vars-last.result c.args.cap c.args.c =
    c.in_ok-sums.ensures.sums ∙ ap (λ n. bound_sums g x d n c.args.cap c.args.c) (sym c.vars-last.ensures.value) in
    subst (λ (ks : List KeptBound). AreKept g d ks) (sym grown) (kept_more g d c.e.inside.bounds.items k c.e.invariant has)
