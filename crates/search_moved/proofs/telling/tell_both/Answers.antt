use Rattle.std.proofs.Common.{◌≡◌, ◌-◌, ◌++◌, map, sym, ◌∙◌, ap, subst, arith}
use Rattle.std.proofs.lemmas.List.{map-append}
use Rattle.refute_log.specs.declared.line.LogLine.TheVariants.{Formula}
use Rattle.refute_log.specs.Told.{Lines}
use Rattle.refute_log.specs.Log.{clause_lines}
use Rattle.refute_log.specs.Steps.{Leaves}
use Rattle.refute_log.proofs.StepLemmas.{clause_lines_append, leaves_more, leaves_then, on_err_weaker}
use Rattle.cdcl_core.specs.Belongs.{Belongs}
use Rattle.outside_io.proofs.Results.{on_err_anyway}
use Rattle.search_least.proofs.BuildLemmas.{formulas_are_clauses}
use Rattle.lex_minimise.proofs.LeftLemmas.{few_formulas}
use Rattle.lex_minimise.proofs.TellLemmas.{ok_from, goes_then}
use Rattle.search_moved.proofs.TellLemmas.{taken_both}
use Rattle.search_moved.proofs.telling.tell_both.Goals as goal

pub returns-clause-taken : goal.returns-clause-taken
returns-clause-taken g c =
    let cs = c.args.first.now.clauses in
    let ds = c.args.second.now.clauses in
    let h = c.in_ok-add_clauses.ensures.taken in
    ok_from c.add_clauses-2.result _ _ c.add_clauses-2.ensures.taken
    (λ k. taken_both c.args.solver.now c.add_clauses.new.solver c.add_clauses-2.new.solver (c.args.first.now.vars - c.args.solver.now.vars)
    (c.args.second.now.vars - c.add_clauses.new.solver.vars)
    (c.args.second.now.vars - c.args.solver.now.vars) cs ds (let v = h.vars in let a = c.requires.more in let b = c.requires.further in omega (arith, v, a, b))
    h k)

pub returns-clause-lines : goal.returns-clause-lines
returns-clause-lines g c =
    let k = g.L.LogSink in
    let cs = c.args.first.now.clauses in
    let ds = c.args.second.now.clauses in
    ok_from c.add_clauses-2.result _ _ c.add_clauses-2.ensures.lines
    (λ h. goes_then (λ ls. Belongs ls c.args.solver.now) (λ ls. Belongs ls c.add_clauses.new.solver) (λ ls. Belongs ls c.add_clauses-2.new.solver)
    (k.tells c.args.log.now) (k.tells c.add_clauses.new.log) (k.tells c.add_clauses-2.new.log)
    (k.learnt c.args.log.now) (k.learnt c.add_clauses.new.log) (k.learnt c.add_clauses-2.new.log) (map Formula cs) (map Formula ds) (map Formula (cs ++ ds))
    c.in_ok-add_clauses.ensures.lines h (sym (map-append Formula cs ds)))

pub returns-in_err-add_clauses-clause-leaves : goal.returns-in_err-add_clauses-clause-leaves
returns-in_err-add_clauses-clause-leaves g c =
    let k = g.L.LogSink in
    let cs = c.args.first.now.clauses in
    let ds = c.args.second.now.clauses in
    let l0 = k.tells c.args.log.now in
    let l1 = k.tells c.add_clauses.new.log in
    on_err_anyway _ _ (subst (λ (ls : Lines). Leaves 0 ls (λ xs. Belongs xs c.args.solver.now) l0 l1) (sym (map-append Formula cs ds))
    (leaves_more (map Formula cs) (map Formula ds) (λ xs. Belongs xs c.args.solver.now) l0 l1 c.in_err-add_clauses.ensures.leaves))

pub returns-clause-leaves : goal.returns-clause-leaves
returns-clause-leaves g c =
    let k = g.L.LogSink in
    let cs = c.args.first.now.clauses in
    let ds = c.args.second.now.clauses in
    let l0 = k.tells c.args.log.now in
    let l2 = k.tells c.add_clauses-2.new.log in
    let xs = map Formula cs in
    on_err_weaker c.add_clauses-2.result _ _
    (λ h. subst (λ (ls : Lines). Leaves 0 ls (λ zs. Belongs zs c.args.solver.now) l0 l2) (sym (map-append Formula cs ds))
    (leaves_then (λ zs. Belongs zs c.args.solver.now) (λ zs. Belongs zs c.add_clauses.new.solver) l0 (k.tells c.add_clauses.new.log) l2
    (k.learnt c.args.log.now) (k.learnt c.add_clauses.new.log) (λ lines more. more ≡ xs) xs (map Formula ds) c.in_ok-add_clauses.ensures.lines
    (λ lines more ka kb r. clause_lines_append lines more ∙ ap (λ (ls : Lines). clause_lines lines ++ ls) (ap clause_lines r ∙ formulas_are_clauses cs))
    (λ lines more ka kb r. few_formulas 0 cs lines more r) h))
    c.add_clauses-2.ensures.leaves
