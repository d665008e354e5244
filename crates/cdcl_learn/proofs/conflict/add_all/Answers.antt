use Rattle.std.proofs.Common.{◌<◌, ◌∙◌, ap, arith, length, drop, ◌+◌}
use Rattle.cdcl_learn.specs.Sight.{sight, clause_in}
use Rattle.cdcl_learn.specs.Cut.{Cut, cut_with_all}
use Rattle.cdcl_learn.proofs.WalkLemmas.{clause_lit_there, gathered_step}
use Rattle.cdcl_learn.proofs.CutLemmas.{added_vars}
use Rattle.cdcl_learn.proofs.conflict.add_all.Goals as goal

pub add-requires-clause-there : goal.add-requires-clause-there
add-requires-clause-there c =
    let lt : c.loop-i.i < length (clause_in (sight c.args.arena.now c.args.trail.now) c.args.c.0) = omega arith in
    clause_lit_there _ _ c.loop-i.i _ c.requires.there lt c.lit_of.ensures

pub loop-i-preserved : goal.loop-i-preserved
loop-i-preserved c =
    let lt : c.loop-i.i < length (clause_in (sight c.args.arena.now c.args.trail.now) c.args.c.0) = omega arith in
    record {
      vars = ap (λ (w : Cut). w.vars) c.add.ensures ∙ added_vars (sight c.args.arena.now c.args.trail.now) c.loop-i.work c.lit_of.result
          ∙ c.loop-i.invariant.vars;
      rest = ap (λ (w : Cut). cut_with_all (sight c.args.arena.now c.args.trail.now) w
          (drop (c.loop-i.i + 1) (clause_in (sight c.args.arena.now c.args.trail.now) c.args.c.0))) c.add.ensures
          ∙ gathered_step (sight c.args.arena.now c.args.trail.now) c.loop-i.work (clause_in (sight c.args.arena.now c.args.trail.now) c.args.c.0) c.loop-i.i
          c.lit_of.result lt c.lit_of.ensures
          ∙ c.loop-i.invariant.rest;
    }
