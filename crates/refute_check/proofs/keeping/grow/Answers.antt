use Rattle.std.proofs.Common.{arith, ◌≤◌, ◌<◌}
use Rattle.refute_check.proofs.KeepLemmas.{grown_none, grown_one, grown_all}
use Rattle.refute_check.proofs.keeping.grow.Goals as goal

pub loop-alloc-init : goal.loop-alloc-init
loop-alloc-init c = grown_none c.args.formula.now c.args.tables.now c.args.vars c.requires

pub loop-alloc-preserved : goal.loop-alloc-preserved
loop-alloc-preserved c =
    let low : c.loop-alloc.formula.vars < c.args.vars = omega (arith, c.vars.ensures.value, c.loop-alloc-test.true) in
    grown_one c.args.formula.now c.loop-alloc.formula c.make_var.new.formula c.loop-alloc.tables c.add_var.new.self c.args.vars low c.loop-alloc.invariant
    c.in_ok-add_var.ensures c.in_ok-make_var.ensures

pub returns-clause-made : goal.returns-clause-made
returns-clause-made c =
    let high : c.args.vars ≤ c.loop-alloc.formula.vars = omega (arith, c.vars.ensures.value, c.loop-alloc-test.false) in
    grown_all c.args.formula.now c.loop-alloc.formula c.loop-alloc.tables c.args.vars high c.loop-alloc.invariant
