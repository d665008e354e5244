use Rattle.std.proofs.Common.{map, get_or, rules}
use Rattle.drawing_cnf.specs.Expected.{drawing_vars}
use Rattle.law_core.specs.declared.parties.Law.TheVariants as law
use Rattle.law_core.specs.Law.{instance_of}
use Rattle.law_core.proofs.ChoiceCode.{choosing_first, choosing_more, choosing_done, choosing_refused, law_there, laws_over}
use Rattle.law_core.proofs.choices.add_choices.Goals as goal

pub loop-law-init : goal.loop-law-init
loop-law-init c = choosing_first c.args.g.now (drawing_vars c.args.g.now c.args.grid.now) c.args.grid.now.width c.args.f.now (map instance_of c.args.laws.now)

pub add_choice-requires-clause-parties : goal.add_choice-requires-clause-parties
add_choice-requires-clause-parties c = c.requires.parties c.loop-law.law-index (law.Ordered (record { 0 = 0 }) (record { 0 = 0 })) c.loop-law-test.true

pub returns-in_err-add_choice : goal.returns-in_err-add_choice
returns-in_err-add_choice c =
    let k = c.loop-law.law-index in
    let d = law.Ordered (record { 0 = 0 }) (record { 0 = 0 }) in
    let there = law_there c.args.laws.now k d c.loop-law-test.true in
    choosing_refused c.add_choice.result c.from_residual.result c.args.g.now (drawing_vars c.args.g.now c.args.grid.now) c.args.grid.now.width c.args.f.now
    c.loop-law.f c.add_choice.new.f
    (map instance_of c.args.laws.now) k (instance_of (get_or c.args.laws.now k d)) 8 c.from_residual.ensures.0 (λ h. search (rules, h)) there.0 there.1
    c.loop-law.invariant c.add_choice.ensures

pub loop-law-preserved : goal.loop-law-preserved
loop-law-preserved c =
    let k = c.loop-law.law-index in
    let d = law.Ordered (record { 0 = 0 }) (record { 0 = 0 }) in
    let there = law_there c.args.laws.now k d c.loop-law-test.true in
    choosing_more _ c.args.g.now (drawing_vars c.args.g.now c.args.grid.now) c.args.grid.now.width c.args.f.now c.loop-law.f c.add_choice.new.f
    (map instance_of c.args.laws.now) k (instance_of (get_or c.args.laws.now k d)) 8 there.0 there.1 c.loop-law.invariant c.in_ok-add_choice.ensures

pub returns : goal.returns
returns c = choosing_done tt c.args.g.now (drawing_vars c.args.g.now c.args.grid.now) c.args.grid.now.width c.args.f.now c.loop-law.f
    (map instance_of c.args.laws.now) c.loop-law.law-index 8
    (laws_over c.args.laws.now c.loop-law.law-index c.loop-law-test.false) c.loop-law.invariant
