use Rattle.std.proofs.Common.{◌≤◌, ℕ, List, length, sym, subst, lit<, arith}
use Rattle.cnf_core.specs.Assignment.{SatisfiesAll}
use Rattle.cnf_core.specs.Truths.{assignment}
use Rattle.order_int.specs.IntVars.{IntVars, IntIsIn}
use Rattle.order_int.specs.OrderInt.{int_clauses, Reads}
use Rattle.edge_shape.specs.EdgeVars.{lits_of}
use Rattle.model_decode.proofs.DecodeLemmas.{HeightsTo, no_heights, one_height}
use Rattle.model_decode.proofs.decoding.heights_of.Goals as goal

pub loop-c-init : goal.loop-c-init
loop-c-init c =
    let at = (lits_of c.args.vars.now).height in
    subst (λ (l : List ℕ). HeightsTo (assignment c.args.m.now) at l 0) (sym c.new-heights.ensures) (no_heights (assignment c.args.m.now) at)

pub number_of-requires-clause-there : goal.number_of-requires-clause-there
number_of-requires-clause-there c =
    let to = c.loop-c-test.true in
    subst (λ (i : IntVars). IntIsIn (length c.args.m.now) i) (sym c.height.ensures.value) (c.requires.there c.loop-c.c (omega arith))

pub number_of-requires-clause-model : goal.number_of-requires-clause-model
number_of-requires-clause-model c =
    let to = c.loop-c-test.true in
    subst (λ (i : IntVars). SatisfiesAll (assignment c.args.m.now) (int_clauses i)) (sym c.height.ensures.value) (c.requires.model c.loop-c.c (omega arith))

pub number_of-requires-clause-small : goal.number_of-requires-clause-small
number_of-requires-clause-small c = subst (λ (i : IntVars). i.high ≤ 65535) (sym c.height.ensures.value) c.requires.high

pub push-requires : goal.push-requires
push-requires c =
    let to = c.loop-c-test.true in
    let count = c.loop-c.invariant.count in
    let few = c.requires.few in
    (lit< tt, omega arith)

pub loop-c-preserved : goal.loop-c-preserved
loop-c-preserved c =
    one_height (assignment c.args.m.now) (lits_of c.args.vars.now).height c.loop-c.heights.items c.push.new.self.items c.number_of.result c.loop-c.c
    c.loop-c.invariant c.push.ensures.items
    (subst (λ (i : IntVars). Reads (assignment c.args.m.now) i c.number_of.result) c.height.ensures.value c.number_of.ensures)

pub returns : goal.returns
returns c =
    let end = c.loop-c-test.false in
    let past = c.loop-c.auto.c-end in
    let count = c.loop-c.invariant.count in
    record { count = omega arith; each = λ k le. c.loop-c.invariant.each k (omega arith) }
