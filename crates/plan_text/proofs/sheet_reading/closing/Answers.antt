use Rattle.std.proofs.Common.{[], ◌∷◌, ◌++◌, refl, arith}
use Rattle.plan_core.specs.Values.{values_of}
use Rattle.plan_write.specs.SheetLine.{ValuesLine, EndLine}
use Rattle.plan_text.specs.SheetFaults.{ValuesDue}
use Rattle.plan_text.proofs.ReadingLemmas.{fails, first_here, later_here, order_kept, read_values, read_ending}
use Rattle.plan_text.proofs.sheet_reading.closing.Goals as goal

pub returns-in_err-rest : goal.returns-in_err-rest
returns-in_err-rest c =
    let n = c.nodes.ensures.value in
    let f = c.from.ensures in
    let e = c.edges.ensures.value in
    let h = c.from-2.ensures in
    fails c.from_residual.result _ _ c.in_err-rest.field-0.0 c.from_residual.ensures.1
    (λ before ordered told. first_here c.args.g.now before ValuesDue c.args.text.now _ _ c.in_err-rest.field-0.0 (omega (arith, n, f, e, h))
    (c.in_err-rest.ensures c.args.g.now before told))

pub returns-in_err-ending : goal.returns-in_err-ending
returns-in_err-ending c =
    let n = c.nodes.ensures.value in
    let f = c.from.ensures in
    let e = c.edges.ensures.value in
    let h = c.from-2.ensures in
    let values = ValuesLine (values_of c.args.d.now) in
    fails c.from_residual-in_err-ending.result _ _ c.in_err-ending.field-0.0 c.from_residual-in_err-ending.ensures.1
    (λ before ordered told. later_here c.args.g.now before ValuesDue c.args.text.now c.in_ok-rest.rest.now (values ∷ []) _ _ c.in_err-ending.field-0.0
    (read_values c.args.g.now before c.args.d.now c.args.text.now c.in_ok-rest.rest.now told c.in_ok-rest.ensures) (omega (arith, n, f, e, h))
    (c.in_err-ending.ensures c.args.g.now (before ++ values ∷ []) (order_kept before (values ∷ []) c.args.order.now refl ordered)))

pub returns-in_err-nothing : goal.returns-in_err-nothing
returns-in_err-nothing c =
    let n = c.nodes.ensures.value in
    let f = c.from.ensures in
    let e = c.edges.ensures.value in
    let h = c.from-2.ensures in
    let values = ValuesLine (values_of c.args.d.now) in
    fails c.from_residual-in_err-nothing.result _ _ c.in_err-nothing.field-0.0 c.from_residual-in_err-nothing.ensures.1
    (λ before ordered told. later_here c.args.g.now before ValuesDue c.args.text.now c.in_ok-ending.rest.now (values ∷ EndLine c.in_ok-ending.ending ∷ []) _ _
    c.in_err-nothing.field-0.0
    (read_ending c.args.g.now before c.args.order.now c.args.d.now c.args.text.now c.in_ok-rest.rest.now c.in_ok-ending.rest.now c.in_ok-ending.ending ordered
    told c.in_ok-rest.ensures c.in_ok-ending.ensures.0 c.in_ok-ending.ensures.1 c.in_ok-ending.ensures.2) (omega (arith, n, f, e, h))
    (c.in_err-nothing.ensures c.args.g.now (before ++ values ∷ EndLine c.in_ok-ending.ending ∷ [])))
