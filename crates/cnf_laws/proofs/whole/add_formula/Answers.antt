use Rattle.std.proofs.Common.{rules}
use Rattle.track_order.specs.Order.{is_above, is_overlap}
use Rattle.cnf_laws.specs.Expected.{instances}
use Rattle.cnf_laws.proofs.EncodeCode.{formula_refused, formula_after}
use Rattle.cnf_laws.proofs.whole.add_formula.Goals as goal

pub returns-in_err-add_base : goal.returns-in_err-add_base
returns-in_err-add_base c =
    let g = c.args.g.now in
    formula_refused c.add_base.result c.from_residual.result _ _ g c.args.grid.now (instances g (is_above c.args.t.now) (is_overlap c.args.t.now))
    c.from_residual.ensures.0 (λ k. search (rules, k)) c.add_base.ensures.adds

pub returns : goal.returns
returns c =
    let g = c.args.g.now in
    formula_after _ c.add_laws.result _ _ _ g c.args.grid.now (instances g (is_above c.args.t.now) (is_overlap c.args.t.now)) c.requires.empty
    c.in_ok-add_base.ensures.adds c.add_laws.ensures
