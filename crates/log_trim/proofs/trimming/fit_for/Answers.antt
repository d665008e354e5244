use Rattle.plan_core.specs.Values.{value_of}
use Rattle.drawing_cnf.specs.Layout.{layout}
use Rattle.log_trim.proofs.trimming.fit_for.Goals as goal

pub returns-in-Ok : goal.returns-in-Ok
returns-in-Ok c = c.fit_by.ensures (layout c.args.g.now c.args.t.now c.args.grid.now) c.args.order.now (value_of c.args.caps.now) c.in-Ok.ensures.so_far
    c.in-Ok.ensures.fits
