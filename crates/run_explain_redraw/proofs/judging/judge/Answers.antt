use Rattle.std.proofs.Common.{rules}
use Rattle.run_explain_redraw.proofs.judging.judge.Goals as goal

pub returns-in_err-station-clause-rejected : goal.returns-in_err-station-clause-rejected
returns-in_err-station-clause-rejected c = let rejected = c.in_err-station.ensures.rejected c.args.old.now c.args.said.now in search (rules, rejected)

pub returns-in_err-before-clause-rejected : goal.returns-in_err-before-clause-rejected
returns-in_err-before-clause-rejected c =
    let station = c.in_ok-station.station in
    let rejected = c.in_err-before.ensures.rejected c.args.bytes.now c.args.said.now station.graph station.order c.in_ok-station.ensures.station in
    search (rules, rejected)

pub returns-in_err-drawing-clause-rejected : goal.returns-in_err-drawing-clause-rejected
returns-in_err-drawing-clause-rejected c =
    let station = c.in_ok-station.station in
    let rejected = c.in_err-drawing.ensures.rejected c.args.bytes.now c.args.old.now station.graph station.order c.in_ok-station.ensures.station
    c.in_ok-before.ensures.station in
    search (rules, rejected)
