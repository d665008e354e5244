use Rattle.run_input.proofs.DerivesLemmas.{tells_told}
use Rattle.run_draw_front.specs.Drawn.{search_job, search_of, IsLeftOfDraw}
use Rattle.run_draw_front.proofs.OutcomeLemmas.{outcome_left}
use Rattle.run_draw_front.proofs.drawing.BestSearchSearching.search.Goals as goal

pub returns-in-Ok-clause-searched : goal.returns-in-Ok-clause-searched
returns-in-Ok-clause-searched g c = let lines = c.in-Ok.ensures.lines in record { lines = lines.0; told = lines.1; ended = lines.2 }

pub returns-in-Ok-clause-left : goal.returns-in-Ok-clause-left
returns-in-Ok-clause-left g c =
    let k = g.L.LogSink in
    let lines = c.in-Ok.ensures.lines in
    let s = c.args.self.now in
    let asked = search_job s.grid.now s.order.now s.budget in
    let graph = s.station.now.graph in
    let order = s.station.now.order in
    tells_told (IsLeftOfDraw asked graph order) (k.tells c.args.log.now) (k.tells c.minimise.new.log) lines.0 (g.met.L.LogSink.one_reading c.minimise.new.log)
    lines.1.behind (outcome_left (search_of graph order asked) asked.order c.in-Ok.outcome lines.0 lines.2)

pub returns-in-Err-Log-clause-left : goal.returns-in-Err-Log-clause-left
returns-in-Err-Log-clause-left g c = c.in-Err-Log.ensures.left

pub returns-in-Err-Memory-clause-left : goal.returns-in-Err-Memory-clause-left
returns-in-Err-Memory-clause-left g c = c.in-Err-Memory.ensures.left
