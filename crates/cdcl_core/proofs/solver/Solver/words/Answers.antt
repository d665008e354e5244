use Rattle.cdcl_core.proofs.ViewLemmas.{words_view, room_view}
use Rattle.cdcl_core.proofs.solver.Solver.words.Goals as goal

pub returns-clause-limit : goal.returns-clause-limit
returns-clause-limit c = words_view c.self.inside.search c.self.inside.model c.self.inside.refuted.items c.self.inside.failed c.args.self.now c.self.invariant
    c.self.view_is

pub returns-clause-room : goal.returns-clause-room
returns-clause-room c = room_view c.self.inside.search c.self.inside.model c.self.inside.refuted.items c.self.inside.failed c.args.self.now c.self.invariant
    c.self.view_is
