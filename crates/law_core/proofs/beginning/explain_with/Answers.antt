use Rattle.std.proofs.Common.{Err, refl, ap}
use Rattle.drawing_cnf.specs.Layout.{layout}
use Rattle.law_core.proofs.BeginLemmas.{nothing_told, left_none}
use Rattle.law_core.proofs.beginning.explain_with.Goals as goal

pub explain_in-requires-clause-formula : goal.explain_in-requires-clause-formula
explain_in-requires-clause-formula g c =
    let e = c.in-Ok.ensures in record {
      facts = record {
        graph = c.nodes.ensures.station.track_graph;
        sound = c.why_formula.ensures.sound;
        covers = c.why_formula.ensures.covers;
        few = e.vars_fit refl;
      };
      ordered = c.requires.order;
      laws_are = e.laws;
      clauses = e.clauses;
      vars = e.vars;
      kept = e.kept;
      words_fit = e.words_fit refl;
    }

pub returns-in-Err-Room-clause-lines : goal.returns-in-Err-Room-clause-lines
returns-in-Err-Room-clause-lines g c =
    let k = g.L.LogSink in
    let y = layout c.args.g.now c.args.t.now c.args.grid.now in
    nothing_told y c.args.limits.now.budget c.args.limits.now.room (k.learnt c.args.log.now) (k.tells c.args.log.now)
    (c.in-Err-Room.ensures.full (ap Err c.in-Err-Room.field-0-is))

pub returns-in-Err-Memory-clause-left : goal.returns-in-Err-Memory-clause-left
returns-in-Err-Memory-clause-left g c =
    let k = g.L.LogSink in
    left_none (layout c.args.g.now c.args.t.now c.args.grid.now) c.args.limits.now.budget (k.tells c.args.log.now) (g.met.L.LogSink.one_reading c.args.log.now)
