use Rattle.std.proofs.Common.{◌≡◌, ◌+◌, length, subst}
use Rattle.std.proofs.lemmas.Result.{IfOk-weaker}
use Rattle.plan_core.specs.Grid.{GridSize, IsGrid}
use Rattle.plan_core.specs.Graph.{Graph, IsTrackGraph}
use Rattle.plan_core.specs.Drawing.{Drawing}
use Rattle.plan_core.specs.Lawful.{Lawful}
use Rattle.plan_core.specs.Values.{values_of}
use Rattle.cnf_core.specs.Truths.{assignment}
use Rattle.track_order.specs.Order.{is_above}
use Rattle.drawing_cnf.specs.Stands.{StandsFor, IsJoinedOnGrid}
use Rattle.drawing_cnf.specs.Expected.{drawing_vars}
use Rattle.drawing_cnf.specs.Bounded.{Tells}
use Rattle.drawing_cnf.specs.Encoding.{encoded_vars}
use Rattle.model_decode.proofs.DecodeLemmas.{laws_within, decoded, lent_alone, lent_holds, lent_within}
use Rattle.model_decode.proofs.decoding.decode.Goals as goal

pub decode_loose-requires-clause-vars : goal.decode_loose-requires-clause-vars
decode_loose-requires-clause-vars c =
    lent_within c.args.e.now c.graph-graph.result.now c.grid-grid.result.now (length c.args.m.now + 1) c.graph-graph.ensures c.grid-grid.ensures
    (laws_within c.args.e.now (length c.args.m.now) c.requires.whole c.requires.vars)

pub decode_loose-requires-clause-model : goal.decode_loose-requires-clause-model
decode_loose-requires-clause-model c =
    lent_holds c.args.e.now (assignment c.args.m.now) c.graph-graph.result.now c.grid-grid.result.now c.graph-graph.ensures c.grid-grid.ensures c.requires.whole
    c.requires.model

pub returns-clause-stands : goal.returns-clause-stands
returns-clause-stands c =
    let e = c.args.e.now in
    let v = assignment c.args.m.now in
    let g = c.graph-graph.result.now in
    let grid = c.grid-grid.result.now in
    let is = subst (λ (k : Graph). IsTrackGraph k) c.graph-graph.ensures c.nodes.ensures.station.track_graph in
    let size = subst (λ (d : GridSize). IsGrid d) c.grid-grid.ensures c.width.ensures.is_grid in
    IfOk-weaker c.decode_loose.result (λ (b : Drawing). (other : Drawing) → IsJoinedOnGrid g grid other → StandsFor v g (drawing_vars g grid) other → other ≡ b)
    (λ (b : Drawing). StandsFor v e.graph (encoded_vars e) b)
    (λ b same. (decoded e v is size c.requires.whole c.requires.model b (lent_alone e v g grid b c.graph-graph.ensures c.grid-grid.ensures same)).stands)
    c.decode_loose.ensures.alone

pub returns-clause-lawful : goal.returns-clause-lawful
returns-clause-lawful c =
    let e = c.args.e.now in
    let v = assignment c.args.m.now in
    let g = c.graph-graph.result.now in
    let grid = c.grid-grid.result.now in
    let is = subst (λ (k : Graph). IsTrackGraph k) c.graph-graph.ensures c.nodes.ensures.station.track_graph in
    let size = subst (λ (d : GridSize). IsGrid d) c.grid-grid.ensures c.width.ensures.is_grid in
    IfOk-weaker c.decode_loose.result (λ (b : Drawing). (other : Drawing) → IsJoinedOnGrid g grid other → StandsFor v g (drawing_vars g grid) other → other ≡ b)
    (λ (b : Drawing). Lawful e.graph (is_above e.order) e.grid b)
    (λ b same. (decoded e v is size c.requires.whole c.requires.model b (lent_alone e v g grid b c.graph-graph.ensures c.grid-grid.ensures same)).lawful)
    c.decode_loose.ensures.alone

pub returns-clause-tells : goal.returns-clause-tells
returns-clause-tells c =
    let e = c.args.e.now in
    let v = assignment c.args.m.now in
    let g = c.graph-graph.result.now in
    let grid = c.grid-grid.result.now in
    let is = subst (λ (k : Graph). IsTrackGraph k) c.graph-graph.ensures c.nodes.ensures.station.track_graph in
    let size = subst (λ (d : GridSize). IsGrid d) c.grid-grid.ensures c.width.ensures.is_grid in
    IfOk-weaker c.decode_loose.result (λ (b : Drawing). (other : Drawing) → IsJoinedOnGrid g grid other → StandsFor v g (drawing_vars g grid) other → other ≡ b)
    (λ (b : Drawing). Tells v (values_of b) e.bounds)
    (λ b same. (decoded e v is size c.requires.whole c.requires.model b (lent_alone e v g grid b c.graph-graph.ensures c.grid-grid.ensures same)).tells)
    c.decode_loose.ensures.alone

pub returns-clause-alone : goal.returns-clause-alone
returns-clause-alone c =
    let e = c.args.e.now in
    let v = assignment c.args.m.now in
    let g = c.graph-graph.result.now in
    let grid = c.grid-grid.result.now in
    let is = subst (λ (k : Graph). IsTrackGraph k) c.graph-graph.ensures c.nodes.ensures.station.track_graph in
    let size = subst (λ (d : GridSize). IsGrid d) c.grid-grid.ensures c.width.ensures.is_grid in
    IfOk-weaker c.decode_loose.result (λ (b : Drawing). (other : Drawing) → IsJoinedOnGrid g grid other → StandsFor v g (drawing_vars g grid) other → other ≡ b)
    (λ (b : Drawing). (other : Drawing) → Lawful e.graph (is_above e.order) e.grid other → StandsFor v e.graph (encoded_vars e) other → other ≡ b)
    (λ b same. (decoded e v is size c.requires.whole c.requires.model b (lent_alone e v g grid b c.graph-graph.ensures c.grid-grid.ensures same)).alone)
    c.decode_loose.ensures.alone
