use Rattle.std.proofs.Common.{◌≡◌}
use Rattle.std.proofs.lemmas.Result.{IfOk-weaker}
use Rattle.plan_core.specs.Drawing.{Drawing}
use Rattle.cnf_core.specs.Truths.{assignment}
use Rattle.drawing_cnf.specs.Stands.{StandsFor, ReadsDrawing, IsJoinedOnGrid}
use Rattle.drawing_cnf.specs.Expected.{drawing_vars}
use Rattle.drawing_cnf.proofs.MainLemmas.{few_variables}
use Rattle.model_decode.specs.Decoded.{IsReadAs}
use Rattle.model_decode.proofs.DecodeLemmas.{model_read, loose_decoded}
use Rattle.model_decode.proofs.decoding.decode_loose.Goals as goal

pub read_drawing-requires-clause-read : goal.read_drawing-requires-clause-read
read_drawing-requires-clause-read c =
    let g = c.args.g.now in
    let grid = c.args.grid.now in
    let s = c.nodes.ensures.station in
    let size = c.width.ensures.is_grid in
    model_read g grid (assignment c.args.m.now) s.track_graph size (few_variables g grid size s.few_nodes s.few_edges) c.requires.model

pub returns-clause-joined : goal.returns-clause-joined
returns-clause-joined c =
    let g = c.args.g.now in
    let grid = c.args.grid.now in
    let v = assignment c.args.m.now in
    IfOk-weaker c.read_drawing.result (λ (b : Drawing). (d : Drawing) → IsReadAs g grid v d → b ≡ d) (λ (b : Drawing). IsJoinedOnGrid g grid b)
    (λ b same. (loose_decoded g grid v c.nodes.ensures.station.track_graph c.width.ensures.is_grid c.requires.model b same).joined) c.read_drawing.ensures

pub returns-clause-reads : goal.returns-clause-reads
returns-clause-reads c =
    let g = c.args.g.now in
    let grid = c.args.grid.now in
    let v = assignment c.args.m.now in
    IfOk-weaker c.read_drawing.result (λ (b : Drawing). (d : Drawing) → IsReadAs g grid v d → b ≡ d)
    (λ (b : Drawing). ReadsDrawing v g (drawing_vars g grid) grid.width b)
    (λ b same. (loose_decoded g grid v c.nodes.ensures.station.track_graph c.width.ensures.is_grid c.requires.model b same).reads) c.read_drawing.ensures

pub returns-clause-stands : goal.returns-clause-stands
returns-clause-stands c =
    let g = c.args.g.now in
    let grid = c.args.grid.now in
    let v = assignment c.args.m.now in
    IfOk-weaker c.read_drawing.result (λ (b : Drawing). (d : Drawing) → IsReadAs g grid v d → b ≡ d) (λ (b : Drawing). StandsFor v g (drawing_vars g grid) b)
    (λ b same. (loose_decoded g grid v c.nodes.ensures.station.track_graph c.width.ensures.is_grid c.requires.model b same).stands) c.read_drawing.ensures

pub returns-clause-alone : goal.returns-clause-alone
returns-clause-alone c =
    let g = c.args.g.now in
    let grid = c.args.grid.now in
    let v = assignment c.args.m.now in
    IfOk-weaker c.read_drawing.result (λ (b : Drawing). (d : Drawing) → IsReadAs g grid v d → b ≡ d)
    (λ (b : Drawing). (other : Drawing) → IsJoinedOnGrid g grid other → StandsFor v g (drawing_vars g grid) other → other ≡ b)
    (λ b same. (loose_decoded g grid v c.nodes.ensures.station.track_graph c.width.ensures.is_grid c.requires.model b same).alone) c.read_drawing.ensures
