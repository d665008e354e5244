use Rattle.std.proofs.Common.{◌≡◌, ◌-◌, ℕ, List, length, sym, ◌∙◌, ap, subst, arith}
use Rattle.plan_core.specs.Drawing.{line}
use Rattle.cnf_core.specs.Truths.{assignment}
use Rattle.edge_shape.specs.Track.{line_over, IsTrack}
use Rattle.edge_shape.specs.Columns.{listed_height}
use Rattle.model_decode.proofs.DecodeLemmas.{heights_are, height_model, height_in, spot_width, spot_high}
use Rattle.model_decode.proofs.TracedLemmas.{AreHeights, heights_rise, heights_track, heights_line}
use Rattle.model_decode.proofs.decoding.line_between.Goals as goal

pub heights_of-heights-requires-clause-width : goal.heights_of-heights-requires-clause-width
heights_of-heights-requires-clause-width c = c.width-width.ensures.value ∙ sym (spot_width c.args.g.now c.args.grid.now c.args.k c.edge_vars.result
    c.edge_vars.ensures.edge)

pub heights_of-heights-requires-clause-few : goal.heights_of-heights-requires-clause-few
heights_of-heights-requires-clause-few c = let is = c.width-width.ensures.value in let most = c.width-width.ensures.is_grid.width_limit in omega arith

pub heights_of-heights-requires-clause-high : goal.heights_of-heights-requires-clause-high
heights_of-heights-requires-clause-high c =
    let is = spot_high c.args.g.now c.args.grid.now c.args.k c.edge_vars.result c.edge_vars.ensures.edge in
    let most = c.requires.read.size.height_limit in
    omega arith

pub heights_of-heights-requires-clause-there : goal.heights_of-heights-requires-clause-there
heights_of-heights-requires-clause-there c = λ k le.
    let same : c.width-width.result ≡ c.args.grid.now.width = c.width-width.ensures.value in
    height_in c.args.g.now c.args.grid.now c.args.k k (length c.args.m.now) c.edge_vars.result c.requires.read.size c.requires.read.few c.requires.k
    (omega arith) c.requires.there c.edge_vars.ensures.edge

pub heights_of-heights-requires-clause-model : goal.heights_of-heights-requires-clause-model
heights_of-heights-requires-clause-model c = λ k le.
    let same : c.width-width.result ≡ c.args.grid.now.width = c.width-width.ensures.value in
    height_model c.args.g.now c.args.grid.now (assignment c.args.m.now) c.args.k k c.edge_vars.result c.requires.read.drawing c.requires.k (omega arith)
    c.edge_vars.ensures.edge c.requires.read.is

pub trace-requires-clause-order : goal.trace-requires-clause-order
trace-requires-clause-order c =
    let d = c.requires.read.drawing in
    let is = c.requires.read.is in
    let same : c.width-width.result ≡ c.args.grid.now.width = c.width-width.ensures.value in
    let rise = heights_rise (listed_height c.heights_of-heights.result.items) c.args.grid.now.width (line d c.args.k) c.args.west c.args.east
    (heights_are c.args.g.now c.args.grid.now (assignment c.args.m.now) c.args.k c.args.west c.args.east c.edge_vars.result
    (listed_height c.heights_of-heights.result.items) d c.requires.k c.edge_vars.ensures.edge is (c.requires.west d is) (c.requires.east d is)
    (λ j le. c.heights_of-heights.ensures.each j (omega arith))) in
    omega arith

pub trace-requires-clause-there : goal.trace-requires-clause-there
trace-requires-clause-there c =
    let d = c.requires.read.drawing in
    let is = c.requires.read.is in
    let same : c.width-width.result ≡ c.args.grid.now.width = c.width-width.ensures.value in
    let h : AreHeights (listed_height c.heights_of-heights.result.items) c.args.grid.now.width (line d c.args.k) c.args.west c.args.east =
    heights_are c.args.g.now c.args.grid.now (assignment c.args.m.now) c.args.k c.args.west c.args.east c.edge_vars.result
    (listed_height c.heights_of-heights.result.items) d c.requires.k c.edge_vars.ensures.edge is (c.requires.west d is) (c.requires.east d is)
    (λ j le. c.heights_of-heights.ensures.each j (omega arith)) in
    let within = h.within in
    let count = c.heights_of-heights.ensures.count in
    let all : length c.as_slice.result.now ≡ length c.heights_of-heights.result.items = ap (λ (l : List ℕ). length l) c.as_slice.ensures.value in
    omega arith

pub trace-requires-clause-track : goal.trace-requires-clause-track
trace-requires-clause-track c =
    let d = c.requires.read.drawing in
    let is = c.requires.read.is in
    let same : c.width-width.result ≡ c.args.grid.now.width = c.width-width.ensures.value in
    subst (λ (l : List ℕ). IsTrack (listed_height l) c.args.west (c.args.east - c.args.west - 1)) (sym c.as_slice.ensures.value)
    (heights_track (listed_height c.heights_of-heights.result.items) c.args.grid.now.width (line d c.args.k) c.args.west c.args.east
    (heights_are c.args.g.now c.args.grid.now (assignment c.args.m.now) c.args.k c.args.west c.args.east c.edge_vars.result
    (listed_height c.heights_of-heights.result.items) d c.requires.k c.edge_vars.ensures.edge is (c.requires.west d is) (c.requires.east d is)
    (λ j le. c.heights_of-heights.ensures.each j (omega arith))))

pub returns : goal.returns
returns c = λ d is.
    let same : c.width-width.result ≡ c.args.grid.now.width = c.width-width.ensures.value in
    c.trace.ensures ∙ ap (λ (l : List ℕ). line_over (listed_height l) c.args.west (c.args.east - c.args.west - 1)) c.as_slice.ensures.value
    ∙ heights_line (listed_height c.heights_of-heights.result.items) c.args.grid.now.width (line d c.args.k) c.args.west c.args.east
    (heights_are c.args.g.now c.args.grid.now (assignment c.args.m.now) c.args.k c.args.west c.args.east c.edge_vars.result
    (listed_height c.heights_of-heights.result.items) d c.requires.k c.edge_vars.ensures.edge is (c.requires.west d is) (c.requires.east d is)
    (λ j le. c.heights_of-heights.ensures.each j (omega arith)))
