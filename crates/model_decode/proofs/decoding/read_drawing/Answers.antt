use Rattle.std.proofs.Common.{◌≡◌, List, length, ◌∙◌, ap, arith}
use Rattle.std.proofs.lemmas.Result.{IfOk-weaker}
use Rattle.plan_core.specs.declared.point.Point.{Point}
use Rattle.plan_core.specs.Drawing.{Drawing, drawing}
use Rattle.cnf_core.specs.Truths.{assignment}
use Rattle.model_decode.specs.Decoded.{IsReadAs}
use Rattle.model_decode.proofs.DecodeLemmas.{same_drawing}
use Rattle.model_decode.proofs.decoding.read_drawing.Goals as goal

pub new-requires-clause-places : goal.new-requires-clause-places
new-requires-clause-places c =
    let d = c.requires.read.drawing in
    let is = c.requires.read.is in
    let all : length c.in_ok-places.places.items ≡ length d.places = ap (λ (l : List Point). length l) (c.in_ok-places.ensures d is) in
    let size = is.loose.fits.size.places in
    let count : c.nodes.result ≡ length c.args.g.now.nodes = c.nodes.ensures.value in
    let limit = c.nodes.ensures.limit in
    omega arith

pub new-requires-clause-lines : goal.new-requires-clause-lines
new-requires-clause-lines c =
    let d = c.requires.read.drawing in
    let is = c.requires.read.is in
    let all : length c.in_ok-lines.lines.items ≡ length d.lines = ap (λ (l : List (List Point)). length l) (c.in_ok-lines.ensures d is) in
    let size = is.loose.fits.size.lines in
    let count : c.edges.result ≡ length c.args.g.now.edges = c.edges.ensures.value in
    let limit = c.edges.ensures.limit in
    omega arith

pub returns : goal.returns
returns c =
    IfOk-weaker c.new.result (λ (b : Drawing). b ≡ drawing c.deref.result.now c.deref-2.result.now)
    (λ (b : Drawing). (d : Drawing) → IsReadAs c.args.g.now c.args.grid.now (assignment c.args.m.now) d → b ≡ d)
    (λ b made d is. made ∙ same_drawing c.deref.result.now c.deref-2.result.now d (c.deref.ensures.value ∙ c.in_ok-places.ensures d is)
    (c.deref-2.ensures.value ∙ c.in_ok-lines.ensures d is)) c.new.ensures
