-- Law 3 where the least length is 1: a line goes over one column or more in any case.
use Rattle.std.proofs.Common.{◌≡◌, ℕ, ◌<◌, true, [], length, subst, arith}
use Rattle.std.proofs.lemmas.List.Elements.{All-get_or}
use Rattle.plan_core.specs.declared.point.Point.{Point}
use Rattle.plan_core.specs.Grid.{grid_size}
use Rattle.plan_core.specs.Graph.{Graph, edge}
use Rattle.plan_core.specs.Line.{is_line, west_end, east_end}
use Rattle.plan_core.specs.Drawing.{Drawing, place, line}
use Rattle.plan_core.specs.Laws.{LineJoinsItsNodes}
use Rattle.plan_core.specs.Lawful.{Fits}
use Rattle.plan_core.specs.Readings.{MeetsItsNodes}
use Rattle.plan_core.proofs.LineLemmas.{ends_rise}

-- an edge's line in a drawing that fits is a line
pub fitting_line : (g : Graph) (d : Drawing) (e : ℕ) → Fits g d → e < length g.edges → is_line (line d e) ≡ true
fitting_line g d e fits within =
    let same = fits.size.lines in
    All-get_or (λ l. is_line l ≡ true) d.lines e [] (omega (arith, same, within)) fits.are_lines

pub joins_where_ends_meet : (g : Graph) (width height : ℕ) (d : Drawing) (e : ℕ) → Fits g d → e < length g.edges → MeetsItsNodes g d e →
    LineJoinsItsNodes g (grid_size width height) d e
joins_where_ends_meet g width height d e fits within meets =
    let rises : (west_end (line d e)).x < (east_end (line d e)).x = ends_rise (line d e) (fitting_line g d e fits within) in
    let from_west : (place d (edge g e).west).x < (east_end (line d e)).x = subst (λ (p : Point). p.x < (east_end (line d e)).x) meets.begins rises in
    let apart : (place d (edge g e).west).x < (place d (edge g e).east).x = subst (λ (p : Point). (place d (edge g e).west).x < p.x) meets.ends from_west in
    record { begins = meets.begins; ends = meets.ends; is_long = omega (arith, apart) }
