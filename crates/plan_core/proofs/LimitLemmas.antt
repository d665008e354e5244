-- No value of a lawful drawing passes its limit.
use Rattle.std.proofs.Common.{◌≡◌, ℕ, ◌-◌, ◌*◌, ◌≤◌, Bool, true, List, [], ◌∷◌, map, subst, arith}
use Rattle.std.specs.Prelude.{All}
use Rattle.std.specs.List.{flat_map, sum_by, range_with_len}
use Rattle.std.proofs.lemmas.List.Elements.{All-head, All-tail, All-append, All-nil, All-map, All-weaker, All-get_or, All-from_get_or}
use Rattle.std.proofs.lemmas.List.Sums.{sum_by-le, count_by-le-length}
use Rattle.std.proofs.lemmas.List.FromFn.{length-range_with_len}
use Rattle.plan_core.specs.declared.point.Point.{Point}
use Rattle.plan_core.specs.declared.criterion.Criterion.{Criterion}
use Rattle.plan_core.specs.declared.criterion.Criterion.TheVariants.{Height, Bends, Diagonal, Width}
use Rattle.plan_core.specs.Grid.{GridSize}
use Rattle.plan_core.specs.Graph.{Graph}
use Rattle.plan_core.specs.Line.{is_line, origin, last_from, west_end, east_end, bends, diagonal, height}
use Rattle.plan_core.specs.Drawing.{Drawing, line, all_points}
use Rattle.plan_core.specs.Laws.{IsOnGrid}
use Rattle.plan_core.specs.Lawful.{Lawful}
use Rattle.plan_core.specs.Values.{maximum, values_of, value_of, limit_of}
use Rattle.plan_core.proofs.ByLaw.{each_law}
use Rattle.plan_core.proofs.LineLemmas.{line_length}
use Rattle.plan_core.proofs.DiagonalLemmas.{turns, diagonal_by_columns}

pub maximum-le : (xs : List ℕ) (most : ℕ) → All (λ x. x ≤ most) xs → maximum xs ≤ most
maximum-le [] most h = omega arith
maximum-le (x ∷ xs) most h =
    let first = All-head (λ x. x ≤ most) x xs h in
    let rest = maximum-le xs most (All-tail (λ x. x ≤ most) x xs h) in
    omega (arith, first, rest)

pub All-flat_map : {X : Type 0} (P : X → Type 0) (lists : List (List X)) → All (All P) lists → All P (flat_map (λ l. l) lists)
All-flat_map P [] h = All-nil P
All-flat_map P (l ∷ lists) h = All-append P l (flat_map (λ l. l) lists) (All-head (All P) l lists h) (All-flat_map P lists (All-tail (All P) l lists h))

-- every point of a lawful drawing lies on the grid
pub points_on_grid : (g : Graph) (above : ℕ → ℕ → Bool) (grid : GridSize) (d : Drawing) → Lawful g above grid d → All (IsOnGrid grid) (all_points d)
points_on_grid g above grid d lawful =
    let keeps = each_law g above grid d lawful in
    let nodes = lawful.fits.size.places in
    let edges = lawful.fits.size.lines in
    All-append (IsOnGrid grid) d.places (flat_map (λ l. l) d.lines)
    (All-from_get_or (IsOnGrid grid) d.places origin (λ n within. keeps.nodes_on_grid n (omega (arith, nodes, within))))
    (All-flat_map (IsOnGrid grid) d.lines (All-from_get_or (All (IsOnGrid grid)) d.lines [] (λ e within. keeps.lines_on_grid e (omega (arith, edges, within)))))

coordinate-le : (coordinate : Point → ℕ) (most : ℕ) (points : List Point) → All (λ p. coordinate p ≤ most) points → maximum (map coordinate points) ≤ most
coordinate-le coordinate most points h = maximum-le (map coordinate points) most (All-map (λ x. x ≤ most) coordinate points h)

pub bends-le : (l : List Point) → is_line l ≡ true → bends l ≤ 2
bends-le l h = let few = (line_length l h).1 in omega (arith, few)

last_has : (P : Point → Type 0) (a : Point) (rest : List Point) → All P (a ∷ rest) → P (last_from a rest)
last_has P a [] h = All-head P a [] h
last_has P a (b ∷ rest) h = last_has P b rest (All-tail P a (b ∷ rest) h)

-- a line climbs and falls at most one row for each of its columns
pub diagonal-le : (l : List Point) → is_line l ≡ true → diagonal l ≤ (east_end l).x - (west_end l).x
diagonal-le l h =
    let n = (east_end l).x - (west_end l).x in
    let same = diagonal_by_columns l h in
    let few = count_by-le-length (turns (height l)) (range_with_len (west_end l).x n) in
    let long = length-range_with_len (west_end l).x n in
    omega (arith, same, few, long)

diagonal-le-width : (grid : GridSize) (l : List Point) → is_line l ≡ true → All (IsOnGrid grid) l → diagonal l ≤ grid.width
diagonal-le-width grid [] h on = omega arith
diagonal-le-width grid (a ∷ rest) h on =
    let span = diagonal-le (a ∷ rest) h in
    let far = (last_has (IsOnGrid grid) a rest on).in_width in
    omega (arith, span, far)

pub value-le-limit : (g : Graph) (above : ℕ → ℕ → Bool) (grid : GridSize) (d : Drawing) → Lawful g above grid d → (c : Criterion) →
    value_of (values_of d) c ≤ limit_of g grid c
value-le-limit g above grid d lawful Height =
    coordinate-le (λ p. p.y) grid.height (all_points d) (All-weaker (IsOnGrid grid) (λ p. p.y ≤ grid.height) (λ p on. on.in_height) (all_points d)
    (points_on_grid g above grid d lawful))
value-le-limit g above grid d lawful Bends =
    let edges = lawful.fits.size.lines in
    let most = sum_by-le bends 2 d.lines (All-weaker (λ l. is_line l ≡ true) (λ l. bends l ≤ 2) bends-le d.lines lawful.fits.are_lines) in
    omega (arith, edges, most)
value-le-limit g above grid d lawful Diagonal =
    let keeps = each_law g above grid d lawful in
    let edges = lawful.fits.size.lines in
    let each : All (λ l. diagonal l ≤ grid.width) d.lines =
    All-from_get_or (λ l. diagonal l ≤ grid.width) d.lines [] (λ e within.
    diagonal-le-width grid (line d e) (All-get_or (λ l. is_line l ≡ true) d.lines e [] within lawful.fits.are_lines)
    (keeps.lines_on_grid e (omega (arith, edges, within)))) in
    subst (λ n. sum_by diagonal d.lines ≤ n * grid.width) edges (sum_by-le diagonal grid.width d.lines each)
value-le-limit g above grid d lawful Width =
    coordinate-le (λ p. p.x) grid.width (all_points d) (All-weaker (IsOnGrid grid) (λ p. p.x ≤ grid.width) (λ p on. on.in_width) (all_points d)
    (points_on_grid g above grid d lawful))
