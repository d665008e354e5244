-- The maximum over lists in a row.
use Rattle.std.proofs.Common.{◌≡◌, ℕ, ◌+◌, ◌<◌, List, [], ◌∷◌, ◌++◌, ◌∙◌, ap, arith, map, length, drop, get_or}
use Rattle.std.specs.Prelude.{flat_map, max}
use Rattle.std.proofs.lemmas.List.{map-append, at_drop_more}
use Rattle.plan_core.specs.declared.point.Point.{Point}
use Rattle.plan_core.specs.Values.{maximum}

pub maximum-append : (xs ys : List ℕ) → maximum (xs ++ ys) ≡ max (maximum xs) (maximum ys)
maximum-append [] ys = omega arith
maximum-append (x ∷ xs) ys = omega (arith, maximum-append xs ys)

-- the maximum of one list after another
pub ruleset maximum_rules = (maximum-append, map-append)

-- the greatest coordinate of the points of lists
abbrev pub greatest_of : (Point → ℕ) → List (List Point) → ℕ
greatest_of coordinate lines = maximum (map coordinate (flat_map (λ line. line) lines))

-- one list more
pub greatest_step : (coordinate : Point → ℕ) (lines : List (List Point)) (i : ℕ) (d : List Point) → i < length lines →
    greatest_of coordinate (drop i lines) ≡ max (maximum (map coordinate (get_or lines i d))) (greatest_of coordinate (drop (i + 1) lines))
greatest_step coordinate lines i d within =
    let rest = flat_map (λ (line : List Point). line) (drop (i + 1) lines) in
    at_drop_more (greatest_of coordinate) lines i d within
    ∙ ap maximum (map-append coordinate (get_or lines i d) rest)
    ∙ maximum-append (map coordinate (get_or lines i d)) (map coordinate rest)
