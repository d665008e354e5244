-- The picture of a drawing, as an SVG text.
use Rattle.std.specs.Prelude.{ℕ, ◌+◌, ◌-◌, ◌*◌, ◌==◌, if◌then◌else◌, List, [], ◌∷◌, ◌++◌, codes, length, flat_map}
use Rattle.std.specs.List.{range_with_len}
use Rattle.std.specs.Fmt.{decimal}
use Rattle.plan_core.specs.declared.point.Point.{Point}
use Rattle.plan_core.specs.Drawing.{Drawing, place}
use Rattle.plan_core.specs.Graph.{Graph, node}
use Rattle.plan_core.specs.Values.{values_of}

-- ---- where a point lies on the picture, in pixels

-- from the left, column by column
abbrev pub pixels_across : ℕ → ℕ
pixels_across x = 20 + 40 * x

-- from above, row by row: in a drawing of this height the greatest row lies above all others
abbrev pub pixels_down : ℕ → ℕ → ℕ
pixels_down height y = 20 + 40 * (height - y)

-- the picture's extent for as many columns or rows
abbrev pub extent : ℕ → ℕ
extent n = 40 * n + 40

-- ---- names

-- a byte of a name, as it is written between tags
abbrev pub escaped_byte : ℕ → List ℕ
escaped_byte b = if b == 38 then codes "&amp;" else
    (if b == 60 then codes "&lt;" else (if b == 62 then codes "&gt;" else b ∷ []))

-- a name in which `&`, `<` and `>` are escaped
abbrev pub escaped : List ℕ → List ℕ
escaped name = flat_map escaped_byte name

-- ---- elements

abbrev pub point_text : ℕ → Point → List ℕ
point_text height p = decimal (pixels_across p.x) ++ codes "," ++ decimal (pixels_down height p.y)

-- points, parted by one space
abbrev pub points_text : ℕ → List Point → List ℕ
points_text height [] = []
points_text height (p ∷ rest) = point_text height p ++ flat_map (λ q. 32 ∷ point_text height q) rest

-- the line of an edge
abbrev pub polyline : ℕ → List Point → List ℕ
polyline height points = codes "<polyline points=\"" ++ points_text height points
    ++ codes "\" fill=\"none\" stroke=\"black\"/>\n"

-- where a name begins: above its node's point
abbrev pub label_begin : ℕ → Point → List ℕ
label_begin height p = codes "<text x=\"" ++ decimal (pixels_across p.x) ++ codes "\" y=\""
    ++ decimal (pixels_down height p.y - 6) ++ codes "\">"

-- the name of a node
abbrev pub label : Graph → Drawing → ℕ → List ℕ
label g d n = label_begin (values_of d).height (place d n) ++ escaped (node g n).name ++ codes "</text>\n"

abbrev pub picture_begin : ℕ → ℕ → List ℕ
picture_begin width height = codes "<svg xmlns=\"http://www.w3.org/2000/svg\" viewBox=\"0 0 " ++ decimal (extent width)
    ++ codes " " ++ decimal (extent height) ++ codes "\">\n"

-- the lines of all edges and then the names of all nodes, by number
abbrev pub svg_text : Graph → Drawing → List ℕ
svg_text g d =
    picture_begin (values_of d).width (values_of d).height
    ++ (flat_map (polyline (values_of d).height) d.lines
    ++ (flat_map (label g d) (range_with_len 0 (length g.nodes))
    ++ codes "</svg>\n"))
