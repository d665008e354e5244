-- A line's diagonal is the number of columns whose step rises or falls.
use Rattle.std.proofs.Common.{◌≡◌, ℕ, ◌≤◌, true, List, sym, ◌∙◌, ap, arith}
use Rattle.std.specs.Prelude.{◌||◌}
use Rattle.std.specs.List.{count_by, range_with_len}
use Rattle.plan_core.specs.declared.point.Point.{Point}
use Rattle.plan_core.specs.Line.{is_line, east_end, height, diagonal}
use Rattle.cnf_core.specs.Assignment.{Assignment}
use Rattle.edge_shape.specs.Track.{step_slope}
use Rattle.edge_shape.specs.EdgeVars.{EdgeLits}
use Rattle.edge_shape.specs.Columns.{is_up, is_down}
use Rattle.edge_shape.specs.ReadsLine.{ReadsLine}
use Rattle.edge_shape.proofs.DiagonalSteps.{count_same, diagonal_steps}

pub diagonal_read : (v : Assignment) (e : EdgeLits) (width : ℕ) (line : List Point) → is_line line ≡ true → (east_end line).x ≤ width →
    ReadsLine v e width line → diagonal line ≡ count_by (λ c. v (e.up c) || v (e.down c)) (range_with_len 0 width)
diagonal_read v e width line h size r =
    let y = height line in
    diagonal_steps line width h size
    ∙ count_same (λ c. is_up (step_slope y c) || is_down (step_slope y c)) (λ c. v (e.up c) || v (e.down c)) 0 width
    (λ c low high. ap (λ b. b || is_down (step_slope y c)) (sym (r.up c (omega arith))) ∙ ap (λ b. v (e.up c) || b) (sym (r.down c (omega arith))))
