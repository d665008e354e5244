-- The heights of a line determine it.
use Rattle.std.proofs.Common.{◌≡◌, ℕ, ◌≤◌, true, List, inl, inr, sym, ◌∙◌, ap, arith}
use Rattle.std.proofs.Math.Path.{fun_ext}
use Rattle.std.proofs.lemmas.Bool.Decides.{leb_tells}
use Rattle.plan_core.specs.declared.point.Point.{Point}
use Rattle.plan_core.specs.Line.{is_line, west_end, east_end, height}
use Rattle.plan_core.proofs.LineLemmas.{ends_rise, height-west_end, height-east_end}
use Rattle.edge_shape.specs.Track.{line_over}
use Rattle.edge_shape.specs.Columns.{steps_of}
use Rattle.edge_shape.proofs.LineTrackLemmas.{line_again}
use Rattle.edge_shape.proofs.LineHeights.{height_before, height_behind, steps_are}

pub same_heights_same_line : (a b : List Point) → is_line a ≡ true → is_line b ≡ true → (west_end a).x ≡ (west_end b).x → (east_end a).x ≡ (east_end b).x →
    ((c : ℕ) → (west_end a).x ≤ c → c ≤ (east_end a).x → height a c ≡ height b c) → a ≡ b
same_heights_same_line a b ha hb west east same =
    let rise = ends_rise a ha in
    let all : height a ≡ height b = fun_ext (λ c. elim (leb_tells (west_end a).x c) [
      | inr x ↦
          let low = x.1 in
          height_before a c ha (omega arith) ∙ sym (height-west_end a ha) ∙ same (west_end a).x (omega arith) (omega arith)
          ∙ ap (height b) west ∙ height-west_end b hb ∙ sym (height_before b c hb (omega arith))
      | inl x ↦ elim (leb_tells c (east_end a).x) [
        | inl z ↦ same c x.1 z.1
        | inr z ↦
            let high = z.1 in
            height_behind a c ha (omega arith) ∙ sym (height-east_end a ha) ∙ same (east_end a).x (omega arith) (omega arith)
            ∙ ap (height b) east ∙ height-east_end b hb ∙ sym (height_behind b c hb (omega arith))
      ]
    ]) in
    let sa = steps_are a ha in
    let sb = steps_are b hb in
    let n : steps_of a ≡ steps_of b = omega arith in
    sym (line_again a (steps_of a) ha sa)
    ∙ ap (λ (f : ℕ → ℕ). line_over f (west_end a).x (steps_of a)) all ∙ ap (λ k. line_over (height b) k (steps_of a)) west
    ∙ ap (line_over (height b) (west_end b).x) n
    ∙ line_again b (steps_of b) hb sb
