-- What the literals of a column say of the line that is read, at the grid's ends too.
use Rattle.std.proofs.Common.{◌≡◌, ℕ, zero, suc, ◌+◌, ◌≤◌, Bool, true, false, List, inl, inr, refl, sym, ◌∙◌, ap, subst, arith}
use Rattle.std.specs.Prelude.{◌&&◌, not, nat_lt, nat_le}
use Rattle.std.proofs.lemmas.Bool.Decides.{leb_tells, nat_tests}
use Rattle.plan_core.specs.declared.point.Point.{Point}
use Rattle.plan_core.specs.declared.point.Slope.TheVariants.{Level}
use Rattle.plan_core.specs.Line.{is_line, west_end, east_end, height}
use Rattle.cnf_core.specs.Assignment.{Assignment}
use Rattle.cnf_core.specs.LitOrTruth.{value}
use Rattle.edge_shape.specs.Track.{step_slope, same_slope}
use Rattle.edge_shape.specs.Columns.{is_up, is_down, has_inner, steps_of, turns_behind}
use Rattle.edge_shape.proofs.LineTrackLemmas.{line_again}
use Rattle.edge_shape.proofs.LineHeights.{steps_are, line_is_flat, inner_before, inner_turns}
use Rattle.edge_shape.proofs.StepLemmas.{level_outside}
use Rattle.edge_shape.specs.EdgeVars.{EdgeSpot, lits_of, up_at, down_at, bend_at}
use Rattle.edge_shape.specs.ReadsLine.{ReadsLine}

-- from the last column of the grid no line goes on
level_at_end : (line : List Point) (width : ℕ) → is_line line ≡ true → (east_end line).x ≤ width → step_slope (height line) width ≡ Level
level_at_end line width h le =
    let is = steps_are line h in
    level_outside (height line) (west_end line).x (steps_of line) width (line_is_flat line h) (inr (omega arith))

pub up_reads : (v : Assignment) (e : EdgeSpot) (line : List Point) (x : ℕ) → is_line line ≡ true → (east_end line).x ≤ e.width →
    ReadsLine v (lits_of e) e.width line → x ≤ e.width → value v (up_at e x) ≡ is_up (step_slope (height line) x)
up_reads v e line x h size r le = elim (leb_tells (suc x) e.width) [
  | inl a ↦ let lt = a.1 in let t : nat_lt x e.width ≡ true = grind (arith, nat_tests) in rw t (r.up x (omega arith))
  | inr a ↦
      let far = a.1 in
      let z : e.width ≡ x = omega arith in
      let t : nat_lt x e.width ≡ false = grind (arith, nat_tests) in
      rw t (sym (ap is_up (sym (ap (step_slope (height line)) z) ∙ level_at_end line e.width h size)))
]

pub down_reads : (v : Assignment) (e : EdgeSpot) (line : List Point) (x : ℕ) → is_line line ≡ true → (east_end line).x ≤ e.width →
    ReadsLine v (lits_of e) e.width line → x ≤ e.width → value v (down_at e x) ≡ is_down (step_slope (height line) x)
down_reads v e line x h size r le = elim (leb_tells (suc x) e.width) [
  | inl a ↦ let lt = a.1 in let t : nat_lt x e.width ≡ true = grind (arith, nat_tests) in rw t (r.down x (omega arith))
  | inr a ↦
      let far = a.1 in
      let z : e.width ≡ x = omega arith in
      let t : nat_lt x e.width ≡ false = grind (arith, nat_tests) in
      rw t (sym (ap is_down (sym (ap (step_slope (height line)) z) ∙ level_at_end line e.width h size)))
]

-- an inner point lies between the ends
inner_between : (line : List Point) (c : ℕ) → is_line line ≡ true → (east_end line).x ≤ c + 1 → has_inner line (c + 1) ≡ false
inner_between line c h le =
    let y = height line in
    let w = (west_end line).x in
    let n = steps_of line in
    let is = steps_are line h in
    let t : nat_lt c (w + n) ≡ false = grind (arith, nat_tests) in
    let none : turns_behind y w n c ≡ false = elim (nat_le w c) as (λ (b : Bool). (b &&
    (nat_lt c (w + n) && not (same_slope (step_slope y c) (step_slope y (c + 1))))) ≡ false) [ true ↦ rw t refl | false ↦ refl ] in
    sym (ap (λ (l : List Point). has_inner l (c + 1)) (line_again line n h is)) ∙ inner_turns y w n c ∙ none

-- the first column has none
inner_first : (line : List Point) → is_line line ≡ true → has_inner line 0 ≡ false
inner_first line h = sym (ap (λ (l : List Point). has_inner l 0) (line_again line (steps_of line) h (steps_are line h)))
    ∙ inner_before (height line) (west_end line).x (steps_of line) 0 (omega arith)

pub bend_reads : (v : Assignment) (e : EdgeSpot) (line : List Point) (x : ℕ) → is_line line ≡ true → (east_end line).x ≤ e.width →
    ReadsLine v (lits_of e) e.width line → x ≤ e.width → value v (bend_at e x) ≡ has_inner line x
bend_reads v e line zero h size r le = sym (inner_first line h)
bend_reads v e line (suc c) h size r le =
    let z : c + 1 ≡ suc c = omega arith in
    elim (leb_tells (suc (suc c)) e.width) [
      | inl a ↦ let lt = a.1 in let p : nat_lt 0 (suc c) ≡ true = grind (arith, nat_tests) in let t : nat_lt (suc c) e.width ≡ true = grind
          (arith, nat_tests) in rw (p, t) (subst (λ k. v ((lits_of e).bend k) ≡ has_inner line k) z (r.bend c (omega arith)))
      | inr a ↦
          let far = a.1 in
          let p : nat_lt 0 (suc c) ≡ true = grind (arith, nat_tests) in
          let t : nat_lt (suc c) e.width ≡ false = grind (arith, nat_tests) in
          rw (p, t) (sym (sym (ap (has_inner line) z) ∙ inner_between line c h (omega arith)))
    ]
