-- From tracks to lines and back: the clauses of an edge mean exactly a line between the two points.
use Rattle.std.proofs.Common.{◌≡◌, ℕ, ◌+◌, ◌≤◌, true, not, List, inl, inr, refl, sym, ◌∙◌, ap, subst, arith}
use Rattle.std.specs.Prelude.{◌&&◌, nat_le}
use Rattle.std.proofs.lemmas.Bool.Decides.{leb_tells}
use Rattle.plan_core.specs.declared.point.Point.{Point}
use Rattle.plan_core.specs.Line.{is_line, height, west_end, east_end}
use Rattle.plan_core.proofs.LineLemmas.{height-west_end, height-east_end}
use Rattle.cnf_core.specs.Assignment.{Assignment, SatisfiesAll}
use Rattle.order_int.specs.OrderInt.{Reads}
use Rattle.edge_shape.specs.Track.{line_over}
use Rattle.edge_shape.specs.Columns.{has_inner, is_up, is_down, is_level, has_level, steps_of}
use Rattle.edge_shape.specs.EdgeVars.{NodeInts, EdgeLits}
use Rattle.edge_shape.specs.Edge.{ReadsTrack, edge_clauses}
use Rattle.edge_shape.specs.ReadsLine.{ReadsLine, LineIsRead}
use Rattle.edge_shape.specs.Joins.{JoinsPoints}
use Rattle.edge_shape.proofs.ShapeLemmas.{track_is_line, track_east}
use Rattle.edge_shape.proofs.LineTrackLemmas.{line_again}
use Rattle.edge_shape.proofs.RunLemmas.{line_is_track, line_west_slope, line_east_slope}
use Rattle.edge_shape.proofs.EdgeMeans.{HasRows, edge_means}
use Rattle.edge_shape.proofs.EdgeHolds.{edge_clauses_hold}
use Rattle.edge_shape.proofs.LineHeights.{inner_turns, height_behind, steps_are, line_is_flat, heights_same, point_is}

-- a line that is read is a track that is read
pub read_line : (v : Assignment) (e : EdgeLits) (width : ℕ) (line : List Point) → is_line line ≡ true →
    ReadsTrack v e width (height line) (west_end line).x (steps_of line) → ReadsLine v e width line
read_line v e width line h r =
    let y = height line in
    let w = (west_end line).x in
    let n = steps_of line in
    let is = steps_are line h in
    let first = line_west_slope line h in
    let last = line_east_slope line (w + n) h is in
    record {
      inside = λ c le. r.inside c le ∙ ap (λ k. nat_le w c && nat_le c k) is;
      up = r.up;
      down = r.down;
      seen = r.seen;
      bend = λ c lt. r.bend c lt ∙ sym (inner_turns y w n c) ∙ ap (λ (l : List Point). has_inner l (c + 1)) (line_again line n h is);
      height = r.height;
      west_up = r.west_up ∙ ap is_up first;
      west_down = r.west_down ∙ ap is_down first;
      east_up = r.east_up ∙ ap is_up last;
      east_down = r.east_down ∙ ap is_down last;
      first_bend = r.first_bend ∙ ap (λ s. not (is_level s) && has_level y w n) first;
      second_bend = r.second_bend ∙ ap (λ s. not (is_level s) && has_level y w n) last;
    }

pub read_track : (v : Assignment) (e : EdgeLits) (width : ℕ) (line : List Point) → is_line line ≡ true → ReadsLine v e width line →
    ReadsTrack v e width (height line) (west_end line).x (steps_of line)
read_track v e width line h r =
    let y = height line in
    let w = (west_end line).x in
    let n = steps_of line in
    let is = steps_are line h in
    let first = line_west_slope line h in
    let last = line_east_slope line (w + n) h is in
    record {
      inside = λ c le. r.inside c le ∙ ap (λ k. nat_le w c && nat_le c k) (sym is);
      up = r.up;
      down = r.down;
      seen = r.seen;
      bend = λ c lt. r.bend c lt ∙ sym (sym (inner_turns y w n c) ∙ ap (λ (l : List Point). has_inner l (c + 1)) (line_again line n h is));
      height = r.height;
      west_up = r.west_up ∙ sym (ap is_up first);
      west_down = r.west_down ∙ sym (ap is_down first);
      east_up = r.east_up ∙ sym (ap is_up last);
      east_down = r.east_down ∙ sym (ap is_down last);
      first_bend = r.first_bend ∙ sym (ap (λ s. not (is_level s) && has_level y w n) first);
      second_bend = r.second_bend ∙ sym (ap (λ s. not (is_level s) && has_level y w n) last);
    }

-- each model is a line
pub models_are_lines : (v : Assignment) (e : EdgeLits) (west east : NodeInts) (least high width : ℕ) (p q : Point) → HasRows e high width → 1 ≤ least →
    q.x ≤ width → Reads v west.x p.x → Reads v west.y p.y → Reads v east.x q.x → Reads v east.y q.y →
    SatisfiesAll v (edge_clauses e west east least high width) → LineIsRead v e width high least p q
models_are_lines v e west east least high width p q rows some size rx ra rz rb h =
    let t = edge_means v e west east least high width p.x q.x p.y q.y rows some size rx ra rz rb h in
    let ends = t.ends in
    let long = t.long in
    let line = line_over t.y p.x t.n in
    let same : height line ≡ t.y = heights_same t.y p.x t.n t.track t.flat in
    let is_one = track_is_line t.y p.x t.n t.track in
    let last : east_end line ≡ q = track_east t.y p.x t.n ∙ point_is t.y (p.x + t.n + 1) q ends (ap t.y ends ∙ t.east) in
    let last_x : (east_end line).x ≡ q.x = ap (λ (k : Point). k.x) last in
    let n_is : t.n ≡ steps_of line = omega arith in
    let reads : ReadsTrack v e width (height line) p.x (steps_of line) = subst (λ k. ReadsTrack v e width (height line) p.x k) n_is
    (subst (λ (f : ℕ → ℕ). ReadsTrack v e width f p.x t.n) (sym same) t.reads) in
    let flat = line_is_flat line is_one in
    let low : (c : ℕ) → c ≤ width → height line c ≤ high = λ c le. let r = reads.height c le in let top = r.high in let hs = rows.highest c le in omega arith in
    record {
      line = line;
      joins = record {
        shape = is_one;
        begins = point_is t.y p.x p refl t.west;
        ends = last;
        long = omega arith;
        in_width = size;
        in_height = λ c. elim (leb_tells c width) [
          | inl a ↦ low c a.1
          | inr a ↦
              let far = a.1 in
              let z : height line c ≡ height line width = height_behind line c is_one (omega arith) ∙ sym (height_behind line width is_one (omega arith)) in
              let top = low width (omega arith) in
              omega arith
        ];
      };
      reads = read_line v e width line is_one reads;
    }

-- each line is a model
pub lines_are_models : (v : Assignment) (e : EdgeLits) (west east : NodeInts) (least high width : ℕ) (p q : Point) (line : List Point) → HasRows e high width →
    Reads v west.x p.x → Reads v west.y p.y → Reads v east.x q.x → Reads v east.y q.y → JoinsPoints width high least p q line → ReadsLine v e width line →
    SatisfiesAll v (edge_clauses e west east least high width)
lines_are_models v e west east least high width p q line rows rx ra rz rb j r =
    let h = j.shape in
    let y = height line in
    let w = (west_end line).x in
    let n = steps_of line in
    let is = steps_are line h in
    let at_west : w ≡ p.x = ap (λ (k : Point). k.x) j.begins in
    let at_east : (east_end line).x ≡ q.x = ap (λ (k : Point). k.x) j.ends in
    let long = j.long in
    let size = j.in_width in
    let z : w + n + 1 ≡ q.x = omega arith in
    edge_clauses_hold v e west east least high width w n p.y q.y y rows (omega arith) (omega arith)
    (subst (λ k. Reads v west.x k) (sym at_west) rx) ra (subst (λ k. Reads v east.x k) (sym z) rz) rb
    (line_is_track line n h is) (line_is_flat line h)
    (height-west_end line h ∙ ap (λ (k : Point). k.y) j.begins)
    (ap y is ∙ height-east_end line h ∙ ap (λ (k : Point). k.y) j.ends)
    (read_track v e width line h r)
