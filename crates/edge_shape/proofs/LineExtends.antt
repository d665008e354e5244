-- Each line between the points is a setting of the edge's variables, and just one.
use Rattle.std.proofs.Common.{◌≡◌, ℕ, ◌+◌, ◌≤◌, true, not, List, refl, sym, ◌∙◌, ap, arith}
use Rattle.std.specs.Prelude.{◌&&◌}
use Rattle.plan_core.specs.declared.point.Point.{Point}
use Rattle.plan_core.specs.Line.{is_line, west_end, east_end, slope_east, height, bends}
use Rattle.plan_core.proofs.LineLemmas.{ends_rise}
use Rattle.cnf_core.specs.Assignment.{Assignment, SatisfiesAll, SameOutside, Extends}
use Rattle.order_int.specs.IntVars.{IntVars, size}
use Rattle.order_int.specs.OrderInt.{Reads}
use Rattle.order_int.proofs.IntLemmas.{reads_same, reads_once}
use Rattle.edge_shape.specs.EdgeVars.{NodeInts, EdgeLits, edge_lits, edge_size, LieBefore}
use Rattle.edge_shape.specs.Columns.{is_level, has_level_piece}
use Rattle.edge_shape.specs.Edge.{edge_clauses}
use Rattle.edge_shape.specs.ReadsLine.{ReadsLine, line_bits}
use Rattle.edge_shape.specs.Joins.{JoinsPoints}
use Rattle.edge_shape.specs.Setting.{set_edge}
use Rattle.edge_shape.proofs.UniqueLemmas.{same_heights_same_line}
use Rattle.edge_shape.proofs.RunLemmas.{one_if}
use Rattle.edge_shape.proofs.EdgeMeans.{HasRows}
use Rattle.edge_shape.proofs.LineMeans.{lines_are_models}
use Rattle.edge_shape.proofs.SettingLemmas.{set_same, edge_set}
use Rattle.edge_shape.proofs.BendLemmas.{bends_are}

pub rows_of : (first high width : ℕ) → HasRows (edge_lits first high width) high width
rows_of first high width = record { lowest = λ c le. refl; highest = λ c le. refl }

pub set_reads : (first high width : ℕ) (v : Assignment) (line : List Point) → 1 ≤ width → ((c : ℕ) → height line c ≤ high) →
    ReadsLine (set_edge (line_bits line) first high width v) (edge_lits first high width) width line
set_reads first high width v line some low =
    let b = line_bits line in
    let w = set_edge b first high width v in
    let s = edge_set b first high width v some in
    let z : first ≡ first + 0 = omega arith in
    record {
      inside = s.inside;
      up = s.up;
      down = s.down;
      seen = s.seen;
      bend = s.bend;
      height = λ c le. s.height c le (low c);
      west_up = ap w z ∙ s.whole 0 (omega arith);
      west_down = s.whole 1 (omega arith);
      east_up = s.whole 2 (omega arith);
      east_down = s.whole 3 (omega arith);
      first_bend = s.whole 4 (omega arith);
      second_bend = s.whole 5 (omega arith);
    }

still : (v w : Assignment) (first count : ℕ) (i : IntVars) (n : ℕ) → i.first + size i ≤ first → SameOutside first count v w → Reads v i n → Reads w i n
still v w first count i n le s r = reads_same v w i n (λ x from to. s.below x (omega arith)) r

pub some_width : (width high least : ℕ) (p q : Point) (line : List Point) → JoinsPoints width high least p q line → 1 ≤ width
some_width width high least p q line j =
    let rise = ends_rise line j.shape in
    let ex : (east_end line).x ≡ q.x = ap (λ (k : Point). k.x) j.ends in
    let size = j.in_width in
    omega arith

-- with a line between the nodes' points in the edge's variables, the edge's clauses are satisfied
pub set_satisfies : (v : Assignment) (first high width least : ℕ) (west east : NodeInts) (p q : Point) (line : List Point) → LieBefore first west →
    LieBefore first east → Reads v west.x p.x → Reads v west.y p.y → Reads v east.x q.x → Reads v east.y q.y → JoinsPoints width high least p q line
    → SatisfiesAll (set_edge (line_bits line) first high width v) (edge_clauses (edge_lits first high width) west east least high width)
set_satisfies v first high width least west east p q line bw be rx ra rz rb j =
    let w = set_edge (line_bits line) first high width v in
    let s = set_same (line_bits line) first high width v in
    lines_are_models w (edge_lits first high width) west east least high width p q line (rows_of first high width)
    (still v w first (edge_size high width) west.x p.x bw.x s rx) (still v w first (edge_size high width) west.y p.y bw.y s ra)
    (still v w first (edge_size high width) east.x q.x be.x s rz) (still v w first (edge_size high width) east.y q.y be.y s rb) j
    (set_reads first high width v line (some_width width high least p q line j) j.in_height)

-- each line between the points of an assignment extends it
pub line_extends : (v : Assignment) (first high width least : ℕ) (west east : NodeInts) (p q : Point) (line : List Point) → LieBefore first west →
    LieBefore first east → Reads v west.x p.x → Reads v west.y p.y → Reads v east.x q.x → Reads v east.y q.y → JoinsPoints width high least p q line
    → Extends first (edge_size high width) v (λ w. ReadsLine w (edge_lits first high width) width line × SatisfiesAll w
    (edge_clauses (edge_lits first high width) west east least high width))
line_extends v first high width least west east p q line bw be rx ra rz rb j = record {
  to = set_edge (line_bits line) first high width v;
  same = set_same (line_bits line) first high width v;
  holds = (
    set_reads first high width v line (some_width width high least p q line j) j.in_height,
    set_satisfies v first high width least west east p q line bw
        be rx ra rz rb j,
  );
}

-- an assignment reads one line
pub one_line : (v : Assignment) (e : EdgeLits) (width high least : ℕ) (p q : Point) (a b : List Point) → JoinsPoints width high least p q a →
    JoinsPoints width high least p q b → ReadsLine v e width a → ReadsLine v e width b → a ≡ b
one_line v e width high least p q a b ja jb ra rb =
    let size = ja.in_width in
    let ea : (east_end a).x ≡ q.x = ap (λ (k : Point). k.x) ja.ends in
    let west : (west_end a).x ≡ (west_end b).x = ap (λ (k : Point). k.x) (ja.begins ∙ sym jb.begins) in
    let east : (east_end a).x ≡ (east_end b).x = ap (λ (k : Point). k.x) (ja.ends ∙ sym jb.ends) in
    same_heights_same_line a b ja.shape jb.shape west east (λ c from to. reads_once v (e.height c) (height a c) (height b c) (ra.height c (omega arith))
    (rb.height c (omega arith)))

pub bends_read : (v : Assignment) (e : EdgeLits) (width : ℕ) (line : List Point) → is_line line ≡ true → ReadsLine v e width line →
    bends line ≡ one_if (v e.first_bend) + one_if (v e.second_bend)
bends_read v e width line h r = bends_are line h ∙ ap (λ b. one_if b + one_if (not (is_level (slope_east line)) && has_level_piece line)) (sym r.first_bend)
    ∙ ap (λ b. one_if (v e.first_bend) + one_if b) (sym r.second_bend)
