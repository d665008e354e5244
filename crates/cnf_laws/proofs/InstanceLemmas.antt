-- Any law: what its clauses say of the drawing that is read, and a setting of its variables; then all of them.
use Rattle.std.proofs.Common.{◌≡◌, ◌⊎◌, ℕ, zero, suc, ◌+◌, ◌-◌, ◌≤◌, ◌<◌, Bool, true, false, List, [], ◌∷◌, length, inl, inr, refl, ◌∙◌, ap, subst, arith}
use Rattle.std.specs.Prelude.{⊤}
use Rattle.std.specs.List.{Contains}
use Rattle.std.specs.Ordering.{int_cmp}
use Rattle.plan_core.specs.declared.point.Point.{Point}
use Rattle.plan_core.specs.Grid.{GridSize}
use Rattle.plan_core.specs.Graph.{Graph, mileage, IsTrackGraph}
use Rattle.plan_core.specs.Line.{height}
use Rattle.plan_core.specs.Drawing.{Drawing, place, line}
use Rattle.plan_core.specs.Laws.{EdgesAreParted}
use Rattle.plan_core.specs.Lawful.{Instance, NodeOnGrid, LineOnGrid, Ordered, Joined, Aligned, Apart, Over, Parted, IsInstance, Meets}
use Rattle.cnf_core.specs.Lit.{Literal}
use Rattle.cnf_core.specs.Clause.{AllThere}
use Rattle.cnf_core.specs.Assignment.{Assignment, Satisfies, SatisfiesAll, Extends}
use Rattle.cnf_core.specs.declared.literal.LitOrTruth.TheVariants.{False}
use Rattle.cnf_core.proofs.ClauseLemmas.{satisfies_left, satisfies_right, all_there_append}
use Rattle.cnf_core.proofs.SettingLemmas.{patch, patch_same, patch_at, same_none, extends_clauses}
use Rattle.order_int.specs.IntVars.{IntVars, IntIsThere}
use Rattle.order_int.specs.OrderInt.{Reads}
use Rattle.order_int.proofs.IntLemmas.{reads_same}
use Rattle.edge_shape.specs.EdgeVars.{NodeInts, EdgeLits, LieBefore}
use Rattle.edge_shape.proofs.GridLemmas.{heights_on_grid}
use Rattle.cnf_laws.specs.Stands.{DrawingVars, ReadsShape, ReadsDrawing}
use Rattle.cnf_laws.specs.LawClauses.{instance_size, instance_clauses, laws_size, laws_clauses, parted_clauses}
use Rattle.cnf_laws.proofs.SlopeLemmas.{aligned_means, aligned_holds}
use Rattle.cnf_laws.proofs.ApartLemmas.{ordered_means, ordered_holds, apart_means, apart_extends}
use Rattle.cnf_laws.proofs.OverLemmas.{Read, over_means, over_holds, parted_means, parted_holds}
use Rattle.cnf_laws.proofs.ThereLemmas.{AreVars, EdgeThere, vars_more, instance_there}

-- the drawing is read where the variables up to vars say the same
pub int_stays : (v w : Assignment) (vars : ℕ) (i : IntVars) (n : ℕ) → IntIsThere vars i → ((x : ℕ) → x ≤ vars → w x ≡ v x) → Reads v i n → Reads w i n
int_stays v w vars i n t same r = let b = t.to in reads_same v w i n (λ x from to. same x (omega arith)) r

pub shape_stays : (v w : Assignment) (vars : ℕ) (e : EdgeLits) (width : ℕ) (l : List Point) → EdgeThere vars e width → ((y : ℕ) → y ≤ vars → w y ≡ v y) →
    ReadsShape v e width l → ReadsShape w e width l
shape_stays v w vars e width l a same r =
    let h = a.whole in
    record {
      inside = λ c le. same (e.inside c) (a.inside c le).1 ∙ r.inside c le;
      up = λ c lt. same (e.up c) (a.up c lt).1 ∙ r.up c lt;
      down = λ c lt. same (e.down c) (a.down c lt).1 ∙ r.down c lt;
      height = λ c le. int_stays v w vars (e.height c) (height l c) (a.height c le) same (r.height c le);
      west = record { rises = same e.west_up h.west_up.1 ∙ r.west.rises; falls = same e.west_down h.west_down.1 ∙ r.west.falls };
      east = record { rises = same e.east_up h.east_up.1 ∙ r.east.rises; falls = same e.east_down h.east_down.1 ∙ r.east.falls };
      first_bend = same e.first_bend h.first_bend.1 ∙ r.first_bend;
      second_bend = same e.second_bend h.second_bend.1 ∙ r.second_bend;
    }

pub drawing_stays : (v w : Assignment) (vars : ℕ) (g : Graph) (x : DrawingVars) (width : ℕ) (d : Drawing) → AreVars vars g x width →
    ((y : ℕ) → y ≤ vars → w y ≡ v y) → ReadsDrawing v g x width d → ReadsDrawing w g x width d
drawing_stays v w vars g x width d a same r = record {
  points = λ n lt. record {
    x = int_stays v w vars (x.node n).x (place d n).x (a.node_x n lt) same (r.points n lt).x;
    y = int_stays v w vars (x.node n).y (place d n).y (a.node_y n lt) same (r.points n lt).y;
  };
  lines = λ e lt. shape_stays v w vars (x.edge e) width (line d e) (a.edge e lt) same (r.lines e lt);
}

pub read_stays : (v w : Assignment) (vars : ℕ) (g : Graph) (x : DrawingVars) (grid : GridSize) (d : Drawing) → AreVars vars g x grid.width →
    ((y : ℕ) → y ≤ vars → w y ≡ v y) → Read v g x grid d → Read w g x grid d
read_stays v w vars g x grid d a same r = record { graph = r.graph; reads = drawing_stays v w vars g x grid.width d a same r.reads; loose = r.loose }

-- MODEL TO LAW
pub instance_means : (v : Assignment) (g : Graph) (above : ℕ → ℕ → Bool) (x : DrawingVars) (grid : GridSize) (d : Drawing) (i : Instance) (first : ℕ)
    (unless : List Literal) → Read v g x grid d → IsInstance g above i → (Satisfies v unless → ⊥) →
    SatisfiesAll v (instance_clauses g x grid.width i first unless) → Meets g grid d i
instance_means v g above x grid d (NodeOnGrid n) first unless r at on h = r.loose.on_grid n at
instance_means v g above x grid d (LineOnGrid e) first unless r at on h =
    let j = r.loose.joins e at in
    heights_on_grid grid (line d e) j.shape j.in_height (let w = j.in_width in let z = ap (λ (p : Point). p.x) j.ends in omega arith)
instance_means v g above x grid d (Joined e) first unless r at on h = let j = r.loose.joins e at in record {
  begins = j.begins;
  ends = j.ends;
  is_long = j.long;
}
instance_means v g above x grid d (Ordered p q) first unless r at on h =
    let rising = at.rising in
    let within = at.within in
    ordered_means v (int_cmp (mileage g p) (mileage g q)) (x.node p).x (x.node q).x (place d p).x (place d q).x unless (r.reads.points p (omega arith)).x
    (r.reads.points q within).x on h
instance_means v g above x grid d (Aligned n) first unless r at on h = aligned_means v g x grid.width d n unless r.graph at r.reads on h
instance_means v g above x grid d (Apart p q) first unless r at on h =
    let rising = at.rising in
    let within = at.within in
    apart_means v (int_cmp (mileage g p) (mileage g q)) first (x.node p) (x.node q) (place d p) (place d q) unless (r.reads.points p (omega arith))
    (r.reads.points q within) on h
instance_means v g above x grid d (Over e f) first unless r at on h = over_means v g x grid d e f False unless r at.first at.second on refl h
instance_means v g above x grid d (Parted e f) first unless r at on h =
    let rising = at.pair.rising in
    let within = at.pair.within in
    parted_means v g x grid d e f first unless r (omega arith) within on h

-- LAW TO MODEL
pub nothing_new : (v : Assignment) (first : ℕ) (P : Assignment → Type 0) → P v → Extends first 0 v P
nothing_new v first P h = record { to = v; same = same_none first 0 v; holds = h }

pub before_of : (vars first : ℕ) (n : NodeInts) → vars < first → IntIsThere vars n.x → IntIsThere vars n.y → LieBefore first n
before_of vars first n lt a b = let p = a.to in let q = b.to in record { x = omega arith; y = omega arith }

pub parted_extends : (v : Assignment) (vars : ℕ) (g : Graph) (x : DrawingVars) (grid : GridSize) (d : Drawing) (e f first : ℕ) (unless : List Literal) →
    AreVars vars g x grid.width → vars < first → Read v g x grid d → e < length g.edges → f < length g.edges → EdgesAreParted g d e f →
    Extends first 1 v (λ w. SatisfiesAll w (parted_clauses g x grid.width e f first unless))
parted_extends v vars g x grid d e f first unless a before r le lf (inl over) =
    let w = patch first 1 (λ k. true) v in
    let same = patch_same first 1 (λ k. true) v in
    let z : first ≡ first + 0 = omega arith in
    record {
      to = w;
      same = same;
      holds = parted_holds w g x grid d e f first unless (read_stays v w vars g x grid d a (λ y le. same.below y (omega arith)) r) le lf
          (inr (inl (ap w z ∙ patch_at first 1 (λ k. true) v 0 (omega arith), over)));
    }
parted_extends v vars g x grid d e f first unless a before r le lf (inr over) =
    let w = patch first 1 (λ k. false) v in
    let same = patch_same first 1 (λ k. false) v in
    let z : first ≡ first + 0 = omega arith in
    record {
      to = w;
      same = same;
      holds = parted_holds w g x grid d e f first unless (read_stays v w vars g x grid d a (λ y le. same.below y (omega arith)) r) le lf
          (inr (inr (ap w z ∙ patch_at first 1 (λ k. false) v 0 (omega arith), over)));
    }

-- law 5 has law 2 of its two nodes as a condition; where all laws hold, it is there
pub instance_extends : (v : Assignment) (vars : ℕ) (g : Graph) (above : ℕ → ℕ → Bool) (x : DrawingVars) (grid : GridSize) (d : Drawing) (i : Instance)
    (first : ℕ) (unless : List Literal) → AreVars vars g x grid.width → vars < first → Read v g x grid d → IsInstance g above i →
    ((j : Instance) → IsInstance g above j → Meets g grid d j) → Extends first (instance_size g i) v
    (λ w. SatisfiesAll w (instance_clauses g x grid.width i first unless))
instance_extends v vars g above x grid d (NodeOnGrid n) first unless a before r at laws = nothing_new v first
    (λ w. SatisfiesAll w (instance_clauses g x grid.width (NodeOnGrid n) first unless)) tt
instance_extends v vars g above x grid d (LineOnGrid e) first unless a before r at laws = nothing_new v first
    (λ w. SatisfiesAll w (instance_clauses g x grid.width (LineOnGrid e) first unless)) tt
instance_extends v vars g above x grid d (Joined e) first unless a before r at laws = nothing_new v first
    (λ w. SatisfiesAll w (instance_clauses g x grid.width (Joined e) first unless)) tt
instance_extends v vars g above x grid d (Ordered p q) first unless a before r at laws =
    let rising = at.rising in
    let within = at.within in
    nothing_new v first (λ w. SatisfiesAll w (instance_clauses g x grid.width (Ordered p q) first unless))
    (ordered_holds v (int_cmp (mileage g p) (mileage g q)) (x.node p).x (x.node q).x (place d p).x (place d q).x unless (r.reads.points p (omega arith)).x
    (r.reads.points q within).x (inr (laws (Ordered p q) at)))
instance_extends v vars g above x grid d (Aligned n) first unless a before r at laws =
    nothing_new v first (λ w. SatisfiesAll w (instance_clauses g x grid.width (Aligned n) first unless))
    (aligned_holds v g x grid.width d n unless r.graph at r.reads (inr (laws (Aligned n) at)))
instance_extends v vars g above x grid d (Apart p q) first unless a before r at laws =
    let rising = at.rising in
    let within = at.within in
    let lp : p < length g.nodes = omega arith in
    apart_extends v (int_cmp (mileage g p) (mileage g q)) first (x.node p) (x.node q) (place d p) (place d q) unless
    (before_of vars first (x.node p) before (a.node_x p lp) (a.node_y p lp)) (before_of vars first (x.node q) before (a.node_x q within) (a.node_y q within))
    (r.reads.points p lp) (r.reads.points q within) (laws (Ordered p q) at) (laws (Apart p q) at)
instance_extends v vars g above x grid d (Over e f) first unless a before r at laws =
    nothing_new v first (λ w. SatisfiesAll w (instance_clauses g x grid.width (Over e f) first unless))
    (over_holds v g x grid d e f False unless r at.first at.second (inr (inr (laws (Over e f) at))))
instance_extends v vars g above x grid d (Parted e f) first unless a before r at laws =
    let rising = at.pair.rising in
    let within = at.pair.within in
    parted_extends v vars g x grid d e f first unless a before r (omega arith) within (laws (Parted e f) at)

-- a list of instances
abbrev pub AreInstances : Graph → (ℕ → ℕ → Bool) → List Instance → Type 0
AreInstances g above [] = ⊤
AreInstances g above (i ∷ rest) = IsInstance g above i × AreInstances g above rest

pub contains_cons : {X : Type 0} (y : X) (ys : List X) (x : X) → Contains (y ∷ ys) x → (y ≡ x) ⊎ Contains ys x
contains_cons y ys x (zero, within, is) = inl is
contains_cons y ys x (suc k, within, is) = inr (k, omega arith, is)

pub laws_mean : (v : Assignment) (g : Graph) (above : ℕ → ℕ → Bool) (x : DrawingVars) (grid : GridSize) (d : Drawing) (first : ℕ) (laws : List Instance) →
    Read v g x grid d → SatisfiesAll v (laws_clauses g x grid.width first laws) → (i : Instance) → IsInstance g above i → Contains laws i → Meets g grid d i
laws_mean v g above x grid d first [] r h i at among = absurd (let w = among.1 in omega arith)
laws_mean v g above x grid d first (j ∷ rest) r h i at among =
    let one = instance_clauses g x grid.width j first [] in
    let more = laws_clauses g x grid.width (first + instance_size g j) rest in
    elim (contains_cons j rest i among) [
      | inl same ↦ instance_means v g above x grid d i first [] r at (λ k. k) (subst
          (λ (k : Instance). SatisfiesAll v (instance_clauses g x grid.width k first [])) same (satisfies_left v one more h))
      | inr later ↦ laws_mean v g above x grid d (first + instance_size g j) rest r (satisfies_right v one more h) i at later
    ]

pub laws_extend : (v : Assignment) (vars : ℕ) (g : Graph) (above : ℕ → ℕ → Bool) (x : DrawingVars) (grid : GridSize) (d : Drawing) (first : ℕ)
    (laws : List Instance) → AreVars vars g x grid.width → vars < first → Read v g x grid d → AreInstances g above laws →
    ((j : Instance) → IsInstance g above j → Meets g grid d j) → Extends first (laws_size g laws) v
    (λ w. SatisfiesAll w (laws_clauses g x grid.width first laws))
laws_extend v vars g above x grid d first [] a before r are all = nothing_new v first (λ w. SatisfiesAll w (laws_clauses g x grid.width first [])) tt
laws_extend v vars g above x grid d first (i ∷ rest) a before r are all =
    let size = instance_size g i in
    let last = first + size - 1 in
    extends_clauses first size (laws_size g rest) last v (instance_clauses g x grid.width i first []) (laws_clauses g x grid.width (first + size) rest)
    (omega arith)
    (instance_there last g above x grid.width i first [] r.graph (vars_more vars last g x grid.width (omega arith) a) are.0 (omega arith) (omega arith) tt)
    (instance_extends v vars g above x grid d i first [] a before r are.0 all)
    (λ w same h. laws_extend w vars g above x grid d (first + size) rest a (omega arith)
    (read_stays v w vars g x grid d a (λ y le. same.below y (omega arith)) r) are.1 all)

pub laws_there : (vars most : ℕ) (g : Graph) (above : ℕ → ℕ → Bool) (x : DrawingVars) (grid : GridSize) (first : ℕ) (laws : List Instance) → IsTrackGraph g →
    AreVars vars g x grid.width → vars < first → AreInstances g above laws → first + laws_size g laws ≤ most + 1 →
    AllThere most (laws_clauses g x grid.width first laws)
laws_there vars most g above x grid first [] is a before are to = tt
laws_there vars most g above x grid first (i ∷ rest) is a before are to =
    let size = instance_size g i in
    all_there_append most (instance_clauses g x grid.width i first []) (laws_clauses g x grid.width (first + size) rest)
    (instance_there most g above x grid.width i first [] is (vars_more vars most g x grid.width (omega arith) a) are.0 (omega arith) (omega arith) tt)
    (laws_there vars most g above x grid (first + size) rest is a (omega arith) are.1 (omega arith))
