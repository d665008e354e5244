-- The whole formula: sound and complete.
use Rattle.std.proofs.Common.{◌≡◌, ℕ, zero, suc, ◌+◌, ◌-◌, ◌*◌, ◌≤◌, ◌<◌, Bool, true, false, not, cond, List, [], ◌∷◌, ◌++◌, length, inl, inr, refl, sym, ◌∙◌}
use Rattle.std.proofs.Common.{ap, subst, arith}
use Rattle.std.specs.Prelude.{⊤, ◌↔◌, ◌||◌}
use Rattle.std.specs.List.{Contains}
use Rattle.std.proofs.lemmas.List.Elements.{Contains-append_left, Contains-append_right}
use Rattle.std.proofs.lemmas.Bool.Decides.{leb_tells}
use Rattle.std.proofs.Math.Nat.{mul-le-mul_right}
use Rattle.edge_shape.specs.EdgeVars.{edge_size}
use Rattle.plan_core.specs.declared.point.Point.{Point}
use Rattle.plan_core.specs.declared.limits.TheConstants.{MAX_NODES, MAX_EDGES}
use Rattle.plan_core.specs.Grid.{GridSize, IsGrid}
use Rattle.plan_core.specs.Graph.{Graph, edge, Overlap, IsTrackGraph}
use Rattle.plan_core.specs.Line.{east_end}
use Rattle.plan_core.specs.Drawing.{Drawing, place, line}
use Rattle.plan_core.specs.Lawful.{Instance, NodeOnGrid, LineOnGrid, Ordered, Joined, Aligned, Apart, Over, Parted, IsInstance, Meets, Lawful}
use Rattle.plan_core.proofs.Listing.{Contains-head}
use Rattle.cnf_core.specs.declared.limits.TheConstants.{VARS}
use Rattle.cnf_core.specs.Assignment.{Assignment, SatisfiesAll, Extends}
use Rattle.cnf_core.proofs.ClauseLemmas.{first_or_later, satisfies_append, satisfies_left, satisfies_right, satisfies_all_same}
use Rattle.track_order.specs.Order.{EdgeOrder, is_above, is_overlap, IsOrderOf}
use Rattle.cnf_laws.specs.Stands.{DrawingVars, StandsFor, ReadsDrawing, IsJoinedOnGrid}
use Rattle.cnf_laws.specs.LawClauses.{laws_clauses, laws_size}
use Rattle.cnf_laws.specs.Expected.{drawing_vars, laws_first, base_clauses, expected_clauses, instances_from, pairs_from, instance_pairs, edge_pair, instances}
use Rattle.cnf_laws.specs.Expected.{Sound, Covers}
use Rattle.cnf_laws.proofs.OverLemmas.{Read}
use Rattle.cnf_laws.proofs.InstanceLemmas.{AreInstances, instance_means, laws_mean, laws_extend, drawing_stays}
use Rattle.cnf_laws.proofs.BaseLemmas.{base_means, lawful_loose, base_last, base_vars, base_there, BaseHolds, base_extends}

-- what is read stands for the drawing
pub reads_stand : (v : Assignment) (g : Graph) (x : DrawingVars) (grid : GridSize) (d : Drawing) → ReadsDrawing v g x grid.width d → IsJoinedOnGrid g grid d →
    StandsFor v g x d
reads_stand v g x grid d r loose = record {
  fits = loose.fits;
  columns = λ n lt. (r.points n lt).x;
  rows = λ n lt. (r.points n lt).y;
  heights = λ e lt c h.
      let j = loose.joins e lt in
      let to = h.to_east in
      let wide = j.in_width in
      let z : (east_end (line d e)).x ≡ (place d (edge g e).east).x = ap (λ (p : Point). p.x) j.ends in
      (r.lines e lt).height c (omega arith);
}

-- the instances that have clauses; laws 1 and 3 have none of their own
abbrev pub HasClauses : Instance → Type 0
HasClauses (NodeOnGrid n) = ⊥
HasClauses (LineOnGrid e) = ⊥
HasClauses (Joined e) = ⊥
HasClauses other = ⊤

pub record ListsAll (g : Graph) (above : ℕ → ℕ → Bool) (laws : List Instance) : Type 0 where
  pub are : AreInstances g above laws
  pub all : (i : Instance) → IsInstance g above i → HasClauses i → Contains laws i

-- SOUND
pub each_law : (v : Assignment) (g : Graph) (above : ℕ → ℕ → Bool) (x : DrawingVars) (grid : GridSize) (d : Drawing) (first : ℕ) (laws : List Instance) →
    ListsAll g above laws → Read v g x grid d → SatisfiesAll v (laws_clauses g x grid.width first laws) → (i : Instance) → IsInstance g above i →
    Meets g grid d i
each_law v g above x grid d first laws l r h (NodeOnGrid n) at = instance_means v g above x grid d (NodeOnGrid n) first [] r at (λ k. k) tt
each_law v g above x grid d first laws l r h (LineOnGrid e) at = instance_means v g above x grid d (LineOnGrid e) first [] r at (λ k. k) tt
each_law v g above x grid d first laws l r h (Joined e) at = instance_means v g above x grid d (Joined e) first [] r at (λ k. k) tt
each_law v g above x grid d first laws l r h (Ordered p q) at = laws_mean v g above x grid d first laws r h (Ordered p q) at (l.all (Ordered p q) at tt)
each_law v g above x grid d first laws l r h (Aligned n) at = laws_mean v g above x grid d first laws r h (Aligned n) at (l.all (Aligned n) at tt)
each_law v g above x grid d first laws l r h (Apart p q) at = laws_mean v g above x grid d first laws r h (Apart p q) at (l.all (Apart p q) at tt)
each_law v g above x grid d first laws l r h (Over e f) at = laws_mean v g above x grid d first laws r h (Over e f) at (l.all (Over e f) at tt)
each_law v g above x grid d first laws l r h (Parted e f) at = laws_mean v g above x grid d first laws r h (Parted e f) at (l.all (Parted e f) at tt)

pub sound : (g : Graph) (above : ℕ → ℕ → Bool) (grid : GridSize) (laws : List Instance) → IsTrackGraph g → IsGrid grid → ListsAll g above laws →
    Sound g above grid (drawing_vars g grid) (expected_clauses g grid laws)
sound g above grid laws is size l v h =
    let x = drawing_vars g grid in
    let base = base_clauses g x grid in
    let more = laws_clauses g x grid.width (laws_first g grid) laws in
    let b = base_means v g grid is size (satisfies_left v base more h) in
    let r : Read v g x grid b.drawing = record { graph = is; reads = b.reads; loose = b.loose } in
    record {
      drawing = b.drawing;
      stands = reads_stand v g x grid b.drawing b.reads b.loose;
      lawful = record { fits = b.loose.fits; laws = each_law v g above x grid b.drawing (laws_first g grid) laws l r (satisfies_right v base more h) };
    }

-- COVERS
pub record FullModel (g : Graph) (grid : GridSize) (laws : List Instance) (d : Drawing) : Type 0 where
  pub to : Assignment
  pub reads : ReadsDrawing to g (drawing_vars g grid) grid.width d
  pub satisfies : SatisfiesAll to (expected_clauses g grid laws)

pub full_model : (g : Graph) (above : ℕ → ℕ → Bool) (grid : GridSize) (laws : List Instance) (d : Drawing) → IsTrackGraph g → IsGrid grid →
    laws_first g grid ≤ VARS + 1 → AreInstances g above laws → Lawful g above grid d → FullModel g grid laws d
full_model g above grid laws d is size few are h =
    let x = drawing_vars g grid in
    let loose = lawful_loose g above grid d is h in
    let last = base_last g grid in
    let first = laws_first g grid in
    let a = base_vars g grid size few in
    let b : Extends 1 last (λ y. false) (λ w. BaseHolds w g grid d) = base_extends g grid d (λ y. false) is size few loose in
    let r : Read b.to g x grid d = record { graph = is; reads = b.holds.reads; loose = loose } in
    let c : Extends first (laws_size g laws) b.to (λ w. SatisfiesAll w (laws_clauses g x grid.width first laws)) = laws_extend b.to last g above x grid d first
    laws a (omega arith) r are h.laws in
    let same : (y : ℕ) → y ≤ last → c.to y ≡ b.to y = λ y le. c.same.below y (omega arith) in
    record {
      to = c.to;
      reads = drawing_stays b.to c.to last g x grid.width d a same b.holds.reads;
      satisfies = satisfies_append c.to (base_clauses g x grid) (laws_clauses g x grid.width first laws)
          (satisfies_all_same b.to c.to last (base_clauses g x grid) (base_there g grid is size few) same b.holds.satisfies) c.holds;
    }

pub covers : (g : Graph) (above : ℕ → ℕ → Bool) (grid : GridSize) (laws : List Instance) → IsTrackGraph g → IsGrid grid → laws_first g grid ≤ VARS + 1 →
    AreInstances g above laws → Covers g above grid (drawing_vars g grid) (expected_clauses g grid laws)
covers g above grid laws is size few are d h =
    let m = full_model g above grid laws d is size few are h in
    record { to = m.to; satisfies = m.satisfies; stands = reads_stand m.to g (drawing_vars g grid) grid d m.reads (lawful_loose g above grid d is h) }

-- THE LIST OF INSTANCES
are_both : (g : Graph) (above : ℕ → ℕ → Bool) (xs ys : List Instance) → AreInstances g above xs → AreInstances g above ys → AreInstances g above (xs ++ ys)
are_both g above [] ys h k = k
are_both g above (i ∷ xs) ys h k = (h.0, are_both g above xs ys h.1 k)

are_listed : (g : Graph) (above : ℕ → ℕ → Bool) (f : ℕ → List Instance) (first n : ℕ) → ((k : ℕ) → first ≤ k → k < first + n → AreInstances g above (f k)) →
    AreInstances g above (instances_from f first n)
are_listed g above f first zero h = tt
are_listed g above f first (suc n) h = are_both g above (f first) (instances_from f (first + 1) n) (h first (omega arith) (omega arith))
    (are_listed g above f (first + 1) n (λ k from to. h k (omega arith) (omega arith)))

are_pairs : (g : Graph) (above : ℕ → ℕ → Bool) (f : ℕ → ℕ → List Instance) (n : ℕ) → ((a b : ℕ) → a < b → b < n → AreInstances g above (f a b)) →
    AreInstances g above (instance_pairs n f)
are_pairs g above f n h = are_listed g above (pairs_from n f) 0 n (λ a from to. are_listed g above (f a) (a + 1) (n - (a + 1))
    (λ b low high. h a b (omega arith) (omega arith)))

in_listed : (f : ℕ → List Instance) (i : Instance) (first n k : ℕ) → first ≤ k → k < first + n → Contains (f k) i → Contains (instances_from f first n) i
in_listed f i first zero k from to h = absurd (omega arith)
in_listed f i first (suc n) k from to h = elim (first_or_later first k from) [
  | inl e ↦ Contains-append_left (f first) (instances_from f (first + 1) n) i (subst (λ j. Contains (f j) i) (sym e) h)
  | inr more ↦ Contains-append_right (f first) (instances_from f (first + 1) n) i (in_listed f i (first + 1) n k more (omega arith) h)
]

in_pairs : (f : ℕ → ℕ → List Instance) (i : Instance) (n a b : ℕ) → a < b → b < n → Contains (f a b) i → Contains (instance_pairs n f) i
in_pairs f i n a b rising within h = in_listed (pairs_from n f) i 0 n a (omega arith) (omega arith)
    (in_listed (f a) i (a + 1) (n - (a + 1)) b (omega arith) (omega arith) h)

-- the tables say which edges are above which, and which overlap
pub record AreTablesOf (g : Graph) (above overlap : ℕ → ℕ → Bool) : Type 0 where
  pub overlaps : (e f : ℕ) → e < length g.edges → f < length g.edges → (overlap e f ≡ true) ↔ Overlap g e f
  pub not_itself : (e : ℕ) → e < length g.edges → above e e ≡ false

pair_are : (g : Graph) (above overlap : ℕ → ℕ → Bool) (e f : ℕ) → AreTablesOf g above overlap → e < f → f < length g.edges →
    AreInstances g above (edge_pair above overlap e f)
pair_are g above overlap e f t rising within = cases (above e f) (above f e) (overlap e f) refl refl refl
  where
    le : e < length g.edges
    le = omega arith

    cases : (a b o : Bool) → above e f ≡ a → above f e ≡ b → overlap e f ≡ o →
        AreInstances g above (cond a (Over e f ∷ []) [] ++ (cond b (Over f e ∷ []) [] ++ cond (a || (b || not o)) [] (Parted e f ∷ [])))
    cases true true o ea eb eo = (record { first = le; second = within; is_above = ea }, (record { first = within; second = le; is_above = eb }, tt))
    cases true false o ea eb eo = (record { first = le; second = within; is_above = ea }, tt)
    cases false true o ea eb eo = (record { first = within; second = le; is_above = eb }, tt)
    cases false false true ea eb eo = (
      record {
        pair = record { rising = rising; within = within };
        overlap = (t.overlaps e f le within).0 eo;
        not_above = ea;
        not_below = eb;
      },
      tt,
    )
    cases false false false ea eb eo = tt

-- of two edges, what is in the list
in_first : (a b o : Bool) (e f : ℕ) → a ≡ true → Contains (cond a (Over e f ∷ []) []
    ++ (cond b (Over f e ∷ []) [] ++ cond (a || (b || not o)) [] (Parted e f ∷ []))) (Over e f)
in_first true b o e f h = Contains-head (Over e f) (cond b (Over f e ∷ []) [] ++ [])
in_first false b o e f h = cc

in_second : (a b o : Bool) (e f : ℕ) → b ≡ true → Contains (cond a (Over e f ∷ []) []
    ++ (cond b (Over f e ∷ []) [] ++ cond (a || (b || not o)) [] (Parted e f ∷ []))) (Over f e)
in_second true true o e f h = Contains-append_right (Over e f ∷ []) (Over f e ∷ []) (Over f e) (Contains-head (Over f e) [])
in_second false true o e f h = Contains-head (Over f e) []
in_second a false o e f h = cc

in_third : (a b o : Bool) (e f : ℕ) → a ≡ false → b ≡ false → o ≡ true →
    Contains (cond a (Over e f ∷ []) [] ++ (cond b (Over f e ∷ []) [] ++ cond (a || (b || not o)) [] (Parted e f ∷ []))) (Parted e f)
in_third false false true e f ea eb eo = Contains-head (Parted e f) []
in_third true b o e f ea eb eo = cc
in_third false true o e f ea eb eo = cc
in_third false false false e f ea eb eo = cc

pub all_listed : (g : Graph) (above overlap : ℕ → ℕ → Bool) → AreTablesOf g above overlap → ListsAll g above (instances g above overlap)
all_listed g above overlap t = record {
  are = are_both g above one (two ++ (three ++ four)) (are_pairs g above (λ u v. Ordered u v ∷ []) n (λ a b rising within. (
    record {
      rising = rising;
      within = within;
    },
    tt,
  )))
      (are_both g above two (three ++ four) (are_listed g above (λ k. Aligned k ∷ []) 0 n (λ k from to. (omega arith, tt)))
      (are_both g above three four (are_pairs g above (λ u v. Apart u v ∷ []) n (λ a b rising within. (record { rising = rising; within = within }, tt)))
      (are_pairs g above (edge_pair above overlap) m (λ e f rising within. pair_are g above overlap e f t rising within))));
  all = all;
}
  where
    n : ℕ
    n = length g.nodes

    m : ℕ
    m = length g.edges

    one : List Instance
    one = instance_pairs n (λ u v. Ordered u v ∷ [])

    two : List Instance
    two = instances_from (λ k. Aligned k ∷ []) 0 n

    three : List Instance
    three = instance_pairs n (λ u v. Apart u v ∷ [])

    four : List Instance
    four = instance_pairs m (edge_pair above overlap)

    last : (i : Instance) → Contains four i → Contains (one ++ (two ++ (three ++ four))) i
    last i h = Contains-append_right one (two ++ (three ++ four)) i (Contains-append_right two (three ++ four) i (Contains-append_right three four i h))

    all : (i : Instance) → IsInstance g above i → HasClauses i → Contains (one ++ (two ++ (three ++ four))) i
    all (NodeOnGrid k) at h = absurd h
    all (LineOnGrid k) at h = absurd h
    all (Joined k) at h = absurd h
    all (Ordered u v) at h = Contains-append_left one (two ++ (three ++ four)) (Ordered u v)
        (in_pairs (λ u v. Ordered u v ∷ []) (Ordered u v) n u v at.rising at.within (Contains-head (Ordered u v) []))
    all (Aligned k) at h = Contains-append_right one (two ++ (three ++ four)) (Aligned k)
        (Contains-append_left two (three ++ four) (Aligned k) (in_listed (λ k. Aligned k ∷ []) (Aligned k) 0 n k (omega arith) (omega arith)
        (Contains-head (Aligned k) [])))
    all (Apart u v) at h = Contains-append_right one (two ++ (three ++ four)) (Apart u v)
        (Contains-append_right two (three ++ four) (Apart u v) (Contains-append_left three four (Apart u v)
        (in_pairs (λ u v. Apart u v ∷ []) (Apart u v) n u v at.rising at.within (Contains-head (Apart u v) []))))
    all (Over e f) at h = last (Over e f) (elim (leb_tells (e + 1) f) [
      | inl lt ↦ let less = lt.1 in in_pairs (edge_pair above overlap) (Over e f) m e f (omega arith) at.second
          (in_first (above e f) (above f e) (overlap e f) e f at.is_above)
      | inr ge ↦ elim (leb_tells (f + 1) e) [
        | inl gt ↦ let more = gt.1 in in_pairs (edge_pair above overlap) (Over e f) m f e (omega arith) at.first
            (in_second (above f e) (above e f) (overlap f e) f e at.is_above)
        | inr le ↦
            let a = ge.1 in
            let b = le.1 in
            let same : e ≡ f = omega arith in
            let itself : above e e ≡ true = ap (above e) same ∙ at.is_above in
            cc (itself, t.not_itself e at.first)
      ]
    ])
    all (Parted e f) at h = last (Parted e f) (in_pairs (edge_pair above overlap) (Parted e f) m e f at.pair.rising at.pair.within
        (in_third (above e f) (above f e) (overlap e f) e f at.not_above at.not_below
        ((t.overlaps e f (let r = at.pair.rising in let w = at.pair.within in omega arith) at.pair.within).1 at.overlap)))

-- THE FORMULA
pub formula_sound : (g : Graph) (above overlap : ℕ → ℕ → Bool) (grid : GridSize) → IsTrackGraph g → IsGrid grid → AreTablesOf g above overlap →
    Sound g above grid (drawing_vars g grid) (expected_clauses g grid (instances g above overlap))
formula_sound g above overlap grid is size t = sound g above grid (instances g above overlap) is size (all_listed g above overlap t)

pub formula_covers : (g : Graph) (above overlap : ℕ → ℕ → Bool) (grid : GridSize) → IsTrackGraph g → IsGrid grid → laws_first g grid ≤ VARS + 1 →
    AreTablesOf g above overlap → Covers g above grid (drawing_vars g grid) (expected_clauses g grid (instances g above overlap))
formula_covers g above overlap grid is size few t = covers g above grid (instances g above overlap) is size few (all_listed g above overlap t).are

-- the tables of a track order
pub order_tables : (g : Graph) (o : EdgeOrder) → IsOrderOf g o → AreTablesOf g (is_above o) (is_overlap o)
order_tables g o h = record {
  overlaps = h.overlap;
  not_itself = λ e lt. cases e lt (is_above o e e) refl;
}
  where
    cases : (e : ℕ) → e < length g.edges → (b : Bool) → is_above o e e ≡ b → is_above o e e ≡ false
    cases e lt false s = s
    cases e lt true s = let a = (h.above e e lt lt).0 s in absurd (h.one_way e e lt lt (record { over = a; under = a }))

-- the graph's limits keep the variables few
pub few_variables : (g : Graph) (grid : GridSize) → IsGrid grid → length g.nodes ≤ MAX_NODES → length g.edges ≤ MAX_EDGES → laws_first g grid ≤ VARS + 1
few_variables g grid is nodes edges =
    let rows = is.height_limit in
    let columns = is.width_limit in
    let step = grid.height + grid.width in
    let size = edge_size grid.height grid.width in
    let a : length g.nodes * step ≤ 128 * step = mul-le-mul_right step nodes in
    let b : length g.edges * size ≤ 160 * size = mul-le-mul_right size edges in
    let c : grid.width * (grid.height + 5) ≤ 64 * (grid.height + 5) = mul-le-mul_right (grid.height + 5) columns in
    omega arith
