-- The height bound is exact, and each drawing extends to it.
use Rattle.std.proofs.Common.{◌≡◌, ◌⊎◌, ℕ, zero, suc, ◌+◌, ◌-◌, ◌≤◌, ◌<◌, Bool, true, false, not, List, [], ◌∷◌, ◌++◌, map, length, get_or, inl, inr, refl}
use Rattle.std.proofs.Common.{sym, ◌∙◌, ap, subst, arith}
use Rattle.std.specs.Prelude.{nat_le, nat_lt, All, max, cond}
use Rattle.std.specs.List.{flat_map}
use Rattle.std.proofs.lemmas.Bool.Decides.{nat_tests, leb_tells}
use Rattle.std.proofs.lemmas.List.Elements.{All-nil, All-cons, All-append, All-map, All-weaker, All-get_or, All-from_get_or}
use Rattle.plan_core.specs.declared.sides.Compass.{Compass}
use Rattle.plan_core.specs.declared.sides.Compass.TheVariants.{East, West}
use Rattle.plan_core.specs.declared.point.Point.{Point}
use Rattle.plan_core.specs.Grid.{GridSize, grid_size}
use Rattle.plan_core.specs.Graph.{Graph, Ports, End, Joint, Switch, Crossing, node, edge, edges_of, IsEndOf, LiesOn, AreAt, opposite, IsTrackGraph}
use Rattle.plan_core.specs.declared.point.Slope.TheVariants.{Down, Level, Up}
use Rattle.plan_core.specs.Line.{west_end, east_end, slope_west, slope_east, height, origin}
use Rattle.plan_core.specs.Drawing.{Drawing, place, line, all_points}
use Rattle.plan_core.specs.Laws.{IsOnGrid}
use Rattle.plan_core.specs.Values.{maximum}
use Rattle.plan_core.proofs.ListFacts.{all_front, all_back}
use Rattle.plan_core.proofs.LimitLemmas.{maximum-le, All-flat_map}
use Rattle.plan_core.proofs.LineLemmas.{ends_rise, height-west_end, height-east_end}
use Rattle.cnf_core.specs.declared.literal.LitOrTruth.{LitOrTruth}
use Rattle.cnf_core.specs.Clause.{Clauses, AllThere}
use Rattle.cnf_core.specs.Assignment.{Assignment, SatisfiesAll, Extends}
use Rattle.cnf_core.specs.LitOrTruth.{yes, flip, value, SomeTrue, AreWithin, clause_of}
use Rattle.cnf_core.specs.Formula.{each}
use Rattle.cnf_core.proofs.ClauseLemmas.{first_or_later, satisfies_append, satisfies_left, satisfies_right, satisfies_each, satisfies_at, all_there_append}
use Rattle.cnf_core.proofs.ClauseLemmas.{all_there_each}
use Rattle.cnf_core.proofs.GatherLemmas.{value-flip, flip_within, clause_says, clause_holds, clause_there}
use Rattle.cnf_core.proofs.SettingLemmas.{patch, patch_same}
use Rattle.order_int.specs.IntVars.{IntVars, IntIsThere}
use Rattle.order_int.specs.OrderInt.{int_at_least, Reads}
use Rattle.order_int.proofs.IntLemmas.{at_least_within}
use Rattle.edge_shape.specs.Track.{slope_by}
use Rattle.edge_shape.specs.Columns.{is_up, is_down}
use Rattle.edge_shape.proofs.StepLemmas.{up_is, down_is}
use Rattle.edge_shape.proofs.RunLemmas.{line_west_slope, line_east_slope}
use Rattle.edge_shape.proofs.GridLemmas.{on_grid_heights, heights_on_grid}
use Rattle.edge_shape.proofs.LineHeights.{height_behind}
use Rattle.cnf_laws.specs.Stands.{DrawingVars, IsJoinedOnGrid}
use Rattle.drawing_cnf.specs.Bounds.{IsExact, column_heights, all_heights, some_height_clause, height_gives, height_beside, edge_height_gives, height_at}
use Rattle.drawing_cnf.specs.Bounds.{height_bound}
use Rattle.cnf_laws.proofs.GuardLemmas.{Is, some_from, some_to}
use Rattle.cnf_laws.proofs.OverLemmas.{Read}
use Rattle.cnf_laws.proofs.ThereLemmas.{AreVars, EdgeThere, vars_more}
use Rattle.cnf_laws.proofs.InstanceLemmas.{drawing_stays}
use Rattle.drawing_cnf.proofs.BoundLemmas.{either_of, set_bound}

abbrev pub height_of : Drawing → ℕ
height_of d = maximum (map (λ (p : Point). p.y) (all_points d))

-- parts of a list
all_of_list : {X : Type 0} (P : X → Type 0) (lists : List (List X)) (e : ℕ) → e < length lists → All P (flat_map (λ l. l) lists) → All P (get_or lists e [])
all_of_list P [] e lt h = absurd (omega arith)
all_of_list P (l ∷ lists) zero lt h = all_front P l (flat_map (λ l. l) lists) h
all_of_list P (l ∷ lists) (suc e) lt h = all_of_list P lists e (omega arith) (all_back P l (flat_map (λ l. l) lists) h)

all_under : (ps : List Point) → All (λ (p : Point). p.y ≤ maximum (map (λ (p : Point). p.y) ps)) ps
all_under [] = All-nil (λ (p : Point). p.y ≤ 0)
all_under (q ∷ ps) =
    let m = maximum (map (λ (p : Point). p.y) ps) in
    All-cons (λ (p : Point). p.y ≤ max q.y m) q ps (omega arith) (All-weaker (λ (p : Point). p.y ≤ m) (λ (p : Point). p.y ≤ max q.y m) (λ p le. omega arith) ps
    (all_under ps))

-- a node is an end of an edge
pub record EndedBy (g : Graph) (n : ℕ) : Type 0 where
  pub edge : ℕ
  pub there : edge < length g.edges
  pub ends : IsEndOf g edge n

lies_ends : (side : Compass) (g : Graph) (n e : ℕ) → LiesOn side g n e → IsEndOf g e n
lies_ends East g n e h = inl h
lies_ends West g n e h = inr h

port_ends : (g : Graph) (n : ℕ) (ports : Ports) → All (λ e. e < length g.edges) (edges_of ports) → AreAt g n ports → EndedBy g n
port_ends g n (End e side) there at = record { edge = e; there = there 0 e (omega arith); ends = lies_ends side g n e at }
port_ends g n (Joint a b) there at = record { edge = a; there = there 0 a (omega arith); ends = lies_ends West g n a at.0 }
port_ends g n (Switch legs branch t s d) there at = record { edge = t; there = there 0 t (omega arith); ends = lies_ends (opposite legs) g n t at.0 }
port_ends g n (Crossing a b c d) there at = record { edge = a; there = there 0 a (omega arith); ends = lies_ends West g n a at.0 }

pub node_ends : (g : Graph) (n : ℕ) → IsTrackGraph g → n < length g.nodes → EndedBy g n
node_ends g n is lt = port_ends g n (node g n).ports (is.ports n lt).there (is.ports n lt).placed

-- the drawing isn't higher than h exactly where no line is at a column of the grid
pub all_low : (g : Graph) (grid : GridSize) (d : Drawing) (h : ℕ) → IsJoinedOnGrid g grid d → height_of d ≤ h → (e c : ℕ) → e < length g.edges →
    height (line d e) c ≤ h
all_low g grid d h loose low e c lt =
    let under = all_of_list (λ (p : Point). p.y ≤ height_of d) d.lines e (let z = loose.fits.size.lines in omega arith)
    (all_back (λ (p : Point). p.y ≤ height_of d) d.places (flat_map (λ l. l) d.lines) (all_under (all_points d))) in
    let j = loose.joins e lt in
    let on = heights_on_grid grid (line d e) j.shape j.in_height (let w = j.in_width in let z = ap (λ (p : Point). p.x) j.ends in omega arith) in
    on_grid_heights (grid_size grid.width h) (line d e) c j.shape
    (All-from_get_or (IsOnGrid (grid_size grid.width h)) (line d e) origin (λ i within.
    let a = (All-get_or (IsOnGrid grid) (line d e) i origin within on).in_width in
    let b = All-get_or (λ (p : Point). p.y ≤ height_of d) (line d e) i origin within under in
    record { in_width = a; in_height = omega arith }))

pub low_all : (g : Graph) (grid : GridSize) (d : Drawing) (h : ℕ) → IsTrackGraph g → IsJoinedOnGrid g grid d →
    ((e c : ℕ) → e < length g.edges → c ≤ grid.width → height (line d e) c ≤ h) → height_of d ≤ h
low_all g grid d h is loose low = maximum-le (map (λ (p : Point). p.y) (all_points d)) h
    (All-map (λ k. k ≤ h) (λ (p : Point). p.y) (all_points d) (All-append (λ (p : Point). p.y ≤ h) d.places (flat_map (λ l. l) d.lines)
    (All-from_get_or (λ (p : Point). p.y ≤ h) d.places origin (λ n within. let z = loose.fits.size.places in node_low n (omega arith)))
    (All-flat_map (λ (p : Point). p.y ≤ h) d.lines (All-from_get_or (All (λ (p : Point). p.y ≤ h)) d.lines []
    (λ e within. let z = loose.fits.size.lines in line_low e (omega arith))))))
  where
    everywhere : (e c : ℕ) → e < length g.edges → height (line d e) c ≤ h
    everywhere e c lt = elim (leb_tells c grid.width) [
      | inl a ↦ low e c lt a.1
      | inr a ↦
          let far = a.1 in
          let j = loose.joins e lt in
          let w = j.in_width in
          let x : (east_end (line d e)).x ≡ (place d (edge g e).east).x = ap (λ (p : Point). p.x) j.ends in
          let z : height (line d e) c ≡ height (line d e) grid.width = height_behind (line d e) c j.shape (omega arith)
          ∙ sym (height_behind (line d e) grid.width j.shape (omega arith)) in
          let top = low e grid.width lt (omega arith) in
          omega arith
    ]

    line_low : (e : ℕ) → e < length g.edges → All (λ (p : Point). p.y ≤ h) (line d e)
    line_low e lt =
        let j = loose.joins e lt in
        All-weaker (IsOnGrid (grid_size grid.width h)) (λ (p : Point). p.y ≤ h) (λ p on. on.in_height) (line d e)
        (heights_on_grid (grid_size grid.width h) (line d e) j.shape (λ c. everywhere e c lt)
        (let w = j.in_width in let z = ap (λ (p : Point). p.x) j.ends in omega arith))

    end_low : (n e : ℕ) → e < length g.edges → IsEndOf g e n → (place d n).y ≤ h
    end_low n e lt (inl at) =
        let j = loose.joins e lt in
        let y : height (line d e) (west_end (line d e)).x ≡ (place d n).y = height-west_end (line d e) j.shape ∙ ap (λ (p : Point). p.y) j.begins
        ∙ ap (λ k. (place d k).y) at in
        let low = everywhere e (west_end (line d e)).x lt in
        omega arith
    end_low n e lt (inr at) =
        let j = loose.joins e lt in
        let y : height (line d e) (east_end (line d e)).x ≡ (place d n).y = height-east_end (line d e) j.shape ∙ ap (λ (p : Point). p.y) j.ends
        ∙ ap (λ k. (place d k).y) at in
        let low = everywhere e (east_end (line d e)).x lt in
        omega arith

    node_low : (n : ℕ) → n < length g.nodes → (place d n).y ≤ h
    node_low n lt = let e = node_ends g n is lt in end_low n e.edge e.there e.ends

-- the long clause: some height is at least k
pub record SomeHeight (v : Assignment) (g : Graph) (x : DrawingVars) (width k : ℕ) : Type 0 where
  pub edge : ℕ
  pub column : ℕ
  pub there : edge < length g.edges
  pub within : column ≤ width
  pub high : Is (value v (int_at_least ((x.edge edge).height column) k))

some_column : (v : Assignment) (g : Graph) (x : DrawingVars) (width k e c n : ℕ) → e < length g.edges → c + n ≤ width + 1 →
    SomeTrue v (column_heights x k e c n) → SomeHeight v g x width k
some_column v g x width k e c zero lt le h = absurd h
some_column v g x width k e c (suc n) lt le (inl h) = record { edge = e; column = c; there = lt; within = omega arith; high = h }
some_column v g x width k e c (suc n) lt le (inr h) = some_column v g x width k e (c + 1) n lt (omega arith) h

some_height : (v : Assignment) (g : Graph) (x : DrawingVars) (width k e n : ℕ) → e + n ≤ length g.edges → SomeTrue v (all_heights x width k e n) →
    SomeHeight v g x width k
some_height v g x width k e zero le h = absurd h
some_height v g x width k e (suc n) le h = elim (some_from v (column_heights x k e 0 (width + 1)) (all_heights x width k (e + 1) n) h) [
  | inl a ↦ some_column v g x width k e 0 (width + 1) (omega arith) (omega arith) a
  | inr a ↦ some_height v g x width k (e + 1) n (omega arith) a
]

-- either one is, or all are lower
column_or : (v : Assignment) (x : DrawingVars) (k e c n : ℕ) → SomeTrue v (column_heights x k e c n) ⊎
    ((j : ℕ) → c ≤ j → j < c + n → value v (int_at_least ((x.edge e).height j) k) ≡ false)
column_or v x k e c zero = inr (λ j from to. absurd (omega arith))
column_or v x k e c (suc n) = cases (value v (int_at_least ((x.edge e).height c) k)) refl (column_or v x k e (c + 1) n)
  where
    cases : (b : Bool) → value v (int_at_least ((x.edge e).height c) k) ≡ b →
        (SomeTrue v (column_heights x k e (c + 1) n) ⊎ ((j : ℕ) → c + 1 ≤ j → j < c + 1 + n → value v (int_at_least ((x.edge e).height j) k) ≡ false)) →
        SomeTrue v (column_heights x k e c (suc n)) ⊎ ((j : ℕ) → c ≤ j → j < c + suc n → value v (int_at_least ((x.edge e).height j) k) ≡ false)
    cases true s rest = inl (inl s)
    cases false s (inl a) = inl (inr a)
    cases false s (inr f) = inr (λ j from to. elim (first_or_later c j from) [
      | inl same ↦ subst (λ i. value v (int_at_least ((x.edge e).height i) k) ≡ false) same s
      | inr more ↦ f j more (omega arith)
    ])

heights_or : (v : Assignment) (x : DrawingVars) (width k e n : ℕ) →
    SomeTrue v (all_heights x width k e n) ⊎ ((i j : ℕ) → e ≤ i → i < e + n → j ≤ width → value v (int_at_least ((x.edge i).height j) k) ≡ false)
heights_or v x width k e zero = inr (λ i j from to w. absurd (omega arith))
heights_or v x width k e (suc n) = elim (column_or v x k e 0 (width + 1)) [
  | inl a ↦ inl (some_to v (column_heights x k e 0 (width + 1)) (all_heights x width k (e + 1) n) (inl a))
  | inr f ↦ elim (heights_or v x width k (e + 1) n) [
    | inl a ↦ inl (some_to v (column_heights x k e 0 (width + 1)) (all_heights x width k (e + 1) n) (inr a))
    | inr g ↦ inr (λ i j from to w. elim (first_or_later e i from) [
      | inl same ↦ subst (λ m. value v (int_at_least ((x.edge m).height j) k) ≡ false) same (f j (omega arith) (omega arith))
      | inr more ↦ g i j more (omega arith) w
    ])
  ]
]

-- the long clause: one of the others is true, or the bound's variable is false
pub off_or : (v : Assignment) (ts : List LitOrTruth) (b : ℕ) → SatisfiesAll v (clause_of [] (ts ++ flip (yes b) ∷ [])) → SomeTrue v ts ⊎ (not (v b) ≡ true)
off_or v ts b h = elim (clause_says v [] (ts ++ flip (yes b) ∷ []) h) [
  | inl u ↦ absurd u
  | inr t ↦ elim (some_from v ts (flip (yes b) ∷ []) t) [ inl some ↦ inl some | inr (inl off) ↦ inr off | inr (inr other) ↦ absurd other ]
]

-- exact, for one k
height_tells : (v : Assignment) (g : Graph) (x : DrawingVars) (grid : GridSize) (d : Drawing) (b k : ℕ) → Read v g x grid d → 1 ≤ k →
    SatisfiesAll v (height_at g x grid.width b k) → v b ≡ nat_le k (height_of d)
height_tells v g x grid d b k r from h = cases (v b) refl
  where
    m : ℕ
    m = length g.edges

    given : Clauses
    given = each (edge_height_gives g x grid.width b k) 0 m

    long : Clauses
    long = some_height_clause x grid.width m b k

    reads : (e c : ℕ) → e < m → c ≤ grid.width → value v (int_at_least ((x.edge e).height c) k) ≡ nat_le k (height (line d e) c)
    reads e c lt le = ((r.reads.lines e lt).height c le).each k

    cases : (s : Bool) → v b ≡ s → s ≡ nat_le k (height_of d)
    cases true s = elim (off_or v (all_heights x grid.width k 0 m) b (satisfies_right v given long h)) [
      | inr off ↦ absurd (cc (s, off))
      | inl some ↦
          let t = some_height v g x grid.width k 0 m (omega arith) some in
          let high : nat_le k (height (line d t.edge) t.column) ≡ true = sym (reads t.edge t.column t.there t.within) ∙ t.high in
          elim (leb_tells k (height_of d)) [
            | inl le ↦ sym le.0
            | inr gt ↦
                let less = gt.1 in
                let low = all_low g grid d (k - 1) r.loose (omega arith) t.edge t.column t.there in
                absurd (grind (arith, nat_tests, high, low))
          ]
    ]
    cases false s = elim (leb_tells k (height_of d)) [
      | inr gt ↦ sym gt.0
      | inl le ↦
          let more = le.1 in
          let low = low_all g grid d (k - 1) r.graph r.loose (λ e c lt w. elim (leb_tells k (height (line d e) c)) [
            | inr gt ↦ let less = gt.1 in omega arith
            | inl high ↦ absurd (elim (either_of v (flip (int_at_least ((x.edge e).height c) k)) (yes b)
                (satisfies_at v (height_gives x b k e) 0 (grid.width + 1) (satisfies_left v (each (height_gives x b k e) 0 (grid.width + 1))
                (height_beside g x b k e) (satisfies_at v (edge_height_gives g x grid.width b k) 0 m (satisfies_left v given long h) e (omega arith)
                (omega arith))) c (omega arith) (omega arith))) [
                  | inl off ↦ cc (sym (value-flip v (int_at_least ((x.edge e).height c) k)) ∙ off, reads e c lt w ∙ high.0)
                  | inr on ↦ cc (s, on)
                ])
          ]) in
          absurd (omega arith)
    ]

pub height_exact : (v : Assignment) (g : Graph) (x : DrawingVars) (grid : GridSize) (d : Drawing) (last cap : ℕ) → Read v g x grid d →
    SatisfiesAll v (height_bound g x grid.width last cap) → IsExact v last cap (height_of d)
height_exact v g x grid d last cap r h k from to = height_tells v g x grid d (last + k) k r from
    (satisfies_at v (λ k. height_at g x grid.width (last + k) k) 1 cap h k from (omega arith))

-- beside an end the height is one more where the line leaves upwards
slope_up : (a b : ℕ) → slope_by a b ≡ Up → a < b
slope_up a b h = elim (leb_tells (a + 1) b) [
  | inl lt ↦ let less = lt.1 in omega arith
  | inr ge ↦
      let less = ge.1 in
      let one : nat_lt a b ≡ false = grind (arith, nat_tests) in
      absurd (level_or_down (nat_lt b a) (rw one at h))
]
  where
    level_or_down : (t : Bool) → cond t Down Level ≡ Up → ⊥
    level_or_down true e = cc
    level_or_down false e = cc

slope_down : (a b : ℕ) → slope_by a b ≡ Down → b < a
slope_down a b h = elim (leb_tells (b + 1) a) [
  | inl lt ↦ let less = lt.1 in omega arith
  | inr ge ↦
      let less = ge.1 in
      let one : nat_lt b a ≡ false = grind (arith, nat_tests) in
      absurd (up_or_level (nat_lt a b) (rw one at h))
]
  where
    up_or_level : (t : Bool) → cond t Up Level ≡ Down → ⊥
    up_or_level true e = cc
    up_or_level false e = cc

west_rise : (g : Graph) (grid : GridSize) (d : Drawing) (e : ℕ) → IsJoinedOnGrid g grid d → e < length g.edges → is_up (slope_west (line d e)) ≡ true →
    (place d (edge g e).west).y + 1 ≤ height_of d
west_rise g grid d e loose lt up =
    let l = line d e in
    let j = loose.joins e lt in
    let y : height l (west_end l).x ≡ (place d (edge g e).west).y = height-west_end l j.shape ∙ ap (λ (p : Point). p.y) j.begins in
    let rise = slope_up (height l (west_end l).x) (height l ((west_end l).x + 1)) (line_west_slope l j.shape ∙ up_is (slope_west l) up) in
    let low = all_low g grid d (height_of d) loose (omega arith) e ((west_end l).x + 1) lt in
    omega arith

east_rise : (g : Graph) (grid : GridSize) (d : Drawing) (e : ℕ) → IsJoinedOnGrid g grid d → e < length g.edges → is_down (slope_east (line d e)) ≡ true →
    (place d (edge g e).east).y + 1 ≤ height_of d
east_rise g grid d e loose lt down =
    let l = line d e in
    let j = loose.joins e lt in
    let some = ends_rise l j.shape in
    let x = (east_end l).x - 1 in
    let z : x + 1 ≡ (east_end l).x = omega arith in
    let y : height l (x + 1) ≡ (place d (edge g e).east).y = ap (height l) z ∙ height-east_end l j.shape ∙ ap (λ (p : Point). p.y) j.ends in
    let fall = slope_down (height l x) (height l (x + 1)) (line_east_slope l x j.shape z ∙ down_is (slope_east l) down) in
    let low = all_low g grid d (height_of d) loose (omega arith) e x lt in
    omega arith

beside_or : (v : Assignment) (a b : ℕ) (i : IntVars) (k n most : ℕ) → Reads v i n → v b ≡ nat_le k most → (v a ≡ true → n + 1 ≤ most) →
    SomeTrue v (flip (yes a) ∷ flip (int_at_least i (k - 1)) ∷ yes b ∷ [])
beside_or v a b i k n most r h rise = cases (v a) refl
  where
    cases : (s : Bool) → v a ≡ s → SomeTrue v (flip (yes a) ∷ flip (int_at_least i (k - 1)) ∷ yes b ∷ [])
    cases false s = inl (ap not s)
    cases true s =
        let more = rise s in
        elim (leb_tells (k - 1) n) [
          | inl le ↦ let few = le.1 in let t : nat_le k most ≡ true = grind (arith, nat_tests) in inr (inr (inl (h ∙ t)))
          | inr gt ↦ inr (inl (value-flip v (int_at_least i (k - 1)) ∙ ap not (r.each (k - 1) ∙ gt.0)))
        ]

beside_holds : (v : Assignment) (g : Graph) (x : DrawingVars) (grid : GridSize) (d : Drawing) (b k e : ℕ) → Read v g x grid d → e < length g.edges →
    v b ≡ nat_le k (height_of d) → SatisfiesAll v (height_beside g x b k e)
beside_holds v g x grid d b k e r lt h =
    let ends = r.graph.nodes e lt in
    let s = r.reads.lines e lt in
    let west = flip (yes (x.edge e).west_up) ∷ flip (int_at_least (x.node (edge g e).west).y (k - 1)) ∷ yes b ∷ [] in
    let east = flip (yes (x.edge e).east_down) ∷ flip (int_at_least (x.node (edge g e).east).y (k - 1)) ∷ yes b ∷ [] in
    satisfies_append v (clause_of [] west) (clause_of [] east)
    (clause_holds v [] west (inr (beside_or v (x.edge e).west_up b (x.node (edge g e).west).y k (place d (edge g e).west).y (height_of d)
    (r.reads.points (edge g e).west ends.0).y h (λ up. west_rise g grid d e r.loose lt (sym s.west.rises ∙ up)))))
    (clause_holds v [] east (inr (beside_or v (x.edge e).east_down b (x.node (edge g e).east).y k (place d (edge g e).east).y (height_of d)
    (r.reads.points (edge g e).east ends.1).y h (λ down. east_rise g grid d e r.loose lt (sym s.east.falls ∙ down)))))

-- and back
pub height_holds : (v : Assignment) (g : Graph) (x : DrawingVars) (grid : GridSize) (d : Drawing) (b k : ℕ) → Read v g x grid d → 1 ≤ k →
    v b ≡ nat_le k (height_of d) → SatisfiesAll v (height_at g x grid.width b k)
height_holds v g x grid d b k r from h = satisfies_append v given long
    (satisfies_each v (edge_height_gives g x grid.width b k) 0 m (λ e low high.
    let lt : e < m = omega arith in
    satisfies_append v (each (height_gives x b k e) 0 (grid.width + 1)) (height_beside g x b k e)
    (satisfies_each v (height_gives x b k e) 0 (grid.width + 1) (λ c near far. give e c lt (omega arith)))
    (beside_holds v g x grid d b k e r lt h)))
    (clause_holds v [] (all_heights x grid.width k 0 m ++ flip (yes b) ∷ []) (inr
    (some_to v (all_heights x grid.width k 0 m) (flip (yes b) ∷ []) (all_or (v b) refl))))
  where
    m : ℕ
    m = length g.edges

    given : Clauses
    given = each (edge_height_gives g x grid.width b k) 0 m

    long : Clauses
    long = some_height_clause x grid.width m b k

    reads : (e c : ℕ) → e < m → c ≤ grid.width → value v (int_at_least ((x.edge e).height c) k) ≡ nat_le k (height (line d e) c)
    reads e c lt le = ((r.reads.lines e lt).height c le).each k

    give : (e c : ℕ) → e < m → c ≤ grid.width → SatisfiesAll v (height_gives x b k e c)
    give e c lt w = clause_holds v [] (flip (int_at_least ((x.edge e).height c) k) ∷ yes b ∷ []) (inr (elim (leb_tells k (height_of d)) [
      | inl le ↦ inr (inl (h ∙ le.0))
      | inr gt ↦
          let less = gt.1 in
          let low = all_low g grid d (k - 1) r.loose (omega arith) e c lt in
          let t : nat_le k (height (line d e) c) ≡ false = grind (arith, nat_tests, low, from) in
          inl (value-flip v (int_at_least ((x.edge e).height c) k) ∙ ap not (reads e c lt w ∙ t))
    ]))

    all_or : (s : Bool) → v b ≡ s → SomeTrue v (all_heights x grid.width k 0 m) ⊎ SomeTrue v (flip (yes b) ∷ [])
    all_or false s = inr (inl (ap not s))
    all_or true s = elim (heights_or v x grid.width k 0 m) [
      | inl a ↦ inl a
      | inr f ↦
          let low = low_all g grid d (k - 1) r.graph r.loose (λ e c lt w.
          let t : nat_le k (height (line d e) c) ≡ false = sym (reads e c lt w) ∙ f e c (omega arith) (omega arith) w in
          grind (arith, nat_tests, t, from)) in
          let t : nat_le k (height_of d) ≡ true = sym h ∙ s in
          absurd (grind (arith, nat_tests, t, low, from))
    ]

pub height_extends : (v : Assignment) (vars : ℕ) (g : Graph) (x : DrawingVars) (grid : GridSize) (d : Drawing) (last cap : ℕ) → AreVars vars g x grid.width →
    vars ≤ last → Read v g x grid d → Extends (last + 1) cap v (λ w. SatisfiesAll w (height_bound g x grid.width last cap))
height_extends v vars g x grid d last cap a le r =
    let f : ℕ → Bool = λ k. nat_le (k + 1) (height_of d) in
    let w = patch (last + 1) cap f v in
    let same = patch_same (last + 1) cap f v in
    let q : Read w g x grid d = record {
      graph = r.graph;
      reads = drawing_stays v w vars g x grid.width d a (λ y low. same.below y (omega arith)) r.reads;
      loose = r.loose;
    } in
    record {
      to = w;
      same = same;
      holds = satisfies_each w (λ k. height_at g x grid.width (last + k) k) 1 cap
          (λ k from to. height_holds w g x grid d (last + k) k q from (set_bound v last cap (height_of d) k from (omega arith)));
    }

-- where its variables lie
column_within : (vars : ℕ) (x : DrawingVars) (width k e c n : ℕ) → EdgeThere vars (x.edge e) width → c + n ≤ width + 1 →
    AreWithin vars (column_heights x k e c n)
column_within vars x width k e c zero t le = tt
column_within vars x width k e c (suc n) t le = (
  at_least_within vars ((x.edge e).height c) k (t.height c (omega arith)),
  column_within vars x width k e (c + 1)
      n t (omega arith),
)

pub both_within : (vars : ℕ) (ts us : List LitOrTruth) → AreWithin vars ts → AreWithin vars us → AreWithin vars (ts ++ us)
both_within vars [] us h k = k
both_within vars (t ∷ ts) us h k = (h.0, both_within vars ts us h.1 k)

heights_within : (vars : ℕ) (g : Graph) (x : DrawingVars) (width k e n : ℕ) → AreVars vars g x width → e + n ≤ length g.edges →
    AreWithin vars (all_heights x width k e n)
heights_within vars g x width k e zero a le = tt
heights_within vars g x width k e (suc n) a le =
    both_within vars (column_heights x k e 0 (width + 1)) (all_heights x width k (e + 1) n)
    (column_within vars x width k e 0 (width + 1) (a.edge e (omega arith)) (omega arith)) (heights_within vars g x width k (e + 1) n a (omega arith))

pub gives_there : (vars b k e c : ℕ) (g : Graph) (x : DrawingVars) (width : ℕ) → AreVars vars g x width → e < length g.edges → c ≤ width → 1 ≤ b → b ≤ vars →
    AreWithin vars (flip (int_at_least ((x.edge e).height c) k) ∷ yes b ∷ [])
gives_there vars b k e c g x width a lt le from to =
    (flip_within vars (int_at_least ((x.edge e).height c) k) (at_least_within vars ((x.edge e).height c) k ((a.edge e lt).height c le)), ((from, to), tt))

pub beside_within : (vars b k : ℕ) (s : ℕ) (i : IntVars) → (1 ≤ s) × (s ≤ vars) → IntIsThere vars i → 1 ≤ b → b ≤ vars →
    AreWithin vars (flip (yes s) ∷ flip (int_at_least i (k - 1)) ∷ yes b ∷ [])
beside_within vars b k s i w t from to = (w, (flip_within vars (int_at_least i (k - 1)) (at_least_within vars i (k - 1) t), ((from, to), tt)))

height_at_there : (vars : ℕ) (g : Graph) (x : DrawingVars) (width b k : ℕ) → IsTrackGraph g → AreVars vars g x width → 1 ≤ b → b ≤ vars →
    AllThere vars (height_at g x width b k)
height_at_there vars g x width b k is a from to =
    let m = length g.edges in
    all_there_append vars (each (edge_height_gives g x width b k) 0 m) (some_height_clause x width m b k)
    (all_there_each vars (edge_height_gives g x width b k) 0 m (λ e low high.
    let lt : e < m = omega arith in
    let ends = is.nodes e lt in
    let w = (a.edge e lt).whole in
    let west = flip (yes (x.edge e).west_up) ∷ flip (int_at_least (x.node (edge g e).west).y (k - 1)) ∷ yes b ∷ [] in
    let east = flip (yes (x.edge e).east_down) ∷ flip (int_at_least (x.node (edge g e).east).y (k - 1)) ∷ yes b ∷ [] in
    all_there_append vars (each (height_gives x b k e) 0 (width + 1)) (height_beside g x b k e)
    (all_there_each vars (height_gives x b k e) 0 (width + 1) (λ c near far. clause_there vars [] (flip (int_at_least ((x.edge e).height c) k) ∷ yes b ∷ []) tt
    (gives_there vars b k e c g x width a lt (omega arith) from to)))
    (all_there_append vars (clause_of [] west) (clause_of [] east)
    (clause_there vars [] west tt (beside_within vars b k (x.edge e).west_up (x.node (edge g e).west).y w.west_up (a.node_y (edge g e).west ends.0) from to))
    (clause_there vars [] east tt (beside_within vars b k (x.edge e).east_down (x.node (edge g e).east).y w.east_down (a.node_y (edge g e).east ends.1) from
    to)))))
    (clause_there vars [] (all_heights x width k 0 m ++ flip (yes b) ∷ []) tt (both_within vars (all_heights x width k 0 m) (flip (yes b) ∷ [])
    (heights_within vars g x width k 0 m a (omega arith)) ((from, to), tt)))

pub height_there : (vars : ℕ) (g : Graph) (x : DrawingVars) (width last cap : ℕ) → IsTrackGraph g → AreVars vars g x width → vars ≤ last →
    AllThere (last + cap) (height_bound g x width last cap)
height_there vars g x width last cap is a le =
    all_there_each (last + cap) (λ k. height_at g x width (last + k) k) 1 cap (λ k from to.
    height_at_there (last + cap) g x width (last + k) k is (vars_more vars (last + cap) g x width (omega arith) a) (omega arith) (omega arith))
