-- The width bound is exact, and each drawing extends to it.
use Rattle.std.proofs.Common.{◌≡◌, ◌⊎◌, ℕ, zero, suc, ◌+◌, ◌-◌, ◌≤◌, ◌<◌, Bool, true, false, not, List, [], ◌∷◌, ◌++◌, map, length, inl, inr, refl, sym, ◌∙◌}
use Rattle.std.proofs.Common.{ap, subst, arith}
use Rattle.std.specs.Prelude.{nat_le, All, max}
use Rattle.std.specs.List.{flat_map}
use Rattle.std.proofs.lemmas.Bool.Decides.{nat_tests, leb_tells}
use Rattle.std.proofs.lemmas.List.Elements.{All-nil, All-cons, All-append, All-map, All-weaker, All-get_or, All-from_get_or}
use Rattle.plan_core.specs.declared.point.Point.{Point}
use Rattle.plan_core.specs.Grid.{GridSize, grid_size}
use Rattle.plan_core.specs.Graph.{Graph, edge, IsTrackGraph}
use Rattle.plan_core.specs.Line.{east_end, origin}
use Rattle.plan_core.specs.Drawing.{Drawing, place, line, all_points}
use Rattle.plan_core.specs.Laws.{IsOnGrid}
use Rattle.plan_core.specs.Values.{maximum}
use Rattle.plan_core.proofs.LimitLemmas.{maximum-le, All-flat_map}
use Rattle.cnf_core.specs.Clause.{Clauses, AllThere}
use Rattle.cnf_core.specs.Assignment.{Assignment, SatisfiesAll, Extends}
use Rattle.cnf_core.specs.LitOrTruth.{yes, flip, value, SomeTrue, AreWithin}
use Rattle.cnf_core.specs.Formula.{each}
use Rattle.cnf_core.proofs.ClauseLemmas.{first_or_later, satisfies_append, satisfies_left, satisfies_right, satisfies_each, satisfies_at, all_there_append}
use Rattle.cnf_core.proofs.ClauseLemmas.{all_there_each}
use Rattle.cnf_core.proofs.GatherLemmas.{value-flip, flip_within, clause_holds, clause_there}
use Rattle.cnf_core.proofs.SettingLemmas.{patch, patch_same}
use Rattle.order_int.specs.OrderInt.{int_at_least}
use Rattle.order_int.proofs.IntLemmas.{at_least_within}
use Rattle.edge_shape.proofs.GridLemmas.{heights_on_grid}
use Rattle.cnf_laws.specs.Stands.{DrawingVars, IsJoinedOnGrid}
use Rattle.drawing_cnf.specs.Bounds.{IsExact, node_columns, some_column_clause, column_gives, width_at, width_bound}
use Rattle.cnf_laws.proofs.GuardLemmas.{Is, some_to}
use Rattle.cnf_laws.proofs.OverLemmas.{Read}
use Rattle.cnf_laws.proofs.ThereLemmas.{AreVars, vars_more}
use Rattle.cnf_laws.proofs.InstanceLemmas.{read_stays}
use Rattle.drawing_cnf.proofs.BoundLemmas.{either_of, set_bound}
use Rattle.drawing_cnf.proofs.HeightBound.{off_or, both_within}

abbrev pub width_of : Drawing → ℕ
width_of d = maximum (map (λ (p : Point). p.x) (all_points d))

all_west : (ps qs : List Point) → All (λ (p : Point). p.x ≤ maximum (map (λ (p : Point). p.x) (ps ++ qs))) ps
all_west [] qs = All-nil (λ (p : Point). p.x ≤ maximum (map (λ (p : Point). p.x) qs))
all_west (q ∷ ps) qs =
    let m = maximum (map (λ (p : Point). p.x) (ps ++ qs)) in
    All-cons (λ (p : Point). p.x ≤ max q.x m) q ps (omega arith) (All-weaker (λ (p : Point). p.x ≤ m) (λ (p : Point). p.x ≤ max q.x m) (λ p le. omega arith) ps
    (all_west ps qs))

-- the nodes' columns are those of all points
pub place_low : (g : Graph) (grid : GridSize) (d : Drawing) (n : ℕ) → IsJoinedOnGrid g grid d → n < length g.nodes → (place d n).x ≤ width_of d
place_low g grid d n loose lt = All-get_or (λ (p : Point). p.x ≤ width_of d) d.places n origin (let z = loose.fits.size.places in omega arith)
    (all_west d.places (flat_map (λ l. l) d.lines))

pub width_low : (g : Graph) (grid : GridSize) (d : Drawing) (w : ℕ) → IsTrackGraph g → IsJoinedOnGrid g grid d →
    ((n : ℕ) → n < length g.nodes → (place d n).x ≤ w) → width_of d ≤ w
width_low g grid d w is loose low = maximum-le (map (λ (p : Point). p.x) (all_points d)) w
    (All-map (λ k. k ≤ w) (λ (p : Point). p.x) (all_points d) (All-append (λ (p : Point). p.x ≤ w) d.places (flat_map (λ l. l) d.lines)
    (All-from_get_or (λ (p : Point). p.x ≤ w) d.places origin (λ n within. let z = loose.fits.size.places in low n (omega arith)))
    (All-flat_map (λ (p : Point). p.x ≤ w) d.lines (All-from_get_or (All (λ (p : Point). p.x ≤ w)) d.lines []
    (λ e within. let z = loose.fits.size.lines in line_low e (omega arith))))))
  where
    line_low : (e : ℕ) → e < length g.edges → All (λ (p : Point). p.x ≤ w) (line d e)
    line_low e lt =
        let j = loose.joins e lt in
        let z : (east_end (line d e)).x ≡ (place d (edge g e).east).x = ap (λ (p : Point). p.x) j.ends in
        let last = low (edge g e).east (is.nodes e lt).1 in
        All-weaker (IsOnGrid (grid_size w grid.height)) (λ (p : Point). p.x ≤ w) (λ p on. on.in_width) (line d e)
        (heights_on_grid (grid_size w grid.height) (line d e) j.shape j.in_height (omega arith))

some_node : (v : Assignment) (x : DrawingVars) (k n rest most : ℕ) → n + rest ≤ most → SomeTrue v (node_columns x k n rest) →
    (i : ℕ) × (i < most) × Is (value v (int_at_least (x.node i).x k))
some_node v x k n zero most le h = absurd h
some_node v x k n (suc rest) most le (inl h) = (n, omega arith, h)
some_node v x k n (suc rest) most le (inr h) = some_node v x k (n + 1) rest most (omega arith) h

pub width_tells : (v : Assignment) (g : Graph) (x : DrawingVars) (grid : GridSize) (d : Drawing) (b k : ℕ) → Read v g x grid d → 1 ≤ k →
    SatisfiesAll v (width_at g x b k) → v b ≡ nat_le k (width_of d)
width_tells v g x grid d b k r from h = cases (v b) refl
  where
    m : ℕ
    m = length g.nodes

    given : Clauses
    given = each (column_gives x b k) 0 m

    long : Clauses
    long = some_column_clause x m b k

    reads : (n : ℕ) → n < m → value v (int_at_least (x.node n).x k) ≡ nat_le k (place d n).x
    reads n lt = (r.reads.points n lt).x.each k

    cases : (s : Bool) → v b ≡ s → s ≡ nat_le k (width_of d)
    cases true s = elim (off_or v (node_columns x k 0 m) b (satisfies_right v given long h)) [
      | inr off ↦ absurd (cc (s, off))
      | inl some ↦
          let t = some_node v x k 0 m m (omega arith) some in
          let high : nat_le k (place d t.0).x ≡ true = sym (reads t.0 t.1) ∙ t.2 in
          let low = place_low g grid d t.0 r.loose t.1 in
          sym (grind (arith, nat_tests, high, low))
    ]
    cases false s = elim (leb_tells k (width_of d)) [
      | inr gt ↦ sym gt.0
      | inl le ↦
          let more = le.1 in
          let low = width_low g grid d (k - 1) r.graph r.loose (λ n lt. elim (leb_tells k (place d n).x) [
            | inr gt ↦ let less = gt.1 in omega arith
            | inl high ↦ absurd (elim (either_of v (flip (int_at_least (x.node n).x k)) (yes b)
                (satisfies_at v (column_gives x b k) 0 m (satisfies_left v given long h) n (omega arith) (omega arith))) [
                  | inl off ↦ cc (sym (value-flip v (int_at_least (x.node n).x k)) ∙ off, reads n lt ∙ high.0)
                  | inr on ↦ cc (s, on)
                ])
          ]) in
          absurd (omega arith)
    ]

pub width_exact : (v : Assignment) (g : Graph) (x : DrawingVars) (grid : GridSize) (d : Drawing) (last cap : ℕ) → Read v g x grid d →
    SatisfiesAll v (width_bound g x last cap) → IsExact v last cap (width_of d)
width_exact v g x grid d last cap r h k from to = width_tells v g x grid d (last + k) k r from
    (satisfies_at v (λ k. width_at g x (last + k) k) 1 cap h k from (omega arith))

-- either one is at least k, or all are less
columns_or : (v : Assignment) (x : DrawingVars) (k n rest : ℕ) → SomeTrue v (node_columns x k n rest) ⊎
    ((i : ℕ) → n ≤ i → i < n + rest → value v (int_at_least (x.node i).x k) ≡ false)
columns_or v x k n zero = inr (λ i from to. absurd (omega arith))
columns_or v x k n (suc rest) = cases (value v (int_at_least (x.node n).x k)) refl (columns_or v x k (n + 1) rest)
  where
    cases : (b : Bool) → value v (int_at_least (x.node n).x k) ≡ b →
        (SomeTrue v (node_columns x k (n + 1) rest) ⊎ ((i : ℕ) → n + 1 ≤ i → i < n + 1 + rest → value v (int_at_least (x.node i).x k) ≡ false)) →
        SomeTrue v (node_columns x k n (suc rest)) ⊎ ((i : ℕ) → n ≤ i → i < n + suc rest → value v (int_at_least (x.node i).x k) ≡ false)
    cases true s other = inl (inl s)
    cases false s (inl a) = inl (inr a)
    cases false s (inr f) = inr (λ i from to. elim (first_or_later n i from) [
      | inl same ↦ subst (λ j. value v (int_at_least (x.node j).x k) ≡ false) same s
      | inr more ↦ f i more (omega arith)
    ])

-- and back
pub width_holds : (v : Assignment) (g : Graph) (x : DrawingVars) (grid : GridSize) (d : Drawing) (b k : ℕ) → Read v g x grid d → 1 ≤ k →
    v b ≡ nat_le k (width_of d) → SatisfiesAll v (width_at g x b k)
width_holds v g x grid d b k r from h = satisfies_append v (each (column_gives x b k) 0 m) (some_column_clause x m b k)
    (satisfies_each v (column_gives x b k) 0 m (λ n low high. give n (omega arith)))
    (clause_holds v [] (node_columns x k 0 m ++ flip (yes b) ∷ []) (inr (some_to v (node_columns x k 0 m) (flip (yes b) ∷ []) (all_or (v b) refl))))
  where
    m : ℕ
    m = length g.nodes

    reads : (n : ℕ) → n < m → value v (int_at_least (x.node n).x k) ≡ nat_le k (place d n).x
    reads n lt = (r.reads.points n lt).x.each k

    give : (n : ℕ) → n < m → SatisfiesAll v (column_gives x b k n)
    give n lt = clause_holds v [] (flip (int_at_least (x.node n).x k) ∷ yes b ∷ []) (inr (elim (leb_tells k (width_of d)) [
      | inl le ↦ inr (inl (h ∙ le.0))
      | inr gt ↦
          let less = gt.1 in
          let low = place_low g grid d n r.loose lt in
          let t : nat_le k (place d n).x ≡ false = grind (arith, nat_tests, low, less) in
          inl (value-flip v (int_at_least (x.node n).x k) ∙ ap not (reads n lt ∙ t))
    ]))

    all_or : (s : Bool) → v b ≡ s → SomeTrue v (node_columns x k 0 m) ⊎ SomeTrue v (flip (yes b) ∷ [])
    all_or false s = inr (inl (ap not s))
    all_or true s = elim (columns_or v x k 0 m) [
      | inl a ↦ inl a
      | inr f ↦
          let low = width_low g grid d (k - 1) r.graph r.loose (λ n lt.
          let t : nat_le k (place d n).x ≡ false = sym (reads n lt) ∙ f n (omega arith) (omega arith) in
          grind (arith, nat_tests, t, from)) in
          let t : nat_le k (width_of d) ≡ true = sym h ∙ s in
          absurd (grind (arith, nat_tests, t, low, from))
    ]

pub width_extends : (v : Assignment) (vars : ℕ) (g : Graph) (x : DrawingVars) (grid : GridSize) (d : Drawing) (last cap : ℕ) → AreVars vars g x grid.width →
    vars ≤ last → Read v g x grid d → Extends (last + 1) cap v (λ w. SatisfiesAll w (width_bound g x last cap))
width_extends v vars g x grid d last cap a le r =
    let f : ℕ → Bool = λ k. nat_le (k + 1) (width_of d) in
    let w = patch (last + 1) cap f v in
    let same = patch_same (last + 1) cap f v in
    let q = read_stays v w vars g x grid d a (λ y low. same.below y (omega arith)) r in
    record {
      to = w;
      same = same;
      holds = satisfies_each w (λ k. width_at g x (last + k) k) 1 cap (λ k from to. width_holds w g x grid d (last + k) k q from
          (set_bound v last cap (width_of d) k from (omega arith)));
    }

-- where its variables lie
pub columns_within : (vars : ℕ) (g : Graph) (x : DrawingVars) (width k n rest : ℕ) → AreVars vars g x width → n + rest ≤ length g.nodes →
    AreWithin vars (node_columns x k n rest)
columns_within vars g x width k n zero a le = tt
columns_within vars g x width k n (suc rest) a le = (
  at_least_within vars (x.node n).x k (a.node_x n (omega arith)),
  columns_within vars g x width k (n + 1)
      rest a (omega arith),
)

width_at_there : (vars : ℕ) (g : Graph) (x : DrawingVars) (width b k : ℕ) → AreVars vars g x width → 1 ≤ b → b ≤ vars → AllThere vars (width_at g x b k)
width_at_there vars g x width b k a from to =
    let m = length g.nodes in
    all_there_append vars (each (column_gives x b k) 0 m) (some_column_clause x m b k)
    (all_there_each vars (column_gives x b k) 0 m (λ n low high. clause_there vars [] (flip (int_at_least (x.node n).x k) ∷ yes b ∷ []) tt
    (flip_within vars (int_at_least (x.node n).x k) (at_least_within vars (x.node n).x k (a.node_x n (omega arith))), ((from, to), tt))))
    (clause_there vars [] (node_columns x k 0 m ++ flip (yes b) ∷ []) tt (both_within vars (node_columns x k 0 m) (flip (yes b) ∷ [])
    (columns_within vars g x width k 0 m a (omega arith)) ((from, to), tt)))

pub width_there : (vars : ℕ) (g : Graph) (x : DrawingVars) (width last cap : ℕ) → AreVars vars g x width → vars ≤ last →
    AllThere (last + cap) (width_bound g x last cap)
width_there vars g x width last cap a le =
    all_there_each (last + cap) (λ k. width_at g x (last + k) k) 1 cap (λ k from to.
    width_at_there (last + cap) g x width (last + k) k (vars_more vars (last + cap) g x width (omega arith) a) (omega arith) (omega arith))
