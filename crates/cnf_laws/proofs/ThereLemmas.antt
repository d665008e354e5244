-- Where the variables of the laws' clauses lie.
use Rattle.std.proofs.Common.{ℕ, ◌+◌, ◌≤◌, ◌<◌, Bool, true, false, List, [], ◌∷◌, ◌++◌, length, arith}
use Rattle.std.specs.Prelude.{map, All, ◌==◌}
use Rattle.std.specs.Ordering.{int_cmp}
use Rattle.std.specs.declared.cmp.Ordering.{Ordering}
use Rattle.std.specs.declared.cmp.Ordering.TheVariants.{Less, Equal, Greater}
use Rattle.plan_core.specs.declared.sides.Compass.{Compass}
use Rattle.plan_core.specs.declared.sides.Compass.TheVariants.{East, West}
use Rattle.plan_core.specs.declared.sides.Side.{Side}
use Rattle.plan_core.specs.declared.sides.Side.TheVariants.{Upper, Lower}
use Rattle.plan_core.specs.Graph.{Graph, Ports, End, Joint, Switch, Crossing, node, edge, mileage, edges_of, IsTrackGraph}
use Rattle.plan_core.specs.Lawful.{Instance, NodeOnGrid, LineOnGrid, Ordered, Joined, Aligned, Apart, Over, Parted, IsInstance}
use Rattle.cnf_core.specs.declared.literal.LitOrTruth.{LitOrTruth}
use Rattle.cnf_core.specs.Lit.{Literal, positive_of}
use Rattle.cnf_core.specs.Clause.{IsThere, AreThere, AllThere}
use Rattle.cnf_core.specs.LitOrTruth.{yes, flip, clause_of, IsWithin, AreWithin}
use Rattle.cnf_core.proofs.ClauseLemmas.{all_there_append, all_there_each}
use Rattle.cnf_core.proofs.GatherLemmas.{flip_within, clause_there}
use Rattle.order_int.specs.IntVars.{IntVars, size, IntIsThere}
use Rattle.order_int.specs.OrderInt.{int_at_least}
use Rattle.order_int.proofs.IntLemmas.{at_least_within}
use Rattle.edge_shape.specs.EdgeVars.{NodeInts, EdgeLits}
use Rattle.edge_shape.specs.Rules.{Rule}
use Rattle.cnf_laws.specs.Guards.{Guards, guard_list, no_guards, one_guard, two_guards, guarded_clause, guarded_order, pair_literals, pair_clauses, PairsWithin}
use Rattle.cnf_laws.specs.Stands.{DrawingVars, NodeThere, SlopeVars, end_slope, slope_vars}
use Rattle.cnf_laws.specs.LawClauses.{ordered_clauses, flat_rules, same_rules, one_more_rules, greater_rules, diverge_rules, ports_rules, aligned_clauses}
use Rattle.cnf_laws.specs.LawClauses.{apart_rows_clauses, west_clauses, apart_clauses, apart_size, is_end, at_west, at_east, over_guards, over_column}
use Rattle.cnf_laws.specs.LawClauses.{over_clauses, instance_size, instance_clauses}

-- the six of the whole line
pub record WholeThere (vars : ℕ) (e : EdgeLits) : Type 0 where
  pub west_up : IsThere vars (positive_of e.west_up)
  pub west_down : IsThere vars (positive_of e.west_down)
  pub east_up : IsThere vars (positive_of e.east_up)
  pub east_down : IsThere vars (positive_of e.east_down)
  pub first_bend : IsThere vars (positive_of e.first_bend)
  pub second_bend : IsThere vars (positive_of e.second_bend)

-- those of one edge, and those of all, are among the variables 1 to vars
pub record EdgeThere (vars : ℕ) (e : EdgeLits) (width : ℕ) : Type 0 where
  pub inside : (c : ℕ) → c ≤ width → IsThere vars (positive_of (e.inside c))
  pub up : (c : ℕ) → c < width → IsThere vars (positive_of (e.up c))
  pub down : (c : ℕ) → c < width → IsThere vars (positive_of (e.down c))
  pub height : (c : ℕ) → c ≤ width → IntIsThere vars (e.height c)
  pub whole : WholeThere vars e

pub record AreVars (vars : ℕ) (g : Graph) (x : DrawingVars) (width : ℕ) : Type 0 where
  pub node_x : (n : ℕ) → n < length g.nodes → IntIsThere vars (x.node n).x
  pub node_y : (n : ℕ) → n < length g.nodes → IntIsThere vars (x.node n).y
  pub edge : (e : ℕ) → e < length g.edges → EdgeThere vars (x.edge e) width

int_more : (m n : ℕ) (i : IntVars) → m ≤ n → IntIsThere m i → IntIsThere n i
int_more m n i le t = record { from = t.from; to = let b = t.to in omega arith }

one_more_there : (m n k : ℕ) → m ≤ n → IsThere m (positive_of k) → IsThere n (positive_of k)
one_more_there m n k le t = let b = t.1 in (t.0, omega arith)

pub edge_more : (m n : ℕ) (e : EdgeLits) (width : ℕ) → m ≤ n → EdgeThere m e width → EdgeThere n e width
edge_more m n e width le a = let h = a.whole in record {
  inside = λ c w. one_more_there m n (e.inside c) le (a.inside c w);
  up = λ c lt. one_more_there m n (e.up c) le (a.up c lt);
  down = λ c lt. one_more_there m n (e.down c) le (a.down c lt);
  height = λ c w. int_more m n (e.height c) le (a.height c w);
  whole = record {
    west_up = one_more_there m n e.west_up le h.west_up;
    west_down = one_more_there m n e.west_down le h.west_down;
    east_up = one_more_there m n e.east_up le h.east_up;
    east_down = one_more_there m n e.east_down le h.east_down;
    first_bend = one_more_there m n e.first_bend le h.first_bend;
    second_bend = one_more_there m n e.second_bend le h.second_bend;
  };
}

pub vars_more : (m n : ℕ) (g : Graph) (x : DrawingVars) (width : ℕ) → m ≤ n → AreVars m g x width → AreVars n g x width
vars_more m n g x width le a = record {
  node_x = λ k lt. int_more m n (x.node k).x le (a.node_x k lt);
  node_y = λ k lt. int_more m n (x.node k).y le (a.node_y k lt);
  edge = λ e lt. edge_more m n (x.edge e) width le (a.edge e lt);
}

-- orders with guards
pub guarded_within : (vars : ℕ) (a b : IntVars) (k j : ℕ) (g : Guards) → IntIsThere vars a → IntIsThere vars b → AreWithin vars (guard_list g) →
    AreWithin vars (g.first ∷ g.second ∷ g.third ∷ g.fourth ∷ g.fifth ∷ flip (int_at_least a k) ∷ int_at_least b j ∷ [])
guarded_within vars a b k j g ta tb h = (
  h.0,
  (
    h.1.0,
    (
      h.1.1.0,
      (
        h.1.1.1.0,
        (
          h.1.1.1.1.0,
          (flip_within vars (int_at_least a k) (at_least_within vars a k ta), (at_least_within vars b j tb, tt)),
        ),
      ),
    ),
  ),
)

pub guarded_there : (vars : ℕ) (a b : IntVars) (plus : ℕ) (g : Guards) (unless : List Literal) → IntIsThere vars a → IntIsThere vars b →
    AreWithin vars (guard_list g) → AreThere vars unless → AllThere vars (guarded_order a b plus g unless)
guarded_there vars a b plus g unless ta tb h u = all_there_each vars (guarded_clause a b plus g unless) a.low (size a + 1) (λ k from to.
    clause_there vars unless (g.first ∷ g.second ∷ g.third ∷ g.fourth ∷ g.fifth ∷ flip (int_at_least a k) ∷ int_at_least b (k + plus) ∷ []) u
    (guarded_within vars a b k (k + plus) g ta tb h))

-- law 2
pub ordered_there : (vars : ℕ) (o : Ordering) (a b : IntVars) (unless : List Literal) → IntIsThere vars a → IntIsThere vars b → AreThere vars unless →
    AllThere vars (ordered_clauses o a b unless)
ordered_there vars Less a b unless ta tb u = guarded_there vars a b 0 no_guards unless ta tb (tt, (tt, (tt, (tt, (tt, tt))))) u
ordered_there vars Equal a b unless ta tb u = all_there_append vars (guarded_order a b 0 no_guards unless) (guarded_order b a 0 no_guards unless)
    (guarded_there vars a b 0 no_guards unless ta tb (tt, (tt, (tt, (tt, (tt, tt))))) u)
    (guarded_there vars b a 0 no_guards unless tb ta (tt, (tt, (tt, (tt, (tt, tt))))) u)
ordered_there vars Greater a b unless ta tb u = guarded_there vars b a 0 no_guards unless tb ta (tt, (tt, (tt, (tt, (tt, tt))))) u

-- law 4
pub pairs_there : (vars : ℕ) (unless : List Literal) (lists : List (List LitOrTruth)) → AreThere vars unless → PairsWithin vars lists →
    AllThere vars (pair_clauses unless lists)
pairs_there vars unless [] u h = tt
pairs_there vars unless (ts ∷ rest) u h = all_there_append vars (clause_of unless ts) (pair_clauses unless rest) (clause_there vars unless ts u h.0.0)
    (pairs_there vars unless rest u h.1)

pub record SlopeThere (vars : ℕ) (s : SlopeVars) : Type 0 where
  pub rises : IsThere vars (positive_of s.rises)
  pub falls : IsThere vars (positive_of s.falls)

pub flat_within : (vars : ℕ) (s : SlopeVars) → SlopeThere vars s → PairsWithin vars (map pair_literals (flat_rules s))
flat_within vars s h = (((h.rises, (tt, tt)), omega arith), (((h.falls, (tt, tt)), omega arith), tt))

pub same_within : (vars : ℕ) (s t : SlopeVars) → SlopeThere vars s → SlopeThere vars t → PairsWithin vars (map pair_literals (same_rules s t))
same_within vars s t h k = (
  ((h.rises, (k.rises, tt)), omega arith),
  (
    ((k.rises, (h.rises, tt)), omega arith),
    (((h.falls, (k.falls, tt)), omega arith), (((k.falls, (h.falls, tt)), omega arith), tt)),
  ),
)

pub one_more_within : (vars : ℕ) (s t : SlopeVars) → SlopeThere vars s → SlopeThere vars t → PairsWithin vars (map pair_literals (one_more_rules s t))
one_more_within vars s t h k = (
  ((h.rises, (tt, tt)), omega arith),
  (
    ((k.falls, (tt, tt)), omega arith),
    (((h.falls, (k.rises, tt)), omega arith), (((h.falls, (k.rises, tt)), omega arith), tt)),
  ),
)

pub greater_within : (vars : ℕ) (s t : SlopeVars) → SlopeThere vars s → SlopeThere vars t → PairsWithin vars (map pair_literals (greater_rules s t))
greater_within vars s t h k = (((k.falls, (tt, tt)), omega arith), (((h.rises, (tt, tt)), omega arith), (((k.rises, (h.falls, tt)), omega arith), tt)))

diverge_within : (vars : ℕ) (legs : Compass) (branch : Side) (s t : SlopeVars) → SlopeThere vars s → SlopeThere vars t →
    PairsWithin vars (map pair_literals (diverge_rules legs branch s t))
diverge_within vars East Upper s t h k = one_more_within vars s t h k
diverge_within vars East Lower s t h k = one_more_within vars t s k h
diverge_within vars West Upper s t h k = one_more_within vars t s k h
diverge_within vars West Lower s t h k = one_more_within vars s t h k

pairs_both : (vars : ℕ) (rs ss : List Rule) → PairsWithin vars (map pair_literals rs) → PairsWithin vars (map pair_literals ss) →
    PairsWithin vars (map pair_literals (rs ++ ss))
pairs_both vars [] ss h k = k
pairs_both vars (r ∷ rs) ss h k = (h.0, pairs_both vars rs ss h.1 k)

pub ports_within : (vars : ℕ) (at : ℕ → SlopeVars) (m : ℕ) (ports : Ports) → ((e : ℕ) → e < m → SlopeThere vars (at e)) → All (λ e. e < m) (edges_of ports) →
    PairsWithin vars (map pair_literals (ports_rules at ports))
ports_within vars at m (End e side) r there = flat_within vars (at e) (r e (there 0 e (omega arith)))
ports_within vars at m (Joint a b) r there = same_within vars (at a) (at b) (r a (there 0 a (omega arith))) (r b (there 1 a (omega arith)))
ports_within vars at m (Switch legs branch t s d) r there =
    let rt = r t (there 0 t (omega arith)) in
    pairs_both vars (same_rules (at s) (at t)) (diverge_rules legs branch (at t) (at d)) (same_within vars (at s) (at t) (r s (there 1 t (omega arith))) rt)
    (diverge_within vars legs branch (at t) (at d) rt (r d (there 2 t (omega arith))))
ports_within vars at m (Crossing wu wl eu el) r there =
    let a = r wu (there 0 wu (omega arith)) in
    let b = r wl (there 1 wu (omega arith)) in
    let c = r eu (there 2 wu (omega arith)) in
    let d = r el (there 3 wu (omega arith)) in
    let one = same_rules (at wl) (at eu) in
    let two = same_rules (at wu) (at el) in
    let three = greater_rules (at wu) (at wl) in
    pairs_both vars one (two ++ three) (same_within vars (at wl) (at eu) b c) (pairs_both vars two three (same_within vars (at wu) (at el) a d)
    (greater_within vars (at wu) (at wl) a b))

pub end_there : (vars : ℕ) (e : EdgeLits) (west : Bool) → WholeThere vars e → SlopeThere vars (end_slope west e)
end_there vars e true h = record { rises = h.west_up; falls = h.west_down }
end_there vars e false h = record { rises = h.east_up; falls = h.east_down }

pub slope_there : (vars : ℕ) (g : Graph) (x : DrawingVars) (width n e : ℕ) → AreVars vars g x width → e < length g.edges → SlopeThere vars (slope_vars g x n e)
slope_there vars g x width n e a lt = end_there vars (x.edge e) ((edge g e).west == n) (a.edge e lt).whole

pub aligned_there : (vars : ℕ) (g : Graph) (x : DrawingVars) (width n : ℕ) (unless : List Literal) → IsTrackGraph g → AreVars vars g x width →
    n < length g.nodes → AreThere vars unless → AllThere vars (aligned_clauses g x n unless)
aligned_there vars g x width n unless is a lt u = pairs_there vars unless (map pair_literals (ports_rules (slope_vars g x n) (node g n).ports)) u
    (ports_within vars (slope_vars g x n) (length g.edges) (node g n).ports (λ e le. slope_there vars g x width n e a le) (is.ports n lt).there)

-- law 5
pub rows_there : (vars below : ℕ) (guard : LitOrTruth) (a b : IntVars) (unless : List Literal) → IntIsThere vars a → IntIsThere vars b →
    IsThere vars (positive_of below) → IsWithin vars guard → AreThere vars unless → AllThere vars (apart_rows_clauses below guard a b unless)
rows_there vars below guard a b unless ta tb tl tg u = all_there_append vars (guarded_order a b 1 (two_guards guard (flip (yes below))) unless)
    (guarded_order b a 1 (two_guards guard (yes below)) unless)
    (guarded_there vars a b 1 (two_guards guard (flip (yes below))) unless ta tb (tg, (tl, (tt, (tt, (tt, tt))))) u)
    (guarded_there vars b a 1 (two_guards guard (yes below)) unless tb ta (tg, (tl, (tt, (tt, (tt, tt))))) u)

pub node_more : (m n : ℕ) (i : NodeInts) → m ≤ n → NodeThere m i → NodeThere n i
node_more m n i le t = record { x = int_more m n i.x le t.x; y = int_more m n i.y le t.y }

west_there : (vars first : ℕ) (a b : NodeInts) (unless : List Literal) → NodeThere vars a → NodeThere vars b → 1 ≤ first → first + 1 ≤ vars →
    AreThere vars unless → AllThere vars (west_clauses first a b unless)
west_there vars first a b unless ta tb from to u = all_there_append vars (guarded_order a.x b.x 1 (one_guard (yes first)) unless)
    (apart_rows_clauses (first + 1) (flip (yes first)) a.y b.y unless)
    (guarded_there vars a.x b.x 1 (one_guard (yes first)) unless ta.x tb.x ((from, omega arith), (tt, (tt, (tt, (tt, tt))))) u)
    (rows_there vars (first + 1) (flip (yes first)) a.y b.y unless ta.y tb.y (omega arith, omega arith) (from, omega arith) u)

pub apart_there : (vars : ℕ) (o : Ordering) (first : ℕ) (a b : NodeInts) (unless : List Literal) → NodeThere vars a → NodeThere vars b → 1 ≤ first →
    first + apart_size o ≤ vars + 1 → AreThere vars unless → AllThere vars (apart_clauses o first a b unless)
apart_there vars Less first a b unless ta tb from to u = west_there vars first a b unless ta tb from (omega arith) u
apart_there vars Equal first a b unless ta tb from to u = rows_there vars first LitOrTruth.False a.y b.y unless ta.y tb.y (from, omega arith) tt u
apart_there vars Greater first a b unless ta tb from to u = west_there vars first b a unless tb ta from (omega arith) u

-- laws 6 and 7
pub at_west_within : (vars : ℕ) (shares : Bool) (x : IntVars) (c : ℕ) → IntIsThere vars x → IsWithin vars (at_west shares x c)
at_west_within vars true x c t = at_least_within vars x c t
at_west_within vars false x c t = tt

pub at_east_within : (vars : ℕ) (shares : Bool) (x : IntVars) (c : ℕ) → IntIsThere vars x → IsWithin vars (at_east shares x c)
at_east_within vars true x c t = flip_within vars (int_at_least x (c + 1)) (at_least_within vars x (c + 1) t)
at_east_within vars false x c t = tt

pub over_within : (vars : ℕ) (g : Graph) (x : DrawingVars) (width e f c : ℕ) (guard : LitOrTruth) → IsTrackGraph g → AreVars vars g x width →
    e < length g.edges → f < length g.edges → c ≤ width → IsWithin vars guard → AreWithin vars (guard_list (over_guards g x e f guard c))
over_within vars g x width e f c guard is a le lf w tg =
    let ends = is.nodes e le in (
      (a.edge e le).inside c w,
      (
        (a.edge f lf).inside c w,
        (
          at_west_within vars (is_end g f (edge g e).west) (x.node (edge g e).west).x c
              (a.node_x (edge g e).west ends.0),
          (
            at_east_within vars (is_end g f (edge g e).east) (x.node (edge g e).east).x c (a.node_x (edge g e).east ends.1),
            (tg, tt),
          ),
        ),
      ),
    )

pub over_there : (vars : ℕ) (g : Graph) (x : DrawingVars) (width e f : ℕ) (guard : LitOrTruth) (unless : List Literal) → IsTrackGraph g →
    AreVars vars g x width → e < length g.edges → f < length g.edges → IsWithin vars guard → AreThere vars unless →
    AllThere vars (over_clauses g x width e f guard unless)
over_there vars g x width e f guard unless is a le lf tg u = all_there_each vars (over_column g x e f guard unless) 0 (width + 1) (λ c from to.
    guarded_there vars ((x.edge f).height c) ((x.edge e).height c) 1 (over_guards g x e f guard c) unless ((a.edge f lf).height c (omega arith))
    ((a.edge e le).height c (omega arith)) (over_within vars g x width e f c guard is a le lf (omega arith) tg) u)

pub node_there : (vars : ℕ) (g : Graph) (x : DrawingVars) (width n : ℕ) → AreVars vars g x width → n < length g.nodes → NodeThere vars (x.node n)
node_there vars g x width n a lt = record { x = a.node_x n lt; y = a.node_y n lt }

-- any law
pub instance_there : (vars : ℕ) (g : Graph) (above : ℕ → ℕ → Bool) (x : DrawingVars) (width : ℕ) (i : Instance) (first : ℕ) (unless : List Literal) →
    IsTrackGraph g → AreVars vars g x width → IsInstance g above i → 1 ≤ first → first + instance_size g i ≤ vars + 1 → AreThere vars unless →
    AllThere vars (instance_clauses g x width i first unless)
instance_there vars g above x width (NodeOnGrid n) first unless is a at from to u = tt
instance_there vars g above x width (LineOnGrid e) first unless is a at from to u = tt
instance_there vars g above x width (Joined e) first unless is a at from to u = tt
instance_there vars g above x width (Ordered p q) first unless is a at from to u =
    let rising = at.rising in
    let within = at.within in
    ordered_there vars (int_cmp (mileage g p) (mileage g q)) (x.node p).x (x.node q).x unless (a.node_x p (omega arith)) (a.node_x q at.within) u
instance_there vars g above x width (Aligned n) first unless is a at from to u = aligned_there vars g x width n unless is a at u
instance_there vars g above x width (Apart p q) first unless is a at from to u =
    let rising = at.rising in
    let within = at.within in
    apart_there vars (int_cmp (mileage g p) (mileage g q)) first (x.node p) (x.node q) unless (node_there vars g x width p a (omega arith))
    (node_there vars g x width q a at.within) from to u
instance_there vars g above x width (Over e f) first unless is a at from to u = over_there vars g x width e f LitOrTruth.False unless is a at.first at.second tt
    u
instance_there vars g above x width (Parted e f) first unless is a at from to u =
    let rising = at.pair.rising in
    let within = at.pair.within in
    let le : e < length g.edges = omega arith in
    all_there_append vars (over_clauses g x width e f (flip (yes first)) unless) (over_clauses g x width f e (yes first) unless)
    (over_there vars g x width e f (flip (yes first)) unless is a le within (from, omega arith) u)
    (over_there vars g x width f e (yes first) unless is a within le (from, omega arith) u)
