-- The clauses of laws 2, 4, 5, 6 and 7, each for its parties, with the first of its new variables.
-- Laws 2, 5, 6 and 7 are orders of two integers that hold unless one of five guards is true; law 4 is rules
-- of at most two literals.
use Rattle.std.specs.Prelude.{ℕ, ◌+◌, Bool, ◌||◌, cond, List, [], ◌∷◌, ◌++◌, nat_eq}
use Rattle.std.specs.Ordering.{int_cmp}
use Rattle.std.specs.declared.cmp.Ordering.{Ordering}
use Rattle.std.specs.declared.cmp.Ordering.TheVariants.{Less, Equal, Greater}
use Rattle.plan_core.specs.declared.sides.Compass.{Compass}
use Rattle.plan_core.specs.declared.sides.Compass.TheVariants.{East, West}
use Rattle.plan_core.specs.declared.sides.Side.{Side}
use Rattle.plan_core.specs.declared.sides.Side.TheVariants.{Upper, Lower}
use Rattle.plan_core.specs.Graph.{Graph, Ports, End, Joint, Switch, Crossing, node, edge, mileage}
use Rattle.plan_core.specs.Lawful.{Instance, Ordered, Aligned, Apart, Over, Parted}
use Rattle.cnf_core.specs.declared.literal.LitOrTruth.{LitOrTruth}
use Rattle.cnf_core.specs.declared.literal.LitOrTruth.TheVariants.{False}
use Rattle.cnf_core.specs.Lit.{Literal}
use Rattle.cnf_core.specs.Clause.{Clauses}
use Rattle.cnf_core.specs.LitOrTruth.{yes, flip}
use Rattle.cnf_core.specs.Formula.{each}
use Rattle.order_int.specs.IntVars.{IntVars}
use Rattle.order_int.specs.OrderInt.{int_at_least}
use Rattle.edge_shape.specs.EdgeVars.{NodeInts, EdgeLits}
use Rattle.edge_shape.specs.Rules.{Rule, rule}
use Rattle.cnf_laws.specs.Guards.{Guards, guards, no_guards, one_guard, two_guards, guarded_order, unless_rules}
use Rattle.cnf_laws.specs.Stands.{DrawingVars, SlopeVars, slope_vars}

-- Law 2, by how the mileages compare.

-- how the mileages of two nodes compare
abbrev pub by_mileage : Graph → ℕ → ℕ → Ordering
by_mileage g u v = int_cmp (mileage g u) (mileage g v)

-- the clauses of law 2 for the columns of two nodes, by how the mileages compare
abbrev pub ordered_clauses : Ordering → IntVars → IntVars → List Literal → Clauses
ordered_clauses Less u v unless = guarded_order u v 0 no_guards unless
ordered_clauses Equal u v unless = guarded_order u v 0 no_guards unless ++ guarded_order v u 0 no_guards unless
ordered_clauses Greater u v unless = guarded_order v u 0 no_guards unless

-- Law 4, by the end slopes.

abbrev pub flat_rules : SlopeVars → List Rule
flat_rules s = rule (yes s.rises ∷ []) [] ∷ rule (yes s.falls ∷ []) [] ∷ []

abbrev pub same_rules : SlopeVars → SlopeVars → List Rule
same_rules s t =
    rule (yes s.rises ∷ []) (yes t.rises ∷ [])
    ∷ rule (yes t.rises ∷ []) (yes s.rises ∷ [])
    ∷ rule (yes s.falls ∷ []) (yes t.falls ∷ [])
    ∷ rule (yes t.falls ∷ []) (yes s.falls ∷ [])
    ∷ []

-- t is one more than s
abbrev pub one_more_rules : SlopeVars → SlopeVars → List Rule
one_more_rules s t =
    rule (yes s.rises ∷ []) []
    ∷ rule (yes t.falls ∷ []) []
    ∷ rule [] (yes s.falls ∷ yes t.rises ∷ [])
    ∷ rule (yes s.falls ∷ yes t.rises ∷ []) []
    ∷ []

-- t is greater than s
abbrev pub greater_rules : SlopeVars → SlopeVars → List Rule
greater_rules s t =
    rule (yes t.falls ∷ []) []
    ∷ rule (yes s.rises ∷ []) []
    ∷ rule [] (yes t.rises ∷ yes s.falls ∷ [])
    ∷ []

abbrev pub diverge_rules : Compass → Side → SlopeVars → SlopeVars → List Rule
diverge_rules East Upper s t = one_more_rules s t
diverge_rules East Lower s t = one_more_rules t s
diverge_rules West Upper s t = one_more_rules t s
diverge_rules West Lower s t = one_more_rules s t

abbrev pub switch_rules : Compass → Side → SlopeVars → SlopeVars → SlopeVars → List Rule
switch_rules legs branch trunk straight diverging = same_rules straight trunk
    ++ diverge_rules legs branch trunk diverging

abbrev pub falling_rules : SlopeVars → SlopeVars → SlopeVars → List Rule
falling_rules west_upper west_lower east_lower = same_rules west_upper east_lower ++ greater_rules west_upper west_lower

abbrev pub crossing_rules : SlopeVars → SlopeVars → SlopeVars → SlopeVars → List Rule
crossing_rules west_upper west_lower east_upper east_lower =
    same_rules west_lower east_upper ++ falling_rules west_upper west_lower east_lower

abbrev pub ports_rules : (ℕ → SlopeVars) → Ports → List Rule
ports_rules at (End e side) = flat_rules (at e)
ports_rules at (Joint west east) = same_rules (at west) (at east)
ports_rules at (Switch legs branch trunk straight diverging) =
    switch_rules legs branch (at trunk) (at straight) (at diverging)
ports_rules at (Crossing west_upper west_lower east_upper east_lower) =
    crossing_rules (at west_upper) (at west_lower) (at east_upper) (at east_lower)

-- the clauses of law 4 for a node
abbrev pub aligned_clauses : Graph → DrawingVars → ℕ → List Literal → Clauses
aligned_clauses g x n unless = unless_rules unless (ports_rules (slope_vars g x n) (node g n).ports)

-- Law 5. Where one lies west of the other, nothing is left; else one is the lower.

abbrev pub apart_rows_clauses : ℕ → LitOrTruth → IntVars → IntVars → List Literal → Clauses
apart_rows_clauses below guard a b unless =
    guarded_order a b 1 (two_guards guard (flip (yes below))) unless
    ++ guarded_order b a 1 (two_guards guard (yes below)) unless

-- a has the smaller mileage; `first` says that a isn't west of b, the variable behind it that a is below b
abbrev pub west_clauses : ℕ → NodeInts → NodeInts → List Literal → Clauses
west_clauses first a b unless =
    guarded_order a.x b.x 1 (one_guard (yes first)) unless
    ++ apart_rows_clauses (first + 1) (flip (yes first)) a.y b.y unless

abbrev pub apart_clauses : Ordering → ℕ → NodeInts → NodeInts → List Literal → Clauses
apart_clauses Less first u v unless = west_clauses first u v unless
apart_clauses Equal first u v unless = apart_rows_clauses first False u.y v.y unless
apart_clauses Greater first u v unless = west_clauses first v u unless

-- the same where nothing is known of their order: where `first` is false their columns differ, else their rows, and
-- the variable behind it says that a's is the smaller
abbrev pub anywhere_clauses : ℕ → NodeInts → NodeInts → List Literal → Clauses
anywhere_clauses first a b unless =
    apart_rows_clauses (first + 1) (yes first) a.x b.x unless
    ++ apart_rows_clauses (first + 1) (flip (yes first)) a.y b.y unless

abbrev pub apart_size : Ordering → ℕ
apart_size Less = 2
apart_size Equal = 1
apart_size Greater = 2

-- Laws 6 and 7.

abbrev pub is_end : Graph → ℕ → ℕ → Bool
is_end g e n = nat_eq (edge g e).west n || nat_eq (edge g e).east n

-- in a column of e: it is that of e's west node, which is an end of f too; the same of the east node
abbrev pub at_west : Bool → IntVars → ℕ → LitOrTruth
at_west shares x c = cond shares (int_at_least x c) False

abbrev pub at_east : Bool → IntVars → ℕ → LitOrTruth
at_east shares x c = cond shares (flip (int_at_least x (c + 1))) False

-- an edge's variables, its nodes' columns, and which of its nodes are ends of the other edge
pub record SharingEdge : Type 0 where
  pub edge : EdgeLits
  pub west : IntVars
  pub east : IntVars
  pub shares_west : Bool
  pub shares_east : Bool

abbrev pub higher : EdgeLits → IntVars → IntVars → Bool → Bool → SharingEdge
higher e w z sw se = record { edge = e; west = w; east = z; shares_west = sw; shares_east = se }

abbrev pub higher_guards : SharingEdge → EdgeLits → LitOrTruth → ℕ → Guards
higher_guards e f guard c =
    guards (flip (yes (e.edge.inside c))) (flip (yes (f.inside c))) (at_west e.shares_west e.west c)
    (at_east e.shares_east e.east c) guard

abbrev pub higher_column : SharingEdge → EdgeLits → LitOrTruth → List Literal → ℕ → Clauses
higher_column e f guard unless c = guarded_order (f.height c) (e.edge.height c) 1 (higher_guards e f guard c) unless

abbrev pub higher_clauses : SharingEdge → EdgeLits → ℕ → LitOrTruth → List Literal → Clauses
higher_clauses e f width guard unless = each (higher_column e f guard unless) 0 (width + 1)

-- one of the two is over the other: the first, where the variable is true
abbrev pub either_clauses : SharingEdge → SharingEdge → ℕ → ℕ → List Literal → Clauses
either_clauses e f width greater unless =
    higher_clauses e f.edge width (flip (yes greater)) unless ++ higher_clauses f e.edge width (yes greater) unless

abbrev pub shared_west : Graph → DrawingVars → ℕ → ℕ → ℕ → LitOrTruth
shared_west g x e f c = at_west (is_end g f (edge g e).west) (x.node (edge g e).west).x c

abbrev pub shared_east : Graph → DrawingVars → ℕ → ℕ → ℕ → LitOrTruth
shared_east g x e f c = at_east (is_end g f (edge g e).east) (x.node (edge g e).east).x c

abbrev pub higher_of : Graph → DrawingVars → ℕ → ℕ → SharingEdge
higher_of g x e f =
    higher (x.edge e) (x.node (edge g e).west).x (x.node (edge g e).east).x (is_end g f (edge g e).west)
    (is_end g f (edge g e).east)

abbrev pub over_guards : Graph → DrawingVars → ℕ → ℕ → LitOrTruth → ℕ → Guards
over_guards g x e f guard c = higher_guards (higher_of g x e f) (x.edge f) guard c

abbrev pub over_column : Graph → DrawingVars → ℕ → ℕ → LitOrTruth → List Literal → ℕ → Clauses
over_column g x e f guard unless c = higher_column (higher_of g x e f) (x.edge f) guard unless c

-- e is over f
abbrev pub over_clauses : Graph → DrawingVars → ℕ → ℕ → ℕ → LitOrTruth → List Literal → Clauses
over_clauses g x width e f guard unless = higher_clauses (higher_of g x e f) (x.edge f) width guard unless

-- one of the two is over the other: e, where the variable is true
abbrev pub parted_clauses : Graph → DrawingVars → ℕ → ℕ → ℕ → ℕ → List Literal → Clauses
parted_clauses g x width e f greater unless =
    over_clauses g x width e f (flip (yes greater)) unless ++ over_clauses g x width f e (yes greater) unless

-- Any law, with its first new variable, and how many it has.

abbrev pub instance_size : Graph → Instance → ℕ
instance_size g (Apart u v) = apart_size (int_cmp (mileage g u) (mileage g v))
instance_size g (Parted e f) = 1
instance_size g other = 0

-- the clauses of one instance, whose own variables begin at first, unless one of these literals is true;
-- laws 1 and 3 have none here
abbrev pub instance_clauses : Graph → DrawingVars → ℕ → Instance → ℕ → List Literal → Clauses
instance_clauses g x width (Ordered u v) first unless =
    ordered_clauses (int_cmp (mileage g u) (mileage g v)) (x.node u).x (x.node v).x unless
instance_clauses g x width (Aligned n) first unless = aligned_clauses g x n unless
instance_clauses g x width (Apart u v) first unless =
    apart_clauses (int_cmp (mileage g u) (mileage g v)) first (x.node u) (x.node v) unless
instance_clauses g x width (Over e f) first unless = over_clauses g x width e f False unless
instance_clauses g x width (Parted e f) first unless = parted_clauses g x width e f first unless
instance_clauses g x width other first unless = []

abbrev pub laws_size : Graph → List Instance → ℕ
laws_size g [] = 0
laws_size g (i ∷ rest) = instance_size g i + laws_size g rest

abbrev pub laws_clauses : Graph → DrawingVars → ℕ → ℕ → List Instance → Clauses
laws_clauses g x width first [] = []
laws_clauses g x width first (i ∷ rest) =
    instance_clauses g x width i first [] ++ laws_clauses g x width (first + instance_size g i) rest
