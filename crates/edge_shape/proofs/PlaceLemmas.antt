-- Where the variables of an edge lie.
use Rattle.std.proofs.Common.{rules, ◌≡◌, ℕ, zero, suc, ◌+◌, ◌*◌, ◌≤◌, ◌<◌, [], ◌∷◌, inl, inr, ap, arith}
use Rattle.std.proofs.Math.Nat.{mul-le-mul_right}
use Rattle.std.proofs.lemmas.Bool.Decides.{eqb_tells}
use Rattle.cnf_core.specs.Lit.{positive_of}
use Rattle.cnf_core.specs.Clause.{IsThere}
use Rattle.cnf_core.specs.LitOrTruth.{IsWithin, AreWithin, flip}
use Rattle.cnf_core.proofs.GatherLemmas.{flip_within}
use Rattle.order_int.specs.IntVars.{IntVars, IntIsThere}
use Rattle.order_int.specs.OrderInt.{int_at_least}
use Rattle.order_int.proofs.IntLemmas.{at_least_within}
use Rattle.edge_shape.specs.EdgeVars.{EdgeLits, before, column, edge_lits, edge_size, IsSpot}
use Rattle.edge_shape.specs.Rules.{AllWithin}
use Rattle.edge_shape.specs.Edge.{range_rules, step_rules, seen_rules, shape_rules, end_rules, slope_rules, inner_rules, end_piece_rules, bend_rules}
use Rattle.edge_shape.specs.Edge.{level_rules, beside_end_rules}

-- c blocks of k variables and one more are among width of them
pub blocks : (k width c : ℕ) → c < width → c * k + k ≤ width * k
blocks k width c lt =
    let all : (c + 1) * k ≤ width * k = mul-le-mul_right k (omega arith) in
    let one : (c + 1) * k ≡ c * k + k = omega arith in
    omega arith

-- a column's variables, but for those of the last
pub column_there : (first high width vars c k : ℕ) → IsSpot first high width → first + edge_size high width ≤ vars + 1 → c < width → k ≤ 4 →
    (1 ≤ column first high c + k) × (column first high c + k ≤ vars)
column_there first high width vars zero k p there lt small = let from = p.from in let all = blocks (high + 5) width 0 lt in (omega arith, omega arith)
column_there first high width vars (suc c) k p there lt small = let from = p.from in let all = blocks (high + 5) width (c + 1) (omega arith) in let one :
    (c + 1) * (high + 5) ≡ c * (high + 5) + (high + 5) = omega arith in (omega arith, omega arith)

pub inside_there : (first high width vars c : ℕ) → IsSpot first high width → first + edge_size high width ≤ vars + 1 → c ≤ width →
    (1 ≤ column first high c) × (column first high c ≤ vars)
inside_there first high width vars zero p there le = let from = p.from in let some = p.some_columns in let all = blocks (high + 5) width 0 (omega arith) in
    (omega arith, omega arith)
inside_there first high width vars (suc c) p there le = let from = p.from in let all = blocks (high + 5) width c (omega arith) in (omega arith, omega arith)

-- the literals of a step's column
pub record StepWithin (vars : ℕ) (e : EdgeLits) (c : ℕ) : Type 0 where
  pub here : IsThere vars (positive_of (e.inside c))
  pub next : IsThere vars (positive_of (e.inside (c + 1)))
  pub up : IsThere vars (positive_of (e.up c))
  pub down : IsThere vars (positive_of (e.down c))
  pub seen : IsThere vars (positive_of (e.seen c))
  pub up_before : IsWithin vars (before e.up c)
  pub down_before : IsWithin vars (before e.down c)
  pub seen_before : IsWithin vars (before e.seen c)

before_within : (first high width vars c k : ℕ) → IsSpot first high width → first + edge_size high width ≤ vars + 1 → c < width → k ≤ 4 →
    IsWithin vars (before (λ d. column first high d + k) c)
before_within first high width vars zero k p there lt small = tt
before_within first high width vars (suc c) k p there lt small = column_there first high width vars c k p there (omega arith) small

pub step_literals : (first high width vars c : ℕ) → IsSpot first high width → first + edge_size high width ≤ vars + 1 → c < width →
    StepWithin vars (edge_lits first high width) c
step_literals first high width vars c p there lt = record {
  here = inside_there first high width vars c p there (omega arith);
  next = inside_there first high width vars (c + 1) p there (omega arith);
  up = column_there first high width vars c 1 p there lt (omega arith);
  down = column_there first high width vars c 2 p there lt (omega arith);
  seen = column_there first high width vars c 3 p there lt (omega arith);
  up_before = before_within first high width vars c 1 p there lt (omega arith);
  down_before = before_within first high width vars c 2 p there lt (omega arith);
  seen_before = before_within first high width vars c 3 p there lt (omega arith);
}

pub step_within : (vars : ℕ) (e : EdgeLits) (c : ℕ) → StepWithin vars e c → AllWithin vars (step_rules e c)
step_within vars e c s = search rules

pub seen_within : (vars : ℕ) (e : EdgeLits) (c : ℕ) → StepWithin vars e c → AllWithin vars (seen_rules e c)
seen_within vars e c s = search rules

pub shape_within : (vars : ℕ) (e : EdgeLits) (c : ℕ) → StepWithin vars e c → AllWithin vars (shape_rules e c)
shape_within vars e c s = search rules

-- the two literals of a near clause
pub near_within : (vars : ℕ) (a b : IntVars) (k : ℕ) → IntIsThere vars a → IntIsThere vars b →
    AreWithin vars (flip (int_at_least a (k + 1)) ∷ int_at_least b k ∷ [])
near_within vars a b k ta tb = (flip_within vars (int_at_least a (k + 1)) (at_least_within vars a (k + 1) ta), (at_least_within vars b k tb, tt))

pub height_there : (first high width vars c : ℕ) → IsSpot first high width → first + edge_size high width ≤ vars + 1 → c ≤ width →
    IntIsThere vars ((edge_lits first high width).height c)
height_there first high width vars c p there le = elim (eqb_tells c width) [
  | inl same ↦ let from = p.from in let z : c ≡ width = same.1 in let w : c * (high + 5) ≡ width * (high + 5) = ap (λ k. k * (high + 5)) z in rw same.0
      (record { from = omega arith; to = omega arith })
  | inr other ↦ let from = p.from in let ne = other.1 in let all = blocks (high + 5) width c (omega arith) in rw other.0 (record {
    from = omega arith;
    to = omega arith;
  })
]

-- the six of the whole line
pub record WholeWithin (vars : ℕ) (e : EdgeLits) : Type 0 where
  pub west_up : IsThere vars (positive_of e.west_up)
  pub west_down : IsThere vars (positive_of e.west_down)
  pub east_up : IsThere vars (positive_of e.east_up)
  pub east_down : IsThere vars (positive_of e.east_down)
  pub first_bend : IsThere vars (positive_of e.first_bend)
  pub second_bend : IsThere vars (positive_of e.second_bend)

pub whole_literals : (first high width vars : ℕ) → IsSpot first high width → first + edge_size high width ≤ vars + 1 →
    WholeWithin vars (edge_lits first high width)
whole_literals first high width vars p there = let from = p.from in record {
  west_up = (omega arith, omega arith);
  west_down = (omega arith, omega arith);
  east_up = (omega arith, omega arith);
  east_down = (omega arith, omega arith);
  first_bend = (omega arith, omega arith);
  second_bend = (omega arith, omega arith);
}

pub range_within : (vars : ℕ) (e : EdgeLits) (x z : IntVars) (c : ℕ) → IsThere vars (positive_of (e.inside c)) → IntIsThere vars x → IntIsThere vars z →
    AllWithin vars (range_rules e x z c)
range_within vars e x z c i tx tz = search (rules, at_least_within)

pub inner_within : (vars : ℕ) (e : EdgeLits) (c : ℕ) → IsThere vars (positive_of (e.bend (c + 1))) → IsThere vars (positive_of (e.inside c)) →
    IsThere vars (positive_of (e.inside (c + 2))) → IsThere vars (positive_of (e.up c)) → IsThere vars (positive_of (e.up (c + 1))) →
    IsThere vars (positive_of (e.down c)) → IsThere vars (positive_of (e.down (c + 1))) → AllWithin vars (inner_rules e c)
inner_within vars e c b i k u p d q = search rules

pub through_within : (vars : ℕ) (e : EdgeLits) (c : ℕ) → WholeWithin vars e → StepWithin vars e c → AllWithin vars (end_piece_rules e c)
through_within vars e c w s = search rules

pub end_within : (vars : ℕ) (e : EdgeLits) → WholeWithin vars e → AllWithin vars (end_rules e)
end_within vars e w = search rules

pub slope_within : (vars : ℕ) (e : EdgeLits) (x z : IntVars) (c : ℕ) → WholeWithin vars e → StepWithin vars e c → IntIsThere vars x → IntIsThere vars z →
    AllWithin vars (slope_rules e x z c)
slope_within vars e x z c w s tx tz = search (rules, at_least_within)

pub bend_within : (vars b r f l : ℕ) → IsThere vars (positive_of b) → IsThere vars (positive_of r) → IsThere vars (positive_of f) →
    IsThere vars (positive_of l) → AllWithin vars (bend_rules b r f l)
bend_within vars b r f l tb tr tf tl = search rules

pub level_within : (vars : ℕ) (e : EdgeLits) (l : ℕ) → WholeWithin vars e → IsThere vars (positive_of l) → AllWithin vars (level_rules e l)
level_within vars e l w s = search rules

pub edge_within : (vars : ℕ) (e : EdgeLits) (a b : IntVars) (high : ℕ) → WholeWithin vars e → IntIsThere vars a → IntIsThere vars b →
    AllWithin vars (beside_end_rules e a b high)
edge_within vars e a b high w ta tb = search (rules, at_least_within)
