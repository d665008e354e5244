-- Lists of literals as they grow, and the long clause of height as the literals that it is.
use Rattle.std.proofs.Common.{◌≡◌, ℕ, zero, suc, ◌+◌, ◌-◌, ◌*◌, ◌≤◌, ◌<◌, false, List, [], ◌∷◌, ◌++◌, map, length, inl, inr, refl, sym, ◌∙◌, ap, subst, arith}
use Rattle.std.proofs.Common.{append_assoc, append-nil, length-append}
use Rattle.std.specs.Prelude.{nat_le, nat_lt}
use Rattle.std.proofs.lemmas.Bool.Decides.{nat_tests, eqb_tells}
use Rattle.std.proofs.lemmas.List.{map-append}
use Rattle.plan_core.specs.Grid.{GridSize, IsGrid}
use Rattle.plan_core.specs.Graph.{Graph}
use Rattle.cnf_core.specs.declared.literal.LitOrTruth.{LitOrTruth}
use Rattle.cnf_core.specs.declared.literal.LitOrTruth.TheVariants.{Lit as OfLit}
use Rattle.cnf_core.specs.declared.limits.TheConstants.{VARS}
use Rattle.cnf_core.specs.Lit.{Literal, positive_of, negative_of}
use Rattle.cnf_core.specs.Clause.{AreThere, AreDistinct, AreRising}
use Rattle.cnf_core.specs.LitOrTruth.{yes, flip, AreWithin, clause_of}
use Rattle.cnf_core.proofs.GatherLemmas.{clause_of_literals}
use Rattle.cnf_core.proofs.TrailLemmas.{rising_append, rising_push, rising_distinct, rising_there}
use Rattle.order_int.specs.IntVars.{int_vars}
use Rattle.order_int.specs.OrderInt.{int_at_least}
use Rattle.edge_shape.specs.EdgeVars.{EdgeLits, edge_lits, edge_size, height_first}
use Rattle.edge_shape.proofs.PlaceLemmas.{blocks}
use Rattle.cnf_laws.specs.Stands.{DrawingVars}
use Rattle.cnf_laws.specs.Expected.{drawing_vars, edge_first, laws_first}
use Rattle.cnf_laws.proofs.BaseLemmas.{base_last, base_vars}
use Rattle.drawing_cnf.proofs.BoundLemmas.{all_edges, edges_length}
use Rattle.cnf_laws.proofs.ThereLemmas.{vars_more}
use Rattle.drawing_cnf.proofs.HeightBound.{both_within}
use Rattle.drawing_cnf.proofs.WidthBound.{columns_within}
use Rattle.drawing_cnf.proofs.BendsBound.{bends_lits_there}
use Rattle.drawing_cnf.proofs.BoundWords.{bends_inputs_length}
use Rattle.drawing_cnf.specs.Bounds.{west_first, bend_lits, step_lits, column_heights, all_heights, column_lits, height_lits, some_height_clause, node_columns}

-- two more at the end
two_more : {X : Type 0} (front : List X) (a b : X) (rest : List X) → front ++ (a ∷ b ∷ rest) ≡ ((front ++ a ∷ []) ++ b ∷ []) ++ rest
two_more front a b rest = sym (append_assoc (front ++ a ∷ []) (b ∷ []) rest ∙ append_assoc front (a ∷ []) (b ∷ rest))

one_more : {X : Type 0} (front : List X) (a : X) (rest : List X) → front ++ (a ∷ rest) ≡ (front ++ a ∷ []) ++ rest
one_more front a rest = sym (append_assoc front (a ∷ []) rest)

pub bends_next : (x : DrawingVars) (es rest later : List ℕ) (e : ℕ) (front one two : List Literal) (a b : Literal) → rest ≡ e ∷ later →
    a ≡ positive_of (x.edge e).first_bend → b ≡ positive_of (x.edge e).second_bend → one ≡ front ++ a ∷ [] → two ≡ one ++ b ∷ [] →
    front ++ bend_lits x rest ≡ bend_lits x es → two ++ bend_lits x later ≡ bend_lits x es
bends_next x es rest later e front one two a b cut is_a is_b first second h =
    let whole : two ≡ (front ++ a ∷ []) ++ b ∷ [] = second ∙ ap (λ (ls : List Literal). ls ++ b ∷ []) first in
    ap (λ (ls : List Literal). ls ++ bend_lits x later) whole ∙ sym (two_more front a b (bend_lits x later))
    ∙ ap (λ (l : Literal). front ++ l ∷ b ∷ bend_lits x later) is_a ∙ ap (λ (l : Literal). front ++ positive_of (x.edge e).first_bend ∷ l ∷ bend_lits x later)
    is_b
    ∙ ap (λ (ks : List ℕ). front ++ bend_lits x ks) (sym cut) ∙ h

pub bends_done : (x : DrawingVars) (es rest : List ℕ) (front : List Literal) → rest ≡ [] → front ++ bend_lits x rest ≡ bend_lits x es → front ≡ bend_lits x es
bends_done x es rest front none h = sym (append-nil front) ∙ ap (λ (ks : List ℕ). front ++ bend_lits x ks) (sym none) ∙ h

pub steps_next : (e : EdgeLits) (c width : ℕ) (front one two whole : List Literal) → c < width → one ≡ front ++ positive_of (e.up c) ∷ [] →
    two ≡ one ++ positive_of (e.down c) ∷ [] → front ++ step_lits e c (width - c) ≡ whole → two ++ step_lits e (c + 1) (width - (c + 1)) ≡ whole
steps_next e c width front one two whole lt a b h =
    let left : width - c ≡ suc (width - (c + 1)) = omega arith in
    let both : two ≡ (front ++ positive_of (e.up c) ∷ []) ++ positive_of (e.down c) ∷ [] = b
    ∙ ap (λ (ls : List Literal). ls ++ positive_of (e.down c) ∷ []) a in
    ap (λ (ls : List Literal). ls ++ step_lits e (c + 1) (width - (c + 1))) both
    ∙ sym (two_more front (positive_of (e.up c)) (positive_of (e.down c)) (step_lits e (c + 1) (width - (c + 1))))
    ∙ ap (λ n. front ++ step_lits e c n) (sym left) ∙ h

pub column_next : (e : EdgeLits) (k c end : ℕ) (front one whole : List Literal) → c < end → one ≡ front ++ positive_of ((e.height c).first + (k - 1)) ∷ [] →
    front ++ column_lits e k c (end - c) ≡ whole → one ++ column_lits e k (c + 1) (end - (c + 1)) ≡ whole
column_next e k c end front one whole lt a h =
    let left : end - c ≡ suc (end - (c + 1)) = omega arith in
    ap (λ (ls : List Literal). ls ++ column_lits e k (c + 1) (end - (c + 1))) a
    ∙ sym (one_more front (positive_of ((e.height c).first + (k - 1))) (column_lits e k (c + 1) (end - (c + 1))))
    ∙ ap (λ n. front ++ column_lits e k c n) (sym left) ∙ h

pub heights_next : (x : DrawingVars) (width k e end : ℕ) (front more whole : List Literal) → e < end → more ≡ front ++ column_lits (x.edge e) k 0 (width + 1) →
    front ++ height_lits x width k e (end - e) ≡ whole → more ++ height_lits x width k (e + 1) (end - (e + 1)) ≡ whole
heights_next x width k e end front more whole lt a h =
    let left : end - e ≡ suc (end - (e + 1)) = omega arith in
    let rest = height_lits x width k (e + 1) (end - (e + 1)) in
    ap (λ (ls : List Literal). ls ++ rest) a
    ∙ append_assoc front (column_lits (x.edge e) k 0 (width + 1)) rest
    ∙ ap (λ n. front ++ height_lits x width k e n) (sym left) ∙ h

pub heights_done : (x : DrawingVars) (width k e end : ℕ) (front whole : List Literal) → end ≤ e → front ++ height_lits x width k e (end - e) ≡ whole →
    front ≡ whole
heights_done x width k e end front whole le h = let z : end - e ≡ 0 = omega arith in sym (append-nil front)
    ∙ ap (λ n. front ++ height_lits x width k e n) (sym z) ∙ h

pub steps_done : (e : EdgeLits) (c width : ℕ) (front whole : List Literal) → width ≤ c → front ++ step_lits e c (width - c) ≡ whole → front ≡ whole
steps_done e c width front whole le h = let z : width - c ≡ 0 = omega arith in sym (append-nil front) ∙ ap (λ n. front ++ step_lits e c n) (sym z) ∙ h

-- "at least k" is a literal, where k is above 0 and on the grid
pub at_least_is : (high first k : ℕ) → 1 ≤ k → k ≤ high → int_at_least (int_vars 0 high first) k ≡ yes (first + (k - 1))
at_least_is high first k from to =
    let a : nat_le k 0 ≡ false = grind (arith, nat_tests) in
    let b : nat_lt high k ≡ false = grind (arith, nat_tests) in
    let z : first + (k - (0 + 1)) ≡ first + (k - 1) = omega arith in
    rw (a, b) (ap yes z)

columns_are : (first high width k c n : ℕ) → 1 ≤ k → k ≤ high → (x : DrawingVars) (e : ℕ) → x.edge e ≡ edge_lits first high width →
    map OfLit (column_lits (edge_lits first high width) k c n) ≡ column_heights x k e c n
columns_are first high width k c zero from to x e is = refl
columns_are first high width k c (suc n) from to x e is =
    let here : int_at_least ((x.edge e).height c) k ≡ yes (height_first first high width c + (k - 1)) = ap (λ (i : EdgeLits). int_at_least (i.height c) k) is
    ∙ at_least_is high (height_first first high width c) k from to in
    ap (λ (t : LitOrTruth). t ∷ map OfLit (column_lits (edge_lits first high width) k (c + 1) n)) (sym here)
    ∙ ap (λ (ts : List LitOrTruth). int_at_least ((x.edge e).height c) k ∷ ts) (columns_are first high width k (c + 1) n from to x e is)

heights_are : (g : Graph) (grid : GridSize) (k e n : ℕ) → 1 ≤ k → k ≤ grid.height →
    map OfLit (height_lits (drawing_vars g grid) grid.width k e n) ≡ all_heights (drawing_vars g grid) grid.width k e n
heights_are g grid k e zero from to = refl
heights_are g grid k e (suc n) from to =
    let x = drawing_vars g grid in
    let one = column_lits (x.edge e) k 0 (grid.width + 1) in
    let rest = height_lits x grid.width k (e + 1) n in
    map-append OfLit one rest
    ∙ ap (λ (ts : List LitOrTruth). ts ++ map OfLit rest) (columns_are (edge_first g grid e) grid.height grid.width k 0 (grid.width + 1) from to x e refl)
    ∙ ap (λ (ts : List LitOrTruth). column_heights x k e 0 (grid.width + 1) ++ ts) (heights_are g grid k (e + 1) n from to)

-- its variables rise
height_between : (first high width c : ℕ) → c ≤ width → (first + 6 + c * (high + 5) ≤ height_first first high width c) ×
    (height_first first high width c + high ≤ first + 10 + high + c * (high + 5)) × (height_first first high width c + high ≤ first + edge_size high width)
height_between first high width c le = elim (eqb_tells c width) [
  | inl same ↦
      let z : c ≡ width = same.1 in
      let w : c * (high + 5) ≡ width * (high + 5) = ap (λ k. k * (high + 5)) z in
      rw same.0 (omega arith, omega arith, omega arith)
  | inr other ↦
      let ne = other.1 in
      let all = blocks (high + 5) width c (omega arith) in
      rw other.0 (omega arith, omega arith, omega arith)
]

column_rises : (first high width k c n low : ℕ) → 1 ≤ k → k ≤ high → c + n ≤ width + 1 → low ≤ first + 5 + c * (high + 5) → low < first + edge_size high width →
    AreRising low (first + edge_size high width - 1) (column_lits (edge_lits first high width) k c n)
column_rises first high width k c zero low from to le at top = omega arith
column_rises first high width k c (suc n) low from to le at top =
    let b = height_between first high width c (omega arith) in
    let b0 = b.0 in
    let b1 = b.1 in
    let b2 = b.2 in
    let one : (c + 1) * (high + 5) ≡ c * (high + 5) + (high + 5) = omega arith in
    (omega arith, column_rises first high width k (c + 1) n (height_first first high width c + (k - 1)) from to (omega arith) (omega arith) (omega arith))

heights_rise : (g : Graph) (grid : GridSize) (k e n : ℕ) → 1 ≤ k → k ≤ grid.height →
    AreRising (edge_first g grid e - 1) (edge_first g grid (e + n) - 1) (height_lits (drawing_vars g grid) grid.width k e n)
heights_rise g grid k e zero from to = let z : edge_first g grid (e + 0) ≡ edge_first g grid
    e = (let y : e + 0 ≡ e = omega arith in ap (edge_first g grid) y) in omega arith
heights_rise g grid k e (suc n) from to =
    let s = edge_size grid.height grid.width in
    let one : (e + 1) * s ≡ e * s + s = omega arith in
    let next : edge_first g grid e + s - 1 ≡ edge_first g grid (e + 1) - 1 = omega arith in
    let far : e + 1 + n ≡ e + suc n = omega arith in
    let x = drawing_vars g grid in
    rising_append (edge_first g grid e - 1) (edge_first g grid (e + 1) - 1) (edge_first g grid (e + suc n) - 1) (column_lits (x.edge e) k 0 (grid.width + 1))
    (height_lits x grid.width k (e + 1) n)
    (subst (λ top. AreRising (edge_first g grid e - 1) top (column_lits (x.edge e) k 0 (grid.width + 1))) next
    (column_rises (edge_first g grid e) grid.height grid.width k 0 (grid.width + 1) (edge_first g grid e - 1) from to (omega arith) (omega arith)
    (omega arith)))
    (subst (λ m. AreRising (edge_first g grid (e + 1) - 1) (edge_first g grid m - 1) (height_lits x grid.width k (e + 1) n)) far
    (heights_rise g grid k (e + 1) n from to))

-- the literals of the long clause
pub long_rises : (g : Graph) (grid : GridSize) (b k : ℕ) → 1 ≤ k → k ≤ grid.height → laws_first g grid ≤ b →
    AreRising (edge_first g grid 0 - 1) b (height_lits (drawing_vars g grid) grid.width k 0 (length g.edges) ++ negative_of b ∷ [])
long_rises g grid b k from to le =
    let m = length g.edges in
    let z : edge_first g grid (0 + m) ≡ laws_first g grid = (let y : 0 + m ≡ m = omega arith in ap (edge_first g grid) y) in
    rising_push (edge_first g grid 0 - 1) (edge_first g grid (0 + m) - 1) (height_lits (drawing_vars g grid) grid.width k 0 m) (negative_of b)
    (heights_rise g grid k 0 m from to) (omega arith)

pub long_distinct : (g : Graph) (grid : GridSize) (b k : ℕ) → 1 ≤ k → k ≤ grid.height → laws_first g grid ≤ b →
    AreDistinct (height_lits (drawing_vars g grid) grid.width k 0 (length g.edges) ++ negative_of b ∷ [])
long_distinct g grid b k from to le = rising_distinct (edge_first g grid 0 - 1) b
    (height_lits (drawing_vars g grid) grid.width k 0 (length g.edges) ++ negative_of b ∷ []) (long_rises g grid b k from to le)

pub long_there : (g : Graph) (grid : GridSize) (b k vars : ℕ) → 1 ≤ k → k ≤ grid.height → laws_first g grid ≤ b → b ≤ vars →
    AreThere vars (height_lits (drawing_vars g grid) grid.width k 0 (length g.edges) ++ negative_of b ∷ [])
long_there g grid b k vars from to le high = rising_there (edge_first g grid 0 - 1) b vars
    (height_lits (drawing_vars g grid) grid.width k 0 (length g.edges) ++ negative_of b ∷ []) high (long_rises g grid b k from to le)

pub long_is : (g : Graph) (grid : GridSize) (b k : ℕ) → 1 ≤ k → k ≤ grid.height → laws_first g grid ≤ b →
    some_height_clause (drawing_vars g grid) grid.width (length g.edges) b k ≡ (height_lits (drawing_vars g grid) grid.width k 0 (length g.edges) ++ negative_of
    b ∷ []) ∷ []
long_is g grid b k from to le =
    let x = drawing_vars g grid in
    let m = length g.edges in
    let heights = height_lits x grid.width k 0 m in
    let is : map OfLit (heights ++ negative_of b ∷ []) ≡ all_heights x grid.width k 0 m ++ flip (yes b) ∷ [] = map-append OfLit heights (negative_of b ∷ [])
    ∙ ap (λ (ts : List LitOrTruth). ts ++ flip (yes b) ∷ []) (heights_are g grid k 0 m from to) in
    ap (clause_of []) (sym is) ∙ clause_of_literals [] (heights ++ negative_of b ∷ []) (long_distinct g grid b k from to le)

column_length : (e : EdgeLits) (k c n : ℕ) → length (column_lits e k c n) ≡ n
column_length e k c zero = refl
column_length e k c (suc n) = omega (arith, column_length e k (c + 1) n)

heights_length : (x : DrawingVars) (width k e n : ℕ) → length (height_lits x width k e n) ≡ n * (width + 1)
heights_length x width k e zero = omega arith
heights_length x width k e (suc n) =
    let one : suc n * (width + 1) ≡ n * (width + 1) + (width + 1) = omega arith in
    omega (
      arith,
      length-append (column_lits (x.edge e) k 0 (width + 1)) (height_lits x width k (e + 1) n),
      column_length (x.edge e) k 0 (width + 1),
      heights_length x width k (e + 1) n,
    )

pub long_length : (g : Graph) (grid : GridSize) (b k : ℕ) → length (height_lits (drawing_vars g grid) grid.width k 0 (length g.edges) ++ negative_of b ∷ []) ≤
    length g.edges * (grid.width + 1) + 3
long_length g grid b k =
    let heights = height_lits (drawing_vars g grid) grid.width k 0 (length g.edges) in
    omega (arith, length-append heights (negative_of b ∷ []), heights_length (drawing_vars g grid) grid.width k 0 (length g.edges))

-- the inputs of the sum of bends
pub record AreInputs (vars : ℕ) (inputs : List Literal) : Type 0 where
  pub there : AreThere vars inputs
  pub few : length inputs ≤ 65535

pub bends_inputs : (g : Graph) (grid : GridSize) (edges : List ℕ) (inputs : List Literal) (old vars : ℕ) → IsGrid grid → laws_first g grid ≤ old + 1 →
    old ≤ VARS → old ≤ vars → length g.edges ≤ 160 → edges ≡ west_first g → inputs ≡ bend_lits (drawing_vars g grid) edges → AreInputs vars inputs
bends_inputs g grid edges inputs old vars is there limit more few same at =
    let x = drawing_vars g grid in
    let e : inputs ≡ bend_lits x (west_first g) = at ∙ ap (bend_lits x) same in
    record {
      there = subst (λ (ls : List Literal). AreThere vars ls) (sym e) (bends_lits_there (base_last g grid) g x grid.width (west_first g) vars (omega arith)
          (all_edges g) (base_vars g grid is (omega arith)));
      few = omega (arith, ap length e, bends_inputs_length x (west_first g), edges_length g);
    }

-- the literals or truth values of the nodes' columns
pub nodes_next : (x : DrawingVars) (k n end : ℕ) (front one whole : List LitOrTruth) → n < end → one ≡ front ++ int_at_least (x.node n).x k ∷ [] →
    front ++ node_columns x k n (end - n) ≡ whole → one ++ node_columns x k (n + 1) (end - (n + 1)) ≡ whole
nodes_next x k n end front one whole lt a h =
    let left : end - n ≡ suc (end - (n + 1)) = omega arith in
    ap (λ (ts : List LitOrTruth). ts ++ node_columns x k (n + 1) (end - (n + 1))) a
    ∙ sym (one_more front (int_at_least (x.node n).x k) (node_columns x k (n + 1) (end - (n + 1))))
    ∙ ap (λ j. front ++ node_columns x k n j) (sym left) ∙ h

pub some_column_within : (g : Graph) (grid : GridSize) (vars b k : ℕ) (ts : List LitOrTruth) → IsGrid grid → laws_first g grid ≤ vars + 1 → vars ≤ VARS →
    1 ≤ b → b ≤ vars → ts ≡ node_columns (drawing_vars g grid) k 0 (length g.nodes) ++ flip (yes b) ∷ [] → AreWithin vars ts
some_column_within g grid vars b k ts is there limit from to at =
    let x = drawing_vars g grid in
    let n = length g.nodes in
    let a = vars_more (base_last g grid) vars g x grid.width (omega arith) (base_vars g grid is (omega arith)) in
    subst (λ (us : List LitOrTruth). AreWithin vars us) (sym at) (both_within vars (node_columns x k 0 n) (flip (yes b) ∷ [])
    (columns_within vars g x grid.width k 0 n a (omega arith)) ((from, to), tt))
