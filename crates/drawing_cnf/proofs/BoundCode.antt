-- Calls that add a bound: its variables, then its clauses.
use Rattle.std.proofs.Common.{◌≡◌, ℕ, ◌+◌, ◌*◌, ◌≤◌, ◌<◌, List, [], ◌∷◌, ◌++◌, length, inl, refl, sym, ◌∙◌, ap, subst, arith, append-nil, length-append, Ok}
use Rattle.std.proofs.Common.{Err}
use Rattle.std.specs.Prelude.{Result, IsErr, IsErrOf, OnOk, OnErr}
use Rattle.plan_core.specs.Grid.{GridSize}
use Rattle.plan_core.specs.Graph.{Graph}
use Rattle.cnf_core.specs.declared.fault.CnfFault.{CnfFault}
use Rattle.cnf_core.specs.declared.fault.CnfFault.TheVariants.{Room}
use Rattle.cnf_core.specs.declared.limits.TheConstants.{VARS}
use Rattle.cnf_core.specs.declared.literal.LitOrTruth.{LitOrTruth}
use Rattle.cnf_core.specs.Lit.{Literal, negative_of}
use Rattle.cnf_core.specs.Clause.{Clauses, words_of}
use Rattle.cnf_core.specs.LitOrTruth.{yes, flip, clause_of}
use Rattle.cnf_core.specs.Formula.{Cnf, Full, each}
use Rattle.cnf_core.specs.Added.{AddsClauses, AddsBlock}
use Rattle.cnf_core.proofs.BlockLemmas.{block_of_clauses, block_refused, block_after}
use Rattle.cnf_core.proofs.StepLemmas.{adds_longer, added_one}
use Rattle.order_int.specs.IntVars.{IntVars}
use Rattle.unary_sum.specs.Sum.{SumVars, sum_vars, sum_count, sum_clauses}
use Rattle.edge_shape.specs.EdgeVars.{EdgeSpot, lits_of}
use Rattle.cnf_laws.specs.Stands.{DrawingVars}
use Rattle.cnf_laws.specs.Expected.{drawing_vars, laws_first}
use Rattle.drawing_cnf.specs.Bounds.{same_as, sum_bound, bend_lits, bends_bound, bends_bound_size, gives_bound, column_gives_bound, beside_clause}
use Rattle.drawing_cnf.specs.Bounds.{some_height_clause, height_lits, node_columns, some_column_clause}
use Rattle.drawing_cnf.proofs.BoundLemmas.{bound_outputs}
use Rattle.drawing_cnf.proofs.ListCode.{long_is, long_length}
use Rattle.drawing_cnf.proofs.BoundWords.{columns_length}

-- new variables alone
pub block_of_vars : {T : Type 0} (r : Result T CnfFault) (old new : Cnf) (n longest : ℕ) → OnOk r (new ≡ record old { vars = old.vars + n }) →
    (IsErrOf r Room → VARS < old.vars + n) → OnErr r (new ≡ old) → AddsBlock r old new n [] longest
block_of_vars (Ok x) old new n longest ok room err =
    let v = ap (λ (f : Cnf). f.vars) ok in
    let e = ap (λ (f : Cnf). f.clauses) ok in
    let w = ap (λ (f : Cnf). words_of f.clauses) ok in
    record {
      made = v;
      added = e ∙ sym (append-nil old.clauses);
      passes = λ k. cc;
      full = λ k. cc;
      words = omega arith;
      from = omega arith;
      vars = omega arith;
      room = ap (λ (f : Cnf). f.room) ok;
    }
block_of_vars (Err e) old new n longest ok room err =
    let v = ap (λ (f : Cnf). f.vars) err in
    let w = ap (λ (f : Cnf). words_of f.clauses) err in
    record {
      made = tt;
      added = tt;
      passes = λ k. inl (room k);
      full = λ k. inl (room k);
      words = omega arith;
      from = omega arith;
      vars = omega arith;
      room = ap (λ (f : Cnf). f.room) err;
    }

pub block_lost : {T U : Type 0} (x : T) (r : Result U CnfFault) (old new : Cnf) (count longest : ℕ) (xs : Clauses) → IsErr r → (IsErrOf r Room → ⊥) →
    AddsBlock (Ok x) old new count xs longest → AddsBlock r old new count xs longest
block_lost x (Ok y) old new count longest xs err none a = absurd (cc)
block_lost x (Err e) old new count longest xs err none a = record {
  made = tt;
  added = tt;
  passes = λ k. absurd (none k);
  full = λ k. absurd (none k);
  words = a.words;
  from = a.from;
  vars = a.vars;
  room = a.room;
}

-- a sum, and the bound's variables as its outputs
abbrev outputs_list : SumVars → ℕ → Clauses
outputs_list s last = each (bound_outputs s last) 1 s.most

pub sum_refused : {T U : Type 0} (r : Result T CnfFault) (t : Result U CnfFault) (old new : Cnf) (s : SumVars) (last : ℕ) → IsErr t →
    (IsErrOf t Room → IsErrOf r Room) → AddsBlock r old new (sum_count s) (sum_clauses s) 3 → AddsBlock t old new (sum_count s) (sum_bound s last) 3
sum_refused r t old new s last err same h =
    let z : sum_count s + 0 ≡ sum_count s = omega arith in
    subst (λ n. AddsBlock t old new n (sum_bound s last) 3) z (block_refused r t old new (sum_count s) 0 (sum_clauses s) (outputs_list s last) 3 err same h)

pub sum_after : {T U : Type 0} (y : T) (r : Result U CnfFault) (old mid new : Cnf) (s : SumVars) (last : ℕ) →
    AddsBlock (Ok y) old mid (sum_count s) (sum_clauses s) 3 → AddsClauses r mid new (outputs_list s last) 2 →
    AddsBlock r old new (sum_count s) (sum_bound s last) 3
sum_after y r old mid new s last a b =
    let z : sum_count s + 0 ≡ sum_count s = omega arith in
    subst (λ n. AddsBlock r old new n (sum_bound s last) 3) z
    (block_after y r old mid new (sum_count s) 0 (sum_clauses s) (outputs_list s last) 3 a
    (block_of_clauses r mid new (outputs_list s last) 3 (adds_longer r mid new (outputs_list s last) 2 3 (omega arith) b)))

-- the variables, and then a sum with them
pub bends_after : {T U : Type 0} (y : T) (r : Result U CnfFault) (old mid new : Cnf) (inputs : List Literal) (x : DrawingVars) (edges : List ℕ) (last cap : ℕ)
    → inputs ≡ bend_lits x edges → last ≡ old.vars → AddsBlock (Ok y) old mid cap [] 3 →
    AddsBlock r mid new (sum_count (sum_vars inputs cap mid.vars)) (sum_bound (sum_vars inputs cap mid.vars) last) 3 →
    AddsBlock r old new (bends_bound_size x edges old.vars cap) (bends_bound x edges old.vars cap) 3
bends_after y r old mid new inputs x edges last cap is at a b =
    let made : mid.vars ≡ old.vars + cap = a.made in
    let one = subst (λ (ls : List Literal). AddsBlock r mid new (sum_count (sum_vars ls cap mid.vars)) (sum_bound (sum_vars ls cap mid.vars) last) 3) is b in
    let two = subst (λ n. AddsBlock r mid new (sum_count (sum_vars (bend_lits x edges) cap n)) (sum_bound (sum_vars (bend_lits x edges) cap n) last) 3) made
    one in
    let three = subst (λ l. AddsBlock r mid new (sum_count (sum_vars (bend_lits x edges) cap (old.vars + cap)))
    (sum_bound (sum_vars (bend_lits x edges) cap (old.vars + cap)) l) 3) at two in
    block_after y r old mid new cap (sum_count (sum_vars (bend_lits x edges) cap (old.vars + cap))) [] (bends_bound x edges old.vars cap) 3 a three

-- the same clauses, spelt otherwise
pub same_adds : {T : Type 0} (r : Result T CnfFault) (old new : Cnf) (b : ℕ) (s t : LitOrTruth) → s ≡ t → AddsClauses r old new (same_as b s) 2 →
    AddsClauses r old new (same_as b t) 2
same_adds r old new b s t e h = subst (λ (u : LitOrTruth). AddsClauses r old new (same_as b u) 2) e h

pub gives_adds : {T : Type 0} (r : Result T CnfFault) (old new : Cnf) (i j : IntVars) (b k : ℕ) → i ≡ j → AddsClauses r old new (gives_bound i b k) 2 →
    AddsClauses r old new (gives_bound j b k) 2
gives_adds r old new i j b k e h = subst (λ (u : IntVars). AddsClauses r old new (gives_bound u b k) 2) e h

pub beside_adds : {T : Type 0} (r : Result T CnfFault) (old new : Cnf) (s t : LitOrTruth) (i j : IntVars) (b k : ℕ) → s ≡ t → i ≡ j →
    AddsClauses r old new (beside_clause s i b k) 3 → AddsClauses r old new (beside_clause t j b k) 3
beside_adds r old new s t i j b k es ei h = subst (λ (u : IntVars). AddsClauses r old new (beside_clause t u b k) 3) ei
    (subst (λ (u : LitOrTruth). AddsClauses r old new (beside_clause u i b k) 3) es h)

pub heights_adds : {T : Type 0} (r : Result T CnfFault) (old new : Cnf) (s t : EdgeSpot) (b k w u : ℕ) → s ≡ t → w ≡ u →
    AddsClauses r old new (each (column_gives_bound (lits_of s) b k) 0 (w + 1)) 2 →
    AddsClauses r old new (each (column_gives_bound (lits_of t) b k) 0 (u + 1)) 3
heights_adds r old new s t b k w u es ew h =
    adds_longer r old new (each (column_gives_bound (lits_of t) b k) 0 (u + 1)) 2 3 (omega arith)
    (subst (λ n. AddsClauses r old new (each (column_gives_bound (lits_of t) b k) 0 (n + 1)) 2) ew
    (subst (λ (z : EdgeSpot). AddsClauses r old new (each (column_gives_bound (lits_of z) b k) 0 (w + 1)) 2) es h))

-- the long clause of height
pub some_adds : {T : Type 0} (r : Result T CnfFault) (old new : Cnf) (g : Graph) (grid : GridSize) (b k : ℕ) (ls : List Literal) →
    ls ≡ height_lits (drawing_vars g grid) grid.width k 0 (length g.edges) ++ negative_of b ∷ [] → 1 ≤ k → k ≤ grid.height → laws_first g grid ≤ b
    → OnOk r (new ≡ record old { clauses = old.clauses ++ ls ∷ [] }) → (IsErrOf r Room → Full old (length ls)) → OnErr r (new ≡ old) →
    AddsClauses r old new (some_height_clause (drawing_vars g grid) grid.width (length g.edges) b k) (length g.edges * (grid.width + 1) + 3)
some_adds r old new g grid b k ls is from to le ok room err =
    let lits = height_lits (drawing_vars g grid) grid.width k 0 (length g.edges) ++ negative_of b ∷ [] in
    let long = length g.edges * (grid.width + 1) + 3 in
    let same : ls ∷ [] ≡ some_height_clause (drawing_vars g grid) grid.width (length g.edges) b k = ap (λ (c : List Literal). c ∷ []) is
    ∙ sym (long_is g grid b k from to le) in
    let few : length ls ≤ long = omega (arith, ap length is, long_length g grid b k) in
    subst (λ (cs : Clauses). AddsClauses r old new cs long) same (adds_longer r old new (ls ∷ []) (length ls) long few (added_one r old new ls ok room err))

-- and that of width
pub column_adds : {T : Type 0} (r : Result T CnfFault) (old new : Cnf) (x : DrawingVars) (b k n : ℕ) (ts : List LitOrTruth) (longest : ℕ) →
    ts ≡ node_columns x k 0 n ++ flip (yes b) ∷ [] → longest ≡ length ts → AddsClauses r old new (clause_of [] ts) longest →
    AddsClauses r old new (some_column_clause x n b k) (n + 3)
column_adds r old new x b k n ts longest is long h =
    let few : longest ≤ n + 3 = omega (arith, ap length is, length-append (node_columns x k 0 n) (flip (yes b) ∷ []), columns_length x k 0 n) in
    adds_longer r old new (some_column_clause x n b k) longest (n + 3) few (subst (λ (us : List LitOrTruth). AddsClauses r old new (clause_of [] us) longest) is
    h)
