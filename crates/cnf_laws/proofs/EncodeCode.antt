-- Nodes and edges, and then the laws.
use Rattle.std.proofs.Common.{◌≡◌, ◌⊎◌, ◌≤◌, ◌<◌, ℕ, ◌+◌, ◌-◌, ◌*◌, List, [], ◌++◌, inl, inr, length, ◌∙◌, ap, subst, refl, arith, Ok}
use Rattle.std.specs.Prelude.{Result, IsErr, IsErrOf}
use Rattle.plan_core.specs.Grid.{GridSize}
use Rattle.plan_core.specs.Graph.{Graph}
use Rattle.plan_core.specs.Lawful.{Instance}
use Rattle.cnf_core.specs.declared.fault.CnfFault.{CnfFault}
use Rattle.cnf_core.specs.declared.fault.CnfFault.TheVariants.{Room}
use Rattle.cnf_core.specs.Clause.{Clauses}
use Rattle.cnf_core.specs.Formula.{Cnf, each, count_each}
use Rattle.cnf_core.specs.Added.{AddsBlock}
use Rattle.cnf_core.proofs.BlockLemmas.{IsBuilding, block_refused, block_after}
use Rattle.edge_shape.specs.EdgeVars.{edge_size}
use Rattle.cnf_laws.specs.LawClauses.{laws_size, laws_clauses}
use Rattle.cnf_laws.specs.Expected.{drawing_vars, laws_first, base_clauses, expected_clauses, expected_size}
use Rattle.cnf_laws.specs.AddsLaws.{AddsLaws}
use Rattle.cnf_laws.proofs.CodeLemmas.{count_const}

pub adds_count : {T : Type 0} (r : Result T CnfFault) (old new : Cnf) (f : ℕ → Clauses) (s n m longest : ℕ) → n ≡ m →
    AddsBlock r old new (n * s) (each f 0 n) longest → AddsBlock r old new (m * s) (each f 0 m) longest
adds_count r old new f s n m longest e h = subst (λ k. AddsBlock r old new (k * s) (each f 0 k) longest) e h

pub building_start : (s : ℕ) (f : ℕ → Clauses) (old : Cnf) (n m : ℕ) → n ≡ m → IsBuilding (λ k. s) f old old (m * s) (each f 0 m) 0 n
building_start s f old n m e = let z : n - 0 ≡ m = omega arith in record {
  vars = ap (λ k. old.vars + count_each (λ j. s) 0 k) z ∙ ap (λ k. old.vars + k) (count_const s 0 m);
  from = omega arith;
  left = ap (λ k. old.clauses ++ each f 0 k) z;
  room = refl;
}

abbrev pub base_size : Graph → GridSize → ℕ
base_size g grid = length g.nodes * (grid.height + grid.width) + length g.edges * edge_size grid.height grid.width

total : (g : Graph) (grid : GridSize) (laws : List Instance) → base_size g grid + laws_size g laws ≡ expected_size g grid laws
total g grid laws = omega arith

pub formula_refused : {T U : Type 0} (r : Result T CnfFault) (s : Result U CnfFault) (old new : Cnf) (g : Graph) (grid : GridSize) (laws : List Instance) →
    IsErr s → (IsErrOf s Room → IsErrOf r Room) → AddsBlock r old new (base_size g grid) (base_clauses g (drawing_vars g grid) grid) 7 →
    AddsBlock s old new (expected_size g grid laws) (expected_clauses g grid laws) 7
formula_refused r s old new g grid laws err same h =
    subst (λ n. AddsBlock s old new n (expected_clauses g grid laws) 7) (total g grid laws)
    (block_refused r s old new (base_size g grid) (laws_size g laws) (base_clauses g (drawing_vars g grid) grid)
    (laws_clauses g (drawing_vars g grid) grid.width (laws_first g grid) laws) 7 err same h)

pub formula_after : {T U : Type 0} (y : T) (r : Result U CnfFault) (old mid new : Cnf) (g : Graph) (grid : GridSize) (laws : List Instance) → old.vars ≡ 0 →
    AddsBlock (Ok y) old mid (base_size g grid) (base_clauses g (drawing_vars g grid) grid) 7 → AddsLaws r mid new g (drawing_vars g grid) grid.width laws 7 →
    AddsBlock r old new (expected_size g grid laws) (expected_clauses g grid laws) 7
formula_after y r old mid new g grid laws empty a b =
    let made : mid.vars ≡ old.vars + base_size g grid = a.made in
    let place : mid.vars + 1 ≡ laws_first g grid = omega arith in
    subst (λ n. AddsBlock r old new n (expected_clauses g grid laws) 7) (total g grid laws)
    (block_after y r old mid new (base_size g grid) (laws_size g laws) (base_clauses g (drawing_vars g grid) grid)
    (laws_clauses g (drawing_vars g grid) grid.width (laws_first g grid) laws) 7 a
    (subst (λ n. AddsBlock r mid new (laws_size g laws) (laws_clauses g (drawing_vars g grid) grid.width n laws) 7) place b))
