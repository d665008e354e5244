-- Nodes and edges, and then the laws to choose.
use Rattle.std.proofs.Common.{◌≡◌, ◌+◌, List, subst, arith, Ok}
use Rattle.std.specs.Prelude.{Result, IsErr, IsErrOf}
use Rattle.plan_core.specs.Grid.{GridSize}
use Rattle.plan_core.specs.Graph.{Graph}
use Rattle.plan_core.specs.Lawful.{Instance}
use Rattle.cnf_core.specs.declared.fault.CnfFault.{CnfFault}
use Rattle.cnf_core.specs.declared.fault.CnfFault.TheVariants.{Room}
use Rattle.cnf_core.specs.Formula.{Cnf}
use Rattle.cnf_core.specs.Added.{AddsBlock}
use Rattle.cnf_core.proofs.BlockLemmas.{block_longer, block_refused, block_after}
use Rattle.drawing_cnf.specs.Expected.{drawing_vars, laws_first, base_clauses}
use Rattle.drawing_cnf.proofs.EncodeCode.{base_size}
use Rattle.law_core.specs.Choices.{choices_size, choices_clauses, loose_clauses, loose_size}

total : (g : Graph) (grid : GridSize) (laws : List Instance) → base_size g grid + choices_size laws ≡ loose_size g grid laws
total g grid laws = omega arith

pub loose_refused : {T U : Type 0} (r : Result T CnfFault) (s : Result U CnfFault) (old new : Cnf) (g : Graph) (grid : GridSize) (laws : List Instance) →
    IsErr s → (IsErrOf s Room → IsErrOf r Room) → AddsBlock r old new (base_size g grid) (base_clauses g (drawing_vars g grid) grid) 7 →
    AddsBlock s old new (loose_size g grid laws) (loose_clauses g grid laws) 8
loose_refused r s old new g grid laws err same h =
    let base = base_clauses g (drawing_vars g grid) grid in
    subst (λ n. AddsBlock s old new n (loose_clauses g grid laws) 8) (total g grid laws)
    (block_refused r s old new (base_size g grid) (choices_size laws) base (choices_clauses g (drawing_vars g grid) grid.width (laws_first g grid) laws) 8 err
    same (block_longer r old new (base_size g grid) base 7 8 (omega arith) h))

pub loose_after : {T U : Type 0} (y : T) (r : Result U CnfFault) (old mid new : Cnf) (g : Graph) (grid : GridSize) (laws : List Instance) → old.vars ≡ 0 →
    AddsBlock (Ok y) old mid (base_size g grid) (base_clauses g (drawing_vars g grid) grid) 7 →
    AddsBlock r mid new (choices_size laws) (choices_clauses g (drawing_vars g grid) grid.width (mid.vars + 1) laws) 8 →
    AddsBlock r old new (loose_size g grid laws) (loose_clauses g grid laws) 8
loose_after y r old mid new g grid laws empty a b =
    let base = base_clauses g (drawing_vars g grid) grid in
    let made : mid.vars ≡ old.vars + base_size g grid = a.made in
    let place : mid.vars + 1 ≡ laws_first g grid = omega arith in
    subst (λ n. AddsBlock r old new n (loose_clauses g grid laws) 8) (total g grid laws)
    (block_after y r old mid new (base_size g grid) (choices_size laws) base (choices_clauses g (drawing_vars g grid) grid.width (laws_first g grid) laws) 8
    (block_longer (Ok y) old mid (base_size g grid) base 7 8 (omega arith) a)
    (subst (λ n. AddsBlock r mid new (choices_size laws) (choices_clauses g (drawing_vars g grid) grid.width n laws) 8) place b))
