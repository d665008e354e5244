-- Calls whose arguments are spelt otherwise.
use Rattle.std.proofs.Common.{◌≡◌, ℕ, zero, suc, ◌+◌, ◌*◌, ◌-◌, ◌<◌, ◌∙◌, ap, subst, List, arith}
use Rattle.std.specs.Prelude.{Result}
use Rattle.cnf_core.specs.declared.fault.CnfFault.{CnfFault}
use Rattle.cnf_core.specs.declared.literal.LitOrTruth.{LitOrTruth}
use Rattle.cnf_core.specs.Lit.{Literal}
use Rattle.cnf_core.specs.Clause.{Clauses}
use Rattle.cnf_core.specs.Formula.{Cnf, count_each}
use Rattle.cnf_core.specs.Added.{AddsClauses}
use Rattle.order_int.specs.IntVars.{IntVars}
use Rattle.order_int.specs.OrderInt.{int_clauses}
use Rattle.edge_shape.specs.EdgeVars.{EdgeLits}
use Rattle.cnf_laws.specs.Guards.{two_guards, guarded_order}
use Rattle.cnf_laws.specs.LawClauses.{SharingEdge, higher_clauses}

-- the same clauses, spelt otherwise
pub adds_same_clauses : {T : Type 0} (r : Result T CnfFault) (old new : Cnf) (xs ys : Clauses) (longest : ℕ) → xs ≡ ys → AddsClauses r old new xs longest →
    AddsClauses r old new ys longest
adds_same_clauses r old new xs ys longest e h = subst (λ (cs : Clauses). AddsClauses r old new cs longest) e h

pub adds_lower : {T : Type 0} (r : Result T CnfFault) (old new : Cnf) (a b : IntVars) (s t u w : LitOrTruth) (unless : List Literal) (longest : ℕ) → s ≡ u →
    t ≡ w → AddsClauses r old new (guarded_order a b 1 (two_guards s t) unless) longest →
    AddsClauses r old new (guarded_order a b 1 (two_guards u w) unless) longest
adds_lower r old new a b s t u w unless longest e k h =
    subst (λ (z : LitOrTruth). AddsClauses r old new (guarded_order a b 1 (two_guards u z) unless) longest) k
    (subst (λ (z : LitOrTruth). AddsClauses r old new (guarded_order a b 1 (two_guards z t) unless) longest) e h)

pub adds_over : {T : Type 0} (r : Result T CnfFault) (old new : Cnf) (e : SharingEdge) (f : EdgeLits) (width : ℕ) (s t : LitOrTruth) (unless : List Literal)
    (longest : ℕ) → s ≡ t → AddsClauses r old new (higher_clauses e f width s unless) longest →
    AddsClauses r old new (higher_clauses e f width t unless) longest
adds_over r old new e f width s t unless longest k h = subst (λ (z : LitOrTruth). AddsClauses r old new (higher_clauses e f width z unless) longest) k h

pub adds_int : {T : Type 0} (r : Result T CnfFault) (old new : Cnf) (i j : IntVars) (longest : ℕ) → i ≡ j → AddsClauses r old new (int_clauses i) longest →
    AddsClauses r old new (int_clauses j) longest
adds_int r old new i j longest e h = subst (λ (k : IntVars). AddsClauses r old new (int_clauses k) longest) e h

pub count_const : (s a n : ℕ) → count_each (λ k. s) a n ≡ n * s
count_const s a zero = omega arith
count_const s a (suc n) = let one : suc n * s ≡ n * s + s = omega arith in omega (arith, count_const s (a + 1) n)

-- where the next block begins, after k of m
pub left_over : (s k end m old now first : ℕ) → k < end → end ≡ m → now + count_each (λ j. s) k (end - k) ≡ old + m * s → old + 1 ≡ first →
    now + 1 ≡ first + k * s
left_over s k end m old now first lt is h at =
    let left = count_const s k (end - k) in
    let split : m * s ≡ k * s + (end - k) * s = let z : m ≡ k + (end - k) = omega arith in ap (λ n. n * s) z ∙ omega arith in
    omega arith
