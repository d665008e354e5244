-- The greatest variable of literals and of clauses.
use Rattle.std.proofs.Common.{◌≡◌, ℕ, ◌<◌, ◌≤◌, max, zero, suc, List, [], ◌∷◌, ◌++◌, length, get_or, ap, arith}
use Rattle.std.specs.Prelude.{All, Contains}
use Rattle.std.proofs.lemmas.List.Elements.{All-weaker, All-contains_itself}
use Rattle.cnf_core.specs.Lit.{Literal}
use Rattle.cnf_core.specs.Clause.{Clauses}
use Rattle.cnf_core.specs.Propagation.{greatest_in, greatest_var, AreAmong}

-- of joined lists
pub greatest_in-append : (c d : List Literal) → greatest_in (c ++ d) ≡ max (greatest_in c) (greatest_in d)
greatest_in-append [] d = omega arith
greatest_in-append (l ∷ c) d = omega (arith, greatest_in-append c d)

pub greatest_var-append : (cs ds : Clauses) → greatest_var (cs ++ ds) ≡ max (greatest_var cs) (greatest_var ds)
greatest_var-append [] ds = omega arith
greatest_var-append (c ∷ cs) ds = omega (arith, greatest_var-append cs ds)

-- it is no less than each, and no greater than what none passes
pub below_greatest : (c : List Literal) (l : Literal) → Contains c l → l.var ≤ greatest_in c
below_greatest c l h = at_place c h.0 h.1 h.2
  where
    at_place : (c : List Literal) (i : ℕ) → i < length c → get_or c i l ≡ l → l.var ≤ greatest_in c
    at_place [] i lt e = absurd (omega arith)
    at_place (k ∷ c) zero lt e = let v : k.var ≡ l.var = ap (λ (m : Literal). m.var) e in omega arith
    at_place (k ∷ c) (suc i) lt e = omega (arith, at_place c i (omega arith) e)

pub clause_below_greatest : (cs : Clauses) (c : List Literal) → Contains cs c → greatest_in c ≤ greatest_var cs
clause_below_greatest cs c h = at_place cs h.0 h.1 h.2
  where
    at_place : (cs : Clauses) (i : ℕ) → i < length cs → get_or cs i c ≡ c → greatest_in c ≤ greatest_var cs
    at_place [] i lt e = absurd (omega arith)
    at_place (d ∷ cs) zero lt e = let v : greatest_in d ≡ greatest_in c = ap greatest_in e in omega arith
    at_place (d ∷ cs) (suc i) lt e = omega (arith, at_place cs i (omega arith) e)

pub greatest_in_least : (c : List Literal) (n : ℕ) → All (λ l. l.var ≤ n) c → greatest_in c ≤ n
greatest_in_least [] n h = omega arith
greatest_in_least (l ∷ c) n h = let a = h 0 l (omega arith) in let b = greatest_in_least c n (λ k d lt. h (suc k) d (omega arith)) in omega arith

pub greatest_var_least : (cs : Clauses) (n : ℕ) → All (λ c. greatest_in c ≤ n) cs → greatest_var cs ≤ n
greatest_var_least [] n h = omega arith
greatest_var_least (c ∷ cs) n h = let a = h 0 c (omega arith) in let b = greatest_var_least cs n (λ k d lt. h (suc k) d (omega arith)) in omega arith

-- clauses that are among others as sets of literals
pub greatest_among : (clauses more : Clauses) → AreAmong clauses more → greatest_var clauses ≤ greatest_var more
greatest_among clauses more there =
    let Low : List Literal → Type 0 = λ c. greatest_in c ≤ greatest_var more in
    greatest_var_least clauses (greatest_var more) (All-weaker (Contains clauses) Low (λ c among.
    let d = there c among in
    greatest_in_least c (greatest_var more)
    (All-weaker (Contains c) (λ l. l.var ≤ greatest_var more) (λ l inside. let a = below_greatest d.0 l ((d.2 l).0 inside) in let b = clause_below_greatest more
    d.0 d.1 in omega arith) c (All-contains_itself c)))
    clauses (All-contains_itself clauses))
