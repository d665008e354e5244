-- The definitions by recursion on a list, in the words "some", "each" and "each pair".
use Rattle.std.proofs.Common.{◌≡◌, ◌≢◌, ℕ, ◌<◌, true, zero, suc, List, [], ◌∷◌, length, get_or, refl, ◌∙◌, ap, inl, inr, arith}
use Rattle.std.specs.Prelude.{Any, All, AllPairs}
use Rattle.cnf_core.specs.Lit.{Literal}
use Rattle.cnf_core.specs.Clause.{Clauses, Avoids, AreDistinct}
use Rattle.cnf_core.specs.Assignment.{Assignment, truth, Satisfies, SatisfiesAll}

pub some_from_satisfies : (v : Assignment) (c : List Literal) → Satisfies v c → Any (λ l. truth v l ≡ true) c
some_from_satisfies v [] h = absurd h
some_from_satisfies v (l ∷ ls) (inl h) = (0, l, omega arith, refl, h)
some_from_satisfies v (l ∷ ls) (inr h) = let a = some_from_satisfies v ls h in let lt = a.2 in (suc a.0, a.1, omega arith, a.3, a.4)

satisfies_by : (v : Assignment) (c : List Literal) (k : ℕ) (x : Literal) → k < length c → get_or c k x ≡ x → truth v x ≡ true → Satisfies v c
satisfies_by v [] k x lt e t = absurd (omega arith)
satisfies_by v (l ∷ ls) zero x lt e t = inl (ap (truth v) e ∙ t)
satisfies_by v (l ∷ ls) (suc k) x lt e t = inr (satisfies_by v ls k x (omega arith) e t)

pub satisfies_from_some : (v : Assignment) (c : List Literal) → Any (λ l. truth v l ≡ true) c → Satisfies v c
satisfies_from_some v c a = satisfies_by v c a.0 a.1 a.2 a.3 a.4

pub each_from_satisfies : (v : Assignment) (cs : Clauses) → SatisfiesAll v cs → All (Satisfies v) cs
each_from_satisfies v [] h k d lt = absurd (omega arith)
each_from_satisfies v (c ∷ cs) h zero d lt = h.0
each_from_satisfies v (c ∷ cs) h (suc k) d lt = each_from_satisfies v cs h.1 k d (omega arith)

pub satisfies_from_each : (v : Assignment) (cs : Clauses) → All (Satisfies v) cs → SatisfiesAll v cs
satisfies_from_each v [] h = tt
satisfies_from_each v (c ∷ cs) h = (h 0 c (omega arith), satisfies_from_each v cs (λ k d lt. h (suc k) d (omega arith)))

avoids_at : (x : ℕ) (ls : List Literal) → Avoids x ls → (j : ℕ) (d : Literal) → j < length ls → x ≢ (get_or ls j d).var
avoids_at x [] h j d lt = absurd (omega arith)
avoids_at x (l ∷ ls) h zero d lt = h.0
avoids_at x (l ∷ ls) h (suc j) d lt = avoids_at x ls h.1 j d (omega arith)

avoids_each : (x : ℕ) (ls : List Literal) → ((j : ℕ) (d : Literal) → j < length ls → x ≢ (get_or ls j d).var) → Avoids x ls
avoids_each x [] h = tt
avoids_each x (l ∷ ls) h = (h 0 l (omega arith), avoids_each x ls (λ j d lt. h (suc j) d (omega arith)))

pub pairs_from_distinct : (c : List Literal) → AreDistinct c → AllPairs (λ k l. k.var ≢ l.var) c
pairs_from_distinct [] h i j d lt within = absurd (omega arith)
pairs_from_distinct (l ∷ ls) h i zero d lt within = absurd (omega arith)
pairs_from_distinct (l ∷ ls) h zero (suc j) d lt within = avoids_at l.var ls h.0 j d (omega arith)
pairs_from_distinct (l ∷ ls) h (suc i) (suc j) d lt within = pairs_from_distinct ls h.1 i j d (omega arith) (omega arith)

pub distinct_from_pairs : (c : List Literal) → AllPairs (λ k l. k.var ≢ l.var) c → AreDistinct c
distinct_from_pairs [] h = tt
distinct_from_pairs (l ∷ ls) h = (
  avoids_each l.var ls (λ j d lt. h 0 (suc j) d (omega arith) (omega arith)),
  distinct_from_pairs ls (λ i j d lt within. h (suc i) (suc j) d (omega arith) (omega arith)),
)
