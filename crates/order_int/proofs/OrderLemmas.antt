-- What the clauses of an order say of two numbers.
use Rattle.std.proofs.Common.{◌≡◌, ℕ, ◌+◌, ◌*◌, ◌≤◌, ◌⊎◌, true, not, List, [], ◌∷◌, length, sym, ◌∙◌, ap, inl, inr, arith}
use Rattle.std.specs.Prelude.{◌-◌, nat_le, min}
use Rattle.std.proofs.Math.Nat.{mul_comm, mul-le-mul_left}
use Rattle.std.proofs.lemmas.Bool.Decides.{nat_tests, leb_tells}
use Rattle.cnf_core.specs.Lit.{Literal}
use Rattle.cnf_core.specs.Clause.{AreThere, AllThere, words_of}
use Rattle.cnf_core.specs.Assignment.{Assignment, Satisfies, SatisfiesAll}
use Rattle.cnf_core.specs.LitOrTruth.{flip, AreWithin}
use Rattle.cnf_core.proofs.ClauseLemmas.{satisfies_append, satisfies_left, satisfies_right, satisfies_each, satisfies_at, all_there_append, all_there_each}
use Rattle.cnf_core.proofs.ClauseLemmas.{words_append, words_each}
use Rattle.cnf_core.proofs.GatherLemmas.{value-flip, flip_within, clause_says, clause_holds, clause_there, clause_words}
use Rattle.order_int.specs.IntVars.{IntVars, size, IntIsThere}
use Rattle.order_int.specs.OrderInt.{int_at_least, Reads, le_clause, le_count, le_clauses, equal_clauses}
use Rattle.order_int.proofs.IntLemmas.{at_least_within}

-- one clause
pub le_says : (v : Assignment) (a b : IntVars) (m n plus : ℕ) (unless : List Literal) (k : ℕ) → Reads v a m → Reads v b n →
    SatisfiesAll v (le_clause a b plus unless k) → Satisfies v unless ⊎ (k ≤ m → k + plus ≤ n)
le_says v a b m n plus unless k ra rb h = elim (clause_says v unless (flip (int_at_least a k) ∷ int_at_least b (k + plus) ∷ []) h) [
  | inl u ↦ inl u
  | inr (inl s) ↦ inr (λ le. let t : not (nat_le k m) ≡ true = sym (ap not (ra.each k)) ∙ sym (value-flip v (int_at_least a k))
      ∙ s in let e : nat_le k m ≡ true = grind (arith, nat_tests) in absurd (cc (rw e at t)))
  | inr (inr (inl s)) ↦ inr (λ le. let t : nat_le (k + plus) n ≡ true = sym (rb.each (k + plus)) ∙ s in grind (arith, nat_tests, t))
  | inr (inr (inr s)) ↦ absurd s
]

pub le_true : (v : Assignment) (a b : IntVars) (m n plus : ℕ) (unless : List Literal) (k : ℕ) → Reads v a m → Reads v b n →
    Satisfies v unless ⊎ (k ≤ m → k + plus ≤ n) → SatisfiesAll v (le_clause a b plus unless k)
le_true v a b m n plus unless k ra rb h = clause_holds v unless (flip (int_at_least a k) ∷ int_at_least b (k + plus) ∷ []) (elim h [
  | inl u ↦ inl u
  | inr f ↦ inr (elim (leb_tells k m) [
    | inl le ↦ inr (inl (rb.each (k + plus) ∙ (let g = f le.1 in grind (arith, nat_tests, g))))
    | inr gt ↦ inl (value-flip v (int_at_least a k) ∙ ap not (ra.each k ∙ gt.0))
  ])
])

-- all clauses: the one of a's number says it, or the last one; and each holds where the numbers are in order
pub le_means : (v : Assignment) (a b : IntVars) (m n plus : ℕ) (unless : List Literal) → Reads v a m → Reads v b n →
    SatisfiesAll v (le_clauses a b plus unless) → Satisfies v unless ⊎ (m + plus ≤ n)
le_means v a b m n plus unless ra rb h =
    let low = ra.low in
    let high = ra.high in
    let top = rb.high in
    let k = min m (a.low + min (size a) (b.high + 1 - (a.low + plus))) in
    elim (le_says v a b m n plus unless k ra rb (satisfies_at v (le_clause a b plus unless) a.low (le_count a b plus) h k (omega arith) (omega arith))) [
      | inl u ↦ inl u
      | inr f ↦ let g = f (omega arith) in inr (omega arith)
    ]

pub le_holds : (v : Assignment) (a b : IntVars) (m n plus : ℕ) (unless : List Literal) → Reads v a m → Reads v b n → Satisfies v unless ⊎ (m + plus ≤ n) →
    SatisfiesAll v (le_clauses a b plus unless)
le_holds v a b m n plus unless ra rb h = satisfies_each v (le_clause a b plus unless) a.low (le_count a b plus)
    (λ k from to. le_true v a b m n plus unless k ra rb (elim h [ inl u ↦ inl u | inr le ↦ inr (λ x. omega arith) ]))

-- equality is both orders
pub equal_means : (v : Assignment) (a b : IntVars) (m n : ℕ) (unless : List Literal) → Reads v a m → Reads v b n → SatisfiesAll v (equal_clauses a b unless) →
    Satisfies v unless ⊎ (m ≡ n)
equal_means v a b m n unless ra rb h =
    elim (le_means v a b m n 0 unless ra rb (satisfies_left v (le_clauses a b 0 unless) (le_clauses b a 0 unless) h)) [
      | inl u ↦ inl u
      | inr le ↦ elim (le_means v b a n m 0 unless rb ra (satisfies_right v (le_clauses a b 0 unless) (le_clauses b a 0 unless) h)) [
        | inl u ↦ inl u
        | inr ge ↦ inr (omega arith)
      ]
    ]

pub equal_holds : (v : Assignment) (a b : IntVars) (m n : ℕ) (unless : List Literal) → Reads v a m → Reads v b n → Satisfies v unless ⊎ (m ≡ n) →
    SatisfiesAll v (equal_clauses a b unless)
equal_holds v a b m n unless ra rb h = satisfies_append v (le_clauses a b 0 unless) (le_clauses b a 0 unless)
    (le_holds v a b m n 0 unless ra rb (elim h [ inl u ↦ inl u | inr e ↦ inr (omega arith) ]))
    (le_holds v b a n m 0 unless rb ra (elim h [ inl u ↦ inl u | inr e ↦ inr (omega arith) ]))

-- where the variables lie
pub le_within : (vars : ℕ) (a b : IntVars) (k j : ℕ) → IntIsThere vars a → IntIsThere vars b → AreWithin vars (flip (int_at_least a k) ∷ int_at_least b j ∷ [])
le_within vars a b k j ta tb = (flip_within vars (int_at_least a k) (at_least_within vars a k ta), (at_least_within vars b j tb, tt))

pub le_there : (vars : ℕ) (a b : IntVars) (plus : ℕ) (unless : List Literal) → IntIsThere vars a → IntIsThere vars b → AreThere vars unless →
    AllThere vars (le_clauses a b plus unless)
le_there vars a b plus unless ta tb u = all_there_each vars (le_clause a b plus unless) a.low (le_count a b plus)
    (λ k from to. clause_there vars unless (flip (int_at_least a k) ∷ int_at_least b (k + plus) ∷ []) u (le_within vars a b k (k + plus) ta tb))

pub equal_there : (vars : ℕ) (a b : IntVars) (unless : List Literal) → IntIsThere vars a → IntIsThere vars b → AreThere vars unless →
    AllThere vars (equal_clauses a b unless)
equal_there vars a b unless ta tb u = all_there_append vars (le_clauses a b 0 unless) (le_clauses b a 0 unless) (le_there vars a b 0 unless ta tb u)
    (le_there vars b a 0 unless tb ta u)

-- words
times_more : (n m most : ℕ) → n ≤ m → n * most ≤ most * m
times_more n m most h = omega (arith, mul_comm n most, mul-le-mul_left most h)

pub le_words : (a b : IntVars) (plus : ℕ) (unless : List Literal) → words_of (le_clauses a b plus unless) ≤ (length unless + 5) * (a.high - a.low + 2)
le_words a b plus unless =
    let each_one = words_each (length unless + 5) (le_clause a b plus unless) a.low (le_count a b plus)
    (λ k from to. omega (arith, clause_words unless (flip (int_at_least a k) ∷ int_at_least b (k + plus) ∷ []))) in
    let all = times_more (le_count a b plus) (a.high - a.low + 2) (length unless + 5) (omega arith) in
    omega (arith, each_one, all)

pub equal_words : (a b : IntVars) (unless : List Literal) → words_of (equal_clauses a b unless) ≤ (length unless + 5) * (a.high - a.low + (b.high - b.low) + 4)
equal_words a b unless = omega (arith, le_words a b 0 unless, le_words b a 0 unless, words_append (le_clauses a b 0 unless) (le_clauses b a 0 unless))
