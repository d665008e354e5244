-- What clauses with guards say, both ways.
use Rattle.std.proofs.Common.{◌≡◌, ◌⊎◌, ℕ, ◌+◌, ◌≤◌, Bool, true, not, List, [], ◌∷◌, ◌++◌, inl, inr, sym, ◌∙◌, ap, arith}
use Rattle.std.specs.Prelude.{map, nat_le}
use Rattle.std.proofs.lemmas.Bool.Decides.{nat_tests, leb_tells}
use Rattle.cnf_core.specs.declared.literal.LitOrTruth.{LitOrTruth}
use Rattle.cnf_core.specs.Lit.{Literal}
use Rattle.cnf_core.specs.Assignment.{Assignment, Satisfies, SatisfiesAll}
use Rattle.cnf_core.specs.LitOrTruth.{flip, SomeTrue, clause_of}
use Rattle.cnf_core.proofs.ClauseLemmas.{satisfies_append, satisfies_left, satisfies_right, satisfies_each, satisfies_at}
use Rattle.cnf_core.proofs.GatherLemmas.{value-flip, clause_says, clause_holds}
use Rattle.order_int.specs.IntVars.{IntVars, size}
use Rattle.order_int.specs.OrderInt.{int_at_least, Reads}
use Rattle.edge_shape.specs.Rules.{Rule, FollowsRules}
use Rattle.edge_shape.proofs.RuleLemmas.{some_says, some_holds, fill_says, fill_holds}
use Rattle.cnf_laws.specs.Guards.{Guards, guard_list, guarded_clause, guarded_order, pair_literals, unless_rules}

abbrev pub Is : Bool → Type 0
Is b = b ≡ true

pub some_from : (v : Assignment) (ts us : List LitOrTruth) → SomeTrue v (ts ++ us) → SomeTrue v ts ⊎ SomeTrue v us
some_from v [] us h = inr h
some_from v (t ∷ ts) us (inl h) = inl (inl h)
some_from v (t ∷ ts) us (inr h) = elim (some_from v ts us h) [ inl a ↦ inl (inr a) | inr a ↦ inr a ]

pub some_to : (v : Assignment) (ts us : List LitOrTruth) → SomeTrue v ts ⊎ SomeTrue v us → SomeTrue v (ts ++ us)
some_to v [] us (inl h) = absurd h
some_to v [] us (inr h) = h
some_to v (t ∷ ts) us (inl (inl h)) = inl h
some_to v (t ∷ ts) us (inl (inr h)) = inr (some_to v ts us (inl h))
some_to v (t ∷ ts) us (inr h) = inr (some_to v ts us (inr h))

abbrev pub order_list : IntVars → IntVars → ℕ → ℕ → List LitOrTruth
order_list a b plus k = flip (int_at_least a k) ∷ int_at_least b (k + plus) ∷ []

guarded_says : (v : Assignment) (a b : IntVars) (m n plus : ℕ) (g : Guards) (unless : List Literal) (k : ℕ) → Reads v a m → Reads v b n →
    SatisfiesAll v (guarded_clause a b plus g unless k) → Satisfies v unless ⊎ (SomeTrue v (guard_list g) ⊎ (k ≤ m → k + plus ≤ n))
guarded_says v a b m n plus g unless k ra rb h = elim (clause_says v unless (guard_list g ++ order_list a b plus k) h) [
  | inl u ↦ inl u
  | inr s ↦ elim (some_from v (guard_list g) (order_list a b plus k) s) [
    | inl t ↦ inr (inl t)
    | inr (inl s) ↦ inr (inr (λ le. let t : not (nat_le k m) ≡ true = sym (ap not (ra.each k)) ∙ sym (value-flip v (int_at_least a k))
        ∙ s in let e : nat_le k m ≡ true = grind (arith, nat_tests) in absurd (cc (rw e at t))))
    | inr (inr (inl s)) ↦ inr (inr (λ le. let t : nat_le (k + plus) n ≡ true = sym (rb.each (k + plus)) ∙ s in grind (arith, nat_tests, t)))
    | inr (inr (inr s)) ↦ absurd s
  ]
]

guarded_true : (v : Assignment) (a b : IntVars) (m n plus : ℕ) (g : Guards) (unless : List Literal) (k : ℕ) → Reads v a m → Reads v b n →
    Satisfies v unless ⊎ (SomeTrue v (guard_list g) ⊎ (k ≤ m → k + plus ≤ n)) → SatisfiesAll v (guarded_clause a b plus g unless k)
guarded_true v a b m n plus g unless k ra rb h = clause_holds v unless (guard_list g ++ order_list a b plus k) (elim h [
  | inl u ↦ inl u
  | inr (inl t) ↦ inr (some_to v (guard_list g) (order_list a b plus k) (inl t))
  | inr (inr f) ↦ inr (some_to v (guard_list g) (order_list a b plus k) (inr (elim (leb_tells k m) [
    | inl le ↦ inr (inl (rb.each (k + plus) ∙ (let g = f le.1 in grind (arith, nat_tests, g))))
    | inr gt ↦ inl (value-flip v (int_at_least a k) ∙ ap not (ra.each k ∙ gt.0))
  ])))
])

-- where none of unless is true: a guard is, or the numbers are in order
pub guarded_means : (v : Assignment) (a b : IntVars) (m n plus : ℕ) (g : Guards) (unless : List Literal) → Reads v a m → Reads v b n →
    (Satisfies v unless → ⊥) → SatisfiesAll v (guarded_order a b plus g unless) → SomeTrue v (guard_list g) ⊎ (m + plus ≤ n)
guarded_means v a b m n plus g unless ra rb on h =
    let low = ra.low in
    let high = ra.high in
    elim (guarded_says v a b m n plus g unless m ra rb (satisfies_at v (guarded_clause a b plus g unless) a.low (size a + 1) h m low (omega arith))) [
      | inl u ↦ absurd (on u)
      | inr (inl t) ↦ inl t
      | inr (inr f) ↦ inr (f (omega arith))
    ]

pub guarded_holds : (v : Assignment) (a b : IntVars) (m n plus : ℕ) (g : Guards) (unless : List Literal) → Reads v a m → Reads v b n →
    Satisfies v unless ⊎ (SomeTrue v (guard_list g) ⊎ (m + plus ≤ n)) → SatisfiesAll v (guarded_order a b plus g unless)
guarded_holds v a b m n plus g unless ra rb h = satisfies_each v (guarded_clause a b plus g unless) a.low (size a + 1)
    (λ k from to. guarded_true v a b m n plus g unless k ra rb (elim h [
      | inl u ↦ inl u
      | inr (inl t) ↦ inr (inl t)
      | inr (inr le) ↦ inr (inr (λ x. omega arith))
    ]))

-- rules
pub unless_rules_say : (v : Assignment) (unless : List Literal) (rs : List Rule) → (Satisfies v unless → ⊥) → SatisfiesAll v (unless_rules unless rs) →
    FollowsRules v rs
unless_rules_say v unless [] on h = tt
unless_rules_say v unless (r ∷ rs) on h =
    let first = satisfies_left v (clause_of unless (pair_literals r)) (unless_rules unless rs) h in
    let rest = satisfies_right v (clause_of unless (pair_literals r)) (unless_rules unless rs) h in (
      λ a. elim (clause_says v unless (pair_literals r) first) [
        | inl u ↦ absurd (on u)
        | inr s ↦ some_says v r.premises r.conclusions
            (fill_says v 2 (map flip r.premises ++ r.conclusions) s) a
      ],
      unless_rules_say v unless rs on rest,
    )

pub unless_rules_hold : (v : Assignment) (unless : List Literal) (rs : List Rule) → Satisfies v unless ⊎ FollowsRules v rs →
    SatisfiesAll v (unless_rules unless rs)
unless_rules_hold v unless [] h = tt
unless_rules_hold v unless (r ∷ rs) (inl u) = satisfies_append v (clause_of unless (pair_literals r)) (unless_rules unless rs)
    (clause_holds v unless (pair_literals r) (inl u)) (unless_rules_hold v unless rs (inl u))
unless_rules_hold v unless (r ∷ rs) (inr f) = satisfies_append v (clause_of unless (pair_literals r)) (unless_rules unless rs)
    (clause_holds v unless (pair_literals r) (inr (fill_holds v 2 (map flip r.premises ++ r.conclusions) (some_holds v r.premises r.conclusions f.0))))
    (unless_rules_hold v unless rs (inr f.1))

pub follows_left : (v : Assignment) (rs ss : List Rule) → FollowsRules v (rs ++ ss) → FollowsRules v rs
follows_left v [] ss h = tt
follows_left v (r ∷ rs) ss h = (h.0, follows_left v rs ss h.1)

pub follows_right : (v : Assignment) (rs ss : List Rule) → FollowsRules v (rs ++ ss) → FollowsRules v ss
follows_right v [] ss h = h
follows_right v (r ∷ rs) ss h = follows_right v rs ss h.1

pub follows_both : (v : Assignment) (rs ss : List Rule) → FollowsRules v rs → FollowsRules v ss → FollowsRules v (rs ++ ss)
follows_both v [] ss h k = k
follows_both v (r ∷ rs) ss h k = (h.0, follows_both v rs ss h.1 k)
