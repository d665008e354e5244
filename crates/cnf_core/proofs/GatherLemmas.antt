-- The clause of literals and truth values: what it says, its variables, and its words.
use Rattle.std.proofs.Common.{◌≡◌, ℕ, ◌+◌, ◌≤◌, ◌⊎◌, ◌≢◌, Bool, true, false, not, cond, List, [], ◌∷◌, ◌++◌, length, refl, sym, ◌∙◌, ap, subst, inl, inr}
use Rattle.std.proofs.Common.{arith, length-append, append_assoc, append-nil}
use Rattle.std.specs.Prelude.{map}
use Rattle.std.proofs.lemmas.Bool.Decides.{eqb_tells}
use Rattle.std.proofs.lemmas.List.{map-append}
use Rattle.cnf_core.specs.declared.literal.LitOrTruth.{LitOrTruth}
use Rattle.cnf_core.specs.declared.literal.LitOrTruth.TheVariants.{Lit as OfLit, True, False}
use Rattle.cnf_core.specs.Lit.{Literal, negate, same_sign, same_literal, has}
use Rattle.cnf_core.specs.Clause.{Clauses, Avoids, AreDistinct, IsThere, AreThere, AllThere, words_of}
use Rattle.cnf_core.specs.Assignment.{Assignment, truth, Satisfies, SatisfiesAll}
use Rattle.cnf_core.specs.LitOrTruth.{flip, value, SomeTrue, IsWithin, AreWithin, gathered, clause_of}

-- negations
pub not_not : (b : Bool) → not (not b) ≡ b
not_not true = refl
not_not false = refl

same_sign-not : (p b : Bool) → same_sign (not p) b ≡ not (same_sign p b)
same_sign-not true b = refl
same_sign-not false b = sym (not_not b)

pub truth-negate : (v : Assignment) (l : Literal) → truth v (negate l) ≡ not (truth v l)
truth-negate v l = same_sign-not l.positive (v l.var)

pub value-flip : (v : Assignment) (t : LitOrTruth) → value v (flip t) ≡ not (value v t)
value-flip v (OfLit l) = truth-negate v l
value-flip v True = refl
value-flip v False = refl

pub flip_within : (vars : ℕ) (t : LitOrTruth) → IsWithin vars t → IsWithin vars (flip t)
flip_within vars (OfLit l) h = h
flip_within vars True h = tt
flip_within vars False h = tt

either_sign : (v : Assignment) (l : Literal) → (truth v l ≡ true) ⊎ (truth v (negate l) ≡ true)
either_sign v l = cases (truth v l) (truth v (negate l)) (truth-negate v l)
  where
    cases : (a b : Bool) → b ≡ not a → (a ≡ true) ⊎ (b ≡ true)
    cases true b e = inl refl
    cases false b e = inr e

-- a literal that stands in a list
pub signs_same : (p q : Bool) → same_sign p q ≡ true → p ≡ q
signs_same true true h = refl
signs_same true false h = cc
signs_same false true h = cc
signs_same false false h = refl

same_literal_truth : (v : Assignment) (a b : Literal) → same_literal a b ≡ true → truth v a ≡ truth v b
same_literal_truth v a b h = elim (eqb_tells a.var b.var) [
  | inl e ↦ ap (λ x. same_sign a.positive (v x)) e.1 ∙ ap (λ p. same_sign p (v b.var)) (signs_same a.positive b.positive (rw e.0 at h))
  | inr e ↦ cc (rw e.0 at h)
]

has_true : (v : Assignment) (front : List Literal) (l : Literal) → has front l ≡ true → truth v l ≡ true → Satisfies v front
has_true v [] l h t = cc
has_true v (k ∷ front) l h t = elim (same_literal k l) as (λ b. same_literal k l ≡ b → cond b true (has front l) ≡ true → Satisfies v (k ∷ front)) [
  | true ↦ λ e _. inl (same_literal_truth v k l e ∙ t)
  | false ↦ λ e m. inr (has_true v front l m t)
] refl h

-- one more literal at the end
pub satisfies_push : (v : Assignment) (front : List Literal) (l : Literal) → Satisfies v front ⊎ (truth v l ≡ true) → Satisfies v (front ++ l ∷ [])
satisfies_push v [] l (inl h) = absurd h
satisfies_push v [] l (inr h) = inl h
satisfies_push v (k ∷ front) l (inl (inl h)) = inl h
satisfies_push v (k ∷ front) l (inl (inr h)) = inr (satisfies_push v front l (inl h))
satisfies_push v (k ∷ front) l (inr h) = inr (satisfies_push v front l (inr h))

pub satisfies_pushed : (v : Assignment) (front : List Literal) (l : Literal) → Satisfies v (front ++ l ∷ []) → Satisfies v front ⊎ (truth v l ≡ true)
satisfies_pushed v [] l (inl h) = inr h
satisfies_pushed v [] l (inr h) = absurd h
satisfies_pushed v (k ∷ front) l (inl h) = inl (inl h)
satisfies_pushed v (k ∷ front) l (inr h) = elim (satisfies_pushed v front l h) [ inl a ↦ inl (inr a) | inr t ↦ inr t ]

-- what the clause says, from it and to it
gathered_says : (v : Assignment) (front : List Literal) (ts : List LitOrTruth) → SatisfiesAll v (gathered front ts) → Satisfies v front ⊎ SomeTrue v ts
gathered_says v front [] h = inl h.0
gathered_says v front (OfLit l ∷ ts) h = elim (has front l) as (λ b. SatisfiesAll v
    (cond b (gathered front ts) (cond (has front (negate l)) [] (gathered (front ++ l ∷ []) ts))) → Satisfies v front ⊎ SomeTrue v (OfLit l ∷ ts)) [
      | true ↦ λ k. elim (gathered_says v front ts k) [ inl a ↦ inl a | inr a ↦ inr (inr a) ]
      | false ↦ λ k. elim (has front (negate l)) as (λ b. has front (negate l) ≡ b → SatisfiesAll v (cond b [] (gathered (front ++ l ∷ []) ts)) → Satisfies v
          front
          ⊎ SomeTrue v (OfLit l ∷ ts)) [
            | true ↦ λ e _. elim (either_sign v l) [ inl t ↦ inr (inl t) | inr t ↦ inl (has_true v front (negate l) e t) ]
            | false ↦ λ e m. elim (gathered_says v (front ++ l ∷ []) ts m) [
              | inl a ↦ elim (satisfies_pushed v front l a) [ inl x ↦ inl x | inr x ↦ inr (inl x) ]
              | inr a ↦ inr (inr a)
            ]
          ] refl k
    ] h
gathered_says v front (True ∷ ts) h = inr (inl refl)
gathered_says v front (False ∷ ts) h = elim (gathered_says v front ts h) [ inl k ↦ inl k | inr k ↦ inr (inr k) ]

gathered_holds : (v : Assignment) (front : List Literal) (ts : List LitOrTruth) → Satisfies v front ⊎ SomeTrue v ts → SatisfiesAll v (gathered front ts)
gathered_holds v front [] (inl h) = (h, tt)
gathered_holds v front [] (inr h) = absurd h
gathered_holds v front (OfLit l ∷ ts) h = elim (has front l) as (λ b. has front l ≡ b → SatisfiesAll v
    (cond b (gathered front ts) (cond (has front (negate l)) [] (gathered (front ++ l ∷ []) ts)))) [
      | true ↦ λ e. gathered_holds v front ts (elim h [ inl a ↦ inl a | inr (inl t) ↦ inl (has_true v front l e t) | inr (inr a) ↦ inr a ])
      | false ↦ λ e. elim (has front (negate l)) as (λ b. SatisfiesAll v (cond b [] (gathered (front ++ l ∷ []) ts))) [
        | true ↦ tt
        | false ↦ gathered_holds v (front ++ l ∷ []) ts (elim h [
          | inl a ↦ inl (satisfies_push v front l (inl a))
          | inr (inl t) ↦ inl
              (satisfies_push v front l (inr t))
          | inr (inr a) ↦ inr a
        ])
      ]
    ] refl
gathered_holds v front (True ∷ ts) h = tt
gathered_holds v front (False ∷ ts) (inl h) = gathered_holds v front ts (inl h)
gathered_holds v front (False ∷ ts) (inr (inl h)) = cc
gathered_holds v front (False ∷ ts) (inr (inr h)) = gathered_holds v front ts (inr h)

some_true_from : (v : Assignment) (ls : List Literal) (ts : List LitOrTruth) → SomeTrue v (map OfLit ls ++ ts) → Satisfies v ls ⊎ SomeTrue v ts
some_true_from v [] ts h = inr h
some_true_from v (l ∷ ls) ts (inl h) = inl (inl h)
some_true_from v (l ∷ ls) ts (inr h) = elim (some_true_from v ls ts h) [ inl a ↦ inl (inr a) | inr a ↦ inr a ]

some_true_to : (v : Assignment) (ls : List Literal) (ts : List LitOrTruth) → Satisfies v ls ⊎ SomeTrue v ts → SomeTrue v (map OfLit ls ++ ts)
some_true_to v [] ts (inl h) = absurd h
some_true_to v [] ts (inr h) = h
some_true_to v (l ∷ ls) ts (inl (inl h)) = inl h
some_true_to v (l ∷ ls) ts (inl (inr h)) = inr (some_true_to v ls ts (inl h))
some_true_to v (l ∷ ls) ts (inr h) = inr (some_true_to v ls ts (inr h))

pub clause_says : (v : Assignment) (unless : List Literal) (ts : List LitOrTruth) → SatisfiesAll v (clause_of unless ts) → Satisfies v unless ⊎ SomeTrue v ts
clause_says v unless ts h = elim (gathered_says v [] (map OfLit unless ++ ts) h) [ inl k ↦ absurd k | inr k ↦ some_true_from v unless ts k ]

pub clause_holds : (v : Assignment) (unless : List Literal) (ts : List LitOrTruth) → Satisfies v unless ⊎ SomeTrue v ts → SatisfiesAll v (clause_of unless ts)
clause_holds v unless ts h = gathered_holds v [] (map OfLit unless ++ ts) (inr (some_true_to v unless ts h))

-- its literals are of distinct variables
pub avoids_push : (x : ℕ) (front : List Literal) (l : Literal) → Avoids x front → x ≢ l.var → Avoids x (front ++ l ∷ [])
avoids_push x [] l h ne = (ne, tt)
avoids_push x (k ∷ front) l h ne = (h.0, avoids_push x front l h.1 ne)

distinct_gathered : (front : List Literal) (l : Literal) → AreDistinct front → has front l ≡ false → has front (negate l) ≡ false →
    AreDistinct (front ++ l ∷ [])
distinct_gathered [] l d h n = (tt, tt)
distinct_gathered (k ∷ front) l d h n = elim (eqb_tells k.var l.var) [
  | inl e ↦ absurd (either k.positive l.positive (has front l) (has front (negate l)) (rw e.0 at h) (rw e.0 at n))
  | inr e ↦ (avoids_push k.var front l d.0 e.1, distinct_gathered front l d.1 (rw e.0 at h) (rw e.0 at n))
]
  where
    either : (p q a b : Bool) → cond (same_sign p q) true a ≡ false → cond (same_sign p (not q)) true b ≡ false → ⊥
    either true true a b h k = cc
    either true false a b h k = cc
    either false true a b h k = cc
    either false false a b h k = cc

pub there_push : (vars : ℕ) (front : List Literal) (l : Literal) → AreThere vars front → IsThere vars l → AreThere vars (front ++ l ∷ [])
there_push vars [] l h k = (k, tt)
there_push vars (x ∷ front) l h k = (h.0, there_push vars front l h.1 k)

within_append : (vars : ℕ) (ls : List Literal) (ts : List LitOrTruth) → AreThere vars ls → AreWithin vars ts → AreWithin vars (map OfLit ls ++ ts)
within_append vars [] ts h k = k
within_append vars (l ∷ ls) ts h k = (h.0, within_append vars ls ts h.1 k)

pub flips_within : (vars : ℕ) (ps ts : List LitOrTruth) → AreWithin vars ps → AreWithin vars ts → AreWithin vars (map flip ps ++ ts)
flips_within vars [] ts h k = k
flips_within vars (p ∷ ps) ts h k = (flip_within vars p h.0, flips_within vars ps ts h.1 k)

pub flips_length : (ps ts : List LitOrTruth) → length (map flip ps ++ ts) ≡ length ps + length ts
flips_length [] ts = omega arith
flips_length (p ∷ ps) ts = omega (arith, flips_length ps ts)

-- a clause that was gathered has distinct variables
gathered_distinct : (front : List Literal) (ts : List LitOrTruth) (c : List Literal) → AreDistinct front → gathered front ts ≡ c ∷ [] → AreDistinct c
gathered_distinct front [] c d e = let z : front ≡ c = cc in subst AreDistinct z d
gathered_distinct front (OfLit l ∷ ts) c d e = elim (has front l) as (λ b. has front l ≡ b → cond b (gathered front ts)
    (cond (has front (negate l)) [] (gathered (front ++ l ∷ []) ts)) ≡ c ∷ [] → AreDistinct c) [
      | true ↦ λ _ k. gathered_distinct front ts c d k
      | false ↦ λ h k. elim (has front (negate l)) as (λ b. has front (negate l) ≡ b → cond b [] (gathered (front ++ l ∷ []) ts) ≡ c ∷ [] → AreDistinct c) [
        | true ↦ λ _ m. cc
        | false ↦ λ n m. gathered_distinct (front ++ l ∷ []) ts c (distinct_gathered front l d h n) m
      ] refl k
    ] refl e
gathered_distinct front (True ∷ ts) c d e = cc
gathered_distinct front (False ∷ ts) c d e = gathered_distinct front ts c d e

gathered_there : (vars : ℕ) (front : List Literal) (ts : List LitOrTruth) → AreThere vars front → AreWithin vars ts → AllThere vars (gathered front ts)
gathered_there vars front [] h w = (h, tt)
gathered_there vars front (OfLit l ∷ ts) h w = elim (has front l) as (λ b. AllThere vars
    (cond b (gathered front ts) (cond (has front (negate l)) [] (gathered (front ++ l ∷ []) ts)))) [
      | true ↦ gathered_there vars front ts h w.1
      | false ↦ elim (has front (negate l)) as (λ b. AllThere vars (cond b [] (gathered (front ++ l ∷ []) ts))) [
        | true ↦ tt
        | false ↦ gathered_there vars (front ++ l ∷ []) ts (there_push vars front l h w.0) w.1
      ]
    ]
gathered_there vars front (True ∷ ts) h w = tt
gathered_there vars front (False ∷ ts) h w = gathered_there vars front ts h w.1

gathered_words : (front : List Literal) (ts : List LitOrTruth) → words_of (gathered front ts) ≤ length front + length ts + 3
gathered_words front [] = omega arith
gathered_words front (OfLit l ∷ ts) = elim (has front l) as (λ b. words_of (cond b (gathered front ts)
    (cond (has front (negate l)) [] (gathered (front ++ l ∷ []) ts))) ≤ length front + length (OfLit l ∷ ts) + 3) [
      | true ↦ omega (arith, gathered_words front ts)
      | false ↦ elim (has front (negate l)) as (λ b. words_of (cond b [] (gathered (front ++ l ∷ []) ts)) ≤ length front + length (OfLit l ∷ ts) + 3) [
        | true ↦ omega arith
        | false ↦ omega (arith, gathered_words (front ++ l ∷ []) ts, length-append front (l ∷ []))
      ]
    ]
gathered_words front (True ∷ ts) = omega arith
gathered_words front (False ∷ ts) = omega (arith, gathered_words front ts)

pub clause_distinct : (unless : List Literal) (ts : List LitOrTruth) (c : List Literal) → clause_of unless ts ≡ c ∷ [] → AreDistinct c
clause_distinct unless ts c e = gathered_distinct [] (map OfLit unless ++ ts) c tt e

pub clause_there : (vars : ℕ) (unless : List Literal) (ts : List LitOrTruth) → AreThere vars unless → AreWithin vars ts → AllThere vars (clause_of unless ts)
clause_there vars unless ts h w = gathered_there vars [] (map OfLit unless ++ ts) tt (within_append vars unless ts h w)

length-given : (ls : List Literal) (ts : List LitOrTruth) → length (map OfLit ls ++ ts) ≡ length ls + length ts
length-given [] ts = omega arith
length-given (l ∷ ls) ts = omega (arith, length-given ls ts)

pub clause_words : (unless : List Literal) (ts : List LitOrTruth) → words_of (clause_of unless ts) ≤ length unless + length ts + 3
clause_words unless ts = omega (arith, gathered_words [] (map OfLit unless ++ ts), length-given unless ts)

-- the one clause that was gathered
pub gathered_there_one : (vars : ℕ) (unless : List Literal) (ts : List LitOrTruth) (c : List Literal) → clause_of unless ts ≡ c ∷ [] → AreThere vars unless →
    AreWithin vars ts → AreThere vars c
gathered_there_one vars unless ts c e h w = let all = subst (λ (cs : Clauses). AllThere vars cs) e (clause_there vars unless ts h w) in all.0

pub gathered_length : (unless : List Literal) (ts : List LitOrTruth) (c : List Literal) → clause_of unless ts ≡ c ∷ [] → length c ≤ length unless + length ts
gathered_length unless ts c e = let words : words_of (clause_of unless ts) ≡ words_of (c ∷ []) = ap words_of e in omega (arith, clause_words unless ts)

-- literals of distinct variables are gathered as they are
avoids_middle : (x : ℕ) (front : List Literal) (l : Literal) (ls : List Literal) → Avoids x (front ++ l ∷ ls) → x ≢ l.var
avoids_middle x [] l ls h = h.0
avoids_middle x (k ∷ front) l ls h = avoids_middle x front l ls h.1

distinct_lacks : (front : List Literal) (l m : Literal) (ls : List Literal) → m.var ≡ l.var → AreDistinct (front ++ l ∷ ls) → has front m ≡ false
distinct_lacks [] l m ls e d = refl
distinct_lacks (k ∷ front) l m ls e d = elim (eqb_tells k.var m.var) [
  | inl same ↦ absurd (avoids_middle k.var front l ls d.0 (same.1 ∙ e))
  | inr other ↦ rw other.0 (distinct_lacks front l m ls e d.1)
]

gathered_literals : (front ls : List Literal) → AreDistinct (front ++ ls) → gathered front (map OfLit ls) ≡ (front ++ ls) ∷ []
gathered_literals front [] d = ap (λ (c : List Literal). c ∷ []) (sym (append-nil front))
gathered_literals front (l ∷ ls) d =
    let whole : (front ++ l ∷ []) ++ ls ≡ front ++ l ∷ ls = append_assoc front (l ∷ []) ls in
    let rest = gathered_literals (front ++ l ∷ []) ls (subst AreDistinct (sym whole) d) in
    rw (distinct_lacks front l l ls refl d, distinct_lacks front l (negate l) ls refl d) (rest ∙ ap (λ (c : List Literal). c ∷ []) whole)

pub clause_of_literals : (unless ls : List Literal) → AreDistinct (unless ++ ls) → clause_of unless (map OfLit ls) ≡ (unless ++ ls) ∷ []
clause_of_literals unless ls d = ap (λ (ts : List LitOrTruth). gathered [] ts) (sym (map-append OfLit unless ls)) ∙ gathered_literals [] (unless ++ ls) d
