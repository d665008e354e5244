-- Lists of clauses: what satisfies them, where their variables lie, and how many words they have.
use Rattle.std.proofs.Common.{◌≡◌, ℕ, ◌+◌, ◌*◌, ◌<◌, ◌≤◌, ◌⊎◌, Bool, zero, suc, List, [], ◌∷◌, ◌++◌, length, get_or, sym, ◌∙◌, ap, subst, inl, inr, arith}
use Rattle.std.specs.Prelude.{All, Contains}
use Rattle.std.proofs.lemmas.Bool.Decides.{eqb_tells}
use Rattle.std.proofs.lemmas.List.Elements.{All-contains, All-weaker, All-contains_itself}
use Rattle.cnf_core.specs.Lit.{Literal, same_sign}
use Rattle.cnf_core.specs.Clause.{Clauses, AreThere, AllThere, AreDistinct, AllDistinct, HasAllOf, words_of}
use Rattle.cnf_core.specs.Assignment.{Assignment, Satisfies, SatisfiesAll}
use Rattle.cnf_core.specs.Formula.{each}

-- clauses behind clauses
pub satisfies_append : (v : Assignment) (xs ys : Clauses) → SatisfiesAll v xs → SatisfiesAll v ys → SatisfiesAll v (xs ++ ys)
satisfies_append v [] ys h k = k
satisfies_append v (c ∷ xs) ys h k = (h.0, satisfies_append v xs ys h.1 k)

pub satisfies_left : (v : Assignment) (xs ys : Clauses) → SatisfiesAll v (xs ++ ys) → SatisfiesAll v xs
satisfies_left v [] ys h = tt
satisfies_left v (c ∷ xs) ys h = (h.0, satisfies_left v xs ys h.1)

pub satisfies_right : (v : Assignment) (xs ys : Clauses) → SatisfiesAll v (xs ++ ys) → SatisfiesAll v ys
satisfies_right v [] ys h = h
satisfies_right v (c ∷ xs) ys h = satisfies_right v xs ys h.1

-- the clauses of a range of numbers, number by number
pub satisfies_each : (v : Assignment) (f : ℕ → Clauses) (first n : ℕ) → ((k : ℕ) → first ≤ k → k < first + n → SatisfiesAll v (f k)) →
    SatisfiesAll v (each f first n)
satisfies_each v f first zero h = tt
satisfies_each v f first (suc n) h = satisfies_append v (f first) (each f (first + 1) n) (h first (omega arith) (omega arith))
    (satisfies_each v f (first + 1) n (λ k from to. h k (omega arith) (omega arith)))

-- a number from a on is a itself, or from a + 1 on
pub first_or_later : (a b : ℕ) → a ≤ b → (a ≡ b) ⊎ (a + 1 ≤ b)
first_or_later a b h = elim (eqb_tells a b) [ inl e ↦ inl e.1 | inr e ↦ inr (let ne = e.1 in omega arith) ]

pub satisfies_at : (v : Assignment) (f : ℕ → Clauses) (first n : ℕ) → SatisfiesAll v (each f first n) → (k : ℕ) → first ≤ k → k < first + n →
    SatisfiesAll v (f k)
satisfies_at v f first zero h k from to = absurd (omega arith)
satisfies_at v f first (suc n) h k from to =
    elim (first_or_later first k from) [
      | inl e ↦ subst (λ x. SatisfiesAll v (f x)) e (satisfies_left v (f first) (each f (first + 1) n) h)
      | inr more ↦ satisfies_at v f (first + 1) n (satisfies_right v (f first) (each f (first + 1) n) h) k more (omega arith)
    ]

-- clauses of the variables up to vars: only what an assignment says of these counts
pub satisfies_same : (v w : Assignment) (vars : ℕ) (c : List Literal) → AreThere vars c → ((x : ℕ) → x ≤ vars → w x ≡ v x) → Satisfies v c → Satisfies w c
satisfies_same v w vars [] there same h = h
satisfies_same v w vars (l ∷ c) there same (inl h) = inl (ap (λ (b : Bool). same_sign l.positive b) (same l.var there.0.1) ∙ h)
satisfies_same v w vars (l ∷ c) there same (inr h) = inr (satisfies_same v w vars c there.1 same h)

pub satisfies_all_same : (v w : Assignment) (vars : ℕ) (cs : Clauses) → AllThere vars cs → ((x : ℕ) → x ≤ vars → w x ≡ v x) → SatisfiesAll v cs →
    SatisfiesAll w cs
satisfies_all_same v w vars [] there same h = tt
satisfies_all_same v w vars (c ∷ cs) there same h = (satisfies_same v w vars c there.0 same h.0, satisfies_all_same v w vars cs there.1 same h.1)

-- where the variables lie
pub there_more : (m n : ℕ) (c : List Literal) → m ≤ n → AreThere m c → AreThere n c
there_more m n [] le h = tt
there_more m n (l ∷ c) le h = ((h.0.0, omega (arith, h.0.1)), there_more m n c le h.1)

pub all_there_more : (m n : ℕ) (cs : Clauses) → m ≤ n → AllThere m cs → AllThere n cs
all_there_more m n [] le h = tt
all_there_more m n (c ∷ cs) le h = (there_more m n c le h.0, all_there_more m n cs le h.1)

pub all_there_append : (vars : ℕ) (xs ys : Clauses) → AllThere vars xs → AllThere vars ys → AllThere vars (xs ++ ys)
all_there_append vars [] ys h k = k
all_there_append vars (c ∷ xs) ys h k = (h.0, all_there_append vars xs ys h.1 k)

pub all_there_each : (vars : ℕ) (f : ℕ → Clauses) (first n : ℕ) → ((k : ℕ) → first ≤ k → k < first + n → AllThere vars (f k)) → AllThere vars (each f first n)
all_there_each vars f first zero h = tt
all_there_each vars f first (suc n) h = all_there_append vars (f first) (each f (first + 1) n) (h first (omega arith) (omega arith))
    (all_there_each vars f (first + 1) n (λ k from to. h k (omega arith) (omega arith)))

pub there_at : (vars : ℕ) (cs : Clauses) (c : ℕ) → AllThere vars cs → AreThere vars (get_or cs c [])
there_at vars [] c h = tt
there_at vars (c ∷ cs) zero h = h.0
there_at vars (c ∷ cs) (suc k) h = there_at vars cs k h.1

pub distinct_at : (cs : Clauses) (c : ℕ) → AllDistinct cs → AreDistinct (get_or cs c [])
distinct_at [] c h = tt
distinct_at (c ∷ cs) zero h = h.0
distinct_at (c ∷ cs) (suc k) h = distinct_at cs k h.1

pub all_distinct_append : (xs ys : Clauses) → AllDistinct xs → AllDistinct ys → AllDistinct (xs ++ ys)
all_distinct_append [] ys h k = k
all_distinct_append (c ∷ xs) ys h k = (h.0, all_distinct_append xs ys h.1 k)

-- words
pub words_append : (xs ys : Clauses) → words_of (xs ++ ys) ≡ words_of xs + words_of ys
words_append [] ys = omega arith
words_append (c ∷ xs) ys = omega (arith, words_append xs ys)

pub words_each : (most : ℕ) (f : ℕ → Clauses) (first n : ℕ) → ((k : ℕ) → first ≤ k → k < first + n → words_of (f k) ≤ most) →
    words_of (each f first n) ≤ n * most
words_each most f first zero h = omega arith
words_each most f first (suc n) h = omega (
  arith,
  h first (omega arith) (omega arith),
  words_append (f first) (each f (first + 1) n),
  words_each most f
      (first + 1) n (λ k from to. h k (omega arith) (omega arith)),
)

pub words_at : (cs : Clauses) (c : ℕ) → length (get_or cs c []) ≤ words_of cs
words_at [] c = omega arith
words_at (c ∷ cs) zero = omega arith
words_at (c ∷ cs) (suc k) = omega (arith, words_at cs k)

-- a clause has all of the allowed literals alone, as its list of them says it
pub includes_from : (allowed lits c : List Literal) → lits ≡ c → All (λ l. Contains allowed l) lits → HasAllOf allowed c
includes_from allowed lits c e all = λ l m. All-contains (Contains allowed) c l (subst (λ (ls : List Literal). All (Contains allowed) ls) e all) m

pub includes_to : (allowed lits c : List Literal) → lits ≡ c → HasAllOf allowed c → All (λ l. Contains allowed l) lits
includes_to allowed lits c e h = subst (λ (ls : List Literal). All (Contains allowed) ls) (sym e)
    (All-weaker (Contains c) (Contains allowed) (λ l m. h l m) c (All-contains_itself c))
