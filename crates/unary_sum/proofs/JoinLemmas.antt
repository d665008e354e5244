-- What the clauses of a join say.
use Rattle.std.proofs.Common.{◌≡◌, ℕ, ◌+◌, ◌*◌, ◌<◌, ◌≤◌, true, false, not, zero, suc, [], ◌∷◌, refl, sym, ◌∙◌, ap, inl, inr, arith}
use Rattle.std.specs.Prelude.{◌-◌, nat_le, nat_lt, min, max}
use Rattle.std.proofs.lemmas.Bool.{not-true}
use Rattle.std.proofs.lemmas.Bool.Decides.{nat_tests, leb_tells}
use Rattle.cnf_core.specs.declared.literal.LitOrTruth.TheVariants.{False}
use Rattle.cnf_core.specs.Clause.{AllThere, words_of}
use Rattle.cnf_core.specs.Assignment.{Assignment, SatisfiesAll}
use Rattle.cnf_core.specs.LitOrTruth.{flip, value, IsWithin, AreWithin}
use Rattle.cnf_core.proofs.ClauseLemmas.{satisfies_append, satisfies_left, satisfies_right, satisfies_each, satisfies_at, all_there_each, all_there_append}
use Rattle.cnf_core.proofs.ClauseLemmas.{words_append, words_each}
use Rattle.cnf_core.proofs.GatherLemmas.{value-flip, flip_within, clause_says, clause_holds, clause_there, clause_words}
use Rattle.unary_sum.specs.declared.joins.Part.{Part}
use Rattle.unary_sum.specs.declared.joins.Part.TheVariants.{Input, Outputs}
use Rattle.unary_sum.specs.declared.joins.Join.{Join}
use Rattle.unary_sum.specs.Part.{part_size, part_at_least, PartIsThere, Counts, sum_of, join_up, join_down, join_cell, join_row, join_clauses}

-- past its size a part's literals are false
pub at_above : (p : Part) (k : ℕ) → part_size p < k → part_at_least p k ≡ False
at_above p zero h = absurd (omega arith)
at_above (Input l) (suc zero) h = absurd (omega arith)
at_above (Input l) (suc (suc k)) h = refl
at_above (Outputs first count) (suc k) h = let t : nat_lt k count ≡ false = grind (arith, nat_tests) in rw t refl

-- where a part's variables lie
pub at_within : (vars : ℕ) (p : Part) (k : ℕ) → PartIsThere vars p → IsWithin vars (part_at_least p k)
at_within vars p zero h = tt
at_within vars (Input l) (suc zero) h = h
at_within vars (Input l) (suc (suc k)) h = tt
at_within vars (Outputs first count) (suc k) h = elim (leb_tells (suc k) count) [
  | inl a ↦ let from = h.0 in let to = h.1 in let lt = a.1 in rw a.0 (omega arith, omega arith)
  | inr a ↦ rw a.0 tt
]

pub up_within : (vars : ℕ) (m : Join) (i j k : ℕ) → PartIsThere vars m.left → PartIsThere vars m.right → PartIsThere vars (sum_of m) →
    AreWithin vars (flip (part_at_least m.left i) ∷ flip (part_at_least m.right j) ∷ part_at_least (sum_of m) k ∷ [])
up_within vars m i j k l r o = (
  flip_within vars (part_at_least m.left i) (at_within vars m.left i l),
  (flip_within vars (part_at_least m.right j) (at_within vars m.right j r), (at_within vars (sum_of m) k o, tt)),
)

pub down_within : (vars : ℕ) (m : Join) (i j k : ℕ) → PartIsThere vars m.left → PartIsThere vars m.right → PartIsThere vars (sum_of m) →
    AreWithin vars (part_at_least m.left i ∷ part_at_least m.right j ∷ flip (part_at_least (sum_of m) k) ∷ [])
down_within vars m i j k l r o = (
  at_within vars m.left i l,
  (
    at_within vars m.right j r,
    (flip_within vars (part_at_least (sum_of m) k) (at_within vars (sum_of m) k o), tt),
  ),
)

-- a part whose size is below the cap counts no more than its size
pub counts_to : (v : Assignment) (most : ℕ) (p : Part) (n : ℕ) → Counts v most p n → min n most ≤ part_size p
counts_to v most p n c = elim (leb_tells (suc (part_size p)) most) [
  | inl h ↦
      let less = h.1 in
      let e : false ≡ nat_le (part_size p + 1) n = sym (ap (value v) (at_above p (part_size p + 1) (omega arith))) ∙ c (part_size p + 1) (omega arith) in
      let le : n ≤ part_size p = grind (arith, nat_tests, e) in
      omega arith
  | inr h ↦ let more = h.1 in omega arith
]

-- what one clause says
up_says : (v : Assignment) (most : ℕ) (m : Join) (a b i j : ℕ) → Counts v most m.left a → Counts v most m.right b → i ≤ most → j ≤ most → i ≤ a → j ≤ b →
    i + j ≤ m.count → SatisfiesAll v (join_up m i j) → value v (part_at_least (sum_of m) (i + j)) ≡ true
up_says v most m a b i j ca cb ic jc ia jb le h =
    let t : nat_le (i + j) m.count ≡ true = grind (arith, nat_tests) in
    let x : value v (part_at_least m.left i) ≡ true = ca i ic ∙ grind (arith, nat_tests) in
    let y : value v (part_at_least m.right j) ≡ true = cb j jc ∙ grind (arith, nat_tests) in
    elim (clause_says v [] (flip (part_at_least m.left i) ∷ flip (part_at_least m.right j) ∷ part_at_least (sum_of m) (i + j) ∷ []) (rw t at h)) [
      | inl s ↦ absurd s
      | inr (inl s) ↦ absurd (cc (value-flip v (part_at_least m.left i), s, x))
      | inr (inr (inl s)) ↦ absurd (cc (value-flip v (part_at_least m.right j), s, y))
      | inr (inr (inr (inl s))) ↦ s
      | inr (inr (inr (inr s))) ↦ absurd s
    ]

down_says : (v : Assignment) (most : ℕ) (m : Join) (a b i j : ℕ) → Counts v most m.left a → Counts v most m.right b → i < most → j < most → a ≤ i → b ≤ j →
    i + j < m.count → SatisfiesAll v (join_down m i j) → value v (part_at_least (sum_of m) (i + j + 1)) ≡ false
down_says v most m a b i j ca cb ic jc ia jb le h =
    let t : nat_lt (i + j) m.count ≡ true = grind (arith, nat_tests) in
    let x : value v (part_at_least m.left (i + 1)) ≡ false = ca (i + 1) (omega arith) ∙ grind (arith, nat_tests) in
    let y : value v (part_at_least m.right (j + 1)) ≡ false = cb (j + 1) (omega arith) ∙ grind (arith, nat_tests) in
    elim (clause_says v [] (part_at_least m.left (i + 1) ∷ part_at_least m.right (j + 1) ∷ flip (part_at_least (sum_of m) (i + j + 1)) ∷ []) (rw t at h)) [
      | inl s ↦ absurd s
      | inr (inl s) ↦ absurd (cc (s, x))
      | inr (inr (inl s)) ↦ absurd (cc (s, y))
      | inr (inr (inr (inl s))) ↦ not-true (value v (part_at_least (sum_of m) (i + j + 1))) (sym (value-flip v (part_at_least (sum_of m) (i + j + 1))) ∙ s)
      | inr (inr (inr (inr s))) ↦ absurd s
    ]

cell_at : (v : Assignment) (m : Join) → SatisfiesAll v (join_clauses m) → (i j : ℕ) → i ≤ part_size m.left → j ≤ part_size m.right →
    SatisfiesAll v (join_cell m i j)
cell_at v m h i j il jr = satisfies_at v (join_cell m i) 0 (part_size m.right + 1)
    (satisfies_at v (join_row m) 0 (part_size m.left + 1) h i (omega arith) (omega arith)) j (omega arith) (omega arith)

-- the clauses make the outputs count both sides together
pub join_means : (v : Assignment) (most : ℕ) (m : Join) (a b : ℕ) → m.count ≡ min (part_size m.left + part_size m.right) most → Counts v most m.left a →
    Counts v most m.right b → SatisfiesAll v (join_clauses m) → Counts v most (sum_of m) (a + b)
join_means v most m a b c ca cb h zero kc = sym (grind (arith, nat_tests))
join_means v most m a b c ca cb h (suc k) kc =
    let al : min a most ≤ part_size m.left = counts_to v most m.left a ca in
    let br : min b most ≤ part_size m.right = counts_to v most m.right b cb in
    elim (leb_tells (suc m.count) (suc k)) [
      | inl above ↦
          let t : nat_le (suc k) (a + b) ≡ false = let x = above.1 in let w : a + b < suc k = omega arith in grind (arith, nat_tests, w) in
          ap (value v) (at_above (sum_of m) (suc k) above.1) ∙ sym t
      | inr within ↦ elim (leb_tells (suc k) (a + b)) [
        | inl le ↦
            let inside = within.1 in
            let enough = le.1 in
            let i = min (suc k) (min a (part_size m.left)) in
            let j = suc k - i in
            let z : i + j ≡ suc k = omega arith in
            ap (λ x. value v (part_at_least (sum_of m) x)) (sym z) ∙ up_says v most m a b i j ca cb (omega arith) (omega arith) (omega arith) (omega arith)
            (omega arith) (satisfies_left v (join_up m i j) (join_down m i j) (cell_at v m h i j (omega arith) (omega arith))) ∙ sym le.0
        | inr gt ↦
            let inside = within.1 in
            let few = gt.1 in
            let i = max a (k - part_size m.right) in
            let j = k - i in
            let z : i + j + 1 ≡ suc k = omega arith in
            ap (λ x. value v (part_at_least (sum_of m) x)) (sym z) ∙ down_says v most m a b i j ca cb (omega arith) (omega arith) (omega arith) (omega arith)
            (omega arith) (satisfies_right v (join_up m i j) (join_down m i j) (cell_at v m h i j (omega arith) (omega arith))) ∙ sym gt.0
      ]
    ]

-- and hold where they do
up_holds : (v : Assignment) (most : ℕ) (m : Join) (a b i j : ℕ) → m.count ≤ most → Counts v most m.left a → Counts v most m.right b →
    Counts v most (sum_of m) (a + b) → SatisfiesAll v (join_up m i j)
up_holds v most m a b i j le ca cb co = elim (leb_tells (i + j) m.count) [
  | inr past ↦ rw past.0 tt
  | inl fits ↦
      let ts = flip (part_at_least m.left i) ∷ flip (part_at_least m.right j) ∷ part_at_least (sum_of m) (i + j) ∷ [] in
      let y = fits.1 in
      rw fits.0 (clause_holds v [] ts (inr (elim (leb_tells i a) [
        | inr gt ↦ inl (value-flip v (part_at_least m.left i) ∙ ap not (ca i (omega arith) ∙ gt.0))
        | inl ia ↦ elim (leb_tells j b) [
          | inr gt ↦ inr (inl (value-flip v (part_at_least m.right j) ∙ ap not (cb j (omega arith) ∙ gt.0)))
          | inl jb ↦ inr (inr (inl (co (i + j) (omega arith) ∙ (let x = ia.1 in let z = jb.1 in grind (arith, nat_tests)))))
        ]
      ])))
]

above_both : (i j k a b : ℕ) → a < i → b < j → k + 1 ≡ i + j → nat_le k (a + b) ≡ false
above_both i j k a b x y z = let t : a + b < k = omega arith in grind (arith, nat_tests, t)

down_holds : (v : Assignment) (most : ℕ) (m : Join) (a b i j : ℕ) → m.count ≤ most → Counts v most m.left a → Counts v most m.right b →
    Counts v most (sum_of m) (a + b) → SatisfiesAll v (join_down m i j)
down_holds v most m a b i j le ca cb co = elim (leb_tells (suc (i + j)) m.count) [
  | inr past ↦ rw past.0 tt
  | inl fits ↦
      let ts = part_at_least m.left (i + 1) ∷ part_at_least m.right (j + 1) ∷ flip (part_at_least (sum_of m) (i + j + 1)) ∷ [] in
      let y = fits.1 in
      rw fits.0 (clause_holds v [] ts (inr (elim (leb_tells (i + 1) a) [
        | inl ia ↦ inl (ca (i + 1) (omega arith) ∙ ia.0)
        | inr gt ↦ elim (leb_tells (j + 1) b) [
          | inl jb ↦ inr (inl (cb (j + 1) (omega arith) ∙ jb.0))
          | inr more ↦ inr (inr (inl (value-flip v (part_at_least (sum_of m) (i + j + 1))
              ∙ ap not (co (i + j + 1) (omega arith) ∙ above_both (i + 1) (j + 1) (i + j + 1) a b gt.1 more.1 (omega arith)))))
        ]
      ])))
]

pub join_holds : (v : Assignment) (most : ℕ) (m : Join) (a b : ℕ) → m.count ≤ most → Counts v most m.left a → Counts v most m.right b →
    Counts v most (sum_of m) (a + b) → SatisfiesAll v (join_clauses m)
join_holds v most m a b le ca cb co = satisfies_each v (join_row m) 0 (part_size m.left + 1)
    (λ i _ _. satisfies_each v (join_cell m i) 0 (part_size m.right + 1) (λ j _ _. satisfies_append v (join_up m i j) (join_down m i j)
    (up_holds v most m a b i j le ca cb co) (down_holds v most m a b i j le ca cb co)))

-- outputs of which the first a + b are true count both sides together
pub outputs_count : (v : Assignment) (most : ℕ) (m : Join) (a b : ℕ) → m.count ≡ min (part_size m.left + part_size m.right) most → Counts v most m.left a →
    Counts v most m.right b → ((k : ℕ) → k < m.count → v (m.first + k) ≡ nat_lt k (a + b)) → Counts v most (sum_of m) (a + b)
outputs_count v most m a b c ca cb set zero le = sym (grind (arith, nat_tests))
outputs_count v most m a b c ca cb set (suc k) le =
    let al : min a most ≤ part_size m.left = counts_to v most m.left a ca in
    let br : min b most ≤ part_size m.right = counts_to v most m.right b cb in
    elim (leb_tells (suc k) m.count) [
      | inl h ↦ rw h.0 (set k h.1)
      | inr h ↦ let x = h.1 in let w : a + b < suc k = omega arith in let t : nat_le (suc k) (a + b) ≡ false = grind (arith, nat_tests, w) in rw (h.0, t) refl
    ]

-- where the variables of its clauses lie
up_there : (vars : ℕ) (m : Join) (i j : ℕ) → PartIsThere vars m.left → PartIsThere vars m.right → PartIsThere vars (sum_of m) → AllThere vars (join_up m i j)
up_there vars m i j l r o = elim (leb_tells (i + j) m.count) [
  | inl a ↦ rw a.0 (clause_there vars [] (flip (part_at_least m.left i) ∷ flip (part_at_least m.right j) ∷ part_at_least (sum_of m) (i + j) ∷ []) tt
      (up_within vars m i j (i + j) l r o))
  | inr a ↦ rw a.0 tt
]

down_there : (vars : ℕ) (m : Join) (i j : ℕ) → PartIsThere vars m.left → PartIsThere vars m.right → PartIsThere vars (sum_of m) →
    AllThere vars (join_down m i j)
down_there vars m i j l r o = elim (leb_tells (suc (i + j)) m.count) [
  | inl a ↦ rw a.0 (clause_there vars [] (part_at_least m.left (i + 1) ∷ part_at_least m.right (j + 1) ∷ flip (part_at_least (sum_of m) (i + j + 1)) ∷ []) tt
      (down_within vars m (i + 1) (j + 1) (i + j + 1) l r o))
  | inr a ↦ rw a.0 tt
]

pub join_there : (vars : ℕ) (m : Join) → PartIsThere vars m.left → PartIsThere vars m.right → PartIsThere vars (sum_of m) → AllThere vars (join_clauses m)
join_there vars m l r o = all_there_each vars (join_row m) 0 (part_size m.left + 1)
    (λ i _ _. all_there_each vars (join_cell m i) 0 (part_size m.right + 1) (λ j _ _. all_there_append vars (join_up m i j) (join_down m i j)
    (up_there vars m i j l r o) (down_there vars m i j l r o)))

-- and how many words they have: two clauses of at most three literals for each pair of numbers
up_words : (m : Join) (i j : ℕ) → words_of (join_up m i j) ≤ 6
up_words m i j = elim (leb_tells (i + j) m.count) [
  | inl a ↦ rw a.0 (let w = clause_words [] (flip (part_at_least m.left i) ∷ flip (part_at_least m.right j) ∷ part_at_least (sum_of m) (i + j) ∷ []) in omega
      arith)
  | inr a ↦ rw a.0 (omega arith)
]

down_words : (m : Join) (i j : ℕ) → words_of (join_down m i j) ≤ 6
down_words m i j = elim (leb_tells (suc (i + j)) m.count) [
  | inl a ↦ rw a.0 (let w = clause_words [] (part_at_least m.left (i + 1) ∷ part_at_least m.right (j + 1) ∷ flip (part_at_least (sum_of m) (i + j + 1)) ∷ []) in
      omega arith)
  | inr a ↦ rw a.0 (omega arith)
]

row_words : (m : Join) (i : ℕ) → words_of (join_row m i) ≤ (part_size m.right + 1) * 12
row_words m i = words_each 12 (join_cell m i) 0 (part_size m.right + 1) (λ j _ _. omega
    (arith, words_append (join_up m i j) (join_down m i j), up_words m i j, down_words m i j))

pub join_words : (m : Join) → words_of (join_clauses m) ≤ (part_size m.left + 1) * ((part_size m.right + 1) * 12)
join_words m = words_each ((part_size m.right + 1) * 12) (join_row m) 0 (part_size m.left + 1) (λ i _ _. row_words m i)
