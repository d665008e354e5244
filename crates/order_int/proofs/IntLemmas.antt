-- What an integer's own clauses say of its number.
use Rattle.std.proofs.Common.{◌≡◌, ◌≢◌, ℕ, ◌+◌, ◌*◌, ◌<◌, ◌≤◌, Bool, true, false, not, cond, zero, suc, refl, sym, ◌∙◌, ap, subst, inl, inr, arith}
use Rattle.std.specs.Prelude.{◌-◌, nat_le, nat_lt}
use Rattle.std.proofs.lemmas.Bool.Decides.{nat_tests, leb_tells}
use Rattle.cnf_core.specs.Clause.{AllThere, words_of}
use Rattle.cnf_core.specs.Assignment.{Assignment, SatisfiesAll, Extends}
use Rattle.cnf_core.specs.LitOrTruth.{IsWithin}
use Rattle.cnf_core.specs.Formula.{each}
use Rattle.cnf_core.proofs.ClauseLemmas.{satisfies_left, satisfies_right, satisfies_each, all_there_each, words_each}
use Rattle.cnf_core.proofs.GatherLemmas.{not_not}
use Rattle.cnf_core.proofs.SettingLemmas.{patch, patch_same, patch_at, extends_weaker}
use Rattle.cnf_core.proofs.StepLemmas.{added_one, adds_same, adds_fault}
use Rattle.order_int.specs.IntVars.{IntVars, size, IsInt, IntIsThere}
use Rattle.order_int.specs.OrderInt.{int_at_least, link, chain, int_clauses, leading, number, Reads}

-- the first m of the n variables from first on are true, and the others false
abbrev pub Steps : Assignment → ℕ → ℕ → ℕ → Type 0
Steps v first n m = (k : ℕ) → k < n → v (first + k) ≡ nat_lt k m

-- past a false variable all are false
link_false : (v : Assignment) (x : ℕ) → SatisfiesAll v (link x) → v x ≡ false → v (x + 1) ≡ false
link_false v x (inl h, _) e = sym (not_not (v (x + 1))) ∙ ap not h
link_false v x (inr (inl h), _) e = cc
link_false v x (inr (inr h), _) e = absurd h

chain_tail : (v : Assignment) (first n : ℕ) → SatisfiesAll v (chain first (suc n)) → SatisfiesAll v (chain (first + 1) n)
chain_tail v first zero h = tt
chain_tail v first (suc n) h = satisfies_right v (link first) (each link (first + 1) n) h

past_false : (v : Assignment) (first n : ℕ) → SatisfiesAll v (chain first (suc n)) → v first ≡ false → (k : ℕ) → k ≤ n → v (first + k) ≡ false
past_false v first n h e zero within = let z : first + zero ≡ first = omega arith in ap v z ∙ e
past_false v first zero h e (suc k) within = absurd (omega arith)
past_false v first (suc n) h e (suc k) within =
    let next : v (first + 1) ≡ false = link_false v first (satisfies_left v (link first) (each link (first + 1) n) h) e in
    let z : first + suc k ≡ (first + 1) + k = omega arith in
    ap v z ∙ past_false v (first + 1) n (chain_tail v first (suc n) h) next k (omega arith)

leading_to : (v : Assignment) (first n : ℕ) → leading v first n ≤ n
leading_to v first zero = omega arith
leading_to v first (suc n) = elim (v first) as (λ b. cond b (1 + leading v (first + 1) n) 0 ≤ suc n)
    [ true ↦ omega (arith, leading_to v (first + 1) n) | false ↦ omega arith ]

-- from the clauses to the steps
true_first : (v : Assignment) (first n m : ℕ) → v first ≡ true → Steps v (first + 1) n m → Steps v first (suc n) (1 + m)
true_first v first n m e rest zero w =
    let z : first + zero ≡ first = omega arith in
    let t : nat_lt 0 (1 + m) ≡ true = grind (arith, nat_tests) in
    ap v z ∙ e ∙ sym t
true_first v first n m e rest (suc k) w =
    let z : first + suc k ≡ (first + 1) + k = omega arith in
    let t : nat_lt k m ≡ nat_lt (suc k) (1 + m) = grind (arith, nat_tests) in
    ap v z ∙ rest k (omega arith) ∙ t

steps_from : (v : Assignment) (first n : ℕ) → SatisfiesAll v (chain first n) → Steps v first n (leading v first n)
steps_from v first zero h k within = absurd (omega arith)
steps_from v first (suc n) h k within =
    elim (v first) as (λ b. v first ≡ b → v (first + k) ≡ nat_lt k (cond b (1 + leading v (first + 1) n) 0)) [
      | true ↦ λ e. true_first v first n (leading v (first + 1) n) e (λ j w. steps_from v (first + 1) n (chain_tail v first n h) j w) k within
      | false ↦ λ e. past_false v first n h e k (omega arith) ∙ sym (grind (arith, nat_tests))
    ] refl

-- and back
link_holds : (v : Assignment) (x : ℕ) (a b : Bool) → v (x + 1) ≡ a → v x ≡ b → (a ≡ true → b ≡ true) → SatisfiesAll v (link x)
link_holds v x true b e f h = (inr (inl (f ∙ h refl)), tt)
link_holds v x false b e f h = (inl (ap not e), tt)

pub steps_hold : (v : Assignment) (first n m : ℕ) → Steps v first n m → SatisfiesAll v (chain first n)
steps_hold v first zero m h = tt
steps_hold v first (suc n) m h = satisfies_each v link first n (λ x from to.
    let here : first + (x - first) ≡ x = omega arith in
    let next : first + (x - first + 1) ≡ x + 1 = omega arith in
    let a = h (x - first) (omega arith) in
    let b = h (x - first + 1) (omega arith) in
    link_holds v x (nat_lt (x - first + 1) m) (nat_lt (x - first) m) (sym (ap v next) ∙ b) (sym (ap v here) ∙ a) (λ t. grind (arith, nat_tests, t)))

-- the literals "at least k" are the steps
pub reads_from_steps : (v : Assignment) (i : IntVars) (n : ℕ) → i.low ≤ n → n ≤ i.high → Steps v i.first (size i) (n - i.low) → Reads v i n
reads_from_steps v i n low high h = record {
  low = low;
  high = high;
  each = λ k. elim (leb_tells k i.low) [
    | inl a ↦ let t : nat_le k n ≡ true = grind (arith, nat_tests) in rw (a.0, t) refl
    | inr a ↦ elim (leb_tells (suc i.high) k) [
      | inl b ↦ let t : nat_le k n ≡ false = grind (arith, nat_tests) in rw (a.0, b.0, t) refl
      | inr b ↦
          let s = h (k - (i.low + 1)) (omega arith) in
          let t : nat_lt (k - (i.low + 1)) (n - i.low) ≡ nat_le k n = grind (arith, nat_tests) in
          rw (a.0, b.0) (s ∙ t)
    ]
  ];
}

pub steps_from_reads : (v : Assignment) (i : IntVars) (n : ℕ) → Reads v i n → Steps v i.first (size i) (n - i.low)
steps_from_reads v i n r k within =
    let e = r.each (i.low + 1 + k) in
    let a : nat_le (i.low + 1 + k) i.low ≡ false = grind (arith, nat_tests) in
    let b : nat_lt i.high (i.low + 1 + k) ≡ false = grind (arith, nat_tests) in
    let z : i.low + 1 + k - (i.low + 1) ≡ k = omega arith in
    let t : nat_le (i.low + 1 + k) n ≡ nat_lt k (n - i.low) = grind (arith, nat_tests) in
    (rw (a, b, z) at e) ∙ t

-- an assignment that satisfies the clauses gives the integer a number
pub int_means : (v : Assignment) (i : IntVars) → i.low ≤ i.high → SatisfiesAll v (int_clauses i) → Reads v i (number v i)
int_means v i range h =
    let le = leading_to v i.first (size i) in
    let z : number v i - i.low ≡ leading v i.first (size i) = omega arith in
    reads_from_steps v i (number v i) (omega arith) (omega arith) (subst (Steps v i.first (size i)) (sym z) (steps_from v i.first (size i) h))

-- an assignment that gives it a number satisfies them
pub int_holds : (v : Assignment) (i : IntVars) (n : ℕ) → Reads v i n → SatisfiesAll v (int_clauses i)
int_holds v i n r = steps_hold v i.first (size i) (n - i.low) (steps_from_reads v i n r)

-- each number of the range is one setting of the variables
pub int_extends : (v : Assignment) (i : IntVars) (n : ℕ) → i.low ≤ n → n ≤ i.high → Extends i.first (size i) v (λ w. Reads w i n)
int_extends v i n low high = record {
  to = patch i.first (size i) (λ k. nat_lt k (n - i.low)) v;
  same = patch_same i.first (size i) (λ k. nat_lt k (n - i.low)) v;
  holds = reads_from_steps (patch i.first (size i) (λ k. nat_lt k (n - i.low)) v) i n low high (patch_at i.first (size i) (λ k. nat_lt k (n - i.low)) v);
}

-- the number is read where the variables say the same
pub reads_same : (v w : Assignment) (i : IntVars) (n : ℕ) → ((x : ℕ) → i.first ≤ x → x < i.first + size i → w x ≡ v x) → Reads v i n → Reads w i n
reads_same v w i n e r = reads_from_steps w i n r.low r.high (λ k within. e (i.first + k) (omega arith) (omega arith) ∙ steps_from_reads v i n r k within)

-- an assignment gives it one number
pub reads_once : (v : Assignment) (i : IntVars) (m n : ℕ) → Reads v i m → Reads v i n → m ≡ n
reads_once v i m n a b =
    let s : nat_le m n ≡ true = (sym (b.each m) ∙ a.each m) ∙ grind (arith, nat_tests) in
    let t : nat_le n m ≡ true = (sym (a.each n) ∙ b.each n) ∙ grind (arith, nat_tests) in
    grind (arith, nat_tests)

-- where its variables lie, and how many words its clauses have
pub at_least_within : (vars : ℕ) (i : IntVars) (k : ℕ) → IntIsThere vars i → IsWithin vars (int_at_least i k)
at_least_within vars i k h = elim (leb_tells k i.low) [
  | inl a ↦ rw a.0 tt
  | inr a ↦ elim (leb_tells (suc i.high) k) [
    | inl b ↦ rw (a.0, b.0) tt
    | inr b ↦ let from = h.from in let to = h.to in rw (a.0, b.0) (omega arith, omega arith)
  ]
]

pub chain_there : (vars first n : ℕ) → 1 ≤ first → first + n ≤ vars + 1 → AllThere vars (chain first n)
chain_there vars first zero from to = tt
chain_there vars first (suc n) from to = all_there_each vars link first n (λ k low high. (((omega arith, omega arith), ((omega arith, omega arith), tt)), tt))

pub int_there : (vars : ℕ) (i : IntVars) → IntIsThere vars i → AllThere vars (int_clauses i)
int_there vars i h = chain_there vars i.first (size i) h.from h.to

pub chain_words : (first n : ℕ) → words_of (chain first n) ≤ 5 * n
chain_words first zero = omega arith
chain_words first (suc n) = omega (arith, words_each 5 link first n (λ k low high. omega arith))

-- the first false variable tells the number
first_false : (v : Assignment) (first n m k : ℕ) → Steps v first n m → k < n → ((j : ℕ) → j < k → v (first + j) ≡ true) → v (first + k) ≡ false → m ≡ k
first_false v first n m zero h within before e =
    let t : nat_lt 0 m ≡ false = sym (h 0 within) ∙ e in
    grind (arith, nat_tests, t)
first_false v first n m (suc k) h within before e =
    let t : nat_lt (suc k) m ≡ false = sym (h (suc k) within) ∙ e in
    let s : nat_lt k m ≡ true = sym (h k (omega arith)) ∙ before k (omega arith) in
    grind (arith, nat_tests, s, t)

pub value_read : (v : Assignment) (i : IntVars) (k : ℕ) → IsInt i → SatisfiesAll v (int_clauses i) → k < size i → ((j : ℕ) → j < k → v (i.first + j) ≡ true) →
    v (i.first + k) ≡ false → Reads v i (i.low + k)
value_read v i k is h within before e =
    let r = int_means v i is.order h in
    let n = first_false v i.first (size i) (number v i - i.low) k (steps_from_reads v i (number v i) r) within before e in
    let low = r.low in
    let z : number v i ≡ i.low + k = omega arith in
    subst (λ m. Reads v i m) z r

pub chain-links : (first n : ℕ) → n ≢ 0 → chain first n ≡ each link first (n - 1)
chain-links first zero h = absurd (h refl)
chain-links first (suc n) h = let z : n ≡ suc n - 1 = omega arith in ap (λ m. each link first m) z

-- a setting of its variables for each number, and its clauses hold there
pub int_extends_model : (v : Assignment) (i : IntVars) (n : ℕ) → i.low ≤ n → n ≤ i.high →
    Extends i.first (size i) v (λ w. Reads w i n × SatisfiesAll w (int_clauses i))
int_extends_model v i n low high = extends_weaker i.first (size i) v (λ w. Reads w i n) (λ w. Reads w i n × SatisfiesAll w (int_clauses i))
    (λ w same r. (r, int_holds w i n r)) (int_extends v i n low high)

-- a number is one setting of the variables
pub one_setting_for_each : (v w : Assignment) (i : IntVars) (n : ℕ) → Reads v i n → Reads w i n → (x : ℕ) → i.first ≤ x → x < i.first + size i → v x ≡ w x
one_setting_for_each v w i n a b x low high =
    let z : i.first + (x - i.first) ≡ x = omega arith in
    let s = steps_from_reads v i n a (x - i.first) (omega arith) in
    let t = steps_from_reads w i n b (x - i.first) (omega arith) in
    sym (ap v z) ∙ s ∙ sym t ∙ ap w z

-- one clause as a step of a formula
pub ruleset one_clause_added = (added_one, adds_same, adds_fault)
