-- Which variables the heap offers.
use Rattle.std.proofs.Common.{◌≡◌, ◌≢◌, ℕ, ◌-◌, ◌<◌, ◌≤◌, ◌⊎◌, Bool, true, false, cond, nat_eq, List, [], ◌∷◌, ◌++◌, length, get_or, take, refl, sym, ◌∙◌, ap}
use Rattle.std.proofs.Common.{subst, inl, inr, arith}
use Rattle.std.specs.List.{sum_by}
use Rattle.std.proofs.lemmas.Bool.{cases_Bool, cases_eq, cases_lt}
use Rattle.std.proofs.lemmas.List.{get_or-set_other, get_or_past, get_or_default, get_or-take, length-take}
use Rattle.std.proofs.lemmas.List.Sums.{sum_by-set}
use Rattle.cnf_core.specs.Lit.{Literal, literal, negate, has}
use Rattle.cnf_core.specs.Clause.{IsThere}
use Rattle.cnf_core.specs.Propagation.{Includes}
use Rattle.cnf_core.proofs.TrailLemmas.{same_or_negated, push_keeps, has_last}
use Rattle.cnf_core.proofs.PropagationLemmas.{negate-negate, contains_from_has, has_from_contains}
use Rattle.pick_heap.specs.declared.heap.TheConstants.{HALVED_AT}
use Rattle.pick_heap.specs.Heap.{Ranked, IsHeld, with_held, without, bumped, halved, activity}
use Rattle.watch_arena.specs.Trail.{Marks, IsMarks, IsUnset, IsLonger, with_lit, opened, undone, level_end}
use Rattle.cnf_core.specs.Trail.{weight}
use Rattle.cdcl_core.proofs.SetLemmas.{not_both}
use Rattle.cdcl_core.specs.Roots.{AreOffered}
use Rattle.cdcl_core.proofs.MoveLemmas.{level_behind}

-- a variable is unset by either of its literals
pub unset_other : (ls : List Literal) (k l : Literal) → k.var ≡ l.var → IsUnset ls k → IsUnset ls l
unset_other ls k l e un = elim (same_or_negated k l e) [
  | inl same ↦ subst (IsUnset ls) same un
  | inr neg ↦ (
    ap (has ls) (sym (negate-negate l)) ∙ ap (λ (x : Literal). has ls (negate x)) (sym neg) ∙ un.1,
    ap (has ls) (sym neg) ∙ un.0,
  )
]

-- what was unset stays offered
pub heap_more : (h : Ranked) (m n : Marks) → n.vars ≡ m.vars → Includes (has n.lits) (has m.lits) → AreOffered h m → AreOffered h n
heap_more h m n vars keeps offered = λ l there un. offered l (subst (λ v. IsThere v l) vars there) (off l un.0, off (negate l) un.1)
  where
    off : (k : Literal) → has n.lits k ≡ false → has m.lits k ≡ false
    off k f = elim (cases_Bool (has m.lits k)) [
      | inl t ↦ absurd (not_both (has n.lits k) (keeps k t) f)
      | inr e ↦ e
    ]

pub heap_longer : (h : Ranked) (m n : Marks) → IsLonger m n → AreOffered h m → AreOffered h n
heap_longer h m n longer offered = heap_more h m n longer.vars longer.keeps offered

-- a variable that is taken out, and set
pub offered_others : (h : Ranked) (m : Marks) (v : ℕ) → AreOffered h m → (l : Literal) → IsThere m.vars l → IsUnset m.lits l → l.var ≢ v →
    IsHeld (without h v) l.var
offered_others h m v offered l there un ne = get_or-set_other h.held v l.var false false ne ∙ offered l there un

pub offered_without : (h : Ranked) (m : Marks) (v : ℕ) (l : Literal) → l.var ≡ v → (IsUnset m.lits l → ⊥) → AreOffered h m → AreOffered (without h v) m
offered_without h m v l e on offered = λ k there un. elim (cases_eq k.var v) [
  | inl same ↦ absurd (on (unset_other m.lits k l (same ∙ sym e) un))
  | inr ne ↦ offered_others h m v offered k there un ne
]

pub fewer_held : (h : Ranked) (v : ℕ) → IsHeld h v → sum_by weight (without h v).held < sum_by weight h.held
fewer_held h v held = elim (cases_lt v (length h.held)) [
  | inl lt ↦
      let now = sum_by-set weight h.held v false false lt in
      let one : weight (get_or h.held v false) ≡ 1 = ap weight held in
      omega arith
  | inr past ↦ absurd (not_both (get_or h.held v false) held (get_or_past h.held v false past))
]

-- a decided literal
pub offered_decided : (h : Ranked) (m : Marks) (l : Literal) → ((k : Literal) → IsThere m.vars k → IsUnset m.lits k → k.var ≢ l.var → IsHeld h k.var) →
    AreOffered h (with_lit (opened m) l 0)
offered_decided h m l others = λ k there un. others k there (off k un.0, off (negate k) un.1) (λ e. apart k e un)
  where
    off : (k : Literal) → has (m.lits ++ l ∷ []) k ≡ false → has m.lits k ≡ false
    off k f = elim (cases_Bool (has m.lits k)) [
      | inl t ↦ absurd (not_both (has (m.lits ++ l ∷ []) k) (push_keeps m.lits l k t) f)
      | inr e ↦ e
    ]

    apart : (k : Literal) → k.var ≡ l.var → IsUnset (m.lits ++ l ∷ []) k → ⊥
    apart k e un = let x = unset_other (m.lits ++ l ∷ []) k l e un in not_both (has (m.lits ++ l ∷ []) l) (has_last m.lits l) x.0

-- a variable that is put back
pub held_more : (h : Ranked) (v w : ℕ) → IsHeld (with_held h v) v → IsHeld h w → IsHeld (with_held h v) w
held_more h v w here held = elim (cases_eq w v) [
  | inl same ↦ subst (λ x. IsHeld (with_held h v) x) (sym same) here
  | inr ne ↦ get_or-set_other h.held v w true false ne ∙ held
]

-- bumping holds and takes out none
pub held_bumped : (h : Ranked) (v w : ℕ) → IsHeld h w → IsHeld (bumped h v) w
held_bumped h v w held = by_test (nat_eq (activity h v) HALVED_AT)
  where
    by_test : (b : Bool) → get_or (cond b (halved h) h).held w false ≡ true
    by_test true = held
    by_test false = held

-- the same of the heap that a call leaves
pub put_held : (h : Ranked) (v w : ℕ) → v ≡ w → IsHeld h v → IsHeld h w
put_held h v w e held = subst (IsHeld h) e held

pub put_more : (h n : Ranked) (v w : ℕ) → n ≡ with_held h v → IsHeld n v → IsHeld h w → IsHeld n w
put_more h n v w e here held = subst (λ (x : Ranked). IsHeld x w) (sym e) (held_more h v w (subst (λ (x : Ranked). IsHeld x v) e here) held)

-- the literals that are undone were put back
pub offered_undone : (h : Ranked) (m : Marks) (level i : ℕ) → IsMarks m → level ≤ length m.cuts →
    (i ≡ 0) ⊎ ((1 ≤ i) × (i ≤ length m.lits) × (get_or m.levels (get_or m.lits (i - 1) (literal 0 true)).var 0 ≤ level)) → AreOffered h m →
    ((j : ℕ) → i ≤ j → j < length m.lits → IsHeld h (get_or m.lits j (literal 0 true)).var) → AreOffered h (undone m level)
offered_undone h m level i marks le cut offered back = λ l there un. elim (cases_set m.lits l) [
  | inl set_ ↦ by_place l un set_
  | inr unset ↦ offered l there unset
]
  where
    cases_set : (ls : List Literal) (l : Literal) → ((k : Literal) × (k.var ≡ l.var) × (has ls k ≡ true)) ⊎ IsUnset ls l
    cases_set ls l = elim (cases_Bool (has ls l)) [
      | inl t ↦ inl (l, refl, t)
      | inr f ↦ elim (cases_Bool (has ls (negate l))) [
        | inl t ↦ inl (negate l, refl, t)
        | inr g ↦ inr (f, g)
      ]
    ]

    early : (j : ℕ) → level_end m level ≤ j → j < length m.lits → i ≤ j
    early j from lt = elim cut [
      | inl z ↦ omega arith
      | inr some ↦
          let one = some.0 in
          let within = some.1 in
          let low = some.2 in
          elim (cases_lt j i) [
            | inl below ↦
                let behind = level_behind m level (i - 1) marks le (omega arith) (omega arith) in
                let here = marks.levels (i - 1) (literal 0 true) (omega arith) in
                absurd (omega arith)
            | inr ge ↦ ge
          ]
    ]

    inside : (j : ℕ) → j < length m.lits → j < level_end m level → j < length (take (level_end m level) m.lits)
    inside j lt front = omega (arith, length-take (level_end m level) m.lits)

    by_place : (l : Literal) → IsUnset (take (level_end m level) m.lits) l → ((k : Literal) × (k.var ≡ l.var) × (has m.lits k ≡ true)) → IsHeld h l.var
    by_place l un set_ =
        let k = set_.0 in
        let c = contains_from_has m.lits k set_.2 in
        let lt = c.1 in
        let is : get_or m.lits c.0 (literal 0 true) ≡ k = get_or_default m.lits c.0 (literal 0 true) k lt ∙ c.2 in
        elim (cases_lt c.0 (level_end m level)) [
          | inl front ↦
              let on : has (take (level_end m level) m.lits) k ≡ true = has_from_contains (take (level_end m level) m.lits) k
              (c.0, inside c.0 lt front, get_or-take (level_end m level) m.lits c.0 k front ∙ c.2) in
              let off = unset_other (take (level_end m level) m.lits) l k (sym set_.1) un in
              absurd (not_both (has (take (level_end m level) m.lits) k) on off.0)
          | inr behind ↦ put_held h (get_or m.lits c.0 (literal 0 true)).var l.var (ap (λ (x : Literal). x.var) is ∙ set_.1) (back c.0 (early c.0 behind lt) lt)
        ]

pub bumped_vars : (h : Ranked) (v : ℕ) → (bumped h v).vars ≡ h.vars
bumped_vars h v = by_test (nat_eq (activity h v) HALVED_AT)
  where
    by_test : (b : Bool) → (cond b (halved h) h).vars ≡ h.vars
    by_test true = refl
    by_test false = refl
