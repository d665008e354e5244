-- The cut, with one more literal and with all of a clause.
use Rattle.std.proofs.Common.{◌≡◌, ℕ, ◌+◌, ◌<◌, ◌≤◌, true, false, zero, suc, take, List, [], ◌∷◌, ◌++◌, length, get_or, set, refl, sym, ◌∙◌, ap, subst, inl}
use Rattle.std.proofs.Common.{inr, arith, length-set}
use Rattle.std.specs.Prelude.{All, Contains}
use Rattle.std.proofs.lemmas.Bool.{both_ways, cases_eq, cases_Bool, eq-eqb, ne_eqb}
use Rattle.std.proofs.lemmas.List.Elements.{All-contains, All-weaker, All-nil, All-cons, All-head, All-tail, All-push, Contains-push, Contains-append_left}
use Rattle.cnf_core.specs.Lit.{Literal, negate, has}
use Rattle.cnf_core.specs.Clause.{AreThere, IsThere, IsNamed}
use Rattle.cnf_core.specs.Propagation.{IsIn}
use Rattle.cnf_core.proofs.PropagationLemmas.{negate-negate}
use Rattle.cdcl_learn.specs.Sight.{Sight, nth, level_of, clauses_in, IsSetAbove, IsSound}
use Rattle.cdcl_learn.specs.Cut.{Cut, is_seen, IsSeen, with_open, with_lower, cut_with, cut_with_all, open_below, IsLower, IsCut, IsReached, IsCovered}
use Rattle.cnf_core.proofs.TrailLemmas.{distinct_push}
use Rattle.cdcl_learn.proofs.LiteralLemmas.{Placed, placed, placed_anywhere, front_in, same_lit}
use Rattle.cdcl_learn.proofs.CountLemmas.{seen_same, seen_keeps, seen_cases, open_same, open_more}

-- what is added, by case
pub record Cases (s : Sight) (w : Cut) (k : Literal) (P : Cut → Type 0) : Type 0 where
  pub old : IsSeen w k.var → P w
  pub root : is_seen w.seen k.var ≡ false → level_of s k ≡ 0 → P w
  pub present : is_seen w.seen k.var ≡ false → (level_of s k ≡ 0 → ⊥) → level_of s k ≡ s.level → P (with_open w k)
  pub lower : is_seen w.seen k.var ≡ false → (level_of s k ≡ 0 → ⊥) → (level_of s k ≡ s.level → ⊥) → P (with_lower w k)

pub added_cases : (s : Sight) (w : Cut) (k : Literal) (P : Cut → Type 0) → Cases s w k P → P (cut_with s w k)
added_cases s w k P c = elim (cases_Bool (is_seen w.seen k.var)) [
  | inl seen ↦ rw seen (c.old seen)
  | inr un ↦ elim (cases_eq (level_of s k) 0) [
    | inl z ↦ rw (un, eq-eqb (level_of s k) 0 z) (c.root un z)
    | inr nz ↦ elim (cases_eq (level_of s k) s.level) [
      | inl e ↦ rw (un, ne_eqb (level_of s k) 0 nz, eq-eqb (level_of s k) s.level e) (c.present un nz e)
      | inr ne ↦ rw (un, ne_eqb (level_of s k) 0 nz, ne_eqb (level_of s k) s.level ne) (c.lower un nz ne)
    ]
  ]
]

lower_more : (s : Sight) (w : Cut) (v : ℕ) (met : List ℕ) (rest : List Literal) (pending : ℕ) (k : Literal) → v < length w.seen → IsLower s w k →
    IsLower s (record { vars = w.vars; seen = set w.seen v true; met = met; rest = rest; pending = pending }) k
lower_more s w v met rest pending k lt l = record { falsified = l.falsified; above = l.above; below = l.below; seen = seen_keeps w.seen v k.var lt l.seen }

module _ (s : Sight) (r : IsSound s) (w : Cut) (end : ℕ) (le : end ≤ length s.lits) (c : IsCut s w end) (k : Literal) (there : IsThere s.vars k)
    (un : is_seen w.seen k.var ≡ false) (front : IsIn (has (take end s.lits)) (negate k)) (named : IsNamed (clauses_in s) k.var) where
  var_within : k.var < length w.seen
  var_within = let t = there.1 in let size = c.size in omega arith

  at : Placed s end (negate k)
  at = placed s end (negate k) le front

  on_trail : IsIn (has s.lits) (negate k)
  on_trail = front_in s end (negate k) front

  now_named : (v : ℕ) → is_seen (set w.seen k.var true) v ≡ true → IsNamed (clauses_in s) v
  now_named v h = elim (seen_cases w.seen k.var v h) [ inl e ↦ subst (IsNamed (clauses_in s)) (sym e) named | inr old ↦ c.named v old ]

  above_zero : (n : ℕ) → (n ≡ 0 → ⊥) → 0 < n
  above_zero zero h = absurd (h refl)
  above_zero (suc n) h = omega arith

  now_above : (level_of s k ≡ 0 → ⊥) → (v : ℕ) → is_seen (set w.seen k.var true) v ≡ true → IsSetAbove s v
  now_above nz v h = elim (seen_cases w.seen k.var v h) [
    | inl e ↦ record {
      lit = negate k;
      var = sym e;
      on = on_trail;
      above = above_zero (level_of s k) nz;
    }
    | inr old ↦ c.above v old
  ]

  pub cut_open : (level_of s k ≡ 0 → ⊥) → level_of s k ≡ s.level → IsCut s (with_open w k) end
  cut_open nz e = record {
    size = length-set w.seen k.var true ∙ c.size;
    lower = All-weaker (IsLower s w) (IsLower s (with_open w k)) (λ m l. lower_more s w k.var (w.met ++ k.var ∷ []) w.rest (w.pending + 1) m var_within l)
        w.rest c.lower;
    all = λ l on seen below. elim (seen_cases w.seen k.var l.var seen) [
      | inl same ↦ let lvl : level_of s l ≡ level_of s k = ap (λ v. get_or s.levels v 0) same in absurd (omega arith)
      | inr old ↦ c.all l on old below
    ];
    distinct = c.distinct;
    count =
        let a = at in
        let is : (nth s a.place).var ≡ k.var = ap (λ (m : Literal). m.var) a.is in
        let lvl : level_of s (nth s a.place) ≡ s.level = ap (λ v. get_or s.levels v 0) is ∙ e in
        let within : (nth s a.place).var < length w.seen = let b = var_within in omega arith in
        let more = open_more s w.seen a.place end r.distinct le a.below lvl (ap (is_seen w.seen) is ∙ un) within in
        let same : open_below s (set w.seen (nth s a.place).var true) end ≡ open_below s (set w.seen k.var true) end = ap
        (λ v. open_below s (set w.seen v true) end) is in
        let old = c.count in
        omega arith;
    named = now_named;
    above = now_above nz;
  }

  pub cut_lower : (level_of s k ≡ 0 → ⊥) → level_of s k < s.level → IsCut s (with_lower w k) end
  cut_lower nz lt = record {
    size = length-set w.seen k.var true ∙ c.size;
    lower = All-push (IsLower s (with_lower w k)) w.rest k
        (All-weaker (IsLower s w) (IsLower s (with_lower w k)) (λ m l. lower_more s w k.var (w.met ++ k.var ∷ []) (w.rest ++ k ∷ []) w.pending m var_within l)
        w.rest c.lower)
        (record { falsified = on_trail; above = above_zero (level_of s k) nz; below = lt; seen = seen_same w.seen k.var var_within });
    all = λ l on seen below. elim (seen_cases w.seen k.var l.var seen) [
      | inl same ↦
          let is : negate k ≡ l = same_lit s (negate k) l r.distinct on_trail on (sym same) in
          let flip : k ≡ negate l = sym (negate-negate k) ∙ ap negate is in
          subst (λ (m : Literal). Contains (w.rest ++ k ∷ []) m) flip (Contains-push w.rest k)
      | inr old ↦ Contains-append_left w.rest (k ∷ []) (negate l) (c.all l on old below)
    ];
    distinct = distinct_push w.rest k c.distinct (λ m among same.
        let l : IsLower s w m = All-contains (IsLower s w) w.rest m c.lower among in
        both_ways (is_seen w.seen k.var) un (ap (is_seen w.seen) (sym same) ∙ l.seen));
    count = c.count ∙ sym (open_same s w.seen k.var end (λ i before same lvl.
        let e : level_of s (nth s i) ≡ level_of s k = ap (λ v. get_or s.levels v 0) same in absurd (omega arith)));
    named = now_named;
    above = now_above nz;
  }

-- one more literal
pub level_limit : (s : Sight) (l : Literal) → IsSound s → IsIn (has s.lits) l → level_of s l ≤ s.level
level_limit s l r on = let p = placed_anywhere s l on in subst (λ (m : Literal). level_of s m ≤ s.level) p.is (r.present p.place p.within)

pub cut_added : (s : Sight) → IsSound s → (w : Cut) (end : ℕ) → end ≤ length s.lits → (k : Literal) → IsThere s.vars k → IsNamed (clauses_in s) k.var →
    IsReached s w end k → IsCut s w end → IsCut s (cut_with s w k) end
cut_added s r w end le k there named reached c = added_cases s w k (λ x. IsCut s x end) (record {
  old = λ _. c;
  root = λ _ _. c;
  present = λ un nz e. cut_open s r w end le c k there un (front un) named nz e;
  lower = λ un nz ne. cut_lower s r w end le c k there un (front un) named nz (below (level_of s k) s.level
      (level_limit s (negate k) r (front_in s end (negate k) (front un))) ne);
})
  where
    front : is_seen w.seen k.var ≡ false → IsIn (has (take end s.lits)) (negate k)
    front un = elim reached [ inl seen ↦ absurd (both_ways (is_seen w.seen k.var) un seen) | inr f ↦ f ]

    below : (a b : ℕ) → a ≤ b → (a ≡ b → ⊥) → a < b
    below a b le ne = elim (cases_eq a b) [ inl e ↦ absurd (ne e) | inr _ ↦ omega arith ]

-- what was seen stays so, and the literal is of level 0 or seen
pub added_size : (s : Sight) (w : Cut) (k : Literal) → length (cut_with s w k).seen ≡ length w.seen
added_size s w k = added_cases s w k (λ x. length x.seen ≡ length w.seen) (record {
  old = λ _. refl;
  root = λ _ _. refl;
  present = λ _ _ _. length-set w.seen k.var true;
  lower = λ _ _ _. length-set w.seen k.var true;
})

pub added_keeps : (s : Sight) (w : Cut) (k : Literal) (v : ℕ) → k.var < length w.seen → IsSeen w v → IsSeen (cut_with s w k) v
added_keeps s w k v lt h = added_cases s w k (λ x. IsSeen x v) (record {
  old = λ _. h;
  root = λ _ _. h;
  present = λ _ _ _. seen_keeps w.seen k.var v lt h;
  lower = λ _ _ _. seen_keeps w.seen k.var v lt h;
})

pub added_covers : (s : Sight) (w : Cut) (k : Literal) → k.var < length w.seen → IsCovered s (cut_with s w k) k
added_covers s w k lt = added_cases s w k (λ x. IsCovered s x k) (record {
  old = λ h. inr h;
  root = λ _ z. inl z;
  present = λ _ _ _. inr (seen_same w.seen k.var lt);
  lower = λ _ _ _. inr (seen_same w.seen k.var lt);
})

-- all literals of a clause
pub gathered_keeps : (s : Sight) (w : Cut) (ks : List Literal) (v : ℕ) → AreThere s.vars ks → length w.seen ≡ s.vars + 1 → IsSeen w v →
    IsSeen (cut_with_all s w ks) v
gathered_keeps s w [] v there size h = h
gathered_keeps s w (k ∷ ks) v there size h = let t = there.0.1 in gathered_keeps s (cut_with s w k) ks v there.1
    (added_size s w k ∙ size) (added_keeps s w k v (omega arith) h)

pub gathered_covers : (s : Sight) (w : Cut) (ks : List Literal) → AreThere s.vars ks → length w.seen ≡ s.vars + 1 → All (IsCovered s (cut_with_all s w ks)) ks
gathered_covers s w [] there size = All-nil (IsCovered s w)
gathered_covers s w (k ∷ ks) there size =
    let t = there.0.1 in
    let size2 = added_size s w k ∙ size in
    All-cons (IsCovered s (cut_with_all s (cut_with s w k) ks)) k ks
    (elim (added_covers s w k (omega arith)) [ inl z ↦ inl z | inr h ↦ inr (gathered_keeps s (cut_with s w k) ks k.var there.1 size2 h) ])
    (gathered_covers s (cut_with s w k) ks there.1 size2)

pub cut_gathered : (s : Sight) → IsSound s → (w : Cut) (end : ℕ) → end ≤ length s.lits → (ks : List Literal) → AreThere s.vars ks →
    All (λ k. IsNamed (clauses_in s) k.var) ks → All (IsReached s w end) ks → IsCut s w end → IsCut s (cut_with_all s w ks) end
cut_gathered s r w end le [] there named reached c = c
cut_gathered s r w end le (k ∷ ks) there named reached c =
    let t = there.0.1 in
    let size = c.size in
    let names : All (λ m. IsNamed (clauses_in s) m.var) ks = All-tail (λ m. IsNamed (clauses_in s) m.var) k ks named in
    cut_gathered s r (cut_with s w k) end le ks there.1 names
    (All-weaker (IsReached s w end) (IsReached s (cut_with s w k) end) (λ m h. elim h
    [ inl seen ↦ inl (added_keeps s w k m.var (omega arith) seen) | inr f ↦ inr f ]) ks (All-tail (IsReached s w end) k ks reached))
    (cut_added s r w end le k there.0 (All-head (λ m. IsNamed (clauses_in s) m.var) k ks named) (All-head (IsReached s w end) k ks reached) c)

pub added_vars : (s : Sight) (w : Cut) (k : Literal) → (cut_with s w k).vars ≡ w.vars
added_vars s w k = added_cases s w k (λ x. x.vars ≡ w.vars) (record { old = λ _. refl; root = λ _ _. refl; present = λ _ _ _. refl; lower = λ _ _ _. refl })
