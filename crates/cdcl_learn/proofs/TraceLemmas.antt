-- Tracing a false literal back, or a clause that is false.
use Rattle.std.proofs.Common.{◌≡◌, ℕ, ◌+◌, ◌<◌, ◌≤◌, ◌⊎◌, Bool, true, false, cond, zero, suc, take, drop, List, [], ◌∷◌, ◌++◌, length, get_or, refl, sym, ◌∙◌}
use Rattle.std.proofs.Common.{ap, subst, inl, inr, arith, append_assoc, length-set}
use Rattle.std.specs.Prelude.{All, Contains}
use Rattle.std.proofs.lemmas.Bool.{both_ways, cases_eq, cases_lt, cases_Bool, eq-eqb, ne_eqb}
use Rattle.std.proofs.lemmas.List.{take_all, drop_more}
use Rattle.std.proofs.lemmas.List.Elements.{All-contains, All-contains_itself, All-weaker, All-nil, All-cons, All-head, All-tail, All-push, Contains-push}
use Rattle.std.proofs.lemmas.List.Elements.{Contains-append_left, Contains-append_right, Contains-append_cases}
use Rattle.cnf_core.specs.Lit.{Literal, negate, has}
use Rattle.cnf_core.specs.Clause.{AreDistinct, AreThere, IsThere}
use Rattle.cnf_core.specs.Propagation.{IsIn, Closure, Falsifies, negations, Rup}
use Rattle.cnf_core.proofs.PropagationLemmas.{negate-negate, contains_from_has, has_from_contains, closure_start, closure_unit, falsifies_again, contains_first}
use Rattle.cdcl_learn.specs.Sight.{Sight, nth, level_of, reason_of, clause_in, clauses_in, IsReasonAt, IsSound, roots, known}
use Rattle.cdcl_learn.specs.Cut.{Cut, is_seen, IsSeen, IsBlank, with_open, with_lower, working, IsCovered}
use Rattle.cdcl_learn.specs.Trace.{trace_with, trace_with_all, IsDecision, IsTrace, tracing, IsTracing, IsTraced, HasDecisions}
use Rattle.cnf_core.proofs.TrailLemmas.{distinct_push}
use Rattle.cdcl_learn.proofs.LiteralLemmas.{placed, placed_anywhere, in_front, front_in, stands, same_lit}
use Rattle.cdcl_learn.proofs.CountLemmas.{seen_same, seen_keeps, seen_cases}
use Rattle.cdcl_learn.proofs.RupLemmas.{root_follows, root_rup, in_working, from_working, text_among, clause_there}

pub record Cases (s : Sight) (w : Cut) (k : Literal) (P : Cut → Type 0) : Type 0 where
  pub old : IsSeen w k.var → P w
  pub root : is_seen w.seen k.var ≡ false → level_of s k ≡ 0 → P w
  pub lower : is_seen w.seen k.var ≡ false → (level_of s k ≡ 0 → ⊥) → reason_of s k ≡ 0 → P (with_lower w k)
  pub open_ : is_seen w.seen k.var ≡ false → (level_of s k ≡ 0 → ⊥) → (reason_of s k ≡ 0 → ⊥) → P (with_open w k)

pub touched_cases : (s : Sight) (w : Cut) (k : Literal) (P : Cut → Type 0) → Cases s w k P → P (trace_with s w k)
touched_cases s w k P c = elim (cases_Bool (is_seen w.seen k.var)) [
  | inl seen ↦ rw seen (c.old seen)
  | inr un ↦ elim (cases_eq (level_of s k) 0) [
    | inl z ↦ rw (un, eq-eqb (level_of s k) 0 z) (c.root un z)
    | inr nz ↦ elim (cases_eq (reason_of s k) 0) [
      | inl e ↦ rw (un, ne_eqb (level_of s k) 0 nz, eq-eqb (reason_of s k) 0 e) (c.lower un nz e)
      | inr ne ↦ rw (un, ne_eqb (level_of s k) 0 nz, ne_eqb (reason_of s k) 0 ne) (c.open_ un nz ne)
    ]
  ]
]

pub touched_size : (s : Sight) (w : Cut) (k : Literal) → length (trace_with s w k).seen ≡ length w.seen
touched_size s w k = touched_cases s w k (λ x. length x.seen ≡ length w.seen) (record {
  old = λ _. refl;
  root = λ _ _. refl;
  lower = λ _ _ _. length-set w.seen k.var true;
  open_ = λ _ _ _. length-set w.seen k.var true;
})

pub touched_vars : (s : Sight) (w : Cut) (k : Literal) → (trace_with s w k).vars ≡ w.vars
touched_vars s w k = touched_cases s w k (λ x. x.vars ≡ w.vars) (record { old = λ _. refl; root = λ _ _. refl; lower = λ _ _ _. refl; open_ = λ _ _ _. refl })

touched_keeps : (s : Sight) (w : Cut) (k : Literal) (v : ℕ) → k.var < length w.seen → IsSeen w v → IsSeen (trace_with s w k) v
touched_keeps s w k v lt h = touched_cases s w k (λ x. IsSeen x v) (record {
  old = λ _. h;
  root = λ _ _. h;
  lower = λ _ _ _. seen_keeps w.seen k.var v lt h;
  open_ = λ _ _ _. seen_keeps w.seen k.var v lt h;
})

touched_rest : (s : Sight) (w : Cut) (k m : Literal) → Contains w.rest m → Contains (trace_with s w k).rest m
touched_rest s w k m h = touched_cases s w k (λ x. Contains x.rest m) (record {
  old = λ _. h;
  root = λ _ _. h;
  lower = λ _ _ _. Contains-append_left w.rest (k ∷ []) m h;
  open_ = λ _ _ _. h;
})

touched_covers : (s : Sight) (w : Cut) (k : Literal) → k.var < length w.seen → IsCovered s (trace_with s w k) k
touched_covers s w k lt = touched_cases s w k (λ x. IsCovered s x k) (record {
  old = λ h. inr h;
  root = λ _ z. inl z;
  lower = λ _ _ _. inr (seen_same w.seen k.var lt);
  open_ = λ _ _ _. inr (seen_same w.seen k.var lt);
})

above_zero : (n : ℕ) → (n ≡ 0 → ⊥) → 0 < n
above_zero n h = elim (cases_lt 0 n) [ inl lt ↦ lt | inr le ↦ absurd (h (omega arith)) ]

trace_touched : (s : Sight) → IsSound s → (w : Cut) (ahead : List Literal) (k : Literal) → IsThere s.vars k → (IsSeen w k.var ⊎ IsIn (has s.lits) (negate k)) →
    IsTrace s w ahead → IsTrace s (trace_with s w k) ahead
trace_touched s r w ahead k there reached t =
    let size = t.size in
    let le = there.1 in
    let lt : k.var < length w.seen = omega arith in
    touched_cases s w k (λ x. IsTrace s x ahead) (record {
      old = λ _. t;
      root = λ _ _. t;
      lower = λ un nz e. record {
        size = length-set w.seen k.var true ∙ t.size;
        decisions = All-push (IsDecision s) w.rest k t.decisions (record { falsified = on un; above = above_zero (level_of s k) nz; decided = e });
        marks = subst (All (λ m. IsSeen (with_lower w k) m.var)) (append_assoc ahead w.rest (k ∷ []))
            (All-push (λ m. IsSeen (with_lower w k) m.var) (ahead ++ w.rest) k (All-weaker (λ m. IsSeen w m.var) (λ m. IsSeen (with_lower w k) m.var)
            (λ m h. seen_keeps w.seen k.var m.var lt h) (ahead ++ w.rest) t.marks) (seen_same w.seen k.var lt));
        all = λ m onm seen dec. elim (seen_cases w.seen k.var m.var seen) [
          | inl same ↦
              let is : negate k ≡ m = same_lit s (negate k) m r.distinct (on un) onm (sym same) in
              let flip : k ≡ negate m = sym (negate-negate k) ∙ ap negate is in
              subst (λ (x : Literal). Contains (w.rest ++ k ∷ []) x) flip (Contains-push w.rest k)
          | inr old ↦ Contains-append_left w.rest (k ∷ []) (negate m) (t.all m onm old dec)
        ];
        distinct = subst AreDistinct (append_assoc ahead w.rest (k ∷ [])) (distinct_push (ahead ++ w.rest) k t.distinct
            (λ m among same. both_ways (is_seen w.seen k.var) un (ap (is_seen w.seen) (sym same)
            ∙ All-contains (λ x. IsSeen w x.var) (ahead ++ w.rest) m t.marks among)));
      };
      open_ = λ un nz ne. record {
        size = length-set w.seen k.var true ∙ t.size;
        decisions = t.decisions;
        marks = All-weaker (λ m. IsSeen w m.var) (λ m. IsSeen (with_open w k) m.var) (λ m h. seen_keeps w.seen k.var m.var lt h) (ahead ++ w.rest) t.marks;
        all = λ m onm seen dec. elim (seen_cases w.seen k.var m.var seen) [
          | inl same ↦ absurd (ne (ap (λ v. get_or s.reasons v 0) (sym same) ∙ dec))
          | inr old ↦ t.all m onm old dec
        ];
        distinct = t.distinct;
      };
    })
  where
    on : is_seen w.seen k.var ≡ false → IsIn (has s.lits) (negate k)
    on un = elim reached [ inl seen ↦ absurd (both_ways (is_seen w.seen k.var) un seen) | inr h ↦ h ]

-- all of a clause
pub all_keeps : (s : Sight) (w : Cut) (ks : List Literal) (v : ℕ) → AreThere s.vars ks → length w.seen ≡ s.vars + 1 → IsSeen w v →
    IsSeen (trace_with_all s w ks) v
all_keeps s w [] v there size h = h
all_keeps s w (k ∷ ks) v there size h = let t = there.0.1 in all_keeps s (trace_with s w k) ks v there.1
    (touched_size s w k ∙ size) (touched_keeps s w k v (omega arith) h)

pub all_rest : (s : Sight) (w : Cut) (ks : List Literal) (m : Literal) → Contains w.rest m → Contains (trace_with_all s w ks).rest m
all_rest s w [] m h = h
all_rest s w (k ∷ ks) m h = all_rest s (trace_with s w k) ks m (touched_rest s w k m h)

pub all_covers : (s : Sight) (w : Cut) (ks : List Literal) → AreThere s.vars ks → length w.seen ≡ s.vars + 1 → All (IsCovered s (trace_with_all s w ks)) ks
all_covers s w [] there size = All-nil (IsCovered s w)
all_covers s w (k ∷ ks) there size =
    let t = there.0.1 in
    let size2 = touched_size s w k ∙ size in
    All-cons (IsCovered s (trace_with_all s (trace_with s w k) ks)) k ks
    (elim (touched_covers s w k (omega arith)) [ inl z ↦ inl z | inr h ↦ inr (all_keeps s (trace_with s w k) ks k.var there.1 size2 h) ])
    (all_covers s (trace_with s w k) ks there.1 size2)

pub trace_all : (s : Sight) → IsSound s → (w : Cut) (ahead : List Literal) (ks : List Literal) → AreThere s.vars ks →
    All (λ k. IsSeen w k.var ⊎ IsIn (has s.lits) (negate k)) ks → IsTrace s w ahead → IsTrace s (trace_with_all s w ks) ahead
trace_all s r w ahead [] there reached t = t
trace_all s r w ahead (k ∷ ks) there reached t =
    let le = there.0.1 in
    let size = t.size in
    trace_all s r (trace_with s w k) ahead ks there.1
    (All-weaker (λ m. IsSeen w m.var ⊎ IsIn (has s.lits) (negate m)) (λ m. IsSeen (trace_with s w k) m.var ⊎ IsIn (has s.lits) (negate m))
    (λ m h. elim h [ inl seen ↦ inl (touched_keeps s w k m.var (omega arith) seen) | inr f ↦ inr f ]) ks
    (All-tail (λ m. IsSeen w m.var ⊎ IsIn (has s.lits) (negate m)) k ks reached))
    (trace_touched s r w ahead k there.0 (All-head (λ m. IsSeen w m.var ⊎ IsIn (has s.lits) (negate m)) k ks reached) t)

-- what follows
in_negations : (s : Sight) (w : Cut) (ahead : List Literal) (end : ℕ) (x : Literal) → Contains (ahead ++ w.rest) (negate x) → IsIn (tracing s w ahead end) x
in_negations s w ahead end x c = rw (has_from_contains (ahead ++ w.rest) (negate x) c) refl

in_seen : (s : Sight) (w : Cut) (ahead : List Literal) (end : ℕ) (x : Literal) → IsIn (working s w end) x → IsIn (tracing s w ahead end) x
in_seen s w ahead end x h = either (negations (ahead ++ w.rest) x) (working s w end x) h
  where
    either : (a b : Bool) → b ≡ true → cond a true b ≡ true
    either true b h = refl
    either false b h = h

traced_cases : (s : Sight) (w : Cut) (ahead : List Literal) (end : ℕ) (x : Literal) → IsIn (tracing s w ahead end) x →
    (Contains (ahead ++ w.rest) (negate x)) ⊎ (IsIn (working s w end) x)
traced_cases s w ahead end x h = elim (cases_Bool (has (ahead ++ w.rest) (negate x))) [
  | inl t ↦ inl (contains_from_has (ahead ++ w.rest) (negate x) t)
  | inr f ↦ inr (other (has (ahead ++ w.rest) (negate x)) (working s w end x) f h)
]
  where
    other : (a b : Bool) → a ≡ false → cond a true b ≡ true → b ≡ true
    other true b f h = cc
    other false b f h = h

covered_traced : (s : Sight) (w : Cut) (ahead : List Literal) (end : ℕ) (k : Literal) → IsIn (has (take end s.lits)) (negate k) → IsCovered s w k →
    Closure (known s) (tracing s w ahead end) (negate k)
covered_traced s w ahead end k front covered = elim covered [
  | inl z ↦ root_follows s (tracing s w ahead end) (negate k) (front_in s end (negate k) front) z
  | inr seen ↦ closure_start (known s) (tracing s w ahead end) (negate k) (in_seen s w ahead end (negate k) (in_working s w end (negate k) front seen))
]

rest_more : (ahead old now : List Literal) (x : Literal) → ((m : Literal) → Contains old m → Contains now m) → Contains (ahead ++ old) x →
    Contains (ahead ++ now) x
rest_more ahead old now x f c = elim (Contains-append_cases ahead old x c) [
  | inl a ↦ Contains-append_left ahead now x a
  | inr b ↦ Contains-append_right ahead
      now x (f x b)
]

-- one place of the walk
trup_step : (s : Sight) (w new : Cut) (ahead : List Literal) (i : ℕ) → i < length s.lits → ((v : ℕ) → IsSeen w v → IsSeen new v) →
    ((m : Literal) → Contains w.rest m → Contains new.rest m) → (IsSeen w (nth s i).var → Closure (known s) (tracing s new ahead i) (nth s i)) →
    Falsifies (known s) (tracing s w ahead (i + 1)) → Falsifies (known s) (tracing s new ahead i)
trup_step s w new ahead i lt keeps rest here f = falsifies_again (known s) (tracing s new ahead i) (tracing s w ahead (i + 1))
    (λ x h. elim (traced_cases s w ahead (i + 1) x h) [
      | inl c ↦ closure_start (known s) (tracing s new ahead i) x (in_negations s new ahead i x (rest_more ahead w.rest new.rest (negate x) rest c))
      | inr m ↦
          let parts = from_working s w (i + 1) x m in
          let p = placed s (i + 1) x (omega arith) parts.0 in
          elim (cases_lt p.place i) [
            | inl front ↦ closure_start (known s) (tracing s new ahead i) x (in_seen s new ahead i x
                (in_working s new i x (subst (λ (y : Literal). IsIn (has (take i s.lits)) y) p.is (in_front s i p.place front (omega arith)))
                (keeps x.var parts.1)))
            | inr behind ↦
                let below = p.below in
                let same : i ≡ p.place = omega arith in
                let is : nth s i ≡ x = ap (nth s) same ∙ p.is in
                subst (λ (y : Literal). Closure (known s) (tracing s new ahead i) y) is (here (ap (λ (y : Literal). is_seen w.seen y.var) is ∙ parts.1))
          ]
    ]) f

clause_reached : (s : Sight) (w : Cut) (i n : ℕ) → IsSeen w (nth s i).var → IsReasonAt s i n →
    All (λ k. IsSeen w k.var ⊎ IsIn (has s.lits) (negate k)) (clause_in s n)
clause_reached s w i n seen reason =
    let unit = reason.unit in
    All-weaker (λ k. (k ≡ nth s i) ⊎ IsIn (has (take i s.lits)) (negate k)) (λ k. IsSeen w k.var ⊎ IsIn (has s.lits) (negate k))
    (λ k h. elim h [ inl e ↦ inl (ap (λ (y : Literal). is_seen w.seen y.var) e ∙ seen) | inr f ↦ inr (front_in s i (negate k) f) ]) (clause_in s n) unit.others

reason_covers : (s : Sight) (w : Cut) (ahead : List Literal) (i n : ℕ) → IsReasonAt s i n → All (IsCovered s w) (clause_in s n) →
    All (λ k. (k ≡ nth s i) ⊎ Closure (known s) (tracing s w ahead i) (negate k)) (clause_in s n)
reason_covers s w ahead i n reason covered =
    let unit = reason.unit in
    All-weaker (Contains (clause_in s n)) (λ k. (k ≡ nth s i) ⊎ Closure (known s) (tracing s w ahead i) (negate k)) (λ k inside.
    elim (All-contains (λ m. (m ≡ nth s i) ⊎ IsIn (has (take i s.lits)) (negate m)) (clause_in s n) k unit.others inside) [
      | inl e ↦ inl e
      | inr front ↦ inr (covered_traced s w ahead i k front (All-contains (IsCovered s w) (clause_in s n) k covered inside))
    ]) (clause_in s n) (All-contains_itself (clause_in s n))

pub step_unseen : (s : Sight) (w : Cut) (ahead : List Literal) (i : ℕ) → IsTracing s w ahead (i + 1) → is_seen w.seen (nth s i).var ≡ false →
    IsTracing s w ahead i
step_unseen s w ahead i t un =
    let within = t.within in
    record {
      trace = t.trace;
      within = omega arith;
      rup = trup_step s w w ahead i (omega arith) (λ v h. h) (λ m h. h)
          (λ seen. absurd (both_ways (is_seen w.seen (nth s i).var) un seen)) t.rup;
    }

pub step_decided : (s : Sight) (w : Cut) (ahead : List Literal) (i : ℕ) → IsTracing s w ahead (i + 1) → reason_of s (nth s i) ≡ 0 → IsTracing s w ahead i
step_decided s w ahead i t none =
    let within = t.within in
    let trace = t.trace in
    record {
      trace = t.trace;
      within = omega arith;
      rup = trup_step s w w ahead i (omega arith) (λ v h. h) (λ m h. h) (λ seen. closure_start (known s) (tracing s w ahead i) (nth s i)
          (in_negations s w ahead i (nth s i)
          (Contains-append_right ahead w.rest (negate (nth s i)) (trace.all (nth s i) (has_from_contains s.lits (nth s i) (stands s i (omega arith))) seen
          none)))) t.rup;
    }

pub step_resolved : (s : Sight) (w : Cut) (ahead : List Literal) (i n : ℕ) → IsSound s → IsTracing s w ahead (i + 1) → IsSeen w (nth s i).var →
    IsReasonAt s i n → IsTracing s (trace_with_all s w (clause_in s n)) ahead i
step_resolved s w ahead i n r t seen reason =
    let within = t.within in
    let trace = t.trace in
    let unit = reason.unit in
    let there = clause_there s n r reason.place in
    record {
      trace = trace_all s r w ahead (clause_in s n) there (clause_reached s w i n seen reason) t.trace;
      within = omega arith;
      rup = trup_step s w (trace_with_all s w (clause_in s n)) ahead i (omega arith) (λ v h. all_keeps s w (clause_in s n) v there trace.size h)
          (all_rest s w (clause_in s n)) (λ _.
          closure_unit (known s) (tracing s (trace_with_all s w (clause_in s n)) ahead i) (clause_in s n) (nth s i)
          (Contains-append_left (clauses_in s) (roots s s.lits) (clause_in s n) (text_among s n reason.place)) unit.among
          (reason_covers s (trace_with_all s w (clause_in s n)) ahead i n reason (all_covers s w (clause_in s n) there trace.size))) t.rup;
    }

-- at first: the reason of the negation
pub trace_begin : (s : Sight) (w : Cut) (l : Literal) → length w.seen ≡ s.vars + 1 → l.var ≤ s.vars → IsBlank w → w.rest ≡ [] → (reason_of s l ≡ 0 → ⊥) →
    IsTrace s (with_open w l) (negate l ∷ [])
trace_begin s w l size le blank none has_one = record {
  size = length-set w.seen l.var true ∙ size;
  decisions = subst (λ (ls : List Literal). All (IsDecision s) ls) (sym none) (All-nil (IsDecision s));
  marks = All-cons (λ k. IsSeen (with_open w l) k.var) (negate l) w.rest (seen_same w.seen l.var (omega arith))
      (subst (λ (ls : List Literal). All (λ k. IsSeen (with_open w l) k.var) ls) (sym none) (All-nil (λ k. IsSeen (with_open w l) k.var)));
  all = λ k on seen dec. elim (seen_cases w.seen l.var k.var seen) [
    | inl same ↦ absurd (has_one (ap (λ v. get_or s.reasons v 0) (sym same) ∙ dec))
    | inr old ↦ absurd (both_ways (is_seen w.seen k.var) (blank k.var) old)
  ];
  distinct = subst (λ (ls : List Literal). AreDistinct (negate l ∷ ls)) (sym none) (tt, tt);
}

pub tracing_begin : (s : Sight) (w : Cut) (l : Literal) (n : ℕ) → IsSound s → IsTrace s w (negate l ∷ []) → IsIn (has s.lits) (negate l) → reason_of s l ≡ n →
    1 ≤ n → IsTracing s (trace_with_all s w (clause_in s n)) (negate l ∷ []) (length s.lits)
tracing_begin s w l n r trace on e some =
    let p = placed_anywhere s (negate l) on in
    let reason : IsReasonAt s p.place n = r.reason p.place n p.within (ap (reason_of s) p.is ∙ e) some in
    let there = clause_there s n r reason.place in
    let unit = reason.unit in
    let new = trace_with_all s w (clause_in s n) in
    let covered = all_covers s w (clause_in s n) there trace.size in
    record {
      trace = trace_all s r w (negate l ∷ []) (clause_in s n) there (clause_reached s w p.place n
          (ap (λ (y : Literal). is_seen w.seen y.var) p.is ∙ All-head (λ k. IsSeen w k.var) (negate l) w.rest trace.marks) reason) trace;
      within = omega arith;
      rup = record {
        clause = clause_in s n;
        among = Contains-append_left (clauses_in s) (roots s s.lits) (clause_in s n) (text_among s n reason.place);
        each = All-weaker (Contains (clause_in s n)) (λ k. Closure (known s) (tracing s (trace_with_all s w (clause_in s n)) (negate l ∷ []) (length s.lits))
            (negate k)) (λ k inside.
            elim (All-contains (λ m. (m ≡ nth s p.place) ⊎ IsIn (has (take p.place s.lits)) (negate m)) (clause_in s n) k unit.others inside) [
              | inl same ↦
                  let is : negate l ≡ k = sym (same ∙ p.is) in
                  closure_start (known s) (tracing s (trace_with_all s w (clause_in s n)) (negate l ∷ []) (length s.lits)) (negate k)
                  (in_negations s (trace_with_all s w (clause_in s n)) (negate l ∷ []) (length s.lits) (negate k)
                  (subst (λ (m : Literal). Contains (negate l ∷ (trace_with_all s w (clause_in s n)).rest) m) (is ∙ sym (negate-negate k))
                  (contains_first (negate l) (trace_with_all s w (clause_in s n)).rest)))
              | inr front ↦ covered_traced s (trace_with_all s w (clause_in s n)) (negate l ∷ []) (length s.lits) k
                  (ap (λ (ls : List Literal). has ls (negate k)) (take_all (length s.lits) s.lits (omega arith)) ∙ front_in s p.place (negate k) front)
                  (All-contains (IsCovered s (trace_with_all s w (clause_in s n))) (clause_in s n) k covered inside)
            ]) (clause_in s n) (All-contains_itself (clause_in s n));
      };
    }

-- at first: a clause that is false
pub clash_begin : (s : Sight) (w : Cut) → length w.seen ≡ s.vars + 1 → IsBlank w → w.rest ≡ [] → IsTrace s w []
clash_begin s w size blank none = record {
  size = size;
  decisions = subst (λ (ls : List Literal). All (IsDecision s) ls) (sym none) (All-nil (IsDecision s));
  marks = subst (λ (ls : List Literal). All (λ k. IsSeen w k.var) ls) (sym none) (All-nil (λ k. IsSeen w k.var));
  all = λ k on seen dec. absurd (both_ways (is_seen w.seen k.var) (blank k.var) seen);
  distinct = subst AreDistinct (sym none) tt;
}

pub tracing_clash : (s : Sight) (w : Cut) (n : ℕ) → IsSound s → IsTrace s w [] → Contains s.places n → All (λ k. IsIn (has s.lits) (negate k)) (clause_in s n) →
    IsTracing s (trace_with_all s w (clause_in s n)) [] (length s.lits)
tracing_clash s w n r trace place falsified =
    let there = clause_there s n r place in
    let new = trace_with_all s w (clause_in s n) in
    let covered = all_covers s w (clause_in s n) there trace.size in
    record {
      trace = trace_all s r w [] (clause_in s n) there (All-weaker (λ k. IsIn (has s.lits) (negate k)) (λ k. IsSeen w k.var ⊎ IsIn (has s.lits) (negate k))
          (λ k h. inr h) (clause_in s n) falsified) trace;
      within = omega arith;
      rup = record {
        clause = clause_in s n;
        among = Contains-append_left (clauses_in s) (roots s s.lits) (clause_in s n) (text_among s n place);
        each = All-weaker (Contains (clause_in s n)) (λ k. Closure (known s) (tracing s new [] (length s.lits)) (negate k)) (λ k inside.
            covered_traced s new [] (length s.lits) k (ap (λ (ls : List Literal). has ls (negate k)) (take_all (length s.lits) s.lits (omega arith))
            ∙ All-contains (λ m. IsIn (has s.lits) (negate m)) (clause_in s n) k falsified inside)
            (All-contains (IsCovered s new) (clause_in s n) k covered inside)) (clause_in s n) (All-contains_itself (clause_in s n));
      };
    }

-- at last
pub traced : (s : Sight) (w : Cut) (ahead : List Literal) → IsTracing s w ahead 0 → IsTraced s ahead w.rest
traced s w ahead t =
    let trace = t.trace in
    record {
      distinct = trace.distinct;
      decisions = trace.decisions;
      rup = falsifies_again (known s) (negations (ahead ++ w.rest)) (tracing s w ahead 0)
          (λ x h. closure_start (known s) (negations (ahead ++ w.rest)) x (elim (traced_cases s w ahead 0 x h) [
            | inl c ↦ has_from_contains (ahead ++ w.rest) (negate x) c
            | inr m ↦ let p = placed s 0 x (omega arith) (from_working s w 0 x m).0 in let b = p.below in absurd (omega arith)
          ])) t.rup;
    }

-- false at level 0
pub traced_root : (s : Sight) (l : Literal) (rest : List Literal) → IsIn (has s.lits) (negate l) → level_of s l ≡ 0 → rest ≡ [] →
    IsTraced s (negate l ∷ []) rest
traced_root s l rest on z none = subst (λ (ls : List Literal). IsTraced s (negate l ∷ []) ls) (sym none) (record {
  distinct = (tt, tt);
  decisions = All-nil (IsDecision s);
  rup = root_rup s (negate l) on z;
})

pub touched_step : (s : Sight) (w : Cut) (c : List Literal) (i : ℕ) (k : Literal) → i < length c → get_or c i k ≡ k →
    trace_with_all s (trace_with s w k) (drop (i + 1) c) ≡ trace_with_all s w (drop i c)
touched_step s w c i k lt e =
    let at : drop i c ≡ k ∷ drop (i + 1) c = drop_more c i k lt ∙ ap (λ (m : Literal). m ∷ drop (i + 1) c) (e) in
    sym (ap (trace_with_all s w) at)

pub place_from_reason : (s : Sight) (l : Literal) (v n : ℕ) → IsSound s → IsIn (has s.lits) (negate l) → v ≡ l.var → get_or s.reasons v 0 ≡ n →
    1 ≤ get_or s.reasons v 0 → Contains s.places n
place_from_reason s l v n r on var e some =
    let p = placed_anywhere s (negate l) on in
    let h : IsReasonAt s p.place n = r.reason p.place n p.within (ap (reason_of s) p.is ∙ ap (λ x. get_or s.reasons x 0) (sym var)
    ∙ e) (subst (λ m. 1 ≤ m) e some) in
    h.place

-- every literal of the trail follows from those that were decided
pub trail_follows : (s : Sight) → IsSound s → (c : List Literal) → HasDecisions s c → (n i : ℕ) → i < n → i < length s.lits →
    Closure (known s) (negations c) (nth s i)
trail_follows s r c all zero i lt within = absurd (omega arith)
trail_follows s r c all (suc n) i lt within =
    let on : IsIn (has s.lits) (nth s i) = has_from_contains s.lits (nth s i) (stands s i within) in
    elim (cases_eq (level_of s (nth s i)) 0) [
      | inl z ↦ root_follows s (negations c) (nth s i) on z
      | inr nz ↦ elim (cases_eq (reason_of s (nth s i)) 0) [
        | inl none ↦ closure_start (known s) (negations c) (nth s i) (has_from_contains c (negate (nth s i))
            (all (nth s i) on none (above_zero (level_of s (nth s i)) nz)))
        | inr some ↦
            let above = above_zero (reason_of s (nth s i)) some in
            let h : IsReasonAt s i (reason_of s (nth s i)) = r.reason i (reason_of s (nth s i)) within refl above in
            let unit = h.unit in
            closure_unit (known s) (negations c) (clause_in s (reason_of s (nth s i))) (nth s i)
            (Contains-append_left (clauses_in s) (roots s s.lits) (clause_in s (reason_of s (nth s i))) (text_among s (reason_of s (nth s i)) h.place))
            unit.among
            (All-weaker (λ k. (k ≡ nth s i) ⊎ IsIn (has (take i s.lits)) (negate k)) (λ k. (k ≡ nth s i) ⊎ Closure (known s) (negations c) (negate k))
            (λ k o. elim o [
              | inl e ↦ inl e
              | inr front ↦
                  let p = placed s i (negate k) (omega arith) front in
                  let before = p.below in
                  inr (subst (λ (x : Literal). Closure (known s) (negations c) x) p.is (trail_follows s r c all n p.place (omega arith) p.within))
            ]) (clause_in s (reason_of s (nth s i))) unit.others)
      ]
    ]

-- a clause is falsified: the negations of the decided literals are a clause that follows
pub decisions_rup : (s : Sight) → IsSound s → (c : List Literal) → HasDecisions s c → (n : ℕ) → Contains s.places n →
    All (λ k. IsIn (has s.lits) (negate k)) (clause_in s n) → Rup (known s) c
decisions_rup s r c all n lt clash = record {
  clause = clause_in s n;
  among = Contains-append_left (clauses_in s) (roots s s.lits) (clause_in s n) (text_among s n lt);
  each = All-weaker (λ k. IsIn (has s.lits) (negate k)) (λ k. Closure (known s) (negations c) (negate k)) (λ k on.
      let p = placed_anywhere s (negate k) on in
      subst (λ (x : Literal). Closure (known s) (negations c) x) p.is (trail_follows s r c all (p.place + 1) p.place (omega arith) p.within)) (clause_in s n)
      clash;
}
