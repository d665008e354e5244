-- The table of slots: no variable is in two, and what stays when a variable comes.
use Rattle.std.proofs.Common.{◌≡◌, ◌≢◌, ℕ, ◌+◌, ◌<◌, ◌≤◌, List, [], ◌∷◌, ◌++◌, length, get_or, sym, ◌∙◌, ap, subst, inl, inr, arith}
use Rattle.std.proofs.Common.{length-append}
use Rattle.std.specs.Prelude.{Some, None}
use Rattle.std.specs.Ordering.{nat_cmp}
use Rattle.std.specs.BTreeMap.{BTreeMap, get, Updates}
use Rattle.std.proofs.Math.Seq.{get_or-append_seam}
use Rattle.std.proofs.lemmas.Bool.{cases_lt}
use Rattle.std.proofs.lemmas.Bool.Decides.{nat_tests, eqb_tells}
use Rattle.cnf_core.specs.declared.limits.TheConstants.{LAST_VAR}
use Rattle.hint_log.specs.Slots.{var_in, IsInOneSlot, IsSlotOf, IsSlotBeyond, AreOwnSlots, AreSlots}
use Rattle.hint_log.proofs.SlotLemmas.{var_stays}

some_once : (m n : ℕ) → Some m ≡ Some n → m ≡ n
some_once m n e = cc e

pub in_one_slot : (vars : ℕ) (slots : List ℕ) (beyond : BTreeMap ℕ ℕ) → AreSlots vars slots beyond → IsInOneSlot slots
in_one_slot vars slots beyond h = λ m n a b e. elim (cases_lt vars m) [
  | inl far ↦ elim (cases_lt vars n) [
    | inl too ↦ some_once m n (sym (h.put m far a.1) ∙ ap (get nat_cmp beyond) e ∙ h.put n too b.1)
    | inr near ↦ absurd (let g = h.greater m far a.1 in let o = h.own n b.0 near in omega (arith, g, o, e))
  ]
  | inr near ↦ elim (cases_lt vars n) [
    | inl far ↦ absurd (let g = h.greater n far b.1 in let o = h.own m a.0 near in omega (arith, g, o, e))
    | inr too ↦ sym (h.own m a.0 near) ∙ e ∙ h.own n b.0 too
  ]
]

var_last : (slots : List ℕ) (v n : ℕ) → n ≡ length slots + 1 → var_in (slots ++ v ∷ []) n ≡ v
var_last slots v n e = subst (λ (k : ℕ). get_or ((0 ∷ slots) ++ v ∷ []) k 0 ≡ v) (size e) (get_or-append_seam (0 ∷ slots) v [] 0)
  where
    size : n ≡ length slots + 1 → length (0 ∷ slots) ≡ n
    size h = omega (arith, h)

-- a slot of the longer list is one of the list, or the last one
last_or : (slots : List ℕ) (v n : ℕ) → n ≤ length (slots ++ v ∷ []) → length slots < n → n ≡ length slots + 1
last_or slots v n le lt = omega (arith, le, lt, length-append slots (v ∷ []))

slots_more : (vars : ℕ) (slots : List ℕ) (old new : BTreeMap ℕ ℕ) (v : ℕ) → AreSlots vars slots old → vars < v → get nat_cmp old v ≡ None →
    length slots < LAST_VAR → Updates nat_cmp old new v (Some (length slots + 1)) → AreSlots vars (slots ++ v ∷ []) new
slots_more vars slots old new v h above none few up = record {
  own = λ n from to. var_stays slots (v ∷ []) n (let all = h.all in omega arith) ∙ h.own n from to;
  all = let all = h.all in omega (arith, all, length-append slots (v ∷ []));
  few = omega (arith, few, length-append slots (v ∷ []));
  greater = λ n from to. elim (cases_lt (length slots) n) [
    | inl lt ↦ subst (λ (x : ℕ). vars < x) (sym (var_last slots v n (last_or slots v n to lt))) above
    | inr le ↦ subst (λ (x : ℕ). vars < x) (sym (var_stays slots (v ∷ []) n le)) (h.greater n from le)
  ];
  put = λ n from to. elim (cases_lt (length slots) n) [
    | inl lt ↦
        let e = last_or slots v n to lt in
        ap (get nat_cmp new) (var_last slots v n e) ∙ up.1 ∙ ap Some (sym e)
    | inr le ↦
        let was = h.put n from le in
        let other : v ≢ var_in slots n = λ e. some_none n (sym was ∙ ap (get nat_cmp old) (sym e) ∙ none) in
        ap (get nat_cmp new) (var_stays slots (v ∷ []) n le) ∙ up.2 (var_in slots n) (grind (arith, nat_tests)) ∙ was
  ];
  found = λ w n is. elim (eqb_tells v w) [
    | inl same ↦
        let e : n ≡ length slots + 1 = some_once n (length slots + 1) (sym is ∙ ap (get nat_cmp new) (sym same.1) ∙ up.1) in
        record {
          above = let all = h.all in omega arith;
          within = omega (arith, length-append slots (v ∷ []));
          is = var_last slots v n e ∙ same.1;
        }
    | inr other ↦
        let apart : v ≢ w = other.1 in
        let was = h.found w n (sym (up.2 w (grind (arith, nat_tests))) ∙ is) in
        let within = was.within in
        record {
          above = was.above;
          within = omega (arith, within, length-append slots (v ∷ []));
          is = var_stays slots (v ∷ []) n within ∙ was.is;
        }
  ];
}
  where
    some_none : (n : ℕ) → Some n ≡ None → ⊥
    some_none n e = cc e

pub slots_taken : (vars : ℕ) (slots now : List ℕ) (old new : BTreeMap ℕ ℕ) (v : ℕ) → AreSlots vars slots old → vars < v → get nat_cmp old v ≡ None →
    length slots < LAST_VAR → now ≡ slots ++ v ∷ [] → Updates nat_cmp old new v (Some (length slots + 1)) → AreSlots vars now new
slots_taken vars slots now old new v h above none few e up = subst (λ (s : List ℕ). AreSlots vars s new) (sym e)
    (slots_more vars slots old new v h above none few up)

-- ---- the slots of the formula's variables alone

pub own_none : (slots : List ℕ) → slots ≡ [] → AreOwnSlots 0 slots
own_none slots e = record {
  size = ap length e;
  own = λ n is. absurd (let size = ap length e in let high = is.1 in let low = is.0 in omega (arith, size, high, low));
}

pub own_all : (v vars : ℕ) (slots : List ℕ) → v ≤ vars → vars ≤ v → AreOwnSlots v slots → AreOwnSlots vars slots
own_all v vars slots le ge h = let e : v ≡ vars = omega (arith, le, ge) in subst (λ (n : ℕ). AreOwnSlots n slots) e h

pub own_more : (v : ℕ) (slots : List ℕ) → AreOwnSlots v slots → AreOwnSlots (v + 1) (slots ++ (v + 1) ∷ [])
own_more v slots h = record {
  size = let size = h.size in omega (arith, size, length-append slots ((v + 1) ∷ []));
  own = λ n is. elim (cases_lt (length slots) n) [
    | inl lt ↦
        let e = last_or slots (v + 1) n is.1 lt in
        var_last slots (v + 1) n e ∙ (let size = h.size in omega (arith, size, e))
    | inr le ↦ var_stays slots ((v + 1) ∷ []) n le ∙ h.own n (is.0, le)
  ];
}

pub own_first : (vars : ℕ) (slots : List ℕ) (beyond : BTreeMap ℕ ℕ) → vars ≤ LAST_VAR → AreOwnSlots vars slots → beyond.entries ≡ [] →
    AreSlots vars slots beyond
own_first vars slots beyond few h none =
    let size = h.size in
    record {
      own = λ n from to. h.own n (from, omega arith);
      all = omega arith;
      few = omega arith;
      greater = λ n from to. absurd (omega (arith, from, to));
      put = λ n from to. absurd (omega (arith, from, to));
      found = λ v n is. nothing v n is;
    }
  where
    nothing : (v n : ℕ) → get nat_cmp beyond v ≡ Some n → IsSlotBeyond vars slots v n
    nothing v n is = cc (rw none at is)

-- ---- the slot of a variable

pub own_slot : (vars : ℕ) (slots now : List ℕ) (beyond : BTreeMap ℕ ℕ) (v : ℕ) → AreSlots vars slots beyond → slots ≡ now → 1 ≤ v → v ≤ vars →
    IsSlotOf now v v
own_slot vars slots now beyond v h e from to = subst (λ (s : List ℕ). IsSlotOf s v v) e
    (record { slot = (from, (let all = h.all in omega arith)); is = h.own v from to })

pub found_slot : (vars : ℕ) (slots now : List ℕ) (beyond : BTreeMap ℕ ℕ) (v n : ℕ) → AreSlots vars slots beyond → slots ≡ now → get nat_cmp beyond v ≡ Some n →
    IsSlotOf now v n
found_slot vars slots now beyond v n h e is =
    let f = h.found v n is in
    let above = f.above in
    subst (λ (s : List ℕ). IsSlotOf s v n) e (record { slot = (omega arith, f.within); is = f.is })

pub found_small : (vars : ℕ) (slots : List ℕ) (beyond : BTreeMap ℕ ℕ) (v n : ℕ) → AreSlots vars slots beyond → get nat_cmp beyond v ≡ Some n → n ≤ LAST_VAR
found_small vars slots beyond v n h is = let f = h.found v n is in let within = f.within in let few = h.few in omega (arith, within, few)

pub one_slot_of : (vars : ℕ) (slots now : List ℕ) (beyond : BTreeMap ℕ ℕ) → AreSlots vars slots beyond → slots ≡ now → IsInOneSlot now
one_slot_of vars slots now beyond h e = subst IsInOneSlot e (in_one_slot vars slots beyond h)

pub slots_same : (vars : ℕ) (slots now : List ℕ) (old new : BTreeMap ℕ ℕ) → AreSlots vars slots old → now ≡ slots → new.entries ≡ old.entries →
    AreSlots vars now new
slots_same vars slots now old new h e same = subst (λ (s : List ℕ). AreSlots vars s new) (sym e) record {
  own = h.own;
  all = h.all;
  few = h.few;
  greater = h.greater;
  put = λ n from to. rw same (h.put n from to);
  found = λ v n is. h.found v n (rw same at is);
}
