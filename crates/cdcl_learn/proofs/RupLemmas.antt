-- The learnt clause follows by unit propagation, step by step of the walk down the trail.
use Rattle.std.proofs.Common.{◌≡◌, ℕ, ◌+◌, ◌<◌, ◌≤◌, ◌⊎◌, Bool, true, false, cond, nat_eq, zero, suc, take, List, [], ◌∷◌, length, get_or, refl, sym, ◌∙◌, ap}
use Rattle.std.proofs.Common.{subst, inl, inr, arith}
use Rattle.std.specs.Prelude.{All, Contains, map}
use Rattle.std.proofs.lemmas.Bool.{both_ways, cases_eq, cases_lt, eq-eqb}
use Rattle.std.proofs.lemmas.List.{take_all}
use Rattle.std.proofs.lemmas.List.Elements.{All-contains, All-contains_itself, All-weaker, All-cons, Contains-append_left, Contains-append_right}
use Rattle.cnf_core.specs.Lit.{Literal, negate, has}
use Rattle.cnf_core.specs.Clause.{Clauses, AreDistinct, AreThere, IsNamed}
use Rattle.cnf_core.specs.Propagation.{LiteralSet, IsIn, Closure, Falsifies, negations, Rup}
use Rattle.cnf_core.proofs.PropagationLemmas.{negate-negate, contains_from_has, has_from_contains, closure_start, closure_unit, falsifies_again}
use Rattle.cnf_core.proofs.PropagationLemmas.{contains_first, contains_later}
use Rattle.cdcl_learn.specs.Sight.{Sight, nth, level_of, reason_of, clause_in, clauses_in, IsReasonAt, IsSound, roots, known}
use Rattle.cdcl_learn.specs.Cut.{Cut, is_seen, IsSeen, IsBlank, with_resolved, cut_with_all, open_below, weight_at, IsLower, IsCut, working, IsReached}
use Rattle.cdcl_learn.specs.Cut.{IsCovered, IsLast, IsStage, IsResolving, IsConflict, IsLearnt}
use Rattle.cdcl_learn.proofs.LiteralLemmas.{avoids_all, placed, placed_anywhere, in_front, front_in, stands}
use Rattle.cdcl_learn.proofs.CountLemmas.{weight_present, open_none, open_some, open_found, open_skip}
use Rattle.cdcl_learn.proofs.CutLemmas.{level_limit, cut_gathered, gathered_keeps, gathered_covers}

-- the clause at a place is one of the clauses
pub text_among : (s : Sight) (p : ℕ) → Contains s.places p → Contains (clauses_in s) (clause_in s p)
text_among s p at = by_place s.places at.0 at.1 at.2
  where
    by_place : (ps : List ℕ) (i : ℕ) → i < length ps → get_or ps i p ≡ p → Contains (map s.text ps) (s.text p)
    by_place [] i lt e = absurd (omega arith)
    by_place (q ∷ ps) zero lt e = (0, omega arith, ap s.text e)
    by_place (q ∷ ps) (suc i) lt e = let c = by_place ps i (omega arith) e in let l = c.1 in (suc c.0, omega arith, c.2)

-- literals of level 0
roots_has : (s : Sight) (ls : List Literal) (l : Literal) → Contains ls l → level_of s l ≡ 0 → Contains (roots s ls) (l ∷ [])
roots_has s ls l c z = by_place ls c.0 c.1 c.2
  where
    skip : (b : Bool) (d c : List Literal) (cs : Clauses) → Contains cs c → Contains (cond b (d ∷ cs) cs) c
    skip true d c cs h = let lt = h.1 in (suc h.0, omega arith, h.2)
    skip false d c cs h = h

    by_place : (ls : List Literal) (i : ℕ) → i < length ls → get_or ls i l ≡ l → Contains (roots s ls) (l ∷ [])
    by_place [] i lt e = absurd (omega arith)
    by_place (k ∷ ls) zero lt e = rw (ap (λ b. b) (eq-eqb (level_of s k) 0 (ap (level_of s) e ∙ z))) (0, omega arith, ap (λ (m : Literal). m ∷ []) e)
    by_place (k ∷ ls) (suc i) lt e = skip (nat_eq (level_of s k) 0) (k ∷ []) (l ∷ []) (roots s ls) (by_place ls i (omega arith) e)

pub root_follows : (s : Sight) (start : LiteralSet) (l : Literal) → IsIn (has s.lits) l → level_of s l ≡ 0 → Closure (known s) start l
root_follows s start l on z =
    closure_unit (known s) start (l ∷ []) l
    (Contains-append_right (clauses_in s) (roots s s.lits) (l ∷ []) (roots_has s s.lits l (contains_from_has s.lits l on) z))
    (contains_first l [])
    (All-cons (λ k. (k ≡ l) ⊎ Closure (known s) start (negate k)) l [] (inl refl) (λ k d lt. absurd (omega arith)))

pub in_working : (s : Sight) (w : Cut) (end : ℕ) (l : Literal) → IsIn (has (take end s.lits)) l → IsSeen w l.var → IsIn (working s w end) l
in_working s w end l front seen = rw (front, seen) refl

pub from_working : (s : Sight) (w : Cut) (end : ℕ) (l : Literal) → IsIn (working s w end) l → (IsIn (has (take end s.lits)) l) × (IsSeen w l.var)
from_working s w end l h = parts (has (take end s.lits) l) (is_seen w.seen l.var) h
  where
    parts : (a b : Bool) → cond a b false ≡ true → (a ≡ true) × (b ≡ true)
    parts true b h = (refl, h)
    parts false b h = cc

covered_follows : (s : Sight) (w : Cut) (end : ℕ) (k : Literal) → IsIn (has (take end s.lits)) (negate k) → IsCovered s w k →
    Closure (known s) (working s w end) (negate k)
covered_follows s w end k front covered = elim covered [
  | inl z ↦ root_follows s (working s w end) (negate k) (front_in s end (negate k) front) z
  | inr seen ↦ closure_start (known s) (working s w end) (negate k) (in_working s w end (negate k) front seen)
]

-- at first: the falsified clause
pub rup_start : (s : Sight) (w : Cut) (c : List Literal) → Contains (clauses_in s) c → All (λ k. IsIn (has s.lits) (negate k)) c → All (IsCovered s w) c →
    Falsifies (known s) (working s w (length s.lits))
rup_start s w c among false_all covered = record {
  clause = c;
  among = Contains-append_left (clauses_in s) (roots s s.lits) c among;
  each = All-weaker (Contains c) (λ k. Closure (known s) (working s w (length s.lits)) (negate k)) (λ k inside.
      covered_follows s w (length s.lits) k
      (ap (λ (ls : List Literal). has ls (negate k)) (take_all (length s.lits) s.lits (omega arith))
      ∙ All-contains (λ m. IsIn (has s.lits) (negate m)) c k false_all inside)
      (All-contains (IsCovered s w) c k covered inside)) c (All-contains_itself c);
}

-- literals that aren't seen are passed over
pub rup_skip : (s : Sight) (w : Cut) (i end : ℕ) → i ≤ end → end ≤ length s.lits → ((j : ℕ) → i ≤ j → j < end → is_seen w.seen (nth s j).var ≡ false) →
    Falsifies (known s) (working s w end) → Falsifies (known s) (working s w i)
rup_skip s w i end le within none f = falsifies_again (known s) (working s w i) (working s w end) (λ l h.
    let parts = from_working s w end l h in
    let p = placed s end l within parts.0 in
    elim (cases_lt p.place i) [
      | inl front ↦ closure_start (known s) (working s w i) l (in_working s w i l
          (subst (λ (m : Literal). IsIn (has (take i s.lits)) m) p.is (in_front s i p.place front (omega arith))) parts.1)
      | inr behind ↦ absurd (both_ways (is_seen w.seen l.var) (ap (λ (m : Literal). is_seen w.seen m.var) (sym p.is) ∙ none p.place behind p.below) parts.1)
    ]) f

-- a literal is resolved with its reason
pub rup_resolve : (s : Sight) (w new : Cut) (i n : ℕ) → i < length s.lits → IsReasonAt s i n → ((v : ℕ) → IsSeen w v → IsSeen new v) →
    All (IsCovered s new) (clause_in s n) → Falsifies (known s) (working s w (i + 1)) → Falsifies (known s) (working s new i)
rup_resolve s w new i n lt r keeps covered f = falsifies_again (known s) (working s new i) (working s w (i + 1)) (λ l h.
    let parts = from_working s w (i + 1) l h in
    let p = placed s (i + 1) l (omega arith) parts.0 in
    elim (cases_lt p.place i) [
      | inl front ↦ closure_start (known s) (working s new i) l (in_working s new i l
          (subst (λ (m : Literal). IsIn (has (take i s.lits)) m) p.is (in_front s i p.place front (omega arith))) (keeps l.var parts.1))
      | inr behind ↦
          let below = p.below in
          let same : i ≡ p.place = omega arith in
          subst (λ (m : Literal). Closure (known s) (working s new i) m) (ap (nth s) same ∙ p.is) resolved
    ]) f
  where
    c : List Literal
    c = clause_in s n

    resolved : Closure (known s) (working s new i) (nth s i)
    resolved =
        let unit = r.unit in
        closure_unit (known s) (working s new i) (clause_in s n) (nth s i) (Contains-append_left (clauses_in s) (roots s s.lits) (clause_in s n)
        (text_among s n r.place)) unit.among
        (All-weaker (Contains (clause_in s n)) (λ k. (k ≡ nth s i) ⊎ Closure (known s) (working s new i) (negate k)) (λ k inside.
        elim (All-contains (λ m. (m ≡ nth s i) ⊎ IsIn (has (take i s.lits)) (negate m)) (clause_in s n) k unit.others inside) [
          | inl e ↦ inl e
          | inr front ↦ inr (covered_follows s new i k front (All-contains (IsCovered s new) (clause_in s n) k covered inside))
        ]) (clause_in s n) (All-contains_itself (clause_in s n)))

-- the clauses' variables
pub clause_there : (s : Sight) (p : ℕ) → IsSound s → Contains s.places p → AreThere s.vars (clause_in s p)
clause_there s p r at = r.clauses p at

clause_named : (s : Sight) (n : ℕ) → Contains s.places n → All (λ k. IsNamed (clauses_in s) k.var) (clause_in s n)
clause_named s n lt = All-weaker (Contains (clause_in s n)) (λ k. IsNamed (clauses_in s) k.var) (λ k inside. record {
  clause = clause_in s n;
  among = text_among s n lt;
  lit = k;
  inside = inside;
  var = refl;
}) (clause_in s n) (All-contains_itself (clause_in s n))

-- the cut before anything is seen
open_blank : (s : Sight) (w : Cut) (end : ℕ) → IsBlank w → open_below s w.seen end ≡ 0
open_blank s w end blank = open_skip s w.seen 0 end (omega arith) (λ j _ _. blank (nth s j).var)

pub cut_blank : (s : Sight) (w : Cut) (end : ℕ) → length w.seen ≡ s.vars + 1 → IsBlank w → w.rest ≡ [] → w.pending ≡ 0 → IsCut s w end
cut_blank s w end size blank none zero_pending = record {
  size = size;
  lower = subst (λ (ls : List Literal). All (IsLower s w) ls) (sym none) (λ k d lt. absurd (omega arith));
  all = λ l on seen below. absurd (both_ways (is_seen w.seen l.var) (blank l.var) seen);
  distinct = subst AreDistinct (sym none) tt;
  count = zero_pending ∙ sym (open_blank s w end blank);
  named = λ v seen. absurd (both_ways (is_seen w.seen v) (blank v) seen);
  above = λ v seen. absurd (both_ways (is_seen w.seen v) (blank v) seen);
}

-- the falsified clause is taken in
pub ready_start : (s : Sight) (w : Cut) (n : ℕ) → IsSound s → IsConflict s n → length w.seen ≡ s.vars + 1 → IsBlank w → w.rest ≡ [] → w.pending ≡ 0 →
    IsResolving s (cut_with_all s w (clause_in s n)) (length s.lits)
ready_start s w n r clash size blank none zero_pending =
    let there = clause_there s n r clash.place in
    let covered = gathered_covers s w (clause_in s n) there size in
    let cut : IsCut s (cut_with_all s w (clause_in s n)) (length s.lits) = cut_gathered s r w (length s.lits) (omega arith) (clause_in s n) there
    (clause_named s n clash.place)
    (All-weaker (λ k. IsIn (has s.lits) (negate k)) (IsReached s w (length s.lits))
    (λ k h. inr (ap (λ (ls : List Literal). has ls (negate k)) (take_all (length s.lits) s.lits (omega arith)) ∙ h)) (clause_in s n) clash.falsified)
    (cut_blank s w (length s.lits) size blank none zero_pending) in
    record {
      cut = cut;
      within = omega arith;
      some =
          let k = clash.lit in
          let p = placed_anywhere s (negate k) (All-contains (λ m. IsIn (has s.lits) (negate m)) (clause_in s n) k clash.falsified clash.among) in
          let seen : IsSeen (cut_with_all s w (clause_in s n)) k.var = elim (All-contains (IsCovered s (cut_with_all s w (clause_in s n))) (clause_in s n) k
          covered clash.among) [ inl z ↦ let e = clash.present in let a = clash.above in absurd (omega arith) | inr h ↦ h ] in
          let more = open_some s (cut_with_all s w (clause_in s n)).seen p.place (length s.lits) p.below
          (ap (level_of s) p.is ∙ clash.present) (ap (λ (m : Literal). is_seen (cut_with_all s w (clause_in s n)).seen m.var) p.is ∙ seen) in
          let count = cut.count in
          omega arith;
      rup = rup_start s (cut_with_all s w (clause_in s n)) (clause_in s n) (text_among s n clash.place) clash.falsified covered;
    }

-- the next literal of the working clause is found
pub stage_from : (s : Sight) (w : Cut) (end i : ℕ) → IsSound s → IsResolving s w end → IsLast s w end i → IsStage s w i
stage_from s w end i r ready last =
    let cut = ready.cut in
    let below = last.below in
    let within = ready.within in
    let none : (j : ℕ) → i + 1 ≤ j → j < end → is_seen w.seen (nth s j).var ≡ false = λ j from to. last.none j (omega arith) to in
    let skip = open_skip s w.seen (i + 1) end (omega arith) none in
    let some = ready.some in
    let count = cut.count in
    let found = open_found s w.seen (i + 1) (omega arith) in
    record {
      cut = record {
        size = cut.size;
        lower = cut.lower;
        all = cut.all;
        distinct = cut.distinct;
        count = cut.count ∙ skip;
        named = cut.named;
        above = cut.above;
      };
      below = omega arith;
      seen = last.seen;
      present =
          let most = r.present i (omega arith) in
          let e = found.present in
          let fb = found.below in
          elim (cases_lt found.place i) [
            | inl lt ↦ let rise = r.rise found.place i lt (omega arith) in omega arith
            | inr ge ↦ let same : i ≡ found.place = omega arith in ap (λ k. level_of s (nth s k)) same ∙ e
          ];
      some = some;
      rup = rup_skip s w (i + 1) end (omega arith) within none ready.rup;
    }

-- it has a reason where it isn't the only one
stage_count : (s : Sight) (w : Cut) (i : ℕ) → IsStage s w i → w.pending ≡ open_below s w.seen i + 1
stage_count s w i t =
    let cut = t.cut in
    let count = cut.count in
    let here = weight_present s w.seen i true t.present t.seen in
    let step : open_below s w.seen (i + 1) ≡ open_below s w.seen i + weight_at s w.seen i = let next : i + 1 ≡ suc i = omega arith in ap (open_below s w.seen)
    next in
    omega arith

pub stage_reason : (s : Sight) (w : Cut) (i : ℕ) → IsSound s → 0 < s.level → IsStage s w i → 1 < w.pending → 1 ≤ reason_of s (nth s i)
stage_reason s w i r above t more =
    let count = stage_count s w i t in
    let f = open_found s w.seen i (omega arith) in
    let e = t.present in
    r.decided f.place i f.below t.below (f.present ∙ sym e) (omega arith)

-- and is resolved with it
pub stage_resolve : (s : Sight) (w : Cut) (i n : ℕ) → IsSound s → IsStage s w i → 1 < w.pending → IsReasonAt s i n →
    IsResolving s (cut_with_all s (with_resolved w) (clause_in s n)) i
stage_resolve s w i n r t more reason =
    let cut = t.cut in
    let below = t.below in
    let count = stage_count s w i t in
    let unit = reason.unit in
    let size : length (with_resolved w).seen ≡ s.vars + 1 = cut.size in
    let there = clause_there s n r reason.place in
    let before : IsCut s (with_resolved w) i = record {
      size = cut.size;
      lower = All-weaker (IsLower s w) (IsLower s (with_resolved w)) (λ k l. record {
        falsified = l.falsified;
        above = l.above;
        below = l.below;
        seen = l.seen;
      }) w.rest cut.lower;
      all = cut.all;
      distinct = cut.distinct;
      count = omega arith;
      named = cut.named;
      above = cut.above;
    } in
    let reached : All (IsReached s (with_resolved w) i) (clause_in s n) = All-weaker (λ k. (k ≡ nth s i) ⊎ IsIn (has (take i s.lits)) (negate k))
    (IsReached s (with_resolved w) i) (λ k h. elim h [ inl e ↦ inl (ap (λ (m : Literal). is_seen w.seen m.var) e ∙ t.seen) | inr front ↦ inr front ])
    (clause_in s n) unit.others in
    let now : IsCut s (cut_with_all s (with_resolved w) (clause_in s n)) i = cut_gathered s r (with_resolved w) i (omega arith) (clause_in s n) there
    (clause_named s n reason.place) reached before in
    let keeps : (v : ℕ) → IsSeen w v → IsSeen (cut_with_all s (with_resolved w) (clause_in s n)) v = λ v h. gathered_keeps s (with_resolved w) (clause_in s n) v
    there size h in
    record {
      cut = now;
      within = omega arith;
      some =
          let f = open_found s w.seen i (omega arith) in
          let seen = open_some s (cut_with_all s (with_resolved w) (clause_in s n)).seen f.place i f.below f.present (keeps (nth s f.place).var f.marked) in
          let total = now.count in
          omega arith;
      rup = rup_resolve s w (cut_with_all s (with_resolved w) (clause_in s n)) i n below reason keeps
          (gathered_covers s (with_resolved w) (clause_in s n) there size) t.rup;
    }

-- the first unique implication point
pub stage_learnt : (s : Sight) (w : Cut) (i : ℕ) → IsSound s → 0 < s.level → IsStage s w i → w.pending ≤ 1 → IsLearnt s (negate (nth s i)) w.rest
stage_learnt s w i r above t one =
    let cut = t.cut in
    let u = nth s i in
    let count = stage_count s w i t in
    let e : level_of s u ≡ s.level = t.present in
    record {
      falsified = All-cons (λ k. IsIn (has s.lits) (negate k)) (negate u) w.rest (ap (has s.lits) (negate-negate u)
          ∙ has_from_contains s.lits u (stands s i t.below)) (All-weaker (IsLower s w) (λ k. IsIn (has s.lits) (negate k)) (λ k l. l.falsified) w.rest
          cut.lower);
      above = All-cons (λ k. 0 < level_of s k) (negate u) w.rest (omega arith) (All-weaker (IsLower s w) (λ k. 0 < level_of s k) (λ k l. l.above) w.rest
          cut.lower);
      present = e;
      lower = All-weaker (IsLower s w) (λ k. level_of s k < s.level) (λ k l. l.below) w.rest cut.lower;
      distinct = (
        avoids_all u.var w.rest (λ k among same.
            let l : IsLower s w k = All-contains (IsLower s w) w.rest k cut.lower among in
            let b = l.below in
            let lvl : level_of s u ≡ level_of s k = ap (λ v. get_or s.levels v 0) same in
            absurd (omega arith)),
        cut.distinct,
      );
      named = All-cons (λ k. IsNamed (clauses_in s) k.var) (negate u) w.rest (cut.named u.var t.seen)
          (All-weaker (IsLower s w) (λ k. IsNamed (clauses_in s) k.var) (λ k l. cut.named k.var l.seen) w.rest cut.lower);
      rup = falsifies_again (known s) (negations (negate u ∷ w.rest)) (working s w (i + 1))
          (λ l h. closure_start (known s) (negations (negate u ∷ w.rest)) l (inside l h)) t.rup;
    }
  where
    inside : (l : Literal) → IsIn (working s w (i + 1)) l → has (negate (nth s i) ∷ w.rest) (negate l) ≡ true
    inside l h =
        let parts = from_working s w (i + 1) l h in
        let below = t.below in
        let count = stage_count s w i t in
        let p = placed s (i + 1) l (omega arith) parts.0 in
        has_from_contains (negate (nth s i) ∷ w.rest) (negate l) (elim (cases_lt p.place i) [
          | inl front ↦ elim (cases_eq (level_of s l) s.level) [
            | inl e ↦ absurd (open_none s w.seen p.place i (omega arith) front (ap (level_of s) p.is ∙ e) (ap (λ (m : Literal). is_seen w.seen m.var) p.is
                ∙ parts.1))
            | inr ne ↦
                let most = level_limit s l r (front_in s (i + 1) l parts.0) in
                let cut = t.cut in
                contains_later (negate (nth s i)) (negate l) w.rest (cut.all l (front_in s (i + 1) l parts.0) parts.1 (lower_of (level_of s l) s.level most ne))
          ]
          | inr behind ↦
              let pb = p.below in
              let same : i ≡ p.place = omega arith in
              subst (λ (m : Literal). Contains (negate (nth s i) ∷ w.rest) (negate m)) (ap (nth s) same ∙ p.is) (contains_first (negate (nth s i)) w.rest)
        ])
      where
        lower_of : (a b : ℕ) → a ≤ b → (a ≡ b → ⊥) → a < b
        lower_of a b le ne = elim (cases_eq a b) [ inl e ↦ absurd (ne e) | inr _ ↦ omega arith ]

-- the literals of the clause are seen
pub stage_seen : (s : Sight) (w : Cut) (i : ℕ) → IsStage s w i → All (λ k. IsSeen w k.var) (negate (nth s i) ∷ w.rest)
stage_seen s w i t =
    let cut = t.cut in
    All-cons (λ k. IsSeen w k.var) (negate (nth s i)) w.rest t.seen (All-weaker (IsLower s w) (λ k. IsSeen w k.var) (λ k l. l.seen) w.rest cut.lower)

-- a literal of level 0 is a clause
pub root_rup : (s : Sight) (l : Literal) → IsIn (has s.lits) l → level_of s l ≡ 0 → Rup (known s) (l ∷ [])
root_rup s l on z = record {
  clause = l ∷ [];
  among = Contains-append_right (clauses_in s) (roots s s.lits) (l ∷ []) (roots_has s s.lits l (contains_from_has s.lits l on) z);
  each = All-cons (λ k. Closure (known s) (negations (l ∷ [])) (negate k)) l [] (closure_start (known s) (negations (l ∷ [])) (negate l)
      (has_from_contains (l ∷ []) (negate (negate l)) (subst (λ (m : Literal). Contains (l ∷ []) m) (sym (negate-negate l)) (contains_first l []))))
      (λ k d lt. absurd (omega arith));
}
