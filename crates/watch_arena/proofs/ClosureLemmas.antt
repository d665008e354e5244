-- What holds once all is propagated.
use Rattle.std.proofs.Common.{◌≡◌, ◌≢◌, ℕ, ◌+◌, ◌/◌, ◌<◌, ◌≤◌, ◌⊎◌, List, length, take, get_or, refl, sym, ◌∙◌, ap, subst, inl, inr, arith}
use Rattle.std.specs.Prelude.{All, Contains}
use Rattle.std.proofs.lemmas.Bool.{cases_lt}
use Rattle.std.proofs.lemmas.List.{take_all, get_or-take}
use Rattle.std.proofs.lemmas.List.Elements.{All-contains, All-contains_itself, All-weaker}
use Rattle.cnf_core.specs.Lit.{Literal, literal_at, negate, has}
use Rattle.cnf_core.specs.Clause.{Clauses}
use Rattle.cnf_core.specs.Propagation.{LiteralSet, IsIn, IsUnit, IsClosed, Closure, IsConsistent, Falsified}
use Rattle.cnf_core.proofs.TrailLemmas.{distinct_consistent}
use Rattle.watch_arena.specs.Words.{arena_word, IsStore}
use Rattle.watch_arena.specs.Trail.{Marks, IsMarks, IsLonger, advanced}
use Rattle.cnf_core.specs.Trail.{Grows}
use Rattle.watch_arena.specs.Walk.{lit_at, past_of, HasLit, IsClauseAt, HoldsClauses, AreGuarded, HasWalked, IsClash, Closes}
use Rattle.watch_arena.specs.Walk.{Clashes, IsReasoned}
use Rattle.watch_arena.proofs.ViewLemmas.{first_quiet, second_quiet}
use Rattle.watch_arena.proofs.ReasonLemmas.{text_kept, reason_grown, none_because}
use Rattle.cnf_core.proofs.GrowthLemmas.{grows_none, grows_more}
use Rattle.watch_arena.proofs.WalkLemmas.{longer_none, longer_more}

pub made_none : (m : Marks) (ws places : List ℕ) → HasWalked m m ws ws places
made_none m ws places = record {
  longer = longer_none m;
  propagated = omega arith;
  because = none_because m ws places;
  grows = λ clauses t. grows_none clauses m.lits;
  text = λ p c d is. is;
  reasoned = λ r. r;
  reasons = λ i d lt. refl;
}

pub made_more : (old mid new : Marks) (ws then now places : List ℕ) → HasWalked old mid ws then places → HasWalked mid new then now places →
    HasWalked old new ws now places
made_more old mid new ws then now places a b = record {
  longer = longer_more old mid new a.longer b.longer;
  propagated = let x = a.propagated in let y = b.propagated in omega arith;
  because = λ i d from lt. elim (cases_lt i (length mid.lits)) [
    | inl small ↦ let l = b.longer in reason_grown mid new then now places i d small l.front b.text b.reasons (a.because i d from small)
    | inr big ↦ b.because i d big lt
  ];
  grows = λ clauses t. grows_more clauses old.lits mid.lits new.lits (a.grows clauses t) (b.grows clauses (text_kept clauses ws then places a.text t));
  text = λ p c d is. b.text p c d (a.text p c d is);
  reasoned = λ r. b.reasoned (a.reasoned r);
  reasons = λ i d lt.
      let l = a.longer in
      let longer = l.longer in
      let at : get_or old.lits i d ≡ get_or mid.lits i d = ap (λ (ls : List Literal). get_or ls i d) (sym l.front)
      ∙ get_or-take (length old.lits) mid.lits i d lt in
      ap (λ (m : Literal). get_or new.reasons m.var 0) at ∙ b.reasons i d (omega arith) ∙ ap (λ (m : Literal). get_or mid.reasons m.var 0) (sym at)
      ∙ a.reasons i d lt;
}

-- one clause, a literal of which is true where one of its watches is false
module _ (set : LiteralSet) (ws : List ℕ) (p : ℕ) (c : List Literal) (is : IsClauseAt ws p c) (two : 2 ≤ arena_word ws p)
    (differ : arena_word ws (p + 3 + 0) / 2 ≢ arena_word ws (p + 3 + 1) / 2) (consistent : IsConsistent set)
    (first : IsIn set (negate (lit_at ws (p + 3 + 0))) → (k : Literal) × HasLit ws p k × IsIn set k)
    (second : IsIn set (negate (lit_at ws (p + 3 + 1))) → (k : Literal) × HasLit ws p k × IsIn set k) where
  first_in : Contains c (lit_at ws (p + 3 + 0))
  first_in = (is (lit_at ws (p + 3 + 0))).1 (0, omega arith, refl)

  second_in : Contains c (lit_at ws (p + 3 + 1))
  second_in = (is (lit_at ws (p + 3 + 1))).1 (1, omega arith, refl)

  true_one : (l : Literal) → IsUnit set c l → (k : Literal) × HasLit ws p k × IsIn set k → IsIn set l
  true_one l unit x = elim (All-contains (λ k. (k ≡ l) ⊎ IsIn set (negate k)) c x.0 unit.others ((is x.0).1 x.1)) [
    | inl e ↦ subst (IsIn set) e x.2
    | inr f ↦ absurd (consistent x.0 x.2 f)
  ]

  pub clause_closed : (l : Literal) → IsUnit set c l → IsIn set l
  clause_closed l unit =
      elim (All-contains (λ k. (k ≡ l) ⊎ IsIn set (negate k)) c (lit_at ws (p + 3 + 0)) unit.others first_in) [
        | inl a ↦ elim (All-contains (λ k. (k ≡ l) ⊎ IsIn set (negate k)) c (lit_at ws (p + 3 + 1)) unit.others second_in) [
          | inl b ↦ absurd (differ (ap (λ (k : Literal). k.var) (a ∙ sym b)))
          | inr f ↦ true_one l unit (second f)
        ]
        | inr f ↦ true_one l unit (first f)
      ]

  pub clause_unfalsified : All (λ k. IsIn set (negate k)) c → ⊥
  clause_unfalsified all =
      let x = first (All-contains (λ k. IsIn set (negate k)) c (lit_at ws (p + 3 + 0)) all first_in) in
      consistent x.0 x.2 (All-contains (λ k. IsIn set (negate k)) c x.0 all ((is x.0).1 x.1))

module _ (m : Marks) (ws places : List ℕ) (marks : IsMarks m) (store : IsStore m.vars ws places) (quiet : AreGuarded ws places (past_of m) m)
    (all : m.front ≡ length m.lits) where
  past_all : past_of m ≡ has m.lits
  past_all = ap has (take_all m.front m.lits (omega arith))

  first_true : (p : ℕ) → Contains places p → IsIn (has m.lits) (negate (lit_at ws (p + 3 + 0))) → (k : Literal) × HasLit ws p k × IsIn (has m.lits) k
  first_true p c f =
      let q = first_quiet m ws places (past_of m) quiet p c in
      let h = q.held (subst (λ (s : LiteralSet). IsIn s (negate (lit_at ws (p + 3 + 0)))) (sym past_all) f) in
      let x = h.2 in
      (h.0, h.1, x.now)

  second_true : (p : ℕ) → Contains places p → IsIn (has m.lits) (negate (lit_at ws (p + 3 + 1))) → (k : Literal) × HasLit ws p k × IsIn (has m.lits) k
  second_true p c f =
      let q = second_quiet m ws places (past_of m) quiet p c in
      let h = q.held (subst (λ (s : LiteralSet). IsIn s (negate (lit_at ws (p + 3 + 1)))) (sym past_all) f) in
      let x = h.2 in
      (h.0, h.1, x.now)

  pub watched_closed : (clauses : Clauses) → HoldsClauses clauses ws places → IsClosed clauses (has m.lits)
  watched_closed clauses t = λ c among l unit.
      let d = t.stored c among in
      let h = store in
      let b = h.block d.0 d.1 in
      let two = b.two in
      clause_closed (has m.lits) ws d.0 c d.2 two (b.distinct 0 1 (omega arith) (omega arith) (omega arith)) (distinct_consistent m.lits marks.distinct)
      (first_true d.0 d.1) (second_true d.0 d.1) l unit

  pub watched_unfalsified : (clauses : Clauses) → HoldsClauses clauses ws places → Falsified clauses (has m.lits) → ⊥
  watched_unfalsified clauses t f =
      let d = t.stored f.clause f.among in
      let h = store in
      let b = h.block d.0 d.1 in
      let two = b.two in
      clause_unfalsified (has m.lits) ws d.0 f.clause d.2 two (b.distinct 0 1 (omega arith) (omega arith) (omega arith))
      (distinct_consistent m.lits marks.distinct) (first_true d.0 d.1) (second_true d.0 d.1) f.each

pub watched_closes : (old new : Marks) (start ws places : List ℕ) → IsMarks new → HasWalked old new start ws places → IsStore new.vars ws places →
    AreGuarded ws places (past_of new) new → new.front ≡ length new.lits → Closes places start old.lits new.lits
watched_closes old new start ws places marks made store quiet all = λ clauses t.
    let now = text_kept clauses start ws places made.text t in
    let grown = made.grows clauses t in
    let longer = made.longer in
    record {
      closed = watched_closed new ws places marks store quiet all clauses now;
      includes = longer.keeps;
      within = grown.within;
      unfalsified = watched_unfalsified new ws places marks store quiet all clauses now;
    }

pub clash_clashes : (old new : Marks) (start ws places : List ℕ) (p : ℕ) → HasWalked old new start ws places → IsClash ws places (has new.lits) p →
    Clashes places start old.lits
clash_clashes old new start ws places p made clash = λ clauses t.
    let now = text_kept clauses start ws places made.text t in
    let grown : Grows clauses old.lits new.lits = made.grows clauses t in
    let held = now.held p clash.place in
    let c = held.0 in
    let is : IsClauseAt ws p c = held.2 in
    record {
      clause = c;
      among = held.1;
      each = All-weaker (Contains c) (λ k. Closure clauses (has old.lits) (negate k)) (λ k among. grown.within (negate k) (falsified k ((is k).0 among))) c
          (All-contains_itself c);
    }
  where
    falsified : (k : Literal) → (n : ℕ) × (n < arena_word ws p) × (lit_at ws (p + 3 + n) ≡ k) → IsIn (has new.lits) (negate k)
    falsified k n = subst (λ (l : Literal). IsIn (has new.lits) (negate l)) n.2 (clash.false_all n.0 n.1)

pub made_advanced : (old new : Marks) (ws now places : List ℕ) → HasWalked old new ws now places → HasWalked old (advanced new) ws now places
made_advanced old new ws now places a =
    let l : IsLonger old new = a.longer in
    record {
      longer = record {
        vars = l.vars;
        cuts = l.cuts;
        front = l.front;
        longer = l.longer;
        keeps = l.keeps;
      };
      propagated = let x = a.propagated in omega arith;
      because = a.because;
      grows = a.grows;
      text = a.text;
      reasoned = λ r. let x : IsReasoned new now
          places = a.reasoned r in record { reason = x.reason; decided = x.decided; begins = x.begins };
      reasons = a.reasons;
    }
