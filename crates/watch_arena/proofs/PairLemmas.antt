-- Looking at clauses of two literals.
use Rattle.std.proofs.Common.{◌≡◌, ◌≢◌, ℕ, ◌+◌, ◌-◌, ◌/◌, ◌%◌, ◌<◌, ◌≤◌, List, [], ◌∷◌, sym, ◌∙◌, ap, subst, inl, inr, arith}
use Rattle.std.specs.Prelude.{Contains}
use Rattle.std.proofs.lemmas.Bool.{cases_eq}
use Rattle.cnf_core.specs.Lit.{Literal, literal_at, negate, has}
use Rattle.cnf_core.specs.Clause.{IsThere}
use Rattle.cnf_core.specs.Propagation.{IsIn}
use Rattle.watch_arena.specs.declared.rows.Entry.{Entry}
use Rattle.watch_arena.specs.Words.{arena_word, lit_of, other_of, IsStore}
use Rattle.watch_arena.specs.Trail.{Marks, IsMarks, IsUnset, with_lit}
use Rattle.watch_arena.specs.Walk.{lit_at, IsAlone, IsReasonFor, HasWalked, IsClash}
use Rattle.watch_arena.specs.Filed.{IsEntry, IsPair}
use Rattle.watch_arena.proofs.WordLemmas.{lit_there}
use Rattle.watch_arena.proofs.WalkLemmas.{alone_grows, longer_unit, unit_keeps, all_false}
use Rattle.watch_arena.proofs.ReasonLemmas.{alone_reason, unit_because, reasoned_unit}

-- the other literal of an entry is there
pub entry_there : (vars : ℕ) (ws places : List ℕ) (w : ℕ) (e : Entry) → IsStore vars ws places → IsEntry ws places 0 0 w e → IsThere vars e.other
entry_there vars ws places w e h x = let k = x.other in subst (IsThere vars) k.2 (lit_there vars ws places (x.watch / 2) k.0 h x.place k.1)

module _ (m : Marks) (ws places : List ℕ) (w : ℕ) (e : Entry) (h : IsStore m.vars ws places) (x : IsEntry ws places 0 0 w e) (y : IsPair ws w e)
    (marks : IsMarks m) (false_now : IsIn (has m.lits) (negate (literal_at w))) where
  two : arena_word ws (x.watch / 2) ≡ 2
  two = ap (arena_word ws) (sym x.clause) ∙ y.two

  other_is : e.other ≡ lit_at ws (other_of x.watch)
  other_is =
      let k = x.other in
      let below = k.1 in
      let size = two in
      elim (cases_eq k.0 (x.watch % 2)) [
        | inl same ↦ absurd (y.other (sym k.2 ∙ ap (λ n. lit_at ws (x.watch / 2 + 3 + n)) same ∙ ap literal_at x.lit))
        | inr ne ↦ sym k.2 ∙ ap (lit_at ws) (omega arith)
      ]

  alone : IsUnset m.lits e.other → IsAlone ws m.lits x.watch e.other
  alone unset = record { is = other_is; unset = unset; rest = λ k from below. let size = two in absurd (omega arith) }

  reason : IsUnset m.lits e.other → IsReasonFor ws places m.lits e.other e.clause.0
  reason unset =
      let size = two in
      subst (λ p. IsReasonFor ws places m.lits e.other p) (sym x.clause) (alone_reason ws places m.lits w x.watch e.other x.place (omega arith) x.lit false_now
      (alone unset))

  pub pair_made : IsUnset m.lits e.other → HasWalked m (with_lit m e.other e.clause.0) ws ws places
  pair_made unset =
      let size = two in
      let b = h.block (x.watch / 2) x.place in
      let from = b.from in
      let clause = x.clause in
      let there = entry_there m.vars ws places w e h x in
      record {
        longer = longer_unit m e.other e.clause.0;
        propagated = omega arith;
        because = unit_because m e.other e.clause.0 marks there unset ws places (reason unset);
        grows = alone_grows ws places m.lits w x.watch e.other x.place (omega arith) x.lit false_now (alone unset);
        text = λ p c d is. is;
        reasoned = λ r. reasoned_unit m e.other e.clause.0 marks there unset ws places r (omega arith) (reason unset);
        reasons = unit_keeps m e.other e.clause.0 unset;
      }

  pub pair_clash : IsIn (has m.lits) (negate e.other) → IsClash ws places (has m.lits) e.clause.0
  pair_clash other = subst (IsClash ws places (has m.lits)) (sym x.clause) (record {
    place = x.place;
    false_all = all_false ws (has m.lits) w x.watch x.lit false_now (record {
      other = subst (λ (l : Literal). IsIn (has m.lits) (negate l)) other_is other;
      rest = λ k from below. let size = two in absurd (omega arith);
    });
  })
