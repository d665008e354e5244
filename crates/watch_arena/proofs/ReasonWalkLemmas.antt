-- What a literal that a clause leaves alone adds to a trail.
use Rattle.std.proofs.Common.{◌≡◌, ℕ, ◌/◌, ◌≤◌, List, [], ◌∷◌, ◌++◌, arith, refl}
use Rattle.std.specs.Prelude.{Contains}
use Rattle.cnf_core.specs.Lit.{Literal, literal_at, negate, has}
use Rattle.cnf_core.specs.Clause.{IsThere}
use Rattle.cnf_core.specs.Propagation.{IsIn}
use Rattle.cnf_core.proofs.GrowthLemmas.{grows_none}
use Rattle.watch_arena.specs.Words.{arena_word, lit_of, IsStore}
use Rattle.watch_arena.specs.Trail.{Marks, IsMarks, with_lit}
use Rattle.watch_arena.specs.Walk.{IsAlone, KeepsClauses, HasWalked}
use Rattle.watch_arena.proofs.WalkLemmas.{alone_grows, longer_unit, longer_none, unit_keeps}
use Rattle.watch_arena.proofs.ReasonLemmas.{reasoned_unit, reasoned_text, unit_because, none_because, alone_reason}

pub alone_made : (m : Marks) (ws places : List ℕ) (w s : ℕ) (l : Literal) → IsStore m.vars ws places → Contains places (s / 2) →
    arena_word ws (lit_of s) ≡ w → IsIn (has m.lits) (negate (literal_at w)) → IsMarks m → IsThere m.vars l → IsAlone ws m.lits s l →
    HasWalked m (with_lit m l (s / 2)) ws ws places
alone_made m ws places w s l h place lit false_now marks there a =
    let b = h.block (s / 2) place in
    let two = b.two in
    let from = b.from in
    let reason = alone_reason ws places m.lits w s l place two lit false_now a in
    record {
      longer = longer_unit m l (s / 2);
      propagated = omega arith;
      because = unit_because m l (s / 2) marks there a.unset ws places reason;
      grows = alone_grows ws places m.lits w s l place two lit false_now a;
      text = λ p c d is. is;
      reasoned = λ r. reasoned_unit m l (s / 2) marks there a.unset ws places r from reason;
      reasons = unit_keeps m l (s / 2) a.unset;
    }

-- literals of a clause change places, and no literal comes to the trail
pub text_made : (m : Marks) (ws new places : List ℕ) → KeepsClauses places ws new → HasWalked m m ws new places
text_made m ws new places text = record {
  longer = longer_none m;
  propagated = omega arith;
  because = none_because m new places;
  grows = λ clauses t. grows_none clauses m.lits;
  text = text;
  reasoned = reasoned_text m ws new places text;
  reasons = λ i d lt. refl;
}
