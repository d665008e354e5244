-- Clauses of two literals in a row, and the trail after one of them was looked at.
use Rattle.std.proofs.Common.{◌≡◌, ℕ, ◌+◌, ◌<◌, ◌≤◌, ◌⊎◌, false, List, length, refl, sym, ◌∙◌, ap, subst, inl, inr, arith}
use Rattle.cnf_core.specs.Lit.{Literal, literal_at, negate, has}
use Rattle.cnf_core.specs.Propagation.{LiteralSet, IsIn}
use Rattle.watch_arena.specs.declared.rows.Entry.{Entry}
use Rattle.watch_arena.specs.Trail.{Marks, IsMarks, IsLonger}
use Rattle.watch_arena.specs.Rows.{Rowed, entry_at, row_of, pairs_of}
use Rattle.watch_arena.specs.Walk.{done_of, past_of, HasLit, IsTrueNoLater, IsQuiet}
use Rattle.watch_arena.specs.Filed.{place_at, IsEntry, IsPair, IsWalking, IsWatched}
use Rattle.watch_arena.proofs.NextLemmas.{front_stays}
use Rattle.watch_arena.proofs.VisitLemmas.{done_stays, walking_longer, walking_up, walking_back}

-- an entry of a row that is walked
module _ (m : Marks) (ws places : List ℕ) (rows : Rowed) (done : LiteralSet) (w from to i : ℕ) (x : IsWalking m ws places rows done w from to) (e : Entry)
    (is : e ≡ entry_at (row_of rows w) i) where
  pub entry_right : i < length (row_of rows w) → IsEntry ws places 0 0 w e
  entry_right lt = let f = x.filed in let rows_now = f.entered in subst (IsEntry ws places 0 0 w) (sym is) (rows_now.right w i x.row lt)

  pub entry_pair : i < pairs_of rows w → IsPair ws w e
  entry_pair lt = let f = x.filed in let pairs = f.pairs in subst (IsPair ws w) (sym is) (pairs.pair w i x.row lt)

pub pairs_within : (m : Marks) (ws places : List ℕ) (rows : Rowed) (done : LiteralSet) (w from to : ℕ) → IsWalking m ws places rows done w from to →
    pairs_of rows w ≤ length (row_of rows w)
pairs_within m ws places rows done w from to x = let f = x.filed in let pairs = f.pairs in pairs.within w

-- the trail is longer
module _ (m n : Marks) (ws places : List ℕ) (rows : Rowed) (w from to : ℕ) (marks : IsMarks m) (longer : IsLonger m n) (front : n.front ≡ m.front)
    (lt : m.front < length m.lits) (x : IsWalking m ws places rows (done_of m) w from to) where
  pub walking_still : IsWalking n ws places rows (done_of n) w from to
  walking_still = subst (λ (done : LiteralSet). IsWalking n ws places rows done w from to) (sym (done_stays m n longer front lt))
      (walking_longer m n ws places rows (done_of m) w from to marks longer x)

  pub fresh_still : past_of m (negate (literal_at w)) ≡ false → past_of n (negate (literal_at w)) ≡ false
  fresh_still fresh = front_stays m n longer front marks (negate (literal_at w)) ∙ fresh

  -- one more entry of a clause of two literals was looked at
  pub pair_walking : (e : Entry) → e ≡ entry_at (row_of rows w) from → from < length (row_of rows w) → IsTrueNoLater n (negate (literal_at w)) e.other →
      IsWalking n ws places rows (done_of n) w (from + 1) to
  pair_walking e is below held =
      let f = x.filed in
      let rows_now = f.entered in
      let y = rows_now.right w from x.row below in
      walking_up n ws places rows (done_of n) w from to walking_still (record {
        held = λ _. (
          e.other,
          subst (λ (b : Entry). HasLit ws (place_at (row_of rows w) from) b.other) (sym is)
              (subst (λ p. HasLit ws p (entry_at (row_of rows w) from).other) (sym y.clause) y.other),
          held,
        );
      })

  -- all literals of one are false
  pub pair_back : past_of m (negate (literal_at w)) ≡ false → IsWatched n ws places rows (past_of n)
  pair_back fresh = walking_back n ws places rows w from to (fresh_still fresh) walking_still
