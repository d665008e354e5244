-- The walk of a row: its start, an entry that is quiet now, its end, and where it ends early.
use Rattle.std.proofs.Common.{◌≡◌, ◌≢◌, ℕ, ◌+◌, ◌*◌, ◌/◌, ◌%◌, ◌<◌, ◌≤◌, ◌⊎◌, false, List, length, take, get_or, refl, sym, ◌∙◌, ap, subst, inl, inr, arith}
use Rattle.std.specs.Prelude.{Contains}
use Rattle.std.proofs.lemmas.Bool.{cases_lt, cases_eq}
use Rattle.std.proofs.lemmas.List.{take-take}
use Rattle.cnf_core.specs.Lit.{Literal, literal_at, word_of, negate, has}
use Rattle.cnf_core.specs.Propagation.{LiteralSet, IsIn}
use Rattle.watch_arena.specs.Words.{arena_word, lit_of}
use Rattle.watch_arena.specs.Trail.{Marks, IsMarks, IsLonger, advanced}
use Rattle.watch_arena.specs.Rows.{Rowed, entry_at, row_of}
use Rattle.watch_arena.specs.Walk.{lit_at, done_of, past_of, IsQuiet, AreGuarded}
use Rattle.watch_arena.specs.Filed.{place_at, AreFiled, IsWatched, IsWalking}
use Rattle.watch_arena.proofs.ViewLemmas.{quiet_longer, quiet_fewer}
use Rattle.watch_arena.proofs.NextLemmas.{past_done, was_past}
use Rattle.watch_arena.proofs.EntryLemmas.{entry_from}

-- the variables of a longer trail are the same
pub filed_longer : (m n : Marks) (ws places : List ℕ) (rows : Rowed) → IsLonger m n → AreFiled m.vars ws places rows → AreFiled n.vars ws places rows
filed_longer m n ws places rows longer f = subst (λ v. AreFiled v ws places rows) (sym longer.vars) f

-- what was propagated of a longer trail, with the next literal
pub done_stays : (m n : Marks) → IsLonger m n → n.front ≡ m.front → m.front < length m.lits → done_of n ≡ done_of m
done_stays m n longer same lt =
    ap (λ k. has (take (k + 1) n.lits)) same ∙ ap has (sym (take-take (m.front + 1) (length m.lits) n.lits (omega arith))
    ∙ ap (take (m.front + 1)) longer.front)

pub walking_longer : (m n : Marks) (ws places : List ℕ) (rows : Rowed) (done : LiteralSet) (w from to : ℕ) → IsMarks m → IsLonger m n →
    IsWalking m ws places rows done w from to → IsWalking n ws places rows done w from to
walking_longer m n ws places rows done w from to marks longer x = record {
  filed = filed_longer m n ws places rows longer x.filed;
  row = x.row;
  within = x.within;
  quiet = λ v k lv lk out. quiet_longer m n ws done (place_at (row_of rows v) k) (literal_at v) marks longer (x.quiet v k lv lk out);
}

-- one entry more is quiet
pub walking_one : (m : Marks) (ws places : List ℕ) (rows : Rowed) (done : LiteralSet) (w from to i low high : ℕ) → IsWalking m ws places rows done w from to →
    high ≤ to → ((k : ℕ) → (k < low) ⊎ (high ≤ k) → (k ≡ i) ⊎ ((k < from) ⊎ (to ≤ k))) →
    IsQuiet ws done m (place_at (row_of rows w) i) (literal_at w) → IsWalking m ws places rows done w low high
walking_one m ws places rows done w from to i low high x le cover here = record {
  filed = x.filed;
  row = x.row;
  within = let within = x.within in omega arith;
  quiet = λ v k lv lk out. elim out [
    | inl ne ↦ x.quiet v k lv lk (inl ne)
    | inr near ↦ elim (cover k near) [
      | inl is ↦ elim (cases_eq v w) [
        | inl same ↦ subst (λ n. IsQuiet ws done m (place_at (row_of rows n) k) (literal_at n)) (sym same)
            (subst (λ n. IsQuiet ws done m (place_at (row_of rows w) n) (literal_at w)) (sym is) here)
        | inr ne ↦ x.quiet v k lv lk (inl ne)
      ]
      | inr old ↦ x.quiet v k lv lk (inr old)
    ]
  ];
}

pub walking_up : (m : Marks) (ws places : List ℕ) (rows : Rowed) (done : LiteralSet) (w from to : ℕ) → IsWalking m ws places rows done w from to →
    IsQuiet ws done m (place_at (row_of rows w) from) (literal_at w) → IsWalking m ws places rows done w (from + 1) to
walking_up m ws places rows done w from to x here = walking_one m ws places rows done w from to from (from + 1) to x (omega arith)
    (λ k out. elim out [
      | inl low ↦ elim (cases_eq k from) [ inl e ↦ inl e | inr ne ↦ inr (inl (omega arith)) ]
      | inr high ↦ inr (inr high)
    ]) here

pub walking_down : (m : Marks) (ws places : List ℕ) (rows : Rowed) (done : LiteralSet) (w from i : ℕ) → IsWalking m ws places rows done w from (i + 1) →
    IsQuiet ws done m (place_at (row_of rows w) i) (literal_at w) → IsWalking m ws places rows done w from i
walking_down m ws places rows done w from i x here = walking_one m ws places rows done w from (i + 1) i from i x (omega arith)
    (λ k out. elim out [
      | inl low ↦ inr (inl low)
      | inr high ↦ elim (cases_eq k i) [ inl e ↦ inl e | inr ne ↦ inr (inr (omega arith)) ]
    ]) here

-- all entries of the row are quiet
pub walking_end : (m : Marks) (ws places : List ℕ) (rows : Rowed) (w n : ℕ) → IsWalking m ws places rows (done_of m) w n n →
    IsWatched (advanced m) ws places rows (past_of (advanced m))
walking_end m ws places rows w n x = record {
  filed = x.filed;
  quiet = λ v k lv lk.
      let q = x.quiet v k lv lk (inr (cases_lt k n)) in
      record { held = λ f. let h = q.held f in let y = h.2 in (h.0, h.1, record { now = y.now; back = y.back }) };
}

-- the walk ends early: the row's literal isn't propagated
pub walking_back : (m : Marks) (ws places : List ℕ) (rows : Rowed) (w from to : ℕ) → past_of m (negate (literal_at w)) ≡ false →
    IsWalking m ws places rows (done_of m) w from to → IsWatched m ws places rows (past_of m)
walking_back m ws places rows w from to fresh x = record {
  filed = x.filed;
  quiet = λ v k lv lk. elim (cases_eq v w) [
    | inl same ↦ record {
      held = λ f.
          let g : IsIn (past_of m) (negate (literal_at w)) = subst (λ n. IsIn (past_of m) (negate (literal_at n))) same f in
          absurd (cc (g, fresh));
    }
    | inr ne ↦ quiet_fewer m ws (done_of m) (past_of m) (place_at (row_of rows v) k) (literal_at v) (past_done m (negate (literal_at v)))
        (x.quiet v k lv lk (inl ne))
  ];
}

-- the row of the next literal is still to be looked at
pub walking_start : (m : Marks) (l : Literal) (w : ℕ) (ws places : List ℕ) (rows : Rowed) → IsMarks m → m.front < length m.lits → get_or m.lits m.front l ≡ l →
    w ≡ word_of (negate l) → w < length rows.lists → IsWatched m ws places rows (past_of m) →
    IsWalking m ws places rows (done_of m) w 0 (length (row_of rows w))
walking_start m l w ws places rows marks lt is word below x = record {
  filed = x.filed;
  row = below;
  within = omega arith;
  quiet = λ v k lv lk out. elim (cases_eq v w) [
    | inl same ↦
        let size : length (row_of rows v) ≡ length (row_of rows w) = ap (λ n. length (row_of rows n)) same in
        absurd (elim out [ inl ne ↦ ne same | inr near ↦ elim near [ inl low ↦ omega arith | inr high ↦ omega arith ] ])
    | inr ne ↦ quiet_fewer m ws (past_of m) (done_of m) (place_at (row_of rows v) k) (literal_at v) (was_past m l w marks lt is word v ne)
        (x.quiet v k lv lk)
  ];
}

-- once no row is walked, each watch is quiet, and where each is, no row is to be walked
pub watched_guarded : (m : Marks) (ws places : List ℕ) (rows : Rowed) (done : LiteralSet) → IsWatched m ws places rows done → AreGuarded ws places done m
watched_guarded m ws places rows done x = λ s c.
    let f = x.filed in
    let y = f.entered in
    let h = f.store in
    let b = h.block (s / 2) c in
    let two = b.two in
    let l = b.lits (s % 2) (omega arith) in
    let below = l.below in
    let size = f.size in
    let one = y.once s c (inr (omega arith)) in
    let k = entry_from (row_of rows (arena_word ws (lit_of s))) (s / 2) (omega arith) in
    subst (λ p. IsQuiet ws done m p (lit_at ws (lit_of s))) k.2 (x.quiet (arena_word ws (lit_of s)) k.0 (omega arith) k.1)

pub guarded_watched : (m : Marks) (ws places : List ℕ) (rows : Rowed) (done : LiteralSet) → AreFiled m.vars ws places rows → AreGuarded ws places done m →
    IsWatched m ws places rows done
guarded_watched m ws places rows done f q = record {
  filed = f;
  quiet = λ v k lv lk.
      let y = f.entered in
      let e = y.right v k lv lk in
      subst (λ p. IsQuiet ws done m p (literal_at v)) (sym e.clause) (subst (λ n. IsQuiet ws done m (e.watch / 2) (literal_at n)) e.lit (q e.watch e.place));
}
