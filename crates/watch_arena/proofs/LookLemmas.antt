-- The answers of a look at a clause, and what each leaves of the walk.
use Rattle.std.proofs.Common.{◌≡◌, ◌≢◌, ℕ, ◌+◌, ◌-◌, ◌*◌, ◌/◌, ◌%◌, ◌<◌, ◌≤◌, ◌⊎◌, false, List, [], ◌∷◌, ◌++◌, length, take, refl, sym, ◌∙◌, ap, subst, inl}
use Rattle.std.proofs.Common.{inr, arith}
use Rattle.std.specs.Prelude.{Contains, ◌^◌}
use Rattle.std.proofs.lemmas.Bool.{cases_eq}
use Rattle.cnf_core.specs.Lit.{Literal, literal_at, negate, has}
use Rattle.cnf_core.specs.Clause.{IsThere}
use Rattle.cnf_core.specs.Propagation.{LiteralSet, IsIn}
use Rattle.cnf_core.proofs.TrailLemmas.{has_last}
use Rattle.watch_arena.specs.declared.rows.Entry.{Entry}
use Rattle.watch_arena.specs.Words.{arena_word, lit_of, other_of, IsStore, Swapped}
use Rattle.watch_arena.specs.Trail.{Marks, IsMarks, IsLonger, with_lit}
use Rattle.watch_arena.specs.Rows.{Rowed, entry_at, row_of, pairs_of, room_of, with_row, with_other, without, pushed}
use Rattle.watch_arena.specs.Walk.{lit_at, done_of, past_of, HasLit, IsQuiet, IsMove, IsFalsified, IsClash, KeepsClauses}
use Rattle.watch_arena.specs.Filed.{place_at, IsEntry, AreFiled, IsWalking, IsWatched}
use Rattle.watch_arena.proofs.WordLemmas.{lit_there}
use Rattle.watch_arena.proofs.WalkLemmas.{held_now, longer_unit, fresh_with, all_false}
use Rattle.watch_arena.proofs.VisitLemmas.{done_stays, walking_longer, walking_down}
use Rattle.watch_arena.proofs.StepLemmas.{changed_walking, moved_below, moved_room, moved_text, moved_walking}

-- what a step may read and write of the clause of an entry
pub record IsReady (vars : ℕ) (ws places : List ℕ) (rows : Rowed) (w i p : ℕ) : Type 0 where
  pub entry : IsEntry ws places 0 0 w (entry_at (row_of rows w) i)
  pub below : i < length (row_of rows w)
  pub place : Contains places p
  pub two : 2 ≤ arena_word ws p
  pub within : p + 3 + arena_word ws p ≤ length ws
  pub limit : length ws < 2 ^ 30
  pub one : (arena_word ws (p + 3) ≡ w) ⊎ (arena_word ws (p + 4) ≡ w)

pub ready : (m : Marks) (ws places : List ℕ) (rows : Rowed) (done : LiteralSet) (w from i p : ℕ) → IsWalking m ws places rows done w from (i + 1) →
    place_at (row_of rows w) i ≡ p → IsReady m.vars ws places rows w i p
ready m ws places rows done w from i p x at_p =
    let f = x.filed in
    let within = x.within in
    let rows_now = f.entered in
    let e = rows_now.right w i x.row (omega arith) in
    let half : e.watch / 2 ≡ p = sym e.clause ∙ at_p in
    let place : Contains places p = subst (Contains places) half e.place in
    let h = f.store in
    let b = h.block p place in
    record {
      entry = e;
      below = omega arith;
      place = place;
      two = b.two;
      within = b.within;
      limit = h.room_limit;
      one = elim (cases_eq (e.watch % 2) 0) [
        | inl z ↦ let lit : lit_of e.watch ≡ p + 3 = omega arith in inl (sym (ap (arena_word ws) lit) ∙ e.lit)
        | inr o ↦ let lit : lit_of e.watch ≡ p + 4 = omega arith in inr (sym (ap (arena_word ws) lit) ∙ e.lit)
      ];
    }

-- the literal of the other watch stands in the clause
pub other_in : (ws places : List ℕ) (s : ℕ) (l : Literal) → 2 ≤ arena_word ws (s / 2) → l ≡ lit_at ws (other_of s) → HasLit ws (s / 2) l
other_in ws places s l two is = (1 - s % 2, omega arith, ap (lit_at ws) (omega arith) ∙ sym is)

pub other_there : (vars : ℕ) (ws places : List ℕ) (s : ℕ) (l : Literal) → IsStore vars ws places → Contains places (s / 2) → l ≡ lit_at ws (other_of s) →
    IsThere vars l
other_there vars ws places s l h c is =
    let b = h.block (s / 2) c in
    let x = other_in ws places s l b.two is in
    subst (IsThere vars) x.2 (lit_there vars ws places (s / 2) x.0 h c x.1)

module _ (m : Marks) (ws places : List ℕ) (rows : Rowed) (w from i : ℕ) (x : IsWalking m ws places rows (done_of m) w from (i + 1)) (marks : IsMarks m)
    (fresh : past_of m (negate (literal_at w)) ≡ false) (o : Literal) (is : HasLit ws (place_at (row_of rows w) i) o) where
  -- a literal of the clause is true
  pub true_walking : IsIn (has m.lits) o → IsWalking m ws places rows (done_of m) w from i
  true_walking now = walking_down m ws places rows (done_of m) w from i x (record { held = λ _. (o, is, held_now m w o marks fresh now) })

  -- and it is written into the entry
  pub true_changed : IsIn (has m.lits) o → pairs_of rows w ≤ i →
      IsWalking m ws places (with_row rows w (with_other (row_of rows w) i o)) (done_of m) w from i
  true_changed now long = changed_walking m.vars ws places rows w i o x.filed x.row (let within = x.within in omega arith) long is m (done_of m) from i refl
      (true_walking now)

  -- a literal of the clause was set
  pub set_walking : (reason : ℕ) → IsMarks (with_lit m o reason) → m.front < length m.lits →
      IsWalking (with_lit m o reason) ws places rows (done_of (with_lit m o reason)) w from i
  set_walking reason more front =
      let n = with_lit m o reason in
      let longer = longer_unit m o reason in
      let same = done_stays m (with_lit m o reason) longer refl front in
      let y = walking_longer m (with_lit m o reason) ws places rows (done_of m) w from (i + 1) marks longer x in
      subst (λ (done : LiteralSet). IsWalking (with_lit m o reason) ws places rows done w from i) (sym same)
      (walking_down (with_lit m o reason) ws places rows (done_of m) w from i y (record {
        held = λ _. (o, is, held_now (with_lit m o reason) w o more (fresh_with m o (negate (literal_at w)) reason marks fresh) (has_last m.lits o));
      }))

  pub set_changed : (reason : ℕ) → IsMarks (with_lit m o reason) → m.front < length m.lits → pairs_of rows w ≤ i →
      IsWalking (with_lit m o reason) ws places (with_row rows w (with_other (row_of rows w) i o)) (done_of (with_lit m o reason)) w from i
  set_changed reason more front long = changed_walking m.vars ws places rows w i o x.filed x.row (let within = x.within in omega arith) long is
      (with_lit m o reason) (done_of (with_lit m o reason)) from i refl (set_walking reason more front)

-- all literals of the clause are false
pub look_clash : (ws places : List ℕ) (set : LiteralSet) (w s p : ℕ) → Contains places p → s / 2 ≡ p → arena_word ws (lit_of s) ≡ w →
    IsIn set (negate (literal_at w)) → IsFalsified ws set s → IsClash ws places set p
look_clash ws places set w s p c half lit false_now x = subst (IsClash ws places set) half (record {
  place = subst (Contains places) (sym half) c;
  false_all = all_false ws set w s lit false_now x;
})

-- what watching another literal leaves
pub record IsMoved (m : Marks) (ws new places : List ℕ) (mid : Rowed) (w i v low : ℕ) (e : Entry) : Type 0 where
  pub row : v < length mid.lists
  pub room : length (row_of mid v) < room_of mid v
  pub text : KeepsClauses places ws new
  pub walking : IsWalking m new places (pushed mid v e) (done_of m) w low i

pub moved_all : (m : Marks) (ws new places : List ℕ) (rows mid : Rowed) (w i s k : ℕ) (e : Entry) →
    IsWalking m ws places rows (done_of m) w (pairs_of rows w) (i + 1) → pairs_of rows w ≤ i → place_at (row_of rows w) i ≡ s / 2 →
    arena_word ws (lit_of s) ≡ w → IsMove ws (has m.lits) (s / 2) k → Swapped ws new (s / 2 + 3 + s % 2) (s / 2 + 3 + k) → e.clause.0 ≡ s / 2 →
    HasLit ws (s / 2) e.other → mid ≡ with_row rows w (without (row_of rows w) i) →
    IsMoved m ws new places mid w i (arena_word new (lit_of s)) (pairs_of rows w) e
moved_all m ws new places rows mid w i s k e x long half lit move d is other taken =
    let within = x.within in
    let below : i < length (row_of rows w) = omega arith in
    subst (λ (r : Rowed). IsMoved m ws new places r w i (arena_word new (lit_of s)) (pairs_of rows w) e) (sym taken) (record {
      row = moved_below m.vars ws new places rows w i s k e x.filed x.row below long half lit move.from move.below d is other;
      room = moved_room m.vars ws new places rows w i s k e x.filed x.row below long half lit move.from move.below d is other;
      text = moved_text m.vars ws new places rows w i s k e x.filed x.row below long half lit move.from move.below d is other;
      walking = moved_walking m.vars ws new places rows w i s k e x.filed x.row below long half lit move.from move.below d is other m (pairs_of rows w) refl
          x long move.open_;
    })

-- a clause's watch by its word
pub second_watch : (ws : List ℕ) (p w : ℕ) → arena_word ws (p + 4) ≡ w → arena_word ws (lit_of (2 * p + 1)) ≡ w
second_watch ws p w is = ap (arena_word ws) (omega arith) ∙ is

pub first_watch : (ws : List ℕ) (p w : ℕ) → (arena_word ws (p + 3) ≡ w) ⊎ (arena_word ws (p + 4) ≡ w) → (arena_word ws (p + 4) ≡ w → ⊥) →
    arena_word ws (lit_of (2 * p)) ≡ w
first_watch ws p w (inl is) other = ap (arena_word ws) (omega arith) ∙ is
first_watch ws p w (inr is) other = absurd (other is)
