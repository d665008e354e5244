-- Arenas and trails.
use Rattle.std.proofs.Common.{◌≡◌, ◌+◌, ◌*◌, ◌/◌, ◌<◌, ◌≤◌, ℕ, zero, suc, List, [], ◌∷◌, ◌++◌, length, get_or, replicate, refl, sym, ◌∙◌, ap, subst, inl, inr}
use Rattle.std.proofs.Common.{arith, length-append}
use Rattle.std.specs.Prelude.{All, Contains, Option, Some, None, IfSome, Result, Ok, Err, IfOk, OnOk, OnErr, map, ◌^◌}
use Rattle.std.proofs.lemmas.Bool.{cases_lt}
use Rattle.std.proofs.lemmas.List.{length-replicate, get_or_default, get_or_past}
use Rattle.std.proofs.lemmas.List.Elements.{Contains-push_cases, Contains-append_left}
use Rattle.cnf_core.specs.declared.limits.TheConstants.{VARS, ROOM}
use Rattle.cnf_core.specs.Lit.{Literal, IsWord, literal_at, has}
use Rattle.cnf_core.specs.Clause.{AreThere, AreDistinct}
use Rattle.cnf_core.specs.Propagation.{Falsifies, IsClosure}
use Rattle.cnf_core.specs.Trail.{Grows}
use Rattle.cnf_core.proofs.TrailLemmas.{distinct_push}
use Rattle.cnf_core.proofs.GatherLemmas.{there_push}
use Rattle.watch_arena.specs.declared.fault.ArenaFault.{ArenaFault}
use Rattle.watch_arena.specs.declared.clause_ref.ClauseRef.{ClauseRef}
use Rattle.watch_arena.specs.declared.rows.Entry.{Entry}
use Rattle.watch_arena.specs.Words.{arena_word, lit_of, IsStore, IsBlock, KeepsFront}
use Rattle.watch_arena.specs.Rows.{Rowed, entry_at, row_of, pairs_of, room_of, more_rows, no_rows}
use Rattle.watch_arena.specs.Trail.{Marks}
use Rattle.watch_arena.specs.Walk.{lit_at, lits_upto, lits_at, AreGuarded, HasWalked, IsClash, Closes, Clashes, KeepsLits, past_of}
use Rattle.watch_arena.specs.Filed.{entries_for, IsEntry, IsPair, HasRows, HasPairs, HasPlace, AreFiled, IsWatched, clauses_with}
use Rattle.watch_arena.specs.Arena.{Attached, attached_of, attached_at, attached_clauses, watch_at, IsArena, IsKept, AreWatched, AreReasoned, AreBecause}
use Rattle.watch_arena.specs.Arena.{AreAttached, IsSameText, IsMoreText, MayBeWatched, IsClashOf}
use Rattle.watch_arena.proofs.WordLemmas.{lit_there, word_there, bounds}
use Rattle.watch_arena.proofs.TextLemmas.{upto_in, text_of, same_lits, upto_length, upto_get, kept_lits, all_false}
use Rattle.watch_arena.proofs.TrailLemmas.{get_padded}
use Rattle.watch_arena.proofs.ReasonLemmas.{reasoned_more}
use Rattle.watch_arena.proofs.ViewLemmas.{quiet_from, kept_from, guarded_from, first_quiet, second_quiet, right_kept}
use Rattle.watch_arena.proofs.VisitLemmas.{watched_guarded, guarded_watched}
use Rattle.watch_arena.proofs.FiledLemmas.{front_lits}
use Rattle.watch_arena.proofs.PlaceLemmas.{clauses_none}

-- an arena's tables on a trail of its variables
module _ (vars room : ℕ) (ws places : List ℕ) (rows : Rowed) (visits : ℕ) (a : Attached) (k : IsArena vars room ws places rows)
    (e : attached_of vars room ws places visits ≡ a) where
  pub arena_filed : (n : ℕ) → n ≡ a.vars → AreFiled n ws places rows
  arena_filed n same =
      let is : n ≡ vars = same ∙ sym (ap (λ (x : Attached). x.vars) e) in
      subst (λ v. AreFiled v ws places rows) (sym is) k.filed

  pub arena_watched : (m : Marks) → m.vars ≡ a.vars → AreWatched a m → IsWatched m ws places rows (past_of m)
  arena_watched m same w =
      let v : AreWatched (attached_of vars room ws places visits) m = subst (λ (x : Attached). AreWatched x m) (sym e) w in
      guarded_watched m ws places rows (past_of m) (arena_filed m.vars same)
      (guarded_from m ws places (past_of m) (λ p c. quiet_from m ws p (lit_at ws (p + 3 + 0)) (v.first p c))
      (λ p c. quiet_from m ws p (lit_at ws (p + 3 + 1)) (v.second p c)))

not_in_none : (n : ℕ) → Contains [] n → ⊥
not_in_none n c = let lt = c.1 in omega arith

row_none : (n w : ℕ) → length (row_of (more_rows no_rows n) w) ≡ 0
row_none n w = ap length (get_padded {X = List Entry} [] n [] w)

pairs_none : (n w : ℕ) → pairs_of (more_rows no_rows n) w ≡ 0
pairs_none n w = get_padded {X = ℕ} [] n 0 w

pub arena_new : (vars room : ℕ) → vars ≤ VARS → room ≤ ROOM → IsArena vars room (replicate 1 0) [] (more_rows no_rows (2 * vars + 2))
arena_new vars room v r = record {
  vars_limit = v;
  room_limit = r;
  filed = record {
    some = omega (arith, length-replicate {A = ℕ} 1 0);
    store = record {
      vars_limit = omega arith;
      room_limit = omega (arith, length-replicate {A = ℕ} 1 0);
      block = λ p c. absurd (not_in_none p c);
      apart = λ p q c d lt. absurd (not_in_none p c);
    };
    size = length-replicate {A = List Entry} (2 * vars + 2) [];
    entered = record {
      right = λ w k lt lk. let none = row_none (2 * vars + 2) w in absurd (omega arith);
      once = λ s c entered. absurd (not_in_none (s / 2) c);
    };
    pairs = record {
      within = λ w. let none = pairs_none (2 * vars + 2) w in omega arith;
      pair = λ w k lt lk. let none = pairs_none (2 * vars + 2) w in absurd (omega arith);
    };
    place = record { place = λ w lt. omega arith };
  };
}

pub none_watched : (a : Attached) (m : Marks) → a.places ≡ [] → AreWatched a m
none_watched a m e = record {
  first = λ p c. absurd (not_in_none p (subst (λ (ps : List ℕ). Contains ps p) e c));
  second = λ p c. absurd (not_in_none p (subst (λ (ps : List ℕ). Contains ps p) e c));
}

-- each clause is one of distinct variables in range
upto_there : (vars : ℕ) (ws places : List ℕ) (p n : ℕ) → IsStore vars ws places → Contains places p → n ≤ arena_word ws p → AreThere vars (lits_upto ws p n)
upto_there vars ws places p zero h c le = tt
upto_there vars ws places p (suc n) h c le = there_push vars (lits_upto ws p n) (lit_at ws (p + 3 + n)) (upto_there vars ws places p n h c (omega arith))
    (lit_there vars ws places p n h c (omega arith))

upto_distinct : (vars : ℕ) (ws : List ℕ) (p n : ℕ) → IsBlock vars ws p → n ≤ arena_word ws p → AreDistinct (lits_upto ws p n)
upto_distinct vars ws p zero b le = tt
upto_distinct vars ws p (suc n) b le = distinct_push (lits_upto ws p n) (lit_at ws (p + 3 + n)) (upto_distinct vars ws p n b (omega arith)) (λ k among e.
    let x = upto_in ws p n k among in
    let lt = x.1 in
    b.distinct x.0 n (omega arith) (omega arith) (omega arith) (ap (λ (l : Literal). l.var) x.2 ∙ e))

pub are_attached : (vars room : ℕ) (ws places : List ℕ) (rows : Rowed) (visits : ℕ) → IsArena vars room ws places rows →
    AreAttached (attached_of vars room ws places visits)
are_attached vars room ws places rows visits k = λ p c.
    let f = k.filed in
    let h = f.store in
    let b = h.block p c in
    let two = b.two in
    record {
      from = b.from;
      two = omega (arith, upto_length ws p (arena_word ws p));
      there = upto_there vars ws places p (arena_word ws p) h c (omega arith);
      distinct = upto_distinct vars ws p (arena_word ws p) b (omega arith);
    }

-- what propagation leaves
pub record IsPropagated (old new : Attached) (m now : Marks) : Type 0 where
  pub watched : AreWatched new now
  pub reasoned : AreReasoned old m → AreReasoned new now
  pub because : AreBecause new m now
  pub text : IsSameText old new
  pub grows : Grows (attached_clauses old) m.lits now.lits

pub propagated : (old : Attached) (vars room visits after : ℕ) (ws places given_words given_places : List ℕ) (rows : Rowed) (new got : List ℕ) (m now : Marks) →
    attached_of vars room ws places visits ≡ old → given_words ≡ ws → given_places ≡ places → got ≡ new → length new ≡ length given_words →
    HasWalked m now given_words new given_places → IsWatched now new given_places rows (past_of now) →
    IsPropagated old (attached_of vars room got places after) m now
propagated old vars room visits after ws places given_words given_places rows new got m now e words places_same items size made k =
    subst (λ (o : Attached). IsPropagated o (attached_of vars room got places after) m now) e
    (subst (λ (w : List ℕ). IsPropagated (attached_of vars room w places visits) (attached_of vars room got places after) m now) words
    (subst (λ (p : List ℕ). IsPropagated (attached_of vars room given_words p visits) (attached_of vars room got p after) m now) places_same
    (subst (λ (g : List ℕ). IsPropagated (attached_of vars room given_words given_places visits) (attached_of vars room g given_places after) m now) (sym items)
    base)))
  where
    quiet : AreGuarded new given_places (past_of now) now
    quiet = watched_guarded now new given_places rows (past_of now) k

    base : IsPropagated (attached_of vars room given_words given_places visits) (attached_of vars room new given_places after) m now
    base = record {
      watched = record {
        first = λ p c. kept_from now new p (lit_at new (p + 3 + 0)) (first_quiet now new given_places (past_of now) quiet p c);
        second = λ p c. kept_from now new p (lit_at new (p + 3 + 1)) (second_quiet now new given_places (past_of now) quiet p c);
      };
      reasoned = made.reasoned;
      because = made.because;
      text = record { vars = refl; room = refl; words = size; places = refl; lits = λ p c. same_lits given_words new given_places p made.text c };
      grows = made.grows (map (lits_at given_words) given_places) (text_of given_words given_places);
    }

pub closes : (old : Attached) (vars room visits : ℕ) (ws places given_words given_places : List ℕ) (m now : Marks) →
    attached_of vars room ws places visits ≡ old → given_words ≡ ws → given_places ≡ places → Closes given_places given_words m.lits now.lits →
    IsClosure (attached_clauses old) (has m.lits) (has now.lits)
closes old vars room visits ws places given_words given_places m now e words places_same x =
    subst (λ (o : Attached). IsClosure (attached_clauses o) (has m.lits) (has now.lits)) e
    (subst (λ (w : List ℕ). IsClosure (map (lits_at w) places) (has m.lits) (has now.lits)) words
    (subst (λ (p : List ℕ). IsClosure (map (lits_at given_words) p) (has m.lits) (has now.lits)) places_same
    (x (map (lits_at given_words) given_places) (text_of given_words given_places))))

pub falsifies : (old : Attached) (vars room visits : ℕ) (ws places given_words given_places : List ℕ) (m : Marks) →
    attached_of vars room ws places visits ≡ old → given_words ≡ ws → given_places ≡ places → Clashes given_places given_words m.lits →
    Falsifies (attached_clauses old) (has m.lits)
falsifies old vars room visits ws places given_words given_places m e words places_same x =
    subst (λ (o : Attached). Falsifies (attached_clauses o) (has m.lits)) e
    (subst (λ (w : List ℕ). Falsifies (map (lits_at w) places) (has m.lits)) words
    (subst (λ (p : List ℕ). Falsifies (map (lits_at given_words) p) (has m.lits)) places_same
    (x (map (lits_at given_words) given_places) (text_of given_words given_places))))

pub clash_of : (vars room after : ℕ) (places given_places new got : List ℕ) (now : Marks) (p : ℕ) → given_places ≡ places → got ≡ new →
    IsClash new given_places (has now.lits) p → IsClashOf (attached_of vars room got places after) now p
clash_of vars room after places given_places new got now p places_same items x =
    subst (λ (q : List ℕ). IsClashOf (attached_of vars room got q after) now p) places_same
    (subst (λ (g : List ℕ). IsClashOf (attached_of vars room g given_places after) now p) (sym items) (record {
      place = x.place;
      all_false = all_false new p (has now.lits) x.false_all;
    }))

pub some_weaker : (r : Option ClauseRef) {P Q : ClauseRef → Type 0} → ((c : ClauseRef) → P c → Q c) → IfSome r P → IfSome r Q
some_weaker (Some c) f x = f c x
some_weaker None f x = x

-- a clause is attached, or nothing has changed that is seen
pub arena_attached : (vars room : ℕ) (ws places : List ℕ) (rows : Rowed) (visits n : ℕ) (a : Attached) (new now : List ℕ) (then : Rowed) →
    IsArena vars room ws places rows → attached_of vars room ws places visits ≡ a → n ≡ a.vars → AreFiled n new now then → IsArena vars room new now then
arena_attached vars room ws places rows visits n a new now then k e same f =
    let is : n ≡ vars = same ∙ sym (ap (λ (x : Attached). x.vars) e) in
    record { vars_limit = k.vars_limit; room_limit = k.room_limit; filed = subst (λ v. AreFiled v new now then) is f }

-- the watches of clauses by their literals
watch_is : (a : Attached) (p i : ℕ) (d : Literal) → i < length (attached_at a p) → watch_at a p i ≡ get_or (attached_at a p) i d
watch_is a p i d lt = sym (upto_get a.words p (arena_word a.words p) i d (let size = upto_length a.words p (arena_word a.words p) in omega arith))

watch_same : (old new : Attached) (p i : ℕ) → i < length (attached_at old p) → attached_at new p ≡ attached_at old p → watch_at new p i ≡ watch_at old p i
watch_same old new p i lt e =
    let size = ap length e in
    watch_is new p i (watch_at old p i) (omega arith) ∙ ap (λ (c : List Literal). get_or c i (watch_at old p i)) e
    ∙ sym (watch_is old p i (watch_at old p i) lt)

module _ (old new : Attached) (p : ℕ) (attached : AreAttached old) (same : (q : ℕ) → Contains old.places q → attached_at new q ≡ attached_at old q)
    (places : new.places ≡ old.places ++ p ∷ []) where
  -- a clause that stays is kept as it was
  kept_same : (m : Marks) (q i : ℕ) → Contains old.places q → i < 2 → IsKept m (attached_at old q) (watch_at old q i) →
      IsKept m (attached_at new q) (watch_at new q i)
  kept_same m q i is lt k =
      let x = attached q is in
      let two = x.two in
      subst (λ (a : Literal). IsKept m (attached_at new q) a) (sym (watch_same old new q i (omega arith) (same q is)))
      (subst (λ (c : List Literal). IsKept m c (watch_at old q i)) (sym (same q is)) k)

  -- all are watched on a trail where the old ones are, and the new one
  all_watched : (m : Marks) → AreWatched old m → IsKept m (attached_at new p) (watch_at new p 0) → IsKept m (attached_at new p) (watch_at new p 1) →
      AreWatched new m
  all_watched m before first second = record {
    first = λ q c. elim (Contains-push_cases old.places p q (subst (λ (ps : List ℕ). Contains ps q) places c)) [
      | inl is ↦ kept_same m q 0 is (omega arith) (before.first q is)
      | inr e ↦ subst (λ n. IsKept m (attached_at new n) (watch_at new n 0)) e first
    ];
    second = λ q c. elim (Contains-push_cases old.places p q (subst (λ (ps : List ℕ). Contains ps q) places c)) [
      | inl is ↦ kept_same m q 1 is (omega arith) (before.second q is)
      | inr e ↦ subst (λ n. IsKept m (attached_at new n) (watch_at new n 1)) e second
    ];
  }

  pub added : (lits : List Literal) → attached_at new p ≡ lits → (m : Marks) → AreWatched old m → MayBeWatched m lits → AreWatched new m
  added [] e m before may = absurd may
  added (k ∷ []) e m before may = absurd may
  added (k ∷ l ∷ lits) e m before may = all_watched m before (kept 0 k first_is both.0) (kept 1 l second_is both.1)
    where
      size : length (attached_at new p) ≡ length (k ∷ l ∷ lits)
      size = ap length e

      first_is : watch_at new p 0 ≡ k
      first_is = watch_is new p 0 k (let n = size in omega arith) ∙ ap (λ (c : List Literal). get_or c 0 k) e

      second_is : watch_at new p 1 ≡ l
      second_is = watch_is new p 1 k (let n = size in omega arith) ∙ ap (λ (c : List Literal). get_or c 1 k) e

      both : IsKept m (k ∷ l ∷ lits) k × IsKept m (k ∷ l ∷ lits) l
      both = right_kept m (k ∷ l ∷ lits) k l may (0, omega arith, refl) (1, omega arith, refl)

      kept : (i : ℕ) (a : Literal) → watch_at new p i ≡ a → IsKept m (k ∷ l ∷ lits) a → IsKept m (attached_at new p) (watch_at new p i)
      kept i a is h = subst (λ (x : Literal). IsKept m (attached_at new p) x) (sym is) (subst (λ (c : List Literal). IsKept m c a) (sym e) h)

-- what attaching leaves
pub record IsAnswered (old new : Attached) (lits : List Literal) (r : Result ClauseRef ArenaFault) : Type 0 where
  pub others : IsMoreText old new
  pub watched : OnOk r ((m : Marks) → AreWatched old m → MayBeWatched m lits → AreWatched new m)
  pub reasoned : (m : Marks) → AreReasoned old m → AreReasoned new m

pub answered : (vars room visits : ℕ) (ws places : List ℕ) (rows : Rowed) (new more : List ℕ) (lits : List Literal) (r : Result ClauseRef ArenaFault) →
    IsArena vars room ws places rows →
    OnOk r (KeepsFront ws new) → IfOk r (λ c. more ≡ places ++ c.0 ∷ []) → IfOk r (λ c. lits_at new c.0 ≡ lits) → OnErr r (new ≡ ws) → OnErr r (more ≡ places) →
    IsAnswered (attached_of vars room ws places visits) (attached_of vars room new more visits) lits r
answered vars room visits ws places rows new more lits (Ok c) k front placed clause x y =
    let f = k.filed in
    let kept : KeepsLits places ws new = front_lits vars ws places f.store new rows.lists f.entered front in
    record {
      others = record { vars = refl; room = refl; visits = refl; lits = λ q among. kept_lits places ws new q kept among };
      watched = added (attached_of vars room ws places visits) (attached_of vars room new more visits) c.0
          (are_attached vars room ws places rows visits k) (λ q among. kept_lits places ws new q kept among) placed lits clause;
      reasoned = λ m. reasoned_more m ws new places more (λ q among. subst (λ (ps : List ℕ). Contains ps q) (sym placed)
          (Contains-append_left places (c.0 ∷ []) q among)) (λ q among. kept_lits places ws new q kept among);
    }
answered vars room visits ws places rows new more lits (Err f) k front placed clause x y =
    subst (λ (n : List ℕ). IsAnswered (attached_of vars room ws places visits) (attached_of vars room n more visits) lits (Err f)) (sym x)
    (subst (λ (q : List ℕ). IsAnswered (attached_of vars room ws places visits) (attached_of vars room ws q visits) lits (Err f)) (sym y) (record {
      others = record { vars = refl; room = refl; visits = refl; lits = λ q among. refl };
      watched = tt;
      reasoned = λ m r. r;
    }))

-- reading a clause
pub place_in : (vars room : ℕ) (ws places : List ℕ) (visits : ℕ) (a : Attached) (p : ℕ) → attached_of vars room ws places visits ≡ a → Contains a.places p →
    Contains places p
place_in vars room ws places visits a p e c = subst (λ (x : Attached). Contains x.places p) (sym e) c

pub len_is : (vars room : ℕ) (ws places : List ℕ) (visits : ℕ) (a : Attached) (p n : ℕ) → attached_of vars room ws places visits ≡ a → p < length ws →
    n ≡ get_or ws p n → n ≡ length (attached_at a p)
len_is vars room ws places visits a p n e lt is = is ∙ get_or_default ws p n 0 lt ∙ sym (upto_length ws p (arena_word ws p))
    ∙ ap (λ (x : Attached). length (attached_at x p)) e

pub record IsInReach (ws : List ℕ) (p i : ℕ) : Type 0 where
  pub within : p + 3 + i < length ws
  pub limit : length ws < 2 ^ 30
  pub word : IsWord (arena_word ws (p + 3 + i))

pub in_reach : (vars room : ℕ) (ws places : List ℕ) (rows : Rowed) (visits : ℕ) (a : Attached) (p i : ℕ) →
    IsArena vars room ws places rows → attached_of vars room ws places visits ≡ a → Contains a.places p → i < length (attached_at a p) →
    IsInReach ws p i
in_reach vars room ws places rows visits a p i k e c lt =
    let f = k.filed in
    let h = f.store in
    let here = place_in vars room ws places visits a p e c in
    let b = bounds vars ws places p h here in
    let size : length (attached_at a p) ≡ arena_word ws p = ap (λ (x : Attached). length (attached_at x p)) (sym e) ∙ upto_length ws p (arena_word ws p) in
    let within = b.1 in
    let limit = b.2 in
    record { within = omega arith; limit = limit; word = word_there vars ws places p i h here (omega arith) }

pub lit_is : (vars room : ℕ) (ws places : List ℕ) (visits : ℕ) (a : Attached) (p i n : ℕ) (l : Literal) → attached_of vars room ws places visits ≡ a →
    i < length (attached_at a p) → p + 3 + i < length ws → n ≡ get_or ws (p + 3 + i) n → l ≡ literal_at n → get_or (attached_at a p) i l ≡ l
lit_is vars room ws places visits a p i n l e lt within is lit =
    let size : length (attached_at a p) ≡ arena_word ws p = ap (λ (x : Attached). length (attached_at x p)) (sym e) ∙ upto_length ws p (arena_word ws p) in
    ap (λ (x : Attached). get_or (attached_at x p) i l) (sym e) ∙ upto_get ws p (arena_word ws p) i l (omega arith)
    ∙ ap literal_at (get_or_default ws (p + 3 + i) 0 n within ∙ sym is) ∙ sym lit

-- further variables: their rows are empty
module _ (vars room n : ℕ) (ws places : List ℕ) (rows : Rowed) (k : IsArena vars room ws places rows) where
  same_row : (w : ℕ) → row_of (more_rows rows (2 * n)) w ≡ row_of rows w
  same_row w = get_padded rows.lists (2 * n) [] w

  same_pairs : (w : ℕ) → pairs_of (more_rows rows (2 * n)) w ≡ pairs_of rows w
  same_pairs w = get_padded rows.pairs (2 * n) 0 w

  same_room : (w : ℕ) → room_of (more_rows rows (2 * n)) w ≡ room_of rows w
  same_room w = get_padded rows.rooms (2 * n) 0 w

  -- a row that wasn't there is empty
  row_past : (w : ℕ) → length rows.lists ≤ w → length (row_of rows w) ≡ 0
  row_past w past = ap length (get_or_past rows.lists w [] past)

  spread_rows : HasRows ws places rows.lists 0 0 → HasRows ws places (rows.lists ++ replicate (2 * n) []) 0 0
  spread_rows x = record {
    right = λ w i lt li. elim (cases_lt w (length rows.lists)) [
      | inl low ↦ subst (λ (ys : List Entry). IsEntry ws places 0 0 w (entry_at ys i)) (sym (same_row w))
          (x.right w i low (subst (λ (ys : List Entry). i < length ys) (same_row w) li))
      | inr past ↦ let none = row_past w past in let size : length (row_of (more_rows rows (2 * n)) w) ≡ length (row_of rows w) = ap length (same_row w) in
          absurd (omega arith)
    ];
    once = λ s c entered. ap (λ (ys : List Entry). entries_for ys (s / 2)) (same_row (arena_word ws (lit_of s))) ∙ x.once s c entered;
  }

  spread_pairs : HasPairs ws rows → HasPairs ws (more_rows rows (2 * n))
  spread_pairs x = record {
    within = λ w. let same = same_pairs w in let size : length (row_of (more_rows rows (2 * n)) w) ≡ length (row_of rows w) = ap length (same_row w) in
        let le = x.within w in omega arith;
    pair = λ w i lt li. elim (cases_lt w (length rows.lists)) [
      | inl low ↦ subst (λ (ys : List Entry). IsPair ws w (entry_at ys i)) (sym (same_row w)) (x.pair w i low (let same = same_pairs w in omega arith))
      | inr past ↦ let none = row_past w past in let same = same_pairs w in let le = x.within w in absurd (omega arith)
    ];
  }

  pub arena_spread : vars + n ≤ VARS → IsArena (vars + n) room ws places (more_rows rows (2 * n))
  arena_spread limit =
      let f = k.filed in
      let h = f.store in
      let room = f.place in
      record {
        vars_limit = limit;
        room_limit = k.room_limit;
        filed = record {
          some = f.some;
          store = record {
            vars_limit = omega arith;
            room_limit = h.room_limit;
            block = λ p c.
                let b = h.block p c in
                record {
                  from = b.from;
                  two = b.two;
                  within = b.within;
                  lits = λ i lt. let w = b.lits i lt in let below = w.below in record {
                    from = w.from;
                    below = omega arith;
                  };
                  distinct = b.distinct;
                };
            apart = h.apart;
          };
          size = let old = f.size in omega (arith, length-append rows.lists (replicate (2 * n) []), length-replicate {A = List Entry} (2 * n) []);
          entered = spread_rows f.entered;
          pairs = spread_pairs f.pairs;
          place = record {
            place = λ w lt.
                let same = same_room w in
                elim (cases_lt w (length rows.lists)) [
                  | inl low ↦ let le = room.place w low in omega arith
                  | inr past ↦ let none = clauses_none vars ws places w h (let size = f.size in omega arith) in omega arith
                ];
          };
        };
      }
