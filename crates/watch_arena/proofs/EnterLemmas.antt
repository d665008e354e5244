-- A clause that comes: the rows of its literals get place, and both its watches get entries.
use Rattle.std.proofs.Common.{◌≡◌, ◌≢◌, ℕ, ◌+◌, ◌*◌, ◌/◌, ◌%◌, ◌<◌, ◌≤◌, ◌⊎◌, true, false, cond, List, [], ◌∷◌, ◌++◌, length, get_or, set, take, refl, sym}
use Rattle.std.proofs.Common.{◌∙◌, ap}
use Rattle.std.proofs.Common.{Bool, subst, inl, inr, arith, length-set}
use Rattle.std.specs.Prelude.{All, Contains, ◌^◌}
use Rattle.std.proofs.lemmas.Bool.{cases_lt, cases_eq}
use Rattle.std.proofs.lemmas.List.{get_or-set_same, get_or-set_other, get_or_append_left, get_or_past, length_push, set_past}
use Rattle.std.proofs.lemmas.List.Elements.{All-contains, All-more, All-weaker, Contains-push}
use Rattle.cnf_core.specs.Lit.{Literal, literal_at, word_of, has}
use Rattle.cnf_core.specs.Clause.{AreDistinct, AreThere}
use Rattle.cnf_core.proofs.PropagationLemmas.{contains_from_has}
use Rattle.watch_arena.specs.declared.rows.Entry.{Entry}
use Rattle.watch_arena.specs.declared.clause_ref.ClauseRef.{ClauseRef}
use Rattle.watch_arena.specs.Words.{arena_word, lit_of, block_of, HasWords, IsBlock, IsStore, KeepsFront}
use Rattle.watch_arena.specs.Rows.{Rowed, no_entry, entry_at, row_of, pairs_of, room_of, with_room, pushed, paired, fronted, IsRoomier}
use Rattle.watch_arena.specs.Walk.{lit_at, lits_at, HasLit}
use Rattle.watch_arena.specs.Filed.{IsPair, HasRows, HasPairs, HasPlace, AreFiled, IsEntering, clauses_with}
use Rattle.watch_arena.proofs.NextLemmas.{literal_word, word_literal}
use Rattle.watch_arena.proofs.AttachLemmas.{attach_store, behind, before, behind_lit, behind_length, behind_block, behind_lits}
use Rattle.watch_arena.proofs.EntryLemmas.{IsMore, more_pushed, more_fronted}
use Rattle.watch_arena.proofs.FiledLemmas.{by_any, by_list, front_size, front_lits, entered_rows, behind_rows}
use Rattle.watch_arena.proofs.PlaceLemmas.{row_room, clauses_more}
use Rattle.watch_arena.proofs.StepLemmas.{pairs_stay, pairs_text, all_entered}
use Rattle.watch_arena.proofs.WalkLemmas.{watch_below}

-- a clause is behind the words, where the rows have place for it
module _ (vars : ℕ) (ws places : List ℕ) (rows then : Rowed) (lits : List Literal) (f : AreFiled vars ws places rows) (roomier : IsRoomier rows then)
    (more : (l : Literal) → Contains lits l → room_of rows (word_of l) < room_of then (word_of l)) (small : length ws + length lits + 3 < 2 ^ 30)
    (two : 2 ≤ length lits) (there : AreThere vars lits) (distinct : AreDistinct lits) where
  abbrev new : List ℕ
  new = ws ++ block_of lits

  abbrev p : ℕ
  p = length ws

  front : KeepsFront ws new
  front = before vars ws lits f.some two there distinct

  new_store : IsStore vars new (places ++ p ∷ [])
  new_store =
      let size = behind_length vars ws lits f.some two there distinct in
      attach_store vars ws new places p f.store refl (omega arith) front (omega arith) (behind_block vars ws lits f.some two there distinct)

  -- the clause is one more of those that have a literal, and its row has place for one more
  more_place : (w : ℕ) → clauses_with ws places w ≤ room_of rows w → clauses_with new (places ++ p ∷ []) w ≤ room_of then w
  more_place w le = by_has (has lits (literal_at w)) refl
    where
      counted : clauses_with new (places ++ p ∷ []) w ≡ clauses_with ws places w + cond (has lits (literal_at w)) 1 0
      counted = clauses_more ws new places p w (front_lits vars ws places f.store new rows.lists f.entered front)
          ∙ ap (λ (ls : List Literal). clauses_with ws places w + cond (has ls (literal_at w)) 1 0) (behind_lits vars ws lits f.some two there distinct)

      by_has : (b : Bool) → has lits (literal_at w) ≡ b → clauses_with new (places ++ p ∷ []) w ≤ room_of then w
      by_has true e =
          let gain = more (literal_at w) (contains_from_has lits (literal_at w) e) in
          let same : room_of then (word_of (literal_at w)) ≡ room_of then w = ap (room_of then) (word_literal w) in
          let was : room_of rows (word_of (literal_at w)) ≡ room_of rows w = ap (room_of rows) (word_literal w) in
          let one : cond {A = ℕ} (has lits (literal_at w)) 1 0 ≡ 1 = ap (λ b. cond {A = ℕ} b 1 0) e in
          omega (arith, counted)
      by_has false e =
          let le2 = roomier.rooms w in
          let none : cond {A = ℕ} (has lits (literal_at w)) 1 0 ≡ 0 = ap (λ b. cond {A = ℕ} b 1 0) e in
          omega (arith, counted)

  pub behind_entering : IsEntering vars new (places ++ p ∷ []) then p (2 * p)
  behind_entering =
      let size = behind_length vars ws lits f.some two there distinct in
      let room = f.place in
      let F : List (List Entry) → List ℕ → Rowed = λ lists pairs. record { lists = lists; pairs = pairs; rooms = rows.rooms } in
      record {
        some = let some = f.some in omega arith;
        store = new_store;
        size = ap length roomier.lists ∙ f.size;
        entered = subst (λ (ls : List (List Entry)). HasRows new (places ++ p ∷ []) ls (2 * p) (2 * p + 2)) (sym roomier.lists)
            (behind_rows vars ws places f.store new rows.lists f.entered front);
        pairs = subst (λ (ls : List (List Entry)). HasPairs new (record { lists = ls; pairs = then.pairs; rooms = then.rooms })) (sym roomier.lists)
            (subst (λ (ns : List ℕ). HasPairs new (record { lists = rows.lists; pairs = ns; rooms = then.rooms })) (sym roomier.pairs) pairs_now);
        room = record {
          place = λ w lt. more_place w (room.place w (let same = ap length roomier.lists in omega arith));
        };
        place = Contains-push places p;
      }
    where
      pairs_now : HasPairs new (record { lists = rows.lists; pairs = rows.pairs; rooms = then.rooms })
      pairs_now =
          let x = pairs_text ws new places rows (front_size vars ws places f.store new rows.lists f.entered front) f.entered f.pairs in
          record { within = x.within; pair = x.pair }

-- one of its watches gets an entry
module _ (vars : ℕ) (ws places : List ℕ) (rows : Rowed) (p from : ℕ) (x : IsEntering vars ws places rows p from) (low : 2 * p ≤ from)
    (less : from < 2 * p + 2) (e : Entry) (is : e.clause.0 ≡ p) (other : HasLit ws p e.other) where
  abbrev v : ℕ
  v = arena_word ws (lit_of from)

  half : from / 2 ≡ p
  half = omega arith

  here : Contains places (from / 2)
  here = subst (Contains places) (sym half) x.place

  pub entering_below : v < length rows.lists
  entering_below =
      let size = x.size in
      let h = x.store in
      let b = h.block (from / 2) here in
      let two = b.two in
      let under = watch_below vars ws places (from / 2) (from % 2) x.store here (omega arith) in
      omega arith

  with_more : (new : List Entry) → IsMore (row_of rows v) new e → HasRows ws places (set rows.lists v new) (from + 1) (2 * p + 2)
  with_more new more = entered_rows vars ws places x.store rows.lists from (2 * p + 2) less x.entered here entering_below e (is ∙ sym half)
      (subst (λ n. HasLit ws n e.other) (sym half) other) new more

  pub entering_room : length (row_of rows v) < room_of rows v
  entering_room =
      let lt = entering_below in
      let size = length-set rows.lists v (row_of rows v ++ e ∷ []) in
      let most = row_room vars ws places (set rows.lists v (row_of rows v ++ e ∷ [])) (from + 1) (2 * p + 2) v x.store
      (with_more (row_of rows v ++ e ∷ []) (more_pushed (row_of rows v) e)) (omega arith) in
      let same : length (get_or (set rows.lists v (row_of rows v ++ e ∷ [])) v []) ≡ length (row_of rows v) + 1 =
      ap length (get_or-set_same rows.lists v (row_of rows v ++ e ∷ []) [] lt) ∙ length_push (row_of rows v) e in
      let room = x.room in
      let le = room.place v lt in
      omega arith

  pub pushed_entering : IsEntering vars ws places (pushed rows v e) p (from + 1)
  pushed_entering = let room = x.room in record {
    some = x.some;
    store = x.store;
    size = length-set rows.lists v (row_of rows v ++ e ∷ []) ∙ x.size;
    entered = with_more (row_of rows v ++ e ∷ []) (more_pushed (row_of rows v) e);
    pairs =
        let pairs = x.pairs in
        let le = pairs.within v in
        pairs_stay ws rows v (row_of rows v ++ e ∷ []) x.pairs entering_below (let size = length_push (row_of rows v) e in omega arith)
        (λ k lk. get_or_append_left (row_of rows v) (e ∷ []) no_entry k (omega arith));
    room = record { place = λ w lt. room.place w (omega (arith, length-set rows.lists v (row_of rows v ++ e ∷ []))) };
    place = x.place;
  }

  -- a clause of two literals
  module _ (two : arena_word ws p ≡ 2) (differ : e.other ≢ literal_at v) where
    abbrev n : ℕ
    n = pairs_of rows v

    abbrev row : List Entry
    row = fronted (row_of rows v) n e

    front_within : n ≤ length (row_of rows v)
    front_within = let pairs = x.pairs in pairs.within v

    row_size : length row ≡ length (row_of rows v) + 1
    row_size = length-set (row_of rows v ++ get_or (row_of rows v) n e ∷ []) n e ∙ length_push (row_of rows v) (get_or (row_of rows v) n e)

    counted : (pairs_of (paired rows v e) v ≡ n + 1) ⊎ (pairs_of (paired rows v e) v ≡ 0)
    counted = elim (cases_lt v (length rows.pairs)) [
      | inl lt ↦ inl (get_or-set_same rows.pairs v (n + 1) 0 lt)
      | inr past ↦ inr (ap (λ (ns : List ℕ). get_or ns v 0) (set_past rows.pairs v (n + 1) past) ∙ get_or_past rows.pairs v 0 past)
    ]

    same_pairs : (w : ℕ) → w ≢ v → pairs_of (paired rows v e) w ≡ pairs_of rows w
    same_pairs w ne = get_or-set_other rows.pairs v w (n + 1) 0 ne

    front_here : entry_at row n ≡ e
    front_here = let le = front_within in let size = length_push (row_of rows v) (get_or (row_of rows v) n e) in
        get_or-set_same (row_of rows v ++ get_or (row_of rows v) n e ∷ []) n e no_entry (omega arith)

    front_old : (k : ℕ) → k < n → entry_at row k ≡ entry_at (row_of rows v) k
    front_old k lt = let le = front_within in
        get_or-set_other (row_of rows v ++ get_or (row_of rows v) n e ∷ []) n k e no_entry (omega arith)
        ∙ get_or_append_left (row_of rows v) (get_or (row_of rows v) n e ∷ []) no_entry k (omega arith)

    pair_here : (k : ℕ) → k < n + 1 → IsPair ws v (entry_at row k)
    pair_here k lt = elim (cases_eq k n) [
      | inl same ↦ subst (λ i. IsPair ws v (entry_at row i)) (sym same) (subst (IsPair ws v) (sym front_here) (record {
        two = ap (arena_word ws) is ∙ two;
        other = differ;
      }))
      | inr ne ↦ let pairs = x.pairs in subst (IsPair ws v) (sym (front_old k (omega arith))) (pairs.pair v k entering_below (omega arith))
    ]

    paired_pairs : HasPairs ws (paired rows v e)
    paired_pairs = let pairs = x.pairs in record {
      within = λ w. by_any (λ u (ys : List Entry). pairs_of (paired rows v e) u ≤ length ys) rows.lists v row entering_below
          (let le = front_within in let size = row_size in elim counted [ inl one ↦ omega arith | inr none ↦ omega arith ])
          (λ u ne. let same = same_pairs u ne in let le = pairs.within u in omega arith) w;
      pair = λ w k lw lk. by_list (λ u (ys : List Entry). (j : ℕ) → j < pairs_of (paired rows v e) u → IsPair ws u (entry_at ys j)) rows.lists v row
          entering_below (λ j lj. pair_here j (elim counted [ inl one ↦ omega arith | inr none ↦ omega arith ]))
          (λ u ne lu j lj. let same = same_pairs u ne in pairs.pair u j lu (omega arith)) w (omega (arith, length-set rows.lists v row)) k lk;
    }

    pub paired_entering : IsEntering vars ws places (paired rows v e) p (from + 1)
    paired_entering = let room = x.room in record {
      some = x.some;
      store = x.store;
      size = length-set rows.lists v row ∙ x.size;
      entered = with_more row (more_fronted (row_of rows v) n e front_within);
      pairs = paired_pairs;
      room = record { place = λ w lt. room.place w (omega (arith, length-set rows.lists v row)) };
      place = x.place;
    }

-- both have entries
pub entered_filed : (vars : ℕ) (ws places : List ℕ) (rows : Rowed) (p from : ℕ) → from ≡ 2 * p + 2 → IsEntering vars ws places rows p from →
    AreFiled vars ws places rows
entered_filed vars ws places rows p from e x = record {
  some = x.some;
  store = x.store;
  size = x.size;
  entered = all_entered ws places rows.lists (2 * p + 2) (subst (λ n. HasRows ws places rows.lists n (2 * p + 2)) e x.entered);
  pairs = x.pairs;
  place = x.room;
}

-- the entry of one watch, by the word of its literal
module _ (vars : ℕ) (ws places : List ℕ) (rows : Rowed) (p from w : ℕ) (x : IsEntering vars ws places rows p from) (low : 2 * p ≤ from)
    (less : from < 2 * p + 2) (e : Entry) (is : e.clause.0 ≡ p) (other : HasLit ws p e.other) (word : arena_word ws (lit_of from) ≡ w) where
  pub entry_row : w < length rows.lists
  entry_row = subst (λ n. n < length rows.lists) word (entering_below vars ws places rows p from x low less e is other)

  pub entry_room : length (row_of rows w) < room_of rows w
  entry_room = subst (λ n. length (row_of rows n) < room_of rows n) word (entering_room vars ws places rows p from x low less e is other)

  pub entry_pushed : (next : Rowed) → next ≡ pushed rows w e → IsEntering vars ws places next p (from + 1)
  entry_pushed next made = subst (λ (r : Rowed). IsEntering vars ws places r p (from + 1)) (sym made)
      (subst (λ n. IsEntering vars ws places (pushed rows n e) p (from + 1)) word (pushed_entering vars ws places rows p from x low less e is other))

  pub entry_paired : arena_word ws p ≡ 2 → e.other ≢ literal_at w → (next : Rowed) → next ≡ paired rows w e → IsEntering vars ws places next p (from + 1)
  entry_paired two differ next made = subst (λ (r : Rowed). IsEntering vars ws places r p (from + 1)) (sym made)
      (subst (λ n. IsEntering vars ws places (paired rows n e) p (from + 1)) word (paired_entering vars ws places rows p from x low less e is other two
      (λ same. differ (same ∙ ap literal_at word))))

-- the first two literals of a clause
module _ (vars : ℕ) (ws places : List ℕ) (rows : Rowed) (p from : ℕ) (x : IsEntering vars ws places rows p from) (a b : Literal) (h : HasWords ws p a b) where
  block_of_p : IsBlock vars ws p
  block_of_p = let store = x.store in store.block p x.place

  pub has_second : HasLit ws p b
  has_second = let block = block_of_p in let two = block.two in let second = h.second in
      (1, omega arith, ap (lit_at ws) (omega arith) ∙ ap literal_at h.second ∙ literal_word b)

  pub has_first : HasLit ws p a
  has_first = let block = block_of_p in let two = block.two in let first = h.first in
      (0, omega arith, ap (lit_at ws) (omega arith) ∙ ap literal_at h.first ∙ literal_word a)

  pub first_word : arena_word ws (lit_of (2 * p)) ≡ word_of a
  first_word = ap (arena_word ws) (omega arith) ∙ h.first

  pub second_word : arena_word ws (lit_of (2 * p + 1)) ≡ word_of b
  second_word = ap (arena_word ws) (omega arith) ∙ h.second

  -- the two are different
  words_differ : word_of a / 2 ≢ word_of b / 2
  words_differ same =
      let block = block_of_p in
      let two = block.two in
      let at_a : arena_word ws (p + 3 + 0) ≡ word_of a = ap (arena_word ws) (omega arith) ∙ h.first in
      let at_b : arena_word ws (p + 3 + 1) ≡ word_of b = ap (arena_word ws) (omega arith) ∙ h.second in
      block.distinct 0 1 (omega arith) (omega arith) (omega arith) (ap (λ n. n / 2) at_a ∙ same ∙ ap (λ n. n / 2) (sym at_b))

  pub second_differs : b ≢ literal_at (word_of a)
  second_differs e = words_differ (ap (λ (l : Literal). word_of l / 2) (sym (literal_word a) ∙ sym e))

  pub first_differs : a ≢ literal_at (word_of b)
  first_differs e = words_differ (ap (λ (l : Literal). word_of l / 2) (e ∙ literal_word b))

-- rows that have more place
pub filed_roomier : (vars : ℕ) (ws places : List ℕ) (rows then : Rowed) → AreFiled vars ws places rows → IsRoomier rows then → AreFiled vars ws places then
filed_roomier vars ws places rows then f roomier =
    let room = f.place in
    record {
      some = f.some;
      store = f.store;
      size = ap length roomier.lists ∙ f.size;
      entered = subst (λ (ls : List (List Entry)). HasRows ws places ls 0 0) (sym roomier.lists) f.entered;
      pairs = subst (λ (ls : List (List Entry)). HasPairs ws (record { lists = ls; pairs = then.pairs; rooms = then.rooms })) (sym roomier.lists)
          (subst (λ (ns : List ℕ). HasPairs ws (record { lists = rows.lists; pairs = ns; rooms = then.rooms })) (sym roomier.pairs)
          (let x = f.pairs in record { within = x.within; pair = x.pair }));
      place = record {
        place = λ w lt.
            let same = ap length roomier.lists in
            let le = room.place w (omega arith) in
            let more = roomier.rooms w in
            omega arith;
      };
    }

-- what making room step by step leaves
pub roomier_none : (r : Rowed) → IsRoomier r r
roomier_none r = record { lists = refl; pairs = refl; rooms = λ w. omega arith }

pub roomier_room : (old cur next : Rowed) (w : ℕ) → IsRoomier old cur → next ≡ with_room cur w → IsRoomier old next
roomier_room old cur next w k made = subst (IsRoomier old) (sym made) (record {
  lists = k.lists;
  pairs = k.pairs;
  rooms = λ v. let le = k.rooms v in let more = grown v in omega arith;
})
  where
    grown : (v : ℕ) → room_of cur v ≤ room_of (with_room cur w) v
    grown v = elim (cases_eq v w) [
      | inl e ↦ elim (cases_lt w (length cur.rooms)) [
        | inl lt ↦
            let here : room_of (with_room cur w) w ≡ room_of cur w + 1 = get_or-set_same cur.rooms w (room_of cur w + 1) 0 lt in
            let at : room_of (with_room cur w) v ≡ room_of (with_room cur w) w = ap (room_of (with_room cur w)) e in
            let was : room_of cur v ≡ room_of cur w = ap (room_of cur) e in
            omega arith
        | inr past ↦ let same : room_of (with_room cur w) v ≡ room_of cur v = ap (λ (ns : List ℕ). get_or ns v 0)
            (set_past cur.rooms w (room_of cur w + 1) past) in
            omega arith
      ]
      | inr ne ↦ let same : room_of (with_room cur w) v ≡ room_of cur v = get_or-set_other cur.rooms w v (room_of cur w + 1) 0 ne in omega arith
    ]

-- the first watch gets its entry, then the second one
module _ (vars : ℕ) (ws places : List ℕ) (rows : Rowed) (clause : ClauseRef) (a b : Literal) (h : HasWords ws clause.0 a b) (w : ℕ) where
  abbrev to_first : Entry
  to_first = record { other = b; clause = clause }

  abbrev to_second : Entry
  to_second = record { other = a; clause = clause }

  module _ (x : IsEntering vars ws places rows clause.0 (2 * clause.0)) (word : w ≡ word_of a) where
    first_is : arena_word ws (lit_of (2 * clause.0)) ≡ w
    first_is = first_word vars ws places rows clause.0 (2 * clause.0) x a b h ∙ sym word

    pub first_row : w < length rows.lists
    first_row = entry_row vars ws places rows clause.0 (2 * clause.0) w x (omega arith) (omega arith) to_first refl
        (has_second vars ws places rows clause.0 (2 * clause.0) x a b h) first_is

    pub first_room : length (row_of rows w) < room_of rows w
    first_room = entry_room vars ws places rows clause.0 (2 * clause.0) w x (omega arith) (omega arith) to_first refl
        (has_second vars ws places rows clause.0 (2 * clause.0) x a b h)
        first_is

    pub first_pushed : (next : Rowed) → next ≡ pushed rows w to_first → IsEntering vars ws places next clause.0 (2 * clause.0 + 1)
    first_pushed next made = entry_pushed vars ws places rows clause.0 (2 * clause.0) w x (omega arith) (omega arith) to_first refl
        (has_second vars ws places rows clause.0 (2 * clause.0) x a b h) first_is next made

    pub first_paired : arena_word ws clause.0 ≡ 2 → (next : Rowed) → next ≡ paired rows w to_first → IsEntering vars ws places next clause.0 (2 * clause.0 + 1)
    first_paired two next made = entry_paired vars ws places rows clause.0 (2 * clause.0) w x (omega arith) (omega arith) to_first refl
        (has_second vars ws places rows clause.0 (2 * clause.0) x a b h) first_is two
        (λ e. second_differs vars ws places rows clause.0 (2 * clause.0) x a b h (e ∙ ap literal_at word))
        next made

  module _ (x : IsEntering vars ws places rows clause.0 (2 * clause.0 + 1)) (word : w ≡ word_of b) where
    second_is : arena_word ws (lit_of (2 * clause.0 + 1)) ≡ w
    second_is = second_word vars ws places rows clause.0 (2 * clause.0 + 1) x a b h ∙ sym word

    pub second_row : w < length rows.lists
    second_row = entry_row vars ws places rows clause.0 (2 * clause.0 + 1) w x (omega arith) (omega arith) to_second refl
        (has_first vars ws places rows clause.0 (2 * clause.0 + 1) x a b h) second_is

    pub second_room : length (row_of rows w) < room_of rows w
    second_room = entry_room vars ws places rows clause.0 (2 * clause.0 + 1) w x (omega arith) (omega arith) to_second refl
        (has_first vars ws places rows clause.0 (2 * clause.0 + 1) x a b h) second_is

    pub second_pushed : (next : Rowed) → next ≡ pushed rows w to_second → AreFiled vars ws places next
    second_pushed next made = entered_filed vars ws places next clause.0 (2 * clause.0 + 1 + 1) (omega arith)
        (entry_pushed vars ws places rows clause.0 (2 * clause.0 + 1) w x (omega arith)
        (omega arith) to_second refl (has_first vars ws places rows clause.0 (2 * clause.0 + 1) x a b h) second_is next made)

    pub second_paired : arena_word ws clause.0 ≡ 2 → (next : Rowed) → next ≡ paired rows w to_second → AreFiled vars ws places next
    second_paired two next made = entered_filed vars ws places next clause.0 (2 * clause.0 + 1 + 1) (omega arith)
        (entry_paired vars ws places rows clause.0 (2 * clause.0 + 1) w x
        (omega arith) (omega arith) to_second refl (has_first vars ws places rows clause.0 (2 * clause.0 + 1) x a b h) second_is two
        (λ e. first_differs vars ws places rows clause.0 (2 * clause.0 + 1) x a b h (e ∙ ap literal_at word)) next made)

-- one literal more has room
pub room_step : (old cur next : Rowed) (lits : List Literal) (i : ℕ) (l : Literal) → IsRoomier old cur → next ≡ with_room cur (word_of l) →
    room_of next (word_of l) ≡ room_of cur (word_of l) + 1 → i < length lits → l ≡ get_or lits i l →
    All (λ (x : Literal). room_of old (word_of x) < room_of cur (word_of x)) (take i lits) →
    All (λ (x : Literal). room_of old (word_of x) < room_of next (word_of x)) (take (i + 1) lits)
room_step old cur next lits i l k made gain lt is all =
    let more = roomier_room cur cur next (word_of l) (roomier_none cur) made in
    let le = k.rooms (word_of l) in
    All-more (λ (x : Literal). room_of old (word_of x) < room_of next (word_of x)) lits i l lt
    (All-weaker (λ (x : Literal). room_of old (word_of x) < room_of cur (word_of x)) (λ (x : Literal). room_of old (word_of x) < room_of next (word_of x))
    (λ x less. let up = more.rooms (word_of x) in omega arith) (take i lits) all)
    (subst (λ (x : Literal). room_of old (word_of x) < room_of next (word_of x)) is (omega arith))

-- the clause behind the words, by what the steps leave
module _ (vars : ℕ) (ws places new now : List ℕ) (rows then : Rowed) (lits : List Literal) (n : ℕ) (f : AreFiled vars ws places rows)
    (roomier : IsRoomier rows then) (more : All (λ (l : Literal). room_of rows (word_of l) < room_of then (word_of l)) lits)
    (small : length ws + length lits + 3 < 2 ^ 30) (two : 2 ≤ length lits) (there : AreThere vars lits) (distinct : AreDistinct lits)
    (words : new ≡ ws ++ block_of lits) (placed : now ≡ places ++ length ws ∷ []) (is : n ≡ length ws) where
  pub entering_at : IsEntering vars new now then n (2 * n)
  entering_at = subst (λ (w : List ℕ). IsEntering vars w now then n (2 * n)) (sym words)
      (subst (λ (q : List ℕ). IsEntering vars (ws ++ block_of lits) q then n (2 * n)) (sym placed)
      (subst (λ k. IsEntering vars (ws ++ block_of lits) (places ++ length ws ∷ []) then k (2 * k)) (sym is)
      (behind_entering vars ws places rows then lits f roomier (λ l c. All-contains (λ (x : Literal). room_of rows (word_of x) < room_of then (word_of x)) lits
      l
      more c) small two there distinct)))

  pub words_at : (a b : Literal) → a ≡ get_or lits 0 a → b ≡ get_or lits 1 b → HasWords new n a b
  words_at a b at_a at_b = subst (λ (w : List ℕ). HasWords w n a b) (sym words) (subst (λ k. HasWords (ws ++ block_of lits) k a b) (sym is) (record {
    first = ap (arena_word (ws ++ block_of lits)) (omega arith) ∙ behind_lit vars ws lits f.some two there distinct 0 a (omega arith) ∙ ap word_of (sym at_a);
    second = ap (arena_word (ws ++ block_of lits)) (omega arith) ∙ behind_lit vars ws lits f.some two there distinct 1 b (omega arith) ∙ ap word_of (sym at_b);
  }))

  pub length_at : arena_word new n ≡ length lits
  length_at = ap (λ (w : List ℕ). arena_word w n) words ∙ ap (arena_word (ws ++ block_of lits)) (is ∙ omega arith)
      ∙ behind vars ws lits f.some two there distinct 0
