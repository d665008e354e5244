-- Rows of which some watches are out: an entry goes, a clause's literals change places, clauses come, and entries come.
use Rattle.std.proofs.Common.{◌≡◌, ◌≢◌, ℕ, ◌+◌, ◌*◌, ◌/◌, ◌%◌, ◌<◌, ◌≤◌, ◌⊎◌, List, [], ◌∷◌, ◌++◌, length, get_or, set, refl, sym, ◌∙◌, ap, subst, inl, inr}
use Rattle.std.proofs.Common.{arith}
use Rattle.std.proofs.Common.{length-set}
use Rattle.std.specs.Prelude.{Contains}
use Rattle.std.proofs.lemmas.Bool.{cases_lt, cases_eq}
use Rattle.std.proofs.lemmas.List.{get_or-set_same, get_or-set_other}
use Rattle.std.proofs.lemmas.List.Elements.{Contains-push_cases, Contains-push, Contains-append_left}
use Rattle.cnf_core.specs.Lit.{Literal, literal_at}
use Rattle.watch_arena.specs.declared.rows.Entry.{Entry}
use Rattle.watch_arena.specs.Words.{arena_word, lit_of, IsStore, KeepsFront, Swapped}
use Rattle.watch_arena.specs.Rows.{entry_at, without}
use Rattle.watch_arena.specs.Walk.{HasLit, KeepsLits}
use Rattle.watch_arena.specs.Filed.{place_at, entries_for, list_at, IsEntered, IsEntry, HasRows}
use Rattle.watch_arena.proofs.ViewLemmas.{lit_kept}
use Rattle.watch_arena.proofs.MoveLemmas.{swap_watch, swap_text}
use Rattle.watch_arena.proofs.EntryLemmas.{weigh, weigh_here, weigh_other, entry_from, entry_one, entry_twice, IsMore, IsLess, less_without, room_for}

-- what holds of one row that is another list now, and of all others
pub by_any : (P : ℕ → List Entry → Type 0) (lists : List (List Entry)) (w : ℕ) (row : List Entry) → w < length lists → P w row →
    ((v : ℕ) → v ≢ w → P v (list_at lists v)) → (v : ℕ) → P v (list_at (set lists w row) v)
by_any P lists w row lt here other v = elim (cases_eq v w) [
  | inl e ↦ subst (λ n. P n (list_at (set lists w row) n)) (sym e) (subst (P w) (sym (get_or-set_same lists w row [] lt)) here)
  | inr ne ↦ subst (P v) (sym (get_or-set_other lists w v row [] ne)) (other v ne)
]

pub by_list : (P : ℕ → List Entry → Type 0) (lists : List (List Entry)) (w : ℕ) (row : List Entry) → w < length lists → P w row →
    ((v : ℕ) → v ≢ w → v < length lists → P v (list_at lists v)) → (v : ℕ) → v < length lists → P v (list_at (set lists w row) v)
by_list P lists w row lt here other v below = by_any (λ n ys. n < length lists → P n ys) lists w row lt (λ _. here) other v below

-- the watches of clauses that stand apart
module _ (vars : ℕ) (ws places : List ℕ) (h : IsStore vars ws places) where
  pub same_watch : (s t : ℕ) → Contains places (s / 2) → t / 2 ≡ s / 2 → arena_word ws (lit_of t) ≡ arena_word ws (lit_of s) → t ≡ s
  same_watch s t c half same = elim (cases_eq (t % 2) (s % 2)) [
    | inl e ↦ omega arith
    | inr ne ↦
        let b = h.block (s / 2) c in
        let two = b.two in
        let place : lit_of t ≡ s / 2 + 3 + t % 2 = omega arith in
        let is : arena_word ws (s / 2 + 3 + t % 2) ≡ arena_word ws (s / 2 + 3 + s % 2) = ap (arena_word ws) (sym place) ∙ same in
        absurd (b.distinct (t % 2) (s % 2) (omega arith) (omega arith) ne (ap (λ n. n / 2) is))
  ]

  module _ (lists : List (List Entry)) (from to : ℕ) (x : HasRows ws places lists from to) where
    -- a row has at most one entry of a clause
    pub row_once : (w p : ℕ) → w < length lists → entries_for (list_at lists w) p ≤ 1
    row_once w p lt = elim (cases_lt 0 (entries_for (list_at lists w) p)) [
      | inl some ↦
          let k = entry_from (list_at lists w) p (omega arith) in
          let y = x.right w k.0 lt k.1 in
          let is : y.watch / 2 ≡ p = sym y.clause ∙ k.2 in
          let one : entries_for (list_at lists w) p ≡ 1 = subst (λ n. entries_for (list_at lists w) n ≡ 1) is
          (subst (λ n. entries_for (list_at lists n) (y.watch / 2) ≡ 1) y.lit (x.once y.watch y.place y.entered)) in
          omega arith
      | inr none ↦ omega arith
    ]

    pub row_apart : (w j k : ℕ) → w < length lists → j < k → k < length (list_at lists w) → place_at (list_at lists w) j ≢ place_at (list_at lists w) k
    row_apart w j k lt less below same = omega (
      arith,
      row_once w (place_at (list_at lists w) k) lt,
      entry_twice (list_at lists w) j k (place_at (list_at lists w) k) less below same refl,
    )

    -- and none of a watch that is out
    pub not_in : (s : ℕ) → Contains places (s / 2) → from ≤ s → s < to → arena_word ws (lit_of s) < length lists →
        entries_for (list_at lists (arena_word ws (lit_of s))) (s / 2) ≡ 0
    not_in s c ge lt below = elim (cases_lt 0 (entries_for (list_at lists (arena_word ws (lit_of s))) (s / 2))) [
      | inl some ↦
          let k = entry_from (list_at lists (arena_word ws (lit_of s))) (s / 2) (omega arith) in
          let y = x.right (arena_word ws (lit_of s)) k.0 below k.1 in
          let half : y.watch / 2 ≡ s / 2 = sym y.clause ∙ k.2 in
          let same = same_watch s y.watch c half y.lit in
          absurd (elim y.entered [ inl small ↦ omega arith | inr big ↦ omega arith ])
      | inr none ↦ omega arith
    ]

  -- an entry of a watch comes to the row of its literal
  module _ (lists : List (List Entry)) (s to : ℕ) (less : s < to) (x : HasRows ws places lists s to) (c : Contains places (s / 2))
      (below : arena_word ws (lit_of s) < length lists) (e : Entry) (is : e.clause.0 ≡ s / 2) (other : HasLit ws (s / 2) e.other) (new : List Entry)
      (more : IsMore (list_at lists (arena_word ws (lit_of s))) new e) where
    abbrev w : ℕ
    w = arena_word ws (lit_of s)

    weaker : (v : ℕ) (b : Entry) → IsEntry ws places s to v b → IsEntry ws places (s + 1) to v b
    weaker v b y = record {
      watch = y.watch;
      clause = y.clause;
      place = y.place;
      lit = y.lit;
      entered = elim y.entered [ inl small ↦ inl (omega arith) | inr big ↦ inr big ];
      other = y.other;
    }

    right_here : (k : ℕ) → k < length new → IsEntry ws places (s + 1) to w (entry_at new k)
    right_here k lk = elim (more.came k lk) [
      | inl mine ↦ subst (IsEntry ws places (s + 1) to w) (sym mine)
          (record { watch = s; clause = is; place = c; lit = refl; entered = inl (omega arith); other = other })
      | inr old ↦ subst (IsEntry ws places (s + 1) to w) (sym old.2) (weaker w (entry_at (list_at lists w) old.0) (x.right w old.0 below old.1))
    ]

    once_here : entries_for new (s / 2) ≡ 1
    once_here =
        let times = more.times (s / 2) in
        let none = not_in lists s to x s c (omega arith) less below in
        let one = weigh_here (s / 2) e is in
        omega arith

    once_other : (t : ℕ) → Contains places (t / 2) → IsEntered s to t → arena_word ws (lit_of t) ≡ w → entries_for new (t / 2) ≡ 1
    once_other t d entered same =
        let apart : e.clause.0 ≢ t / 2 = (λ at.
        let half : t / 2 ≡ s / 2 = sym at ∙ is in
        let one = same_watch s t c half same in
        elim entered [ inl small ↦ omega arith | inr big ↦ omega arith ]) in
        let times = more.times (t / 2) in
        let none = weigh_other (t / 2) e apart in
        let was : entries_for (list_at lists w) (t / 2) ≡ 1 = subst (λ n. entries_for (list_at lists n) (t / 2) ≡ 1) same (x.once t d entered) in
        omega arith

    once_of : (t : ℕ) → Contains places (t / 2) → (t ≡ s) ⊎ IsEntered s to t → entries_for (list_at (set lists w new) (arena_word ws (lit_of t))) (t / 2) ≡ 1
    once_of t d (inl same) = subst (λ n. entries_for (list_at (set lists w new) (arena_word ws (lit_of n))) (n / 2) ≡ 1) (sym same)
        (ap (λ (row : List Entry). entries_for row (s / 2)) (get_or-set_same lists w new [] below) ∙ once_here)
    once_of t d (inr entered) = elim (cases_eq (arena_word ws (lit_of t)) w) [
      | inl same ↦ ap (λ n. entries_for (list_at (set lists w new) n) (t / 2)) same
          ∙ ap (λ (row : List Entry). entries_for row (t / 2)) (get_or-set_same lists w new [] below) ∙ once_other t d entered same
      | inr ne ↦ ap (λ (row : List Entry). entries_for row (t / 2)) (get_or-set_other lists w (arena_word ws (lit_of t)) new [] ne) ∙ x.once t d entered
    ]

    pub entered_rows : HasRows ws places (set lists w new) (s + 1) to
    entered_rows = record {
      right = λ v k lv lk. by_list (λ n (row : List Entry). (j : ℕ) → j < length row → IsEntry ws places (s + 1) to n (entry_at row j)) lists w new below
          right_here (λ u ne lu j lj. weaker u (entry_at (list_at lists u) j) (x.right u j lu lj)) v (omega (arith, length-set lists w new)) k lk;
      once = λ t d entered. once_of t d (elim (cases_eq t s) [
        | inl same ↦ inl same
        | inr ne ↦ inr (elim entered [ inl small ↦ inl (omega arith) | inr big ↦ inr big ])
      ]);
    }

  -- the entry of a watch goes
  module _ (lists : List (List Entry)) (x : HasRows ws places lists 0 0) (v i : ℕ) (below : v < length lists) (within : i < length (list_at lists v)) where
    abbrev row : List Entry
    row = list_at lists v

    abbrev mine : IsEntry ws places 0 0 v (entry_at row i)
    mine = x.right v i below within

    abbrev out : ℕ
    out = mine.watch

    gone : entries_for (without row i) (out / 2) ≡ 0
    gone =
        let less = less_without row i within in
        let times = less.times (out / 2) in
        let one = weigh_here (out / 2) (entry_at row i) mine.clause in
        let most = row_once lists 0 0 x v (out / 2) below in
        omega arith

    still : (u : ℕ) (b : Entry) (y : IsEntry ws places 0 0 u b) → y.watch ≢ out → IsEntry ws places out (out + 1) u b
    still u b y ne = record {
      watch = y.watch;
      clause = y.clause;
      place = y.place;
      lit = y.lit;
      entered = elim (cases_lt y.watch out) [ inl small ↦ inl small | inr big ↦ inr (omega arith) ];
      other = y.other;
    }

    left_here : (k : ℕ) → k < length (without row i) → IsEntry ws places out (out + 1) v (entry_at (without row i) k)
    left_here k lk =
        let less = less_without row i within in
        let old = less.came k lk in
        let y = x.right v old.0 below old.1 in
        subst (IsEntry ws places out (out + 1) v) (sym old.2) (still v (entry_at row old.0) y (λ same.
        let at : place_at (without row i) k ≡ out / 2 = ap (λ (b : Entry). b.clause.0) old.2 ∙ y.clause ∙ ap (λ n. n / 2) same in
        let one = entry_one (without row i) k (out / 2) lk at in
        let none = gone in
        omega arith))

    left_other : (t : ℕ) → Contains places (t / 2) → t ≢ out → arena_word ws (lit_of t) ≡ v → entries_for (without row i) (t / 2) ≡ 1
    left_other t d ne same =
        let less = less_without row i within in
        let apart : (entry_at row i).clause.0 ≢ t / 2 = (λ at.
        let half : t / 2 ≡ out / 2 = sym at ∙ mine.clause in
        ne (same_watch out t mine.place half (same ∙ sym mine.lit))) in
        let times = less.times (t / 2) in
        let none = weigh_other (t / 2) (entry_at row i) apart in
        let was : entries_for row (t / 2) ≡ 1 = subst (λ n. entries_for (list_at lists n) (t / 2) ≡ 1) same (x.once t d (inr (omega arith))) in
        omega arith

    pub left_rows : HasRows ws places (set lists v (without row i)) out (out + 1)
    left_rows = record {
      right = λ u k lu lk. by_list (λ n (ys : List Entry). (j : ℕ) → j < length ys → IsEntry ws places out (out + 1) n (entry_at ys j)) lists v (without row i)
          below left_here (λ n ne ln j lj. let y = x.right n j ln lj in still n (entry_at (list_at lists n) j) y
          (λ same. ne (sym y.lit ∙ ap (λ t. arena_word ws (lit_of t)) same ∙ mine.lit))) u (omega (arith, length-set lists v (without row i))) k lk;
      once = λ t d entered.
          let ne : t ≢ out = (λ same. elim entered [ inl small ↦ omega arith | inr big ↦ omega arith ]) in
          elim (cases_eq (arena_word ws (lit_of t)) v) [
            | inl same ↦ ap (λ n. entries_for (list_at (set lists v (without row i)) n) (t / 2)) same
                ∙ ap (λ (ys : List Entry). entries_for ys (t / 2)) (get_or-set_same lists v (without row i) [] below) ∙ left_other t d ne same
            | inr other ↦ ap (λ (ys : List Entry). entries_for ys (t / 2)) (get_or-set_other lists v (arena_word ws (lit_of t)) (without row i) [] other)
                ∙ x.once t d (inr (omega arith))
          ];
    }

  -- the literal of a watch that is out changes places with one behind the watches
  module _ (lists : List (List Entry)) (s k : ℕ) (x : HasRows ws places lists s (s + 1)) (c : Contains places (s / 2)) (from : 2 ≤ k)
      (below : k < arena_word ws (s / 2)) (new : List ℕ) (d : Swapped ws new (s / 2 + 3 + s % 2) (s / 2 + 3 + k)) where
    first_below : s % 2 < arena_word ws (s / 2)
    first_below = omega arith

    turned_watch : (t : ℕ) → Contains places (t / 2) → IsEntered s (s + 1) t → arena_word new (lit_of t) ≡ arena_word ws (lit_of t)
    turned_watch t b entered = swap_watch vars ws new places (s / 2) (s % 2) k h c first_below below d t b (λ half.
        let apart : t % 2 ≢ s % 2 = (λ same. elim entered [ inl small ↦ omega arith | inr big ↦ omega arith ]) in
        (apart, omega arith))

    pub turned_rows : HasRows new places lists s (s + 1)
    turned_rows = record {
      right = λ v j lv lj.
          let y = x.right v j lv lj in
          record {
            watch = y.watch;
            clause = y.clause;
            place = y.place;
            lit = turned_watch y.watch y.place y.entered ∙ y.lit;
            entered = y.entered;
            other = lit_kept ws new places (y.watch / 2) (entry_at (list_at lists v) j).other
                (swap_text vars ws new places (s / 2) (s % 2) k h c first_below below d) y.place y.other;
          };
      once = λ t b entered. subst (λ n. entries_for (list_at lists n) (t / 2) ≡ 1) (sym (turned_watch t b entered)) (x.once t b entered);
    }

  -- a clause comes behind the words, and its watches are out
  module _ (new : List ℕ) (lists : List (List Entry)) (x : HasRows ws places lists 0 0) (front : KeepsFront ws new) where
    pub front_size : (q : ℕ) → Contains places q → arena_word new q ≡ arena_word ws q
    front_size q c = let b = h.block q c in let within = b.within in front q (omega arith)

    pub front_lits : KeepsLits places ws new
    front_lits = record { size = front_size; lits = λ q k c lt. let b = h.block q c in let within = b.within in front (q + 3 + k) (omega arith) }

    front_watch : (t : ℕ) → Contains places (t / 2) → arena_word new (lit_of t) ≡ arena_word ws (lit_of t)
    front_watch t c = let b = h.block (t / 2) c in let two = b.two in let within = b.within in front (lit_of t) (omega arith)

    front_lit : (q : ℕ) (l : Literal) → Contains places q → HasLit ws q l → HasLit new q l
    front_lit q l c y =
        let same = front_size q c in
        let lt = y.1 in
        (y.0, omega arith, ap literal_at (let kept = front_lits in kept.lits q y.0 c y.1) ∙ y.2)

    apart : (t : ℕ) → Contains places (t / 2) → IsEntered (2 * length ws) (2 * length ws + 2) t
    apart t c = let b = h.block (t / 2) c in let within = b.within in inl (omega arith)

    pub behind_rows : HasRows new (places ++ length ws ∷ []) lists (2 * length ws) (2 * length ws + 2)
    behind_rows = record {
      right = λ v k lv lk.
          let y = x.right v k lv lk in
          record {
            watch = y.watch;
            clause = y.clause;
            place = Contains-append_left places (length ws ∷ []) (y.watch / 2) y.place;
            lit = front_watch y.watch y.place ∙ y.lit;
            entered = apart y.watch y.place;
            other = front_lit (y.watch / 2) (entry_at (list_at lists v) k).other y.place y.other;
          };
      once = λ t d entered. elim (Contains-push_cases places (length ws) (t / 2) d) [
        | inl old ↦ subst (λ n. entries_for (list_at lists n) (t / 2) ≡ 1) (sym (front_watch t old)) (x.once t old (inr (omega arith)))
        | inr mine ↦ absurd (elim entered [ inl small ↦ omega arith | inr big ↦ omega arith ])
      ];
    }
