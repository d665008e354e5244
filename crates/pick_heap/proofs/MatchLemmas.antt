-- Matches: what the writes of a tree leave, and what its root is.
use Rattle.std.proofs.Common.{◌≡◌, ◌≢◌, ℕ, ◌+◌, ◌-◌, ◌*◌, ◌/◌, ◌<◌, ◌≤◌, ◌⊎◌, Bool, true, false, cond, zero, suc, List, [], ◌∷◌, ◌++◌, replicate, length}
use Rattle.std.proofs.Common.{get_or, set, refl, sym, ◌∙◌, ap, subst, inl, inr, arith, length-set, length-append}
use Rattle.std.specs.Prelude.{slice_index_or}
use Rattle.std.proofs.lemmas.Bool.{cases_lt, cases_eq}
use Rattle.std.proofs.lemmas.Bool.Decides.{eqb_tells}
use Rattle.std.proofs.lemmas.List.{get_or-set_other, get_or-set_same, get_or_past, get_or-replicate}
use Rattle.pick_heap.specs.Tree.{entry_at, rank_of, IsWinner, HaveActivities, IsWonAt, IsWon, IsWonBut, leaf_word, KeepsLeaves, KeepsOthers, AreActivities}
use Rattle.pick_heap.specs.Tree.{IsHeap}
use Rattle.pick_heap.specs.declared.heap.TheConstants.{HALVED_AT}
use Rattle.pick_heap.specs.Heap.{ranked_of, IsGreatest, NoneHeld}

pub rank_none : (acts : List ℕ) (v : ℕ) → v ≡ 0 → rank_of acts v ≡ 0
rank_none acts v e = elim (eqb_tells v 0) [ inl a ↦ ap (λ b. cond b 0 (entry_at acts v + 1)) a.0 | inr a ↦ absurd (a.1 e) ]

pub rank_some : (acts : List ℕ) (v : ℕ) → v ≢ 0 → rank_of acts v ≡ entry_at acts v + 1
rank_some acts v ne = elim (eqb_tells v 0) [ inl a ↦ absurd (ne a.1) | inr a ↦ ap (λ b. cond b 0 (entry_at acts v + 1)) a.0 ]

-- a node is written
module _ (acts tree : List ℕ) (leaves p w : ℕ) (within : p < length tree) where
  pub named_set : HaveActivities acts tree → w < length acts → HaveActivities acts (set tree p w)
  named_set named lt = λ k. elim (cases_eq p k) [
    | inl e ↦ subst (λ n. n < length acts) (sym (ap (entry_at (set tree p w)) (sym e) ∙ get_or-set_same tree p w 0 within)) lt
    | inr ne ↦ subst (λ n. n < length acts) (sym (get_or-set_other tree p k w 0 (λ e. ne (sym e)))) (named k)
  ]

  pub kept_set : (j : ℕ) → j ≢ p → entry_at (set tree p w) j ≡ entry_at tree j
  kept_set j ne = get_or-set_other tree p j w 0 ne

  won_other : (j : ℕ) → j ≢ p → 2 * j ≢ p → 2 * j + 1 ≢ p → IsWonAt acts tree j → IsWonAt acts (set tree p w) j
  won_other j n0 n1 n2 won =
      subst (λ x. IsWinner acts x (entry_at (set tree p w) (2 * j + 1)) (entry_at (set tree p w) j)) (sym (kept_set (2 * j) n1))
      (subst (λ x. IsWinner acts (entry_at tree (2 * j)) x (entry_at (set tree p w) j)) (sym (kept_set (2 * j + 1) n2))
      (subst (λ x. IsWinner acts (entry_at tree (2 * j)) (entry_at tree (2 * j + 1)) x) (sym (kept_set j n0)) won))

  won_here : 1 ≤ p → IsWinner acts (entry_at tree (2 * p)) (entry_at tree (2 * p + 1)) w → IsWonAt acts (set tree p w) p
  won_here from won =
      subst (λ x. IsWinner acts x (entry_at (set tree p w) (2 * p + 1)) (entry_at (set tree p w) p)) (sym (kept_set (2 * p) (omega arith)))
      (subst (λ x. IsWinner acts (entry_at tree (2 * p)) x (entry_at (set tree p w) p)) (sym (kept_set (2 * p + 1) (omega arith)))
      (subst (λ x. IsWinner acts (entry_at tree (2 * p)) (entry_at tree (2 * p + 1)) x) (sym (get_or-set_same tree p w 0 within)) won))

  -- by its own match: only the match above may be wrong
  pub won_up : 1 ≤ p → IsWinner acts (entry_at tree (2 * p)) (entry_at tree (2 * p + 1)) w → IsWonBut acts tree leaves p →
      IsWonBut acts (set tree p w) leaves (p / 2)
  won_up from here but = record {
    won = λ k from2 to ne. elim (cases_eq k p) [
      | inl e ↦ subst (λ n. IsWonAt acts (set tree p w) n) (sym e) (won_here from here)
      | inr other ↦ won_other k other (omega arith) (omega arith) (but.won k from2 to other)
    ];
  }

  -- at a leaf
  pub won_leaf : leaves ≤ p → IsWon acts tree leaves → IsWonBut acts (set tree p w) leaves (p / 2)
  won_leaf leaf all = record { won = λ k from to ne. won_other k (omega arith) (omega arith) (omega arith) (all.won k from to) }

  -- from the last to the first
  pub won_down : 1 ≤ p → IsWinner acts (entry_at tree (2 * p)) (entry_at tree (2 * p + 1)) w → ((k : ℕ) → p < k → k < leaves → IsWonAt acts tree k) → (k : ℕ) →
      p ≤ k → k < leaves → IsWonAt acts (set tree p w) k
  won_down from here above k from2 to = elim (cases_eq k p) [
    | inl e ↦ subst (λ n. IsWonAt acts (set tree p w) n) (sym e) (won_here from here)
    | inr other ↦ won_other k other (omega arith) (omega arith) (above k (omega arith) to)
  ]

-- all matches but that of the node are right, and that one too
pub won_same : (acts tree : List ℕ) (leaves p w : ℕ) → IsWinner acts (entry_at tree (2 * p)) (entry_at tree (2 * p + 1)) w → w ≡ entry_at tree p →
    IsWonBut acts tree leaves p → IsWon acts tree leaves
won_same acts tree leaves p w here e but = record {
  won = λ k from to. elim (cases_eq k p) [
    | inl is ↦ subst (λ n. IsWonAt acts tree n) (sym is) (subst (λ x. IsWinner acts (entry_at tree (2 * p)) (entry_at tree (2 * p + 1)) x) e here)
    | inr other ↦ but.won k from to other
  ];
}

-- the root
module _ (acts tree : List ℕ) (leaves : ℕ) (all : IsWon acts tree leaves) where
  most_by : (fuel k : ℕ) → k ≤ fuel → 1 ≤ k → k < 2 * leaves → rank_of acts (entry_at tree k) ≤ rank_of acts (entry_at tree 1)
  most_by zero k le from to = absurd (omega arith)
  most_by (suc fuel) k le from to = elim (cases_lt k 2) [
    | inl one ↦ let e : rank_of acts (entry_at tree k) ≡ rank_of acts (entry_at tree 1) = ap (λ n. rank_of acts (entry_at tree n)) (omega arith) in omega arith
    | inr more ↦
        let above = most_by fuel (k / 2) (omega arith) (omega arith) (omega arith) in
        let won = all.won (k / 2) (omega arith) (omega arith) in
        elim (cases_lt (2 * (k / 2)) k) [
          | inl odd ↦ let e : rank_of acts (entry_at tree k) ≡ rank_of acts (entry_at tree (2 * (k / 2) + 1)) = ap (λ n. rank_of acts (entry_at tree n))
              (omega arith) in let x = won.second in omega arith
          | inr even ↦ let e : rank_of acts (entry_at tree k) ≡ rank_of acts (entry_at tree (2 * (k / 2))) = ap (λ n. rank_of acts (entry_at tree n))
              (omega arith) in let x = won.first in omega arith
        ]
  ]

  pub root_most : (k : ℕ) → 1 ≤ k → k < 2 * leaves → rank_of acts (entry_at tree k) ≤ rank_of acts (entry_at tree 1)
  root_most k from to = most_by k k (omega arith) from to

  -- each node's variable is that of a leaf
  from_leaf_by : (fuel k : ℕ) → 2 * leaves ≤ k + fuel → 1 ≤ k → k < 2 * leaves → (i : ℕ) × (i < leaves) × (entry_at tree (leaves + i) ≡ entry_at tree k)
  from_leaf_by zero k le from to = absurd (omega arith)
  from_leaf_by (suc fuel) k le from to = elim (cases_lt k leaves) [
    | inl node ↦
        let won = all.won k from node in
        elim won.one [
          | inl e ↦ let x = from_leaf_by fuel (2 * k) (omega arith) (omega arith) (omega arith) in (x.0, x.1, x.2 ∙ sym e)
          | inr e ↦ let x = from_leaf_by fuel (2 * k + 1) (omega arith) (omega arith) (omega arith) in (x.0, x.1, x.2 ∙ sym e)
        ]
    | inr leaf ↦ (k - leaves, omega arith, ap (entry_at tree) (omega arith))
  ]

  pub from_leaf : (k : ℕ) → 1 ≤ k → k < 2 * leaves → (i : ℕ) × (i < leaves) × (entry_at tree (leaves + i) ≡ entry_at tree k)
  from_leaf k from to = from_leaf_by (2 * leaves) k (omega arith) from to

-- what is held and what isn't
pub word_held : (held : List Bool) (v : ℕ) → slice_index_or held v false ≡ true → leaf_word held v ≡ v
word_held held v e = ap (λ b. cond b v 0) e

pub word_free : (held : List Bool) (v : ℕ) → slice_index_or held v false ≡ false → leaf_word held v ≡ 0
word_free held v e = let n : ℕ = 0 in ap (λ b. cond b v n) e

pub held_or : (held : List Bool) (v : ℕ) → (slice_index_or held v false ≡ true) ⊎ (slice_index_or held v false ≡ false)
held_or held v = elim (slice_index_or held v false) as (λ b. (b ≡ true) ⊎ (b ≡ false)) [
  | true ↦ inl refl
  | false ↦ inr refl
]

module _ (vars leaves : ℕ) (held : List Bool) (acts tree : List ℕ) (k : IsHeap vars leaves held acts tree) where
  held_within : (w : ℕ) → slice_index_or held w false ≡ true → (1 ≤ w) × (w ≤ vars)
  held_within w h = (
    elim (cases_lt 0 w) [ inl lt ↦ lt | inr le ↦ let z : w ≡ 0 = omega arith in absurd (clash (sym h ∙ ap (λ n. slice_index_or held n false) z ∙ k.none)) ],
    elim (cases_lt w (length held)) [ inl lt ↦ let size = k.held_size in omega arith | inr ge ↦ absurd (clash (sym h ∙ get_or_past held w false ge)) ],
  )
    where
      clash : true ≡ false → ⊥
      clash e = cc

  pub leaf_of : (w : ℕ) → slice_index_or held w false ≡ true → entry_at tree (leaves + (w - 1)) ≡ w
  leaf_of w h =
      let b = held_within w h in
      let from = b.0 in
      let to = b.1 in
      let fits = k.fits in
      let next : (w - 1) + 1 ≡ w = omega arith in
      k.leaf (w - 1) (omega arith) ∙ ap (leaf_word held) next ∙ word_held held w h

  -- a node's variable is held
  pub node_held : (j v : ℕ) → 1 ≤ j → j < 2 * leaves → entry_at tree j ≡ v → v ≢ 0 → slice_index_or held v false ≡ true
  node_held j v from to is some =
      let x = from_leaf acts tree leaves k.won j from to in
      let word : leaf_word held (x.0 + 1) ≡ v = sym (k.leaf x.0 x.1) ∙ x.2 ∙ is in
      elim (held_or held (x.0 + 1)) [
        | inl h ↦ subst (λ n. slice_index_or held n false ≡ true) (sym (word_held held (x.0 + 1) h) ∙ word) h
        | inr f ↦ absurd (some (sym word ∙ word_free held (x.0 + 1) f))
      ]

  pub root_greatest : (v : ℕ) → entry_at tree 1 ≡ v → v ≢ 0 → IsGreatest (ranked_of vars held acts) v
  root_greatest v is some =
      let fits = k.some in
      let h = node_held 1 v (omega arith) (omega arith) is some in
      let b = held_within v h in
      record {
        from = b.0;
        to = b.1;
        held = h;
        most = λ w hw.
            let c = held_within w hw in
            let low = c.0 in
            let high = c.1 in
            let all = k.fits in
            let most = root_most acts tree leaves k.won (leaves + (w - 1)) (omega arith) (omega arith) in
            let mine : rank_of acts (entry_at tree (leaves + (w - 1))) ≡ entry_at acts w + 1 = ap (rank_of acts) (leaf_of w hw)
            ∙ rank_some acts w (omega arith) in
            let root : rank_of acts (entry_at tree 1) ≡ entry_at acts v + 1 = ap (rank_of acts) is ∙ rank_some acts v some in
            omega arith;
      }

  pub root_none : entry_at tree 1 ≡ 0 → NoneHeld (ranked_of vars held acts)
  root_none is = λ w hw.
      let c = held_within w hw in
      let low = c.0 in
      let high = c.1 in
      let all = k.fits in
      let most = root_most acts tree leaves k.won (leaves + (w - 1)) (omega arith) (omega arith) in
      let mine : rank_of acts (entry_at tree (leaves + (w - 1))) ≡ entry_at acts w + 1 = ap (rank_of acts) (leaf_of w hw) ∙ rank_some acts w (omega arith) in
      let root : rank_of acts (entry_at tree 1) ≡ 0 = rank_none acts (entry_at tree 1) is in
      omega arith

  -- the leaf of one variable has changed
  pub heap_set : (v : ℕ) (b : Bool) (new : List ℕ) → 1 ≤ v → v ≤ vars → length new ≡ length tree → HaveActivities acts new → IsWon acts new leaves →
      entry_at new (leaves + v - 1) ≡ leaf_word (set held v b) v → KeepsOthers leaves tree new (leaves + v - 1) →
      IsHeap vars leaves (set held v b) acts new
  heap_set v b new from to size named won leaf others = record {
    limit = k.limit;
    some = k.some;
    fits = k.fits;
    leaves_limit = k.leaves_limit;
    held_size = length-set held v b ∙ k.held_size;
    activities_size = k.activities_size;
    within = k.within;
    none = get_or-set_other held v 0 b false (omega arith) ∙ k.none;
    size = let old = k.size in omega arith;
    named = named;
    won = won;
    leaf = λ i lt. elim (cases_eq (i + 1) v) [
      | inl e ↦ ap (entry_at new) (omega arith) ∙ leaf ∙ ap (leaf_word (set held v b)) (sym e)
      | inr ne ↦ others (leaves + i) (omega arith) (omega arith) ∙ k.leaf i lt ∙ sym (ap (λ c. cond c (i + 1) 0) (get_or-set_other held v (i + 1) b false ne))
    ];
  }

  -- the activity of a variable that no node has
  pub won_raised : (v n : ℕ) (mid : List ℕ) → v ≢ 0 → IsWon acts mid leaves → ((j : ℕ) → 1 ≤ j → j < 2 * leaves → entry_at mid j ≢ v) →
      IsWon (set acts v n) mid leaves
  won_raised v n mid some won gone = record {
    won = λ j from to.
        let x = won.won j from to in
        let a = same_rank (entry_at mid (2 * j)) (gone (2 * j) (omega arith) (omega arith)) in
        let b = same_rank (entry_at mid (2 * j + 1)) (gone (2 * j + 1) (omega arith) (omega arith)) in
        let c = same_rank (entry_at mid j) (gone j (omega arith) (omega arith)) in
        let first = x.first in
        let second = x.second in
        record { one = x.one; first = omega arith; second = omega arith };
  }
    where
      same_rank : (w : ℕ) → w ≢ v → rank_of (set acts v n) w ≡ rank_of acts w
      same_rank w ne = elim (cases_eq w 0) [
        | inl e ↦ rank_none (set acts v n) w e ∙ sym (rank_none acts w e)
        | inr some2 ↦ rank_some (set acts v n) w some2 ∙ ap (λ a. a + 1) (get_or-set_other acts v w n 0 ne) ∙ sym (rank_some acts w some2)
      ]

  -- which it is once its leaf is empty
  pub gone_from : (v : ℕ) (mid : List ℕ) → 1 ≤ v → v ≤ vars → IsWon acts mid leaves → entry_at mid (leaves + v - 1) ≡ 0 →
      KeepsOthers leaves tree mid (leaves + v - 1) → (j : ℕ) → 1 ≤ j → j < 2 * leaves → entry_at mid j ≢ v
  gone_from v mid from to won empty others = λ j one below is.
      let x = from_leaf acts mid leaves won j one below in
      let lt = x.1 in
      elim (cases_eq (leaves + x.0) (leaves + v - 1)) [
        | inl e ↦ let z : v ≡ 0 = sym is ∙ sym x.2 ∙ ap (entry_at mid) e ∙ empty in omega arith
        | inr ne ↦
            let word : leaf_word held (x.0 + 1) ≡ v = sym (k.leaf x.0 x.1) ∙ sym (others (leaves + x.0) (omega arith) ne) ∙ x.2 ∙ is in
            elim (held_or held (x.0 + 1)) [
              | inl h ↦ let e : x.0 + 1 ≡ v = sym (word_held held (x.0 + 1) h) ∙ word in ne (omega arith)
              | inr f ↦ let e : 0 ≡ v = sym (word_free held (x.0 + 1) f) ∙ word in omega arith
            ]
      ]

  pub heap_raised : (v n : ℕ) (mid new : List ℕ) → 1 ≤ v → v ≤ vars → n ≤ HALVED_AT → length mid ≡ length tree → length new ≡ length mid →
      KeepsOthers leaves tree mid (leaves + v - 1) →
      HaveActivities (set acts v n) new → IsWon (set acts v n) new leaves → entry_at new (leaves + v - 1) ≡ leaf_word held v →
      KeepsOthers leaves mid new (leaves + v - 1) → IsHeap vars leaves held (set acts v n) new
  heap_raised v n mid new from to most size size2 others named won leaf others2 = record {
    limit = k.limit;
    some = k.some;
    fits = k.fits;
    leaves_limit = k.leaves_limit;
    held_size = k.held_size;
    activities_size = length-set acts v n ∙ k.activities_size;
    within = λ j. elim (cases_eq j v) [
      | inl e ↦ let same : entry_at (set acts v n) j ≡ n = ap (entry_at (set acts v n)) e
          ∙ get_or-set_same acts v n 0 (let large = k.activities_size in omega arith) in omega arith
      | inr ne ↦ let same : entry_at (set acts v n) j ≡ entry_at acts j = get_or-set_other acts v j n 0 ne in let old = k.within j in omega arith
    ];
    none = k.none;
    size = let old = k.size in omega arith;
    named = named;
    won = won;
    leaf = λ i lt. elim (cases_eq (i + 1) v) [
      | inl e ↦ ap (entry_at new) (omega arith) ∙ leaf ∙ ap (leaf_word held) (sym e)
      | inr ne ↦ others2 (leaves + i) (omega arith) (omega arith) ∙ others (leaves + i) (omega arith) (omega arith) ∙ k.leaf i lt
    ];
  }

  -- all activities are halved, and all matches played
  pub heap_halved : (less : List ℕ) (new : List ℕ) → length less ≡ length acts → AreActivities less → length new ≡ length tree → HaveActivities less new →
      IsWon less new leaves → KeepsLeaves leaves tree new → IsHeap vars leaves held less new
  heap_halved less new same within size named won kept = record {
    limit = k.limit;
    some = k.some;
    fits = k.fits;
    leaves_limit = k.leaves_limit;
    held_size = k.held_size;
    activities_size = same ∙ k.activities_size;
    within = within;
    none = k.none;
    size = let old = k.size in omega arith;
    named = named;
    won = won;
    leaf = λ i lt. kept (leaves + i) (omega arith) ∙ k.leaf i lt;
  }

pub winner_named : (acts tree : List ℕ) (a b w : ℕ) → HaveActivities acts tree → IsWinner acts (entry_at tree a) (entry_at tree b) w → w < length acts
winner_named acts tree a b w named x = elim x.one [
  | inl e ↦ subst (λ n. n < length acts) (sym e) (named a)
  | inr e ↦ subst (λ n. n < length acts) (sym e)
      (named b)
]

pub zero_named : (acts tree : List ℕ) → 1 ≤ length acts → ((k : ℕ) → k < length tree → entry_at tree k ≡ 0) → HaveActivities acts tree
zero_named acts tree some zeros = λ k. elim (cases_lt k (length tree)) [
  | inl lt ↦ let z = zeros k lt in omega arith
  | inr ge ↦ let z = get_or_past tree k 0
      ge in omega arith
]

pub zero_all : (tree : List ℕ) (k : ℕ) → ((k : ℕ) → k < length tree → entry_at tree k ≡ 0) → entry_at tree k ≡ 0
zero_all tree k zeros = elim (cases_lt k (length tree)) [ inl lt ↦ zeros k lt | inr ge ↦ get_or_past tree k 0 ge ]

pub zero_set : (tree : List ℕ) (i k : ℕ) → i < length tree → ((k : ℕ) → k < i → entry_at tree k ≡ 0) → k < i + 1 → entry_at (set tree i 0) k ≡ 0
zero_set tree i k within zeros lt = elim (cases_eq k i) [
  | inl e ↦ ap (entry_at (set tree i 0)) e ∙ get_or-set_same tree i 0 0 within
  | inr ne ↦ get_or-set_other tree i k 0 0 ne ∙ zeros k (omega arith)
]

pub free_past : (held : List Bool) (v : ℕ) → length held ≤ v → leaf_word held v ≡ 0
free_past held v ge = word_free held v (get_or_past held v false ge)

pub set_free : (held : List Bool) (v : ℕ) → v < length held → leaf_word (set held v false) v ≡ 0
set_free held v lt = word_free (set held v false) v (get_or-set_same held v false false lt)

pub word_below : (held : List Bool) (v n : ℕ) → v < n → leaf_word held v < n
word_below held v n lt = elim (held_or held v) [ inl h ↦ let e = word_held held v h in omega arith | inr f ↦ let e = word_free held v f in omega arith ]
