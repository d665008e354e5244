-- What the calls of a heap leave, by what the calls on its tree were given.
use Rattle.std.proofs.Common.{◌≡◌, ◌≢◌, ℕ, ◌+◌, ◌-◌, ◌*◌, ◌/◌, ◌<◌, ◌≤◌, Bool, false, cond, List, [], ◌++◌, replicate, length, set, sym, ◌∙◌, ap, subst, inl}
use Rattle.std.proofs.Common.{inr, arith}
use Rattle.std.specs.Prelude.{map, slice_index_or}
use Rattle.std.proofs.lemmas.Bool.{cases_lt}
use Rattle.std.proofs.lemmas.Bool.Decides.{eqb_tells}
use Rattle.std.proofs.lemmas.List.{length-map, get_or-map, get_or_past}
use Rattle.pick_heap.specs.declared.heap.TheConstants.{HALVED_AT}
use Rattle.pick_heap.specs.Heap.{Ranked, ranked_of, IsGreatest, NoneHeld}
use Rattle.pick_heap.specs.Tree.{entry_at, HaveActivities, IsWon, leaf_word, KeepsLeaves, KeepsOthers, AreActivities, IsHeap}
use Rattle.pick_heap.proofs.MatchLemmas.{heap_set, heap_raised, heap_halved, won_raised, gone_from, root_greatest, root_none}

-- the same with what calls were given, and what is left of a vector
pub heap_set_at : (vars leaves : ℕ) (held : List Bool) (acts tree given_acts given_tree new got : List ℕ) (v : ℕ) (b : Bool) →
    IsHeap vars leaves held acts tree → given_acts ≡ acts → given_tree ≡ tree → got ≡ new → 1 ≤ v → v ≤ vars → length new ≡ length given_tree →
    HaveActivities given_acts new → IsWon given_acts new leaves →
    entry_at new (leaves + v - 1) ≡ leaf_word (set held v b) v → KeepsOthers leaves given_tree new (leaves + v - 1) → IsHeap vars leaves (set held v b) acts got
heap_set_at vars leaves held acts tree given_acts given_tree new got v b k ea et eg from to size named won leaf others =
    subst (λ (g : List ℕ). IsHeap vars leaves (set held v b) acts g) (sym eg) (heap_set vars leaves held acts tree k v b new from to (size ∙ ap length et)
    (subst (λ (a : List ℕ). HaveActivities a new) ea named) (subst (λ (a : List ℕ). IsWon a new leaves) ea won) leaf
    (subst (λ (t : List ℕ). KeepsOthers leaves t new (leaves + v - 1)) et others))

-- a variable's leaf is emptied, its activity rises, and its leaf is set again
module _ (vars leaves : ℕ) (held : List Bool) (acts tree given_acts given_tree mid : List ℕ) (v : ℕ) (k : IsHeap vars leaves held acts tree)
    (ea : given_acts ≡ acts) (et : given_tree ≡ tree) (from : 1 ≤ v) (to : v ≤ vars) (size : length mid ≡ length given_tree)
    (won : IsWon given_acts mid leaves) (empty : entry_at mid (leaves + v - 1) ≡ 0) (others : KeepsOthers leaves given_tree mid (leaves + v - 1)) where
  others_old : KeepsOthers leaves tree mid (leaves + v - 1)
  others_old = subst (λ (t : List ℕ). KeepsOthers leaves t mid (leaves + v - 1)) et others

  won_old : IsWon acts mid leaves
  won_old = subst (λ (a : List ℕ). IsWon a mid leaves) ea won

  pub mid_won : (n : ℕ) (more given : List ℕ) → more ≡ set acts v n → given ≡ mid → IsWon more given leaves
  mid_won n more given em eg =
      subst (λ (a : List ℕ). IsWon a given leaves) (sym em) (subst (λ (t : List ℕ). IsWon (set acts v n) t leaves) (sym eg)
      (won_raised vars leaves held acts tree k v n mid (omega arith) won_old (gone_from vars leaves held acts tree k v mid from to won_old empty others_old)))

  pub heap_raised_at : (n word : ℕ) (more given new got : List ℕ) → n ≤ HALVED_AT → more ≡ set acts v n → given ≡ mid → got ≡ new → length new ≡ length given →
      HaveActivities more new → IsWon more new leaves → entry_at new (leaves + v - 1) ≡ word → word ≡ leaf_word held v →
      KeepsOthers leaves given new (leaves + v - 1) →
      IsHeap vars leaves held (set acts v n) got
  heap_raised_at n word more given new got most em eg en size2 named2 won2 leaf is others2 =
      subst (λ (g : List ℕ). IsHeap vars leaves held (set acts v n) g) (sym en)
      (heap_raised vars leaves held acts tree k v n mid new from to most (size ∙ ap length et) (size2 ∙ ap length eg) others_old
      (subst (λ (a : List ℕ). HaveActivities a new) em named2) (subst (λ (a : List ℕ). IsWon a new leaves) em won2) (leaf ∙ is)
      (subst (λ (t : List ℕ). KeepsOthers leaves t new (leaves + v - 1)) eg others2))

halves_within : (acts : List ℕ) → AreActivities acts → AreActivities (map (λ a. a / 2) acts)
halves_within acts within = λ j. elim (cases_lt j (length acts)) [
  | inl lt ↦ let e : entry_at (map (λ a. a / 2) acts) j ≡ entry_at acts j / 2 = get_or-map (λ a. a / 2) acts j 0 0 lt in let old = within j in omega arith
  | inr ge ↦ let e : entry_at (map (λ a. a / 2) acts) j ≡ 0 = get_or_past (map (λ a. a / 2) acts) j 0 (omega (arith, length-map acts (λ a. a / 2), ge)) in omega
      arith
]

pub heap_halved_at : (vars leaves : ℕ) (held : List Bool) (acts tree less given_less given_tree new got_less got : List ℕ) → IsHeap vars leaves held acts tree →
    less ≡ map (λ a. a / 2) acts → got_less ≡ less → given_less ≡ less → given_tree ≡ tree → got ≡ new → length new ≡ length given_tree →
    HaveActivities given_less new → IsWon given_less new leaves → KeepsLeaves leaves given_tree new →
    IsHeap vars leaves held got_less got
heap_halved_at vars leaves held acts tree less given_less given_tree new got_less got k el egl el2 et eg size named won kept =
    subst (λ (g : List ℕ). IsHeap vars leaves held got_less g) (sym eg) (subst (λ (a : List ℕ). IsHeap vars leaves held a new) (sym egl)
    (heap_halved vars leaves held acts tree k less new (ap length el ∙ length-map acts (λ a. a / 2))
    (subst AreActivities (sym el) (halves_within acts k.within)) (size ∙ ap length et) (subst (λ (a : List ℕ). HaveActivities a new) el2 named)
    (subst (λ (a : List ℕ). IsWon a new leaves) el2 won)
    (subst (λ (t : List ℕ). KeepsLeaves leaves t new) et kept)))

pub half_below : (acts : List ℕ) (v : ℕ) → v < length acts → entry_at acts v ≤ HALVED_AT → entry_at (map (λ a. a / 2) acts) v < HALVED_AT
half_below acts v lt le = let e : entry_at (map (λ a. a / 2) acts) v ≡ entry_at acts v / 2 = get_or-map (λ a. a / 2) acts v 0 0 lt in omega arith

-- the root, as the view has it
pub greatest_at : (vars leaves : ℕ) (held : List Bool) (acts tree : List ℕ) (h : Ranked) (v : ℕ) → IsHeap vars leaves held acts tree →
    ranked_of vars held acts ≡ h → entry_at tree 1 ≡ v → v ≢ 0 → IsGreatest h v
greatest_at vars leaves held acts tree h v k e is some = subst (λ (x : Ranked). IsGreatest x v) e (root_greatest vars leaves held acts tree k v is some)

pub none_at : (vars leaves : ℕ) (held : List Bool) (acts tree : List ℕ) (h : Ranked) → IsHeap vars leaves held acts tree → ranked_of vars held acts ≡ h →
    entry_at tree 1 ≡ 0 → NoneHeld h
none_at vars leaves held acts tree h k e is = subst (λ (x : Ranked). NoneHeld x) e (root_none vars leaves held acts tree k is)
