-- Switches and crossings are put in their order.
use Rattle.std.proofs.Common.{◌≡◌, ◌≢◌, ◌⊎◌, ℕ, suc, ◌+◌, ◌<◌, ◌≤◌, Bool, true, false, List, [], ◌∷◌, ◌++◌, length, map, get_or, drop, refl, sym, ap, ◌∙◌}
use Rattle.std.proofs.Common.{subst, inl, inr, append_assoc, eqb, arith}
use Rattle.std.specs.Prelude.{filter, ℤ, ◌<ℤ◌, nat_lt, ◌||◌}
use Rattle.std.specs.declared.cmp.Ordering.{Ordering}
use Rattle.std.specs.declared.cmp.Ordering.TheVariants.{Less, Equal, Greater}
use Rattle.std.specs.Ordering.{is_lt, int_cmp, nat_cmp, ordering_then, MatchOrdering}
use Rattle.std.specs.Cmp.{int_ranks}
use Rattle.std.specs.List.{All, AllByRecursion, AllPairs, Contains}
use Rattle.std.specs.List.Sorted.{IsPermutation}
use Rattle.std.proofs.Math.Bool.{or-true}
use Rattle.std.proofs.lemmas.Bool.{lt-ltb}
use Rattle.std.proofs.lemmas.Bool.Decides.{leb_tells, Decides-eqb}
use Rattle.std.proofs.lemmas.Cmp.{nat_eq_equiv}
use Rattle.std.proofs.lemmas.List.Kept.{AllPairs-filter}
use Rattle.std.proofs.lemmas.List.Sorted.{IsPermutation-map, IsPermutation-sym, Contains-permutation, All-permutation}
use Rattle.std.proofs.lemmas.Map.Keys.{IsDistinct-IsPermutation}
use Rattle.std.proofs.lemmas.Map.Made.{AllPairs-from_IsDistinct, IsDistinct-from_AllPairs}
use Rattle.std.proofs.lemmas.Int.{ints}
use Rattle.std.proofs.lemmas.List.Elements.{recursion_from_All}
use Rattle.std.proofs.lemmas.List.{map-append, drop_more}
use Rattle.railml_read.specs.declared.rows.Elem.{Elem}
use Rattle.railml_topology.specs.declared.order.Standing.{Standing}
use Rattle.railml_read.specs.declared.rows.ElemKind.TheVariants.{Switch, Crossing}
use Rattle.railml_faults.specs.Rows.{is_child_of, all_children, is_of_kind, children}
use Rattle.railml_faults.proofs.Apart.{Apart, Among, Stands, all_more, all_both, pairs_from_stands, stands_from_pairs, stands_mapped}
use Rattle.railml_faults.proofs.Family.{among_from_contains, contains_from_among, among_filtered, filtered_among}
use Rattle.railml_topology.specs.Resolved.{StandsBefore, AreInner}
use Rattle.railml_topology.specs.Plans.{is_inner, IsStanding}
use Rattle.railml_topology.proofs.ElementLemmas.{numbers_apart}

-- one more number of those that pass
pub one_kept : (p : ℕ → Bool) (list : List Standing) (numbers : List ℕ) (i : ℕ) (s : Standing) → i < length numbers → p (get_or numbers i 0) ≡ true →
    s.row ≡ get_or numbers i 0 → map (λ (v : Standing). v.row) list ++ filter p (drop i numbers) ≡ filter p numbers →
    map (λ (v : Standing). v.row) (list ++ s ∷ []) ++ filter p (drop (i + 1) numbers) ≡ filter p numbers
one_kept p list numbers i s within passes is so_far =
    let rest : filter p (drop i numbers) ≡ s.row ∷ filter p (drop (i + 1) numbers) =
    ap (filter p) (drop_more numbers i 0 within) ∙ (rw passes (ap (λ n. n ∷ filter p (drop (i + 1) numbers)) (sym is))) in
    ap (λ v. v ++ filter p (drop (i + 1) numbers)) (map-append (λ (v : Standing). v.row) list (s ∷ []))
    ∙ (append_assoc (map (λ (v : Standing). v.row) list) (s.row ∷ []) (filter p (drop (i + 1) numbers))
    ∙ (ap (λ v. map (λ (w : Standing). w.row) list ++ v) (sym rest) ∙ so_far))

-- one more number of those that don't
pub one_passed : (p : ℕ → Bool) (list : List Standing) (numbers : List ℕ) (i : ℕ) → i < length numbers → p (get_or numbers i 0) ≡ false →
    map (λ (v : Standing). v.row) list ++ filter p (drop i numbers) ≡ filter p numbers →
    map (λ (v : Standing). v.row) list ++ filter p (drop (i + 1) numbers) ≡ filter p numbers
one_passed p list numbers i within passes so_far =
    let rest : filter p (drop i numbers) ≡ filter p (drop (i + 1) numbers) = ap (filter p) (drop_more numbers i 0 within) ∙ (rw passes refl) in
    ap (λ v. map (λ (w : Standing). w.row) list ++ v) (sym rest) ∙ so_far

-- ---- after sorting

-- each item stands so to the next
abbrev Chain : {X : Type 0} → (X → X → Type 0) → List X → Type 0
Chain R [] = Unit {0}
Chain R (x ∷ []) = Unit {0}
Chain R (x ∷ y ∷ ys) = R x y × Chain R (y ∷ ys)

chain_from_places : {X : Type 0} (R : X → X → Type 0) (xs : List X) → ((k : ℕ) (d : X) → k + 1 < length xs → R (get_or xs k d) (get_or xs (k + 1) d)) →
    Chain R xs
chain_from_places R [] h = tt
chain_from_places R (x ∷ []) h = tt
chain_from_places {X} R (x ∷ y ∷ ys) h = (
  h 0 x (omega arith),
  chain_from_places R (y ∷ ys)
      (λ k d within. (let shifted : suc k + 1 ≡ suc (k + 1) = omega arith in
      subst (λ n. R (get_or (x ∷ y ∷ ys) (suc k) d) (get_or (x ∷ y ∷ ys) n d)) shifted (h (suc k) d (omega arith)))),
)

stands_from_chain : {X : Type 0} (R : X → X → Type 0) → ((x y z : X) → R x y → R y z → R x z) → (xs : List X) → Chain R xs → Stands R xs
stands_from_chain R trans [] h = tt
stands_from_chain R trans (x ∷ []) h = (tt, tt)
stands_from_chain R trans (x ∷ y ∷ ys) h =
    let rest = stands_from_chain R trans (y ∷ ys) h.1 in
    ((h.0, all_more (R y) (R x) (λ z r. trans x y z h.0 r) ys rest.0), rest)

-- one stands no later than the other, and before it
abbrev NoLater : Standing → Standing → Type 0
NoLater a b = (a.position <ℤ b.position) ⊎ ((a.position ≡ b.position) × (a.row ≤ b.row))

later_again : (a b c : Standing) → NoLater a b → NoLater b c → NoLater a c
later_again a b c (inl h) (inl k) = inl (omega (arith, ints))
later_again a b c (inl h) (inr k) = inl (subst (λ (z : ℤ). a.position <ℤ z) k.0 h)
later_again a b c (inr h) (inl k) = inl (subst (λ (z : ℤ). z <ℤ c.position) (sym h.0) k)
later_again a b c (inr h) (inr k) = inr (h.0 ∙ k.0, (let l = h.1 in let m = k.1 in omega arith))

no_later : (a b : Standing) → is_lt (ordering_then (int_cmp b.position a.position) (nat_cmp b.row a.row)) ≡ false → NoLater a b
no_later a b h = choose (int_cmp b.position a.position) (int_ranks b.position a.position) h
  where
    rows : is_lt (nat_cmp b.row a.row) ≡ false → a.row ≤ b.row
    rows e = elim (leb_tells a.row b.row) [
      | inl le ↦ le.1
      | inr lt ↦ absurd (let below : b.row < a.row = lt.1 in let t : nat_lt b.row a.row ≡ true = lt-ltb b.row a.row below in let u : is_lt (nat_cmp b.row a.row)
          ≡ true = rw t refl in cc)
    ]

    choose : (r : Ordering) → MatchOrdering r (b.position <ℤ a.position) (b.position ≡ a.position) (a.position <ℤ b.position) →
        is_lt (ordering_then r (nat_cmp b.row a.row)) ≡ false → NoLater a b
    choose Less m e = absurd cc
    choose Equal m e = inr (sym m, rows e)
    choose Greater m e = inl m

-- of rows that differ the one comes before the other
before_from : (rows : List Elem) (a b : Standing) → IsStanding rows a → IsStanding rows b → NoLater a b × (a.row ≢ b.row) → StandsBefore rows a.row b.row
before_from rows a b x y h = record {
  here = x.row;
  is_here = x.is;
  from = a.position;
  here_at = x.position;
  there = y.row;
  is_there = y.is;
  to = b.position;
  there_at = y.position;
  before = elim h.0 [ inl less ↦ inl less | inr level ↦ inr (level.0, (let le = level.1 in let differ = h.1 in omega arith)) ];
}

stands_both : {X : Type 0} (R S : X → X → Type 0) (xs : List X) → Stands R xs → Stands S xs → Stands (λ x y. R x y × S x y) xs
stands_both R S [] h k = tt
stands_both R S (x ∷ xs) h k = (all_both (R x) (S x) xs h.0 k.0, stands_both R S xs h.1 k.1)

pub in_order : (rows : List Elem) (list : List Standing) → All (IsStanding rows) list → AllPairs (λ (a b : Standing). a.row ≢ b.row) list
    → ((k : ℕ) (d : Standing) → 0 ≤ k → k + 1 < length list → is_lt (ordering_then (int_cmp (get_or list (k + 1) d).position (get_or list k d).position)
    (nat_cmp (get_or list (k + 1) d).row (get_or list k d).row)) ≡ false)
    → AllPairs (StandsBefore rows) (map (λ (s : Standing). s.row) list)
in_order rows list standing differ sorted =
    let order : Stands NoLater list = stands_from_chain NoLater later_again list (chain_from_places NoLater list
    (λ k d within. no_later (get_or list k d) (get_or list (k + 1) d) (sorted k d (omega arith) within))) in
    pairs_from_stands (StandsBefore rows) (map (λ (s : Standing). s.row) list)
    (stands_mapped (IsStanding rows) (λ (a b : Standing). NoLater a b × (a.row ≢ b.row)) (StandsBefore rows) (λ (s : Standing). s.row) (before_from rows) list
    (recursion_from_All (IsStanding rows) list standing)
    (stands_both NoLater (λ (a b : Standing). a.row ≢ b.row) list order (stands_from_pairs (λ (a b : Standing). a.row ≢ b.row) list differ)))

-- ---- the switches and crossings of a topology

stands_unmapped : {X Y : Type 0} (R : Y → Y → Type 0) (f : X → Y) (xs : List X) → Stands R (map f xs) → Stands (λ x y. R (f x) (f y)) xs
stands_unmapped R f [] h = tt
stands_unmapped {X} R f (x ∷ xs) h = (all_unmapped xs h.0, stands_unmapped R f xs h.1)
  where
    all_unmapped : (ys : List X) → AllByRecursion (R (f x)) (map f ys) → AllByRecursion (λ y. R (f x) (f y)) ys
    all_unmapped [] h = tt
    all_unmapped (y ∷ ys) h = (h.0, all_unmapped ys h.1)

apart_filtered : (p : ℕ → Bool) (xs : List ℕ) → Apart xs → Apart (filter p xs)
apart_filtered p xs h = stands_from_pairs (λ (x y : ℕ). x ≢ y) (filter p xs) (AllPairs-filter (λ (x y : ℕ). x ≢ y) p xs
    (pairs_from_stands (λ (x y : ℕ). x ≢ y) xs h))

flips : (x y : ℕ) → eqb x y ≡ eqb y x
flips x y = nat_eq_equiv.symm x y

apart_permuted : (xs ys : List ℕ) → IsPermutation xs ys → Apart xs → Apart ys
apart_permuted xs ys p h =
    stands_from_pairs (λ (x y : ℕ). x ≢ y) ys
    (AllPairs-from_IsDistinct {eq = eqb} Decides-eqb ys
    (IsDistinct-IsPermutation eqb flips xs ys p (IsDistinct-from_AllPairs {eq = eqb} Decides-eqb xs (pairs_from_stands (λ (x y : ℕ). x ≢ y) xs h))))

-- a child that is a switch or a crossing
inner_child : (rows : List Elem) (topology i : ℕ) → Among (filter (is_inner rows) (all_children rows topology)) i →
    Contains (children rows topology Switch) i ⊎ Contains (children rows topology Crossing) i
inner_child rows topology i a =
    let f = among_filtered (is_inner rows) (all_children rows topology) i a in
    choose (is_of_kind rows Switch i) refl f.0 f.1
  where
    choose : (v : Bool) → is_of_kind rows Switch i ≡ v → Among (all_children rows topology) i → (v || is_of_kind rows Crossing i) ≡ true →
        Contains (children rows topology Switch) i ⊎ Contains (children rows topology Crossing) i
    choose true e among h = inl (contains_from_among (children rows topology Switch) i
        (filtered_among (is_of_kind rows Switch) (all_children rows topology) i among e))
    choose false e among h = inr (contains_from_among (children rows topology Crossing) i
        (filtered_among (is_of_kind rows Crossing) (all_children rows topology) i among h))

child_inner : (rows : List Elem) (topology i : ℕ) → Contains (children rows topology Switch) i ⊎ Contains (children rows topology Crossing) i →
    Among (filter (is_inner rows) (all_children rows topology)) i
child_inner rows topology i (inl c) =
    let f = among_filtered (is_of_kind rows Switch) (all_children rows topology) i (among_from_contains (children rows topology Switch) i c) in
    filtered_among (is_inner rows) (all_children rows topology) i f.0 (let e = f.1 in rw e refl)
child_inner rows topology i (inr c) =
    let f = among_filtered (is_of_kind rows Crossing) (all_children rows topology) i (among_from_contains (children rows topology Crossing) i c) in
    filtered_among (is_inner rows) (all_children rows topology) i f.0 (let e = f.1 in rw e (or-true (is_of_kind rows Switch i)))

pub inner_sorted : (rows : List Elem) (topology : ℕ) (list sorted : List Standing) →
    map (λ (s : Standing). s.row) list ≡ filter (is_inner rows) (all_children rows topology) → All (IsStanding rows) list → IsPermutation list sorted
    → ((k : ℕ) (d : Standing) → 0 ≤ k → k + 1 < length sorted → is_lt (ordering_then (int_cmp (get_or sorted (k + 1) d).position (get_or sorted k d).position)
    (nat_cmp (get_or sorted (k + 1) d).row (get_or sorted k d).row)) ≡ false)
    → AreInner rows topology (map (λ (s : Standing). s.row) sorted)
inner_sorted rows topology list sorted same standing permuted order =
    let f : Standing → ℕ = λ s. s.row in
    let moved : IsPermutation (filter (is_inner rows) (all_children rows topology)) (map f sorted) = subst (λ (v : List ℕ). IsPermutation v (map f sorted)) same
    (IsPermutation-map f list sorted permuted) in
    let apart : Apart (map f sorted) = apart_permuted (filter (is_inner rows) (all_children rows topology)) (map f sorted) moved
    (apart_filtered (is_inner rows) (all_children rows topology) (numbers_apart (is_child_of topology) 0 rows)) in
    record {
      all = (λ i. (
        (λ c. inner_child rows topology i (among_from_contains (filter (is_inner rows) (all_children rows topology)) i
            (Contains-permutation (map f sorted) (filter (is_inner rows) (all_children rows topology)) i
            (IsPermutation-sym (filter (is_inner rows) (all_children rows topology)) (map f sorted) moved) c))),
        (λ c. Contains-permutation (filter (is_inner rows) (all_children rows topology)) (map f sorted) i moved
            (contains_from_among (filter (is_inner rows) (all_children rows topology)) i (child_inner rows topology i c))),
      ));
      ordered = in_order rows sorted (All-permutation (IsStanding rows) list sorted permuted standing)
          (pairs_from_stands (λ (a b : Standing). a.row ≢ b.row) sorted (stands_unmapped (λ (x y : ℕ). x ≢ y) f sorted apart)) order;
    }
