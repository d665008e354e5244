-- How many elements of a list stand before a place: no two elements that stand apart have one such number,
-- and each number below the length is one's. In a list in order it is the element's own place.
use Rattle.std.proofs.Common.{◌≡◌, ◌≢◌, ℕ, ◌+◌, ◌-◌, ◌<◌, ◌≤◌, Bool, cond, List, [], ◌∷◌, length, map, get_or, refl, sym, ap, ◌∙◌, subst, inl, inr, arith}
use Rattle.std.proofs.Common.{zero, suc, Some, None}
use Rattle.std.specs.Prelude.{nat_lt, count_by, AllPairs, slice_get, All}
use Rattle.std.proofs.lemmas.Bool.{cases_lt, cases_order, lt-ltb, le-ltb}
use Rattle.std.proofs.lemmas.List.Elements.{All-contains, All-head, All-tail, All-map, All-cons, All-weaker}
use Rattle.std.proofs.lemmas.List.Sums.{sum_by-cons, count_by-le-length}
use Rattle.std.specs.List.Sorted.{IsPermutation, IsNonDecreasingBy}
use Rattle.std.proofs.lemmas.List.Sorted.{sum_by-IsPermutation, IsPermutation-map}
use Rattle.std.proofs.lemmas.List.Kept.{AllPairs-cons}
use Rattle.plan_core.proofs.ListFacts.{pairs_head, pairs_tail}
use Rattle.port_graph.proofs.Membership.{In, contains_in}
use Rattle.port_graph.proofs.ListPlaces.{contained}
use Rattle.port_graph.proofs.PortLemmas.{apart_moved}
use Rattle.port_graph.proofs.Sublists.{pairs_of_map}

module _ {X : Type 0} (f : X → ℕ) where
  -- how many of the list stand before this place
  abbrev pub rank : List X → ℕ → ℕ
  rank xs a = count_by (λ (x : X). nat_lt (f x) a) xs

  rank-before : (x : X) (xs : List X) (a : ℕ) → f x < a → rank (x ∷ xs) a ≡ 1 + rank xs a
  rank-before x xs a less =
      sum_by-cons (λ (x : X). cond (nat_lt (f x) a) 1 0) x xs ∙ ap (λ (b : Bool). cond b 1 0 + rank xs a) (lt-ltb (f x) a less)

  rank-after : (x : X) (xs : List X) (a : ℕ) → a ≤ f x → rank (x ∷ xs) a ≡ 0 + rank xs a
  rank-after x xs a more =
      sum_by-cons (λ (x : X). cond (nat_lt (f x) a) 1 0) x xs ∙ ap (λ (b : Bool). cond b 1 0 + rank xs a) (le-ltb (f x) a more)

  rank_up : (xs : List X) (a b : ℕ) → a ≤ b → rank xs a ≤ rank xs b
  rank_up [] a b up = omega arith
  rank_up (x ∷ xs) a b up =
      let rest = rank_up xs a b up in
      elim (cases_lt (f x) a) [
        | inl less ↦ omega (arith, rest, rank-before x xs a less, rank-before x xs b (omega arith))
        | inr more ↦ elim (cases_lt (f x) b) [
          | inl less ↦ omega (arith, rest, rank-after x xs a more, rank-before x xs b less)
          | inr more' ↦ omega (arith, rest, rank-after x xs a more, rank-after x xs b more')
        ]
      ]

  -- an element between the places counts
  pub rank_less : (xs : List X) (x : X) (a b : ℕ) → In x xs → a ≤ f x → f x < b → rank xs a < rank xs b
  rank_less [] x a b h from less = absurd h
  rank_less (y ∷ ys) x a b (inl e) from less =
      let from' : a ≤ f y = subst (λ (z : X). a ≤ f z) (sym e) from in
      let less' : f y < b = subst (λ (z : X). f z < b) (sym e) less in
      omega (arith, rank_up ys a b (omega arith), rank-after y ys a from', rank-before y ys b less')
  rank_less (y ∷ ys) x a b (inr h) from less =
      let rest = rank_less ys x a b h from less in
      elim (cases_lt (f y) a) [
        | inl before ↦ omega (arith, rest, rank-before y ys a before, rank-before y ys b (omega arith))
        | inr more ↦ elim (cases_lt (f y) b) [
          | inl before ↦ omega (arith, rest, rank-after y ys a more, rank-before y ys b before)
          | inr more' ↦ omega (arith, rest, rank-after y ys a more, rank-after y ys b more')
        ]
      ]

  pub rank_below : (xs : List X) (x : X) → In x xs → rank xs (f x) < length xs
  rank_below xs x h =
      let less = rank_less xs x (f x) (f x + 1) h (omega arith) (omega arith) in
      omega (arith, less, count_by-le-length (λ (y : X). nat_lt (f y) (f x + 1)) xs)

  -- elements of one number stand at one place
  pub one_rank : (xs : List X) (x y : X) → In x xs → In y xs → rank xs (f x) ≡ rank xs (f y) → f x ≡ f y
  one_rank xs x y h k same =
      elim (cases_order (f x) (f y)) [
        | inl is ↦ is
        | inr (inl less) ↦ let up = rank_less xs x (f x) (f y) h (omega arith) less in absurd (omega (arith, up, same))
        | inr (inr more) ↦ let up = rank_less xs y (f y) (f x) k (omega arith) more in absurd (omega (arith, up, same))
      ]

  -- where all places differ, each number is an element's
  pub ranked : (xs : List X) → AllPairs (λ (x y : X). f x ≢ f y) xs → (n : ℕ) → n < length xs → (x : X) × In x xs × (rank xs (f x) ≡ n)
  ranked [] differ n within = absurd (omega arith)
  ranked (x ∷ xs) differ n within =
      let differ' = pairs_tail (λ (x y : X). f x ≢ f y) x xs differ in
      let few = count_by-le-length (λ (y : X). nat_lt (f y) (f x)) xs in
      elim (cases_order n (rank xs (f x))) [
        | inl same ↦ (x, inl refl, omega (arith, rank-after x xs (f x) (omega arith), same))
        | inr (inl less) ↦
            let r = ranked xs differ' n (omega (arith, few, less)) in
            let is : rank xs (f r.0) ≡ n = r.2 in
            elim (cases_lt (f r.0) (f x)) [
              | inl before ↦ (r.0, inr r.1, omega (arith, is, rank-after x xs (f r.0) (omega arith)))
              | inr more ↦ let up = rank_up xs (f x) (f r.0) more in absurd (omega (arith, up, is, less))
            ]
        | inr (inr more) ↦
            let r = ranked xs differ' (n - 1) (omega arith) in
            let is : rank xs (f r.0) ≡ n - 1 = r.2 in
            let apart : f x ≢ f r.0 = All-contains (λ (y : X). f x ≢ f y) xs r.0 (pairs_head (λ (x y : X). f x ≢ f y) x xs differ) (contains_in xs r.0 r.1) in
            elim (cases_lt (f r.0) (f x)) [
              | inl before ↦ let up = rank_less xs r.0 (f r.0) (f x) r.1 (omega arith) before in absurd (omega (arith, up, is, more))
              | inr after ↦ (r.0, inr r.1, omega (arith, is, more, rank-before x xs (f r.0) (omega arith)))
            ]
      ]

-- ---- lists in order by a number

-- what holds of each two holds of each two images
pairs_to_image : {A B : Type 0} (R : B → B → Type 0) (f : A → B) (xs : List A) → AllPairs (λ x y. R (f x) (f y)) xs → AllPairs R (map f xs)
pairs_to_image R f [] pairs = λ i j d less within. absurd (omega arith)
pairs_to_image R f (x ∷ xs) pairs =
    AllPairs-cons R (f x) (map f xs) (All-map (R (f x)) f xs (pairs_head (λ x y. R (f x) (f y)) x xs pairs))
    (pairs_to_image R f xs (pairs_tail (λ x y. R (f x) (f y)) x xs pairs))

-- where each element has less than those after it, none before it has more
none_below : {A : Type 0} (key : A → ℕ) (k : ℕ) (xs : List A) → All (λ x. k ≤ key x) xs → count_by (λ x. nat_lt (key x) k) xs ≡ 0
none_below key k [] all = refl
none_below {A} key k (x ∷ xs) all =
    sum_by-cons (λ (z : A). cond (nat_lt (key z) k) 1 0) x xs
    ∙ ap (λ b. cond b 1 0 + count_by (λ (z : A). nat_lt (key z) k) xs) (le-ltb (key x) k (All-head (λ (z : A). k ≤ key z) x xs all))
    ∙ ap (λ n. 0 + n) (none_below key k xs (All-tail (λ (z : A). k ≤ key z) x xs all))

rank_here : {A : Type 0} (key : A → ℕ) (y : A) (xs : List A) → All (λ z. key y < key z) xs → count_by (λ z. nat_lt (key z) (key y)) (y ∷ xs) ≡ 0
rank_here {A} key y xs over =
    none_below key (key y) (y ∷ xs) (All-cons (λ (z : A). key y ≤ key z) y xs (omega arith)
    (All-weaker (λ (z : A). key y < key z) (λ (z : A). key y ≤ key z) (λ z h. omega arith) xs over))

rank_later : {A : Type 0} (key : A → ℕ) (y x : A) (xs : List A) (n : ℕ) → key y < key x → count_by (λ z. nat_lt (key z) (key x)) xs ≡ n →
    count_by (λ z. nat_lt (key z) (key x)) (y ∷ xs) ≡ suc n
rank_later {A} key y x xs n less rest =
    let first = ap {B = ℕ} (λ b. cond b 1 0) (lt-ltb (key y) (key x) less) in
    let all = sum_by-cons (λ (z : A). cond (nat_lt (key z) (key x)) 1 0) y xs in
    omega (arith, all, first, rest)

-- the place of an element of a rises list
place_is_rank : {A : Type 0} (key : A → ℕ) (xs : List A) → AllPairs (λ x y. key x < key y) xs → (n : ℕ) (x : A) → slice_get xs n ≡ Some x →
    count_by (λ z. nat_lt (key z) (key x)) xs ≡ n
place_is_rank key [] rise n x is = absurd (let e : None ≡ Some x = is in cc)
place_is_rank {A} key (y ∷ xs) rise zero x is =
    let same : y ≡ x = cc in
    subst (λ (q : A). count_by (λ z. nat_lt (key z) (key q)) (y ∷ xs) ≡ 0) same
    (rank_here key y xs (pairs_head (λ x y. key x < key y) y xs rise))
place_is_rank {A} key (y ∷ xs) rise (suc n) x is =
    rank_later key y x xs n
    (All-contains (λ (z : A). key y < key z) xs x (pairs_head (λ x y. key x < key y) y xs rise) (contained xs n x is))
    (place_is_rank key xs (pairs_tail (λ x y. key x < key y) y xs rise) n x is)

-- a list that doesn't fall, and of which each two differ, rises
rises : {A : Type 0} (key : A → ℕ) (ys : List A) → IsNonDecreasingBy key ys → AllPairs (λ x y. key x ≢ key y) ys → AllPairs (λ x y. key x < key y) ys
rises key ys up differ i j d less within =
    let le : key (get_or ys i d) ≤ key (get_or ys j d) = up i j d (omega arith) within in
    let ne : key (get_or ys i d) ≢ key (get_or ys j d) = differ i j d less within in
    omega arith

-- in a list that was put in order by a number, an element's place is how many of the list have less
pub place_in_order : {A : Type 0} (key : A → ℕ) (xs ys : List A) → IsPermutation xs ys → IsNonDecreasingBy key ys → AllPairs (λ x y. key x ≢ key y) xs →
    (n : ℕ) (x : A) → slice_get ys n ≡ Some x → count_by (λ z. nat_lt (key z) (key x)) xs ≡ n
place_in_order {A} key xs ys moved up differ n x is =
    sym (sum_by-IsPermutation (λ (z : A). cond (nat_lt (key z) (key x)) 1 0) xs ys moved)
    ∙ place_is_rank key ys
    (rises key ys up (pairs_of_map (λ m k. m ≢ k) key ys (apart_moved (map key xs) (map key ys) (IsPermutation-map key xs ys moved)
    (pairs_to_image (λ m k. m ≢ k) key xs differ))))
    n x is
