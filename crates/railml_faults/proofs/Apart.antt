-- Lists in which each item stands in a relation to each later one, and lists of numbers that differ.
use Rattle.std.proofs.Common.{◌≡◌, ◌≢◌, ◌⊎◌, ℕ, suc, ◌<◌, ◌≤◌, true, List, [], ◌∷◌, ◌++◌, length, map, refl, sym, ap, ◌∙◌, subst, inl, inr, arith, eqb}
use Rattle.std.specs.List.{flat_map, All, AllByRecursion, AllPairs, AllZip, Contains, range_with_len}
use Rattle.std.specs.Set.{is_member}
use Rattle.std.proofs.lemmas.Bool.Decides.{Decides-eqb}
use Rattle.std.proofs.lemmas.Cmp.{nat_eq_equiv}
use Rattle.std.proofs.lemmas.List.{map-append}
use Rattle.std.proofs.lemmas.List.Elements.{All-from_recursion, recursion_from_All, All-contains}
use Rattle.std.proofs.lemmas.List.FromFn.{length-range_with_len}
use Rattle.std.proofs.lemmas.List.Kept.{AllPairs-cons}
use Rattle.std.proofs.lemmas.Map.Made.{IsDistinct-from_AllPairs, is_member-Decides, length-le_from_is_member}
use Rattle.plan_core.proofs.ListFacts.{pairs_tail}
use Rattle.plan_core.proofs.Listing.{Contains-range_with_len}

-- each item stands so to each later one
abbrev pub Stands : {X : Type 0} → (X → X → Type 0) → List X → Type 0
Stands R [] = Unit {0}
Stands R (x ∷ xs) = AllByRecursion (R x) xs × Stands R xs

-- each number differs from each later one
abbrev pub Apart : List ℕ → Type 0
Apart xs = Stands (λ (x y : ℕ). x ≢ y) xs

pub pairs_from_stands : {X : Type 0} (R : X → X → Type 0) (xs : List X) → Stands R xs → AllPairs R xs
pairs_from_stands R [] h = λ i j d below within. absurd (omega arith)
pairs_from_stands R (x ∷ xs) h = AllPairs-cons R x xs (All-from_recursion (R x) xs h.0) (pairs_from_stands R xs h.1)

pub stands_from_pairs : {X : Type 0} (R : X → X → Type 0) (xs : List X) → AllPairs R xs → Stands R xs
stands_from_pairs R [] h = tt
stands_from_pairs R (x ∷ xs) h =
    (recursion_from_All (R x) xs (λ k d within. h 0 (suc k) d (omega arith) (omega arith)), stands_from_pairs R xs (pairs_tail R x xs h))

-- ---- facts of all items

pub all_more : {X : Type 0} (P Q : X → Type 0) → ((x : X) → P x → Q x) → (xs : List X) → AllByRecursion P xs → AllByRecursion Q xs
all_more P Q weaker [] h = tt
all_more P Q weaker (x ∷ xs) h = (weaker x h.0, all_more P Q weaker xs h.1)

pub all_both : {X : Type 0} (P Q : X → Type 0) (xs : List X) → AllByRecursion P xs → AllByRecursion Q xs → AllByRecursion (λ x. P x × Q x) xs
all_both P Q [] h k = tt
all_both P Q (x ∷ xs) h k = ((h.0, k.0), all_both P Q xs h.1 k.1)

pub all_joined : {X : Type 0} (P : X → Type 0) (xs ys : List X) → AllByRecursion P xs → AllByRecursion P ys → AllByRecursion P (xs ++ ys)
all_joined P [] ys h k = k
all_joined P (x ∷ xs) ys h k = (h.0, all_joined P xs ys h.1 k)

pub all_mapped : {X Y : Type 0} (P : Y → Type 0) (f : X → Y) (xs : List X) → AllByRecursion (λ x. P (f x)) xs → AllByRecursion P (map f xs)
all_mapped P f [] h = tt
all_mapped P f (x ∷ xs) h = (h.0, all_mapped P f xs h.1)

-- ---- joining

pub stands_joined : {X : Type 0} (R : X → X → Type 0) (xs ys : List X) → Stands R xs → Stands R ys → AllByRecursion (λ x. AllByRecursion (R x) ys) xs →
    Stands R (xs ++ ys)
stands_joined R [] ys h k across = k
stands_joined R (x ∷ xs) ys h k across = (all_joined (R x) xs ys h.0 across.0, stands_joined R xs ys h.1 k across.1)

-- items of which one has P and the other Q
pub across : {X Y : Type 0} (P : X → Type 0) (Q : Y → Type 0) (R : X → Y → Type 0) → ((x : X) (y : Y) → P x → Q y → R x y) → (xs : List X) (ys : List Y) →
    AllByRecursion P xs → AllByRecursion Q ys → AllByRecursion (λ x. AllByRecursion (R x) ys) xs
across P Q R differ [] ys h k = tt
across P Q R differ (x ∷ xs) ys h k = (all_more Q (R x) (λ y q. differ x y h.0 q) ys k, across P Q R differ xs ys h.1 k)

pub stands_mapped : {X Y : Type 0} (P : X → Type 0) (R : X → X → Type 0) (S : Y → Y → Type 0) (f : X → Y) → ((x y : X) → P x → P y → R x y → S (f x) (f y)) →
    (xs : List X) → AllByRecursion P xs → Stands R xs → Stands S (map f xs)
stands_mapped P R S f keeps [] h k = tt
stands_mapped P R S f keeps (x ∷ xs) h k = (
  all_mapped (S (f x)) f xs (all_more (λ y. P y × R x y) (λ y. S (f x) (f y)) (λ y e. keeps x y h.0 e.0 e.1) xs (all_both P (R x) xs h.1 k.0)),
  stands_mapped
      P R S f keeps xs h.1 k.1,
)

pub stands_weaker : {X : Type 0} (R S : X → X → Type 0) → ((x y : X) → R x y → S x y) → (xs : List X) → Stands R xs → Stands S xs
stands_weaker R S weaker [] h = tt
stands_weaker R S weaker (x ∷ xs) h = (all_more (R x) (S x) (weaker x) xs h.0, stands_weaker R S weaker xs h.1)

-- ---- numbers that differ

-- distinct numbers below n are n at most
pub apart_short : (n : ℕ) (xs : List ℕ) → Apart xs → AllByRecursion (λ x. x < n) xs → length xs ≤ n
apart_short n xs h below =
    let all : All (λ x. x < n) xs = All-from_recursion (λ x. x < n) xs below in
    let distinct = IsDistinct-from_AllPairs {eq = eqb} Decides-eqb xs (pairs_from_stands (λ (x y : ℕ). x ≢ y) xs h) in
    let in_range : (q : ℕ) → q < n → Contains (range_with_len 0 n) q = (λ q b. Contains-range_with_len 0 n q (omega arith) (omega arith)) in
    let member : (q : ℕ) → is_member eqb xs q ≡ true → is_member eqb (range_with_len 0 n) q ≡ true =
    (λ q m. (is_member-Decides {eq = eqb} Decides-eqb (range_with_len 0 n) q).1
    (in_range q (All-contains (λ x. x < n) xs q all ((is_member-Decides {eq = eqb} Decides-eqb xs q).0 m)))) in
    let short : length xs ≤ length (range_with_len 0 n) = length-le_from_is_member {eq = eqb} nat_eq_equiv xs (range_with_len 0 n) distinct member in
    omega (arith, length-range_with_len 0 n)

-- the number is one of these
abbrev pub Among : List ℕ → ℕ → Type 0
Among [] x = ⊥
Among (s ∷ ss) x = (x ≡ s) ⊎ Among ss x

pub differs_among : (s : ℕ) (ss : List ℕ) → AllByRecursion (λ t. s ≢ t) ss → Among ss s → ⊥
differs_among s [] h a = a
differs_among s (t ∷ ss) h (inl e) = h.0 e
differs_among s (t ∷ ss) h (inr a) = differs_among s ss h.1 a

pub all_among : (P : ℕ → Type 0) (ss : List ℕ) (x : ℕ) → AllByRecursion P ss → Among ss x → P x
all_among P [] x h a = absurd a
all_among P (s ∷ ss) x h (inl e) = subst P (sym e) h.0
all_among P (s ∷ ss) x h (inr a) = all_among P ss x h.1 a

-- these are what stands at numbers that differ and have G
pub record Covers {E : Type 0} (what_at : ℕ → E) (G : ℕ → Type 0) (es : List E) : Type 0 where
  pub ks : List ℕ
  pub same : es ≡ map what_at ks
  pub good : AllByRecursion G ks
  pub apart : Apart ks

pub covers_none : {E : Type 0} (e : ℕ → E) (G : ℕ → Type 0) → Covers e G []
covers_none e G = record { ks = []; same = refl; good = tt; apart = tt }

pub covers_weaker : {E : Type 0} (e : ℕ → E) (G H : ℕ → Type 0) (es : List E) → ((k : ℕ) → G k → H k) → Covers e G es → Covers e H es
covers_weaker e G H es weaker c = record { ks = c.ks; same = c.same; good = all_more G H weaker c.ks c.good; apart = c.apart }

pub covers_joined : {E : Type 0} (e : ℕ → E) (F G H : ℕ → Type 0) (es fs : List E) → ((k : ℕ) → F k → H k) → ((k : ℕ) → G k → H k) →
    ((k l : ℕ) → F k → G l → k ≢ l) → Covers e F es → Covers e G fs → Covers e H (es ++ fs)
covers_joined {E} e F G H es fs left right differ c d = record {
  ks = c.ks ++ d.ks;
  same = ap (λ (v : List E). v ++ fs) c.same ∙ (ap (λ (v : List E). map e c.ks ++ v) d.same ∙ sym (map-append e c.ks d.ks));
  good = all_joined H c.ks d.ks (all_more F H left c.ks c.good) (all_more G H right d.ks d.good);
  apart = stands_joined (λ (x y : ℕ). x ≢ y) c.ks d.ks c.apart d.apart (across F G (λ (x y : ℕ). x ≢ y) differ c.ks d.ks c.good d.good);
}

-- groups, each with an owner of its own
pub covers_groups : {E X : Type 0} (e : ℕ → E) (owner : ℕ → ℕ) (G : ℕ → Type 0) (g : X → List E) (ss : List ℕ) (xs : List X) →
    AllZip (λ s x. Covers e (λ k. G k × (owner k ≡ s)) (g x)) ss xs → Apart ss → Covers e (λ k. G k × Among ss (owner k)) (flat_map g xs)
covers_groups e owner G g [] [] h a = covers_none e (λ k. G k × Among [] (owner k))
covers_groups e owner G g [] (x ∷ xs) h a = absurd h
covers_groups e owner G g (s ∷ ss) [] h a = absurd h
covers_groups e owner G g (s ∷ ss) (x ∷ xs) h a =
    covers_joined e (λ k. G k × (owner k ≡ s)) (λ k. G k × Among ss (owner k)) (λ k. G k × Among (s ∷ ss) (owner k)) (g x) (flat_map g xs)
    (λ k c. (c.0, inl c.1)) (λ k c. (c.0, inr c.1))
    (λ k l c d same. differs_among s ss a.0 (subst (λ (v : ℕ). Among ss v) (ap owner (sym same) ∙ c.1) d.1))
    h.0 (covers_groups e owner G g ss xs h.1 a.1)
