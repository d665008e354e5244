-- Lists and options of things that are changed one by one.
use Rattle.std.proofs.Common.{◌≡◌, ℕ, ◌+◌, zero, suc, Bool, cond, List, [], ◌∷◌, ◌++◌, map, Option, Some, refl, sym, ap, ◌∙◌}
use Rattle.std.specs.Prelude.{sum_by, count_by, slice_get, option_and_then}
use Rattle.std.specs.Option.{option_map}
use Rattle.std.specs.List.{fold, flat_map, enumerate_from}
use Rattle.std.proofs.lemmas.List.{map-append}

-- one by one, `f` after `g` gives what `h` makes of what `f'` gives
pub map_turned : {X Y A B : Type 0} (g : X → Y) (f : Y → B) (h : A → B) (f' : X → A) → ((x : X) → f (g x) ≡ h (f' x)) → (xs : List X) →
    map f (map g xs) ≡ map h (map f' xs)
map_turned g f h f' same [] = refl
map_turned {B = B} g f h f' same (x ∷ xs) = ap (λ (b : B). b ∷ map f (map g xs)) (same x) ∙ ap (λ (bs : List B). h (f' x) ∷ bs) (map_turned g f h f' same xs)

pub flat_turned : {X Y A B : Type 0} (g : X → Y) (f : Y → List B) (h : A → B) (f' : X → List A) → ((x : X) → f (g x) ≡ map h (f' x)) → (xs : List X) →
    flat_map f (map g xs) ≡ map h (flat_map f' xs)
flat_turned g f h f' same [] = refl
flat_turned {B = B} g f h f' same (x ∷ xs) =
    ap (λ (bs : List B). bs ++ flat_map f (map g xs)) (same x)
    ∙ ap (λ (bs : List B). map h (f' x) ++ bs) (flat_turned g f h f' same xs)
    ∙ sym (map-append h (f' x) (flat_map f' xs))

pub flat_same : {X A B : Type 0} (f : X → List B) (h : A → B) (f' : X → List A) → ((x : X) → f x ≡ map h (f' x)) → (xs : List X) →
    flat_map f xs ≡ map h (flat_map f' xs)
flat_same f h f' same [] = refl
flat_same {B = B} f h f' same (x ∷ xs) =
    ap (λ (bs : List B). bs ++ flat_map f xs) (same x)
    ∙ ap (λ (bs : List B). map h (f' x) ++ bs) (flat_same f h f' same xs)
    ∙ sym (map-append h (f' x) (flat_map f' xs))

sum_from : {X Y : Type 0} (g : X → Y) (f : Y → ℕ) (f' : X → ℕ) → ((x : X) → f (g x) ≡ f' x) → (n : ℕ) (xs : List X) →
    fold (λ (a : ℕ) (y : Y). a + f y) n (map g xs) ≡ fold (λ (a : ℕ) (x : X). a + f' x) n xs
sum_from g f f' same n [] = refl
sum_from {Y = Y} g f f' same n (x ∷ xs) = ap (λ (m : ℕ). fold (λ (a : ℕ) (y : Y). a + f y) (n + m) (map g xs)) (same x) ∙ sum_from g f f' same (n + f' x) xs

pub sum_turned : {X Y : Type 0} (g : X → Y) (f : Y → ℕ) (f' : X → ℕ) → ((x : X) → f (g x) ≡ f' x) → (xs : List X) → sum_by f (map g xs) ≡ sum_by f' xs
sum_turned g f f' same xs = sum_from g f f' same 0 xs

pub count_turned : {X Y : Type 0} (g : X → Y) (p : Y → Bool) (p' : X → Bool) → ((x : X) → p (g x) ≡ p' x) → (xs : List X) →
    count_by p (map g xs) ≡ count_by p' xs
count_turned {X} {Y} g p p' same xs =
    sum_from g (λ (y : Y). cond (p y) 1 0) (λ (x : X). cond (p' x) 1 0) (λ x. ap (λ (b : Bool). cond b 1 0) (same x)) 0 xs

pub enumerate_turned : {X Y : Type 0} (g : X → Y) (n : ℕ) (xs : List X) →
    enumerate_from n (map g xs) ≡ map (λ (ix : ℕ × X). (ix.0, g ix.1)) (enumerate_from n xs)
enumerate_turned g n [] = refl
enumerate_turned {Y = Y} g n (x ∷ xs) = ap (λ (l : List (ℕ × Y)). (n, g x) ∷ l) (enumerate_turned g (n + 1) xs)

pub option_turned : {X Y A B : Type 0} (g : X → Y) (f : Y → B) (h : A → B) (f' : X → A) → ((x : X) → f (g x) ≡ h (f' x)) → (xs : List X) (i : ℕ) →
    option_map f (slice_get (map g xs) i) ≡ option_map h (option_map f' (slice_get xs i))
option_turned g f h f' same [] i = refl
option_turned {B = B} g f h f' same (x ∷ xs) zero = ap (λ (b : B). Some b) (same x)
option_turned g f h f' same (x ∷ xs) (suc i) = option_turned g f h f' same xs i

-- what is read of the element at i, where it is read alike
pub read_alike : {X Y A : Type 0} (g : X → Y) (f : Y → Option A) (f' : X → Option A) → ((x : X) → f (g x) ≡ f' x) → (xs : List X) (i : ℕ) →
    option_and_then f (slice_get (map g xs) i) ≡ option_and_then f' (slice_get xs i)
read_alike g f f' same [] i = refl
read_alike g f f' same (x ∷ xs) zero = same x
read_alike g f f' same (x ∷ xs) (suc i) = read_alike g f f' same xs i

pub read_turned : {X Y A B : Type 0} (g : X → Y) (f : Y → Option B) (h : A → B) (f' : X → Option A) → ((x : X) → f (g x) ≡ option_map h (f' x)) →
    (xs : List X) (i : ℕ) → option_and_then f (slice_get (map g xs) i) ≡ option_map h (option_and_then f' (slice_get xs i))
read_turned g f h f' same [] i = refl
read_turned g f h f' same (x ∷ xs) zero = same x
read_turned g f h f' same (x ∷ xs) (suc i) = read_turned g f h f' same xs i

-- the same where what is made of each is as it was

pub map_alike : {X Y B : Type 0} (g : X → Y) (f : Y → B) (f' : X → B) → ((x : X) → f (g x) ≡ f' x) → (xs : List X) → map f (map g xs) ≡ map f' xs
map_alike g f f' same [] = refl
map_alike {B = B} g f f' same (x ∷ xs) = ap (λ (b : B). b ∷ map f (map g xs)) (same x) ∙ ap (λ (bs : List B). f' x ∷ bs) (map_alike g f f' same xs)

pub flat_equal : {X B : Type 0} (f f' : X → List B) → ((x : X) → f x ≡ f' x) → (xs : List X) → flat_map f xs ≡ flat_map f' xs
flat_equal f f' same [] = refl
flat_equal {B = B} f f' same (x ∷ xs) = ap (λ (bs : List B). bs ++ flat_map f xs) (same x) ∙ ap (λ (bs : List B). f' x ++ bs) (flat_equal f f' same xs)

pub flat_alike : {X Y B : Type 0} (g : X → Y) (f : Y → List B) (f' : X → List B) → ((x : X) → f (g x) ≡ f' x) → (xs : List X) →
    flat_map f (map g xs) ≡ flat_map f' xs
flat_alike g f f' same [] = refl
flat_alike {B = B} g f f' same (x ∷ xs) =
    ap (λ (bs : List B). bs ++ flat_map f (map g xs)) (same x) ∙ ap (λ (bs : List B). f' x ++ bs) (flat_alike g f f' same xs)

pub option_alike : {X Y B : Type 0} (g : X → Y) (f : Y → B) (f' : X → B) → ((x : X) → f (g x) ≡ f' x) → (xs : List X) (i : ℕ) →
    option_map f (slice_get (map g xs) i) ≡ option_map f' (slice_get xs i)
option_alike g f f' same [] i = refl
option_alike {B = B} g f f' same (x ∷ xs) zero = ap (λ (b : B). Some b) (same x)
option_alike g f f' same (x ∷ xs) (suc i) = option_alike g f f' same xs i
