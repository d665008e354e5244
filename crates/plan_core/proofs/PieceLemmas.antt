-- A line as facts: where each piece's slope takes it, and so the height over each column.
use Rattle.std.proofs.Common.{◌≡◌, ℕ, ◌+◌, ◌-◌, ◌<◌, ◌≤◌, ◌⊎◌, inl, inr, Bool, true, false, ◌||◌, ◌==◌, nat_lt, List, [], ◌∷◌, refl, sym, ◌∙◌, ap, subst}
use Rattle.std.proofs.Common.{arith, ◌*◌}
use Rattle.std.specs.Prelude.{nat_le, if◌then◌else◌, ⊤}
use Rattle.std.specs.List.{list_all}
use Rattle.std.proofs.lemmas.Bool.{and_parts, or_cases, ltb-true, ltb-false, leb-true, le-leb, eqb-true}
use Rattle.plan_core.specs.declared.point.Point.{Point}
use Rattle.plan_core.specs.declared.point.Slope.{Slope}
use Rattle.plan_core.specs.declared.point.Slope.TheVariants.{Down, Level, Up}
use Rattle.plan_core.specs.Line.{Piece, pieces_from, run, is_piece, slope, reached, height_on, height_from}
use Rattle.plan_core.specs.Readings.{Interpolates}

-- by this slope one comes from height y to height z over so many columns
abbrev pub Reaches : Slope → ℕ → ℕ → ℕ → Type 0
Reaches Down columns y z = z + columns ≡ y
Reaches Level columns y z = z ≡ y
Reaches Up columns y z = z ≡ y + columns

pub reached-none : (s : Slope) (y : ℕ) → reached s y 0 ≡ y
reached-none Down y = omega arith
reached-none Level y = refl
reached-none Up y = omega arith

pub reached-all : (s : Slope) (n y z : ℕ) → Reaches s n y z → reached s y n ≡ z
reached-all Down n y z h = omega arith
reached-all Level n y z h = sym h
reached-all Up n y z h = sym h

pub reached-step : (s : Slope) (n y z d : ℕ) → Reaches s n y z → d < n → Reaches s 1 (reached s y d) (reached s y (d + 1))
reached-step Down n y z d h less = omega arith
reached-step Level n y z d h less = refl
reached-step Up n y z d h less = omega arith

-- a piece's x rises, and its slope takes it from its west point to its east point
pub record IsPiece (p : Piece) : Type 0 where
  pub rising : p.west.x < p.east.x
  pub reaches : Reaches (slope p) (run p) p.west.y p.east.y

rises : (y z n : ℕ) → (z == y || z == y + n || y == z + n) ≡ true → (z ≡ y) ⊎ ((z ≡ y + n) ⊎ (y ≡ z + n))
rises y z n h = elim (or_cases (z == y || z == y + n) (y == z + n) h) [
  | inl either ↦ elim (or_cases (z == y) (z == y + n) either) [
    | inl level ↦ inl (eqb-true z y level)
    | inr up ↦ inr (inl (eqb-true z (y + n) up))
  ]
  | inr down ↦ inr (inr (eqb-true y (z + n) down))
]

reaches_by : (up down : Bool) (y z n : ℕ) → nat_lt y z ≡ up → nat_lt z y ≡ down → (z ≡ y) ⊎ ((z ≡ y + n) ⊎ (y ≡ z + n)) →
    Reaches (if up then Up else (if down then Down else Level)) n y z
reaches_by true down y z n goes_up goes_down h =
    let less : y < z = ltb-true y z goes_up in
    elim h [ inl level ↦ absurd (omega (arith, less, level)) | inr (inl up) ↦ up | inr (inr falls) ↦ absurd (omega (arith, less, falls)) ]
reaches_by false true y z n goes_up goes_down h =
    let less : z < y = ltb-true z y goes_down in
    elim h [ inl level ↦ absurd (omega (arith, less, level)) | inr (inl up) ↦ absurd (omega (arith, less, up)) | inr (inr falls) ↦ sym falls ]
reaches_by false false y z n goes_up goes_down h =
    let least : z ≤ y = ltb-false y z goes_up in
    let most : y ≤ z = ltb-false z y goes_down in
    omega (arith, least, most)

pub piece_by_test : (p : Piece) → is_piece p ≡ true → IsPiece p
piece_by_test p h =
    let parts = and_parts (nat_lt p.west.x p.east.x) (p.east.y == p.west.y || p.east.y == p.west.y + run p || p.west.y == p.east.y + run p) h in
    record {
      rising = ltb-true p.west.x p.east.x parts.0;
      reaches = reaches_by (nat_lt p.west.y p.east.y) (nat_lt p.east.y p.west.y) p.west.y p.east.y (run p) refl refl (rises p.west.y p.east.y (run p) parts.1);
    }

pub height_on-west : (p : Piece) → height_on p p.west.x ≡ p.west.y
height_on-west p =
    let none : p.west.x - p.west.x ≡ 0 = omega arith in
    ap (reached (slope p) p.west.y) none ∙ reached-none (slope p) p.west.y

pub height_on-east : (p : Piece) → IsPiece p → height_on p p.east.x ≡ p.east.y
height_on-east p h = reached-all (slope p) (run p) p.west.y p.east.y h.reaches

pub height_on-step : (p : Piece) (x : ℕ) → IsPiece p → p.west.x ≤ x → x < p.east.x → Reaches (slope p) 1 (height_on p x) (height_on p (x + 1))
height_on-step p x h from to =
    let next : x + 1 - p.west.x ≡ x - p.west.x + 1 = omega (arith, from) in
    subst (λ d. Reaches (slope p) 1 (height_on p x) (reached (slope p) p.west.y d)) (sym next)
    (reached-step (slope p) (run p) p.west.y p.east.y (x - p.west.x) h.reaches (omega (arith, from, to)))

weighed : (s : Slope) (y z d m : ℕ) → Reaches s (d + m) y z → reached s y d * (d + m) ≡ y * m + z * d
weighed Down y z d m h = let left : y - d ≡ z + m = omega (arith, h) in rw (left, sym h) (omega arith)
weighed Level y z d m h = rw h (omega arith)
weighed Up y z d m h = rw h (omega arith)

-- the height over a piece's column is by interpolation
pub height_on-interpolates : (p : Piece) (x : ℕ) → IsPiece p → p.west.x ≤ x → x ≤ p.east.x → Interpolates p x
height_on-interpolates p x h from to =
    let all : x - p.west.x + (p.east.x - x) ≡ run p = omega (arith, from, to) in
    let P : ℕ → Type 0 = λ n. Reaches (slope p) n p.west.y p.east.y in
    subst (λ n. height_on p x * n ≡ p.west.y * (p.east.x - x) + p.east.y * (x - p.west.x)) all
    (weighed (slope p) p.west.y p.east.y (x - p.west.x) (p.east.x - x) (subst P (sym all) h.reaches))

abbrev pub piece : Point → Point → Piece
piece a b = record { west = a; east = b }

-- each part from one point to the next is a piece
abbrev pub ArePieces : Point → List Point → Type 0
ArePieces a [] = ⊤
ArePieces a (b ∷ rest) = IsPiece (piece a b) × ArePieces b rest

pub pieces_by_test : (a : Point) (rest : List Point) → list_all is_piece (pieces_from a rest) ≡ true → ArePieces a rest
pieces_by_test a [] h = tt
pieces_by_test a (b ∷ rest) h =
    let parts = and_parts (is_piece (piece a b)) (list_all is_piece (pieces_from b rest)) h in
    (piece_by_test (piece a b) parts.0, pieces_by_test b rest parts.1)

-- over the first piece, and past it

pub height_from-first : (a b : Point) (rest : List Point) (x : ℕ) → x ≤ b.x → height_from a (b ∷ rest) x ≡ height_on (piece a b) x
height_from-first a b rest x near = rw (le-leb x b.x near) refl

pub height_from-west : (a : Point) (rest : List Point) → ArePieces a rest → height_from a rest a.x ≡ a.y
height_from-west a [] h = refl
height_from-west a (b ∷ rest) h =
    let rising = h.0.rising in
    height_from-first a b rest a.x (omega (arith, rising)) ∙ height_on-west (piece a b)

pub height_from-past : (a b : Point) (rest : List Point) (x : ℕ) → ArePieces a (b ∷ rest) → b.x ≤ x → height_from a (b ∷ rest) x ≡ height_from b rest x
height_from-past a b rest x h past =
    elim (nat_le x b.x) as (λ t. nat_le x b.x ≡ t → height_from a (b ∷ rest) x ≡ height_from b rest x) [
      | true ↦ λ e.
          let near : x ≤ b.x = leb-true x b.x e in
          let there : b.x ≡ x = omega (arith, near, past) in
          subst (λ c. height_from a (b ∷ rest) c ≡ height_from b rest c) there
          (height_from-first a b rest b.x (omega arith) ∙ height_on-east (piece a b) h.0 ∙ sym (height_from-west b rest h.1))
      | false ↦ λ e. rw e refl
    ] refl

-- one column further over the first piece
pub height_from-step : (a b : Point) (rest : List Point) (x : ℕ) → ArePieces a (b ∷ rest) → a.x ≤ x → x < b.x →
    Reaches (slope (piece a b)) 1 (height_from a (b ∷ rest) x) (height_from a (b ∷ rest) (x + 1))
height_from-step a b rest x h from to =
    let s = slope (piece a b) in
    subst (λ y. Reaches s 1 y (height_from a (b ∷ rest) (x + 1))) (sym (height_from-first a b rest x (omega (arith, to))))
    (subst (λ y. Reaches s 1 (height_on (piece a b) x) y) (sym (height_from-first a b rest (x + 1) (omega (arith, to))))
    (height_on-step (piece a b) x h.0 from to))

-- past the first piece a step is one of what is left
pub past_first : (a b : Point) (rest : List Point) (s : Slope) (x : ℕ) → ArePieces a (b ∷ rest) → b.x ≤ x →
    Reaches s 1 (height_from b rest x) (height_from b rest (x + 1)) → Reaches s 1 (height_from a (b ∷ rest) x) (height_from a (b ∷ rest) (x + 1))
past_first a b rest s x h past step =
    subst (λ y. Reaches s 1 y (height_from a (b ∷ rest) (x + 1))) (sym (height_from-past a b rest x h past))
    (subst (λ y. Reaches s 1 (height_from b rest x) y) (sym (height_from-past a b rest (x + 1) h (omega (arith, past)))) step)
