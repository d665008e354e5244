-- The setting of an edge's variables has each variable's value at its place.
use Rattle.std.proofs.Common.{◌≡◌, ℕ, zero, suc, ◌+◌, ◌-◌, ◌*◌, ◌≤◌, ◌<◌, Bool, true, false, List, [], ◌∷◌, length, inl, inr, refl, sym, ◌∙◌, ap, subst, arith}
use Rattle.std.specs.Prelude.{nat_le, nat_lt, nat_eq}
use Rattle.std.proofs.lemmas.Bool.Decides.{eqb_tells, nat_tests}
use Rattle.cnf_core.specs.Assignment.{Assignment, SameOutside}
use Rattle.cnf_core.proofs.SettingLemmas.{place_rises}
use Rattle.order_int.specs.OrderInt.{Reads}
use Rattle.order_int.proofs.IntLemmas.{reads_from_steps}
use Rattle.edge_shape.specs.EdgeVars.{EdgeLits, column, height_first, edge_lits, edge_size}
use Rattle.edge_shape.specs.Setting.{EdgeBits, bits, bend_bit, flags, setting, set_edge}
use Rattle.edge_shape.proofs.PlaceLemmas.{blocks}

-- how many variables a column has, but for the last
abbrev pub column_size : ℕ → ℕ → ℕ
column_size high zero = high + 4
column_size high (suc c) = high + 5

column_next : (first high c : ℕ) → column first high (c + 1) ≡ column first high c + column_size high c
column_next first high zero = let z : 0 + 1 ≡ suc 0 = refl in omega arith
column_next first high (suc c) =
    let z : suc c + 1 ≡ suc (suc c) = omega arith in
    let one : suc c * (high + 5) ≡ c * (high + 5) + (high + 5) = omega arith in
    ap (column first high) z ∙ omega arith

column_rises : (first high a b : ℕ) → a ≤ b → column first high a ≤ column first high b
column_rises first high a b le = place_rises (column first high) (column_size high) (column_next first high) a b le

-- a place of column c
setting_at : (b : EdgeBits) (first high width c d x : ℕ) → column first high c ≤ x → x < column first high (c + 1) → c ≤ d →
    setting b first high width d x ≡ bits (flags b width c) (b.height c) (x - column first high c)
setting_at b first high width zero zero x from to le =
    let t : nat_le (column first high 0) x ≡ true = grind (arith, nat_tests) in
    rw t refl
setting_at b first high width (suc c) zero x from to le = absurd (omega arith)
setting_at b first high width c (suc d) x from to le = elim (eqb_tells c (suc d)) [
  | inl same ↦
      let t : nat_le (column first high c) x ≡ true = grind (arith, nat_tests) in
      subst (λ k. setting b first high width k x ≡ bits (flags b width c) (b.height c) (x - column first high c)) same.1
      (here b first high width c x t (omega (arith, le)))
  | inr other ↦
      let ne = other.1 in
      let up = column_rises first high (c + 1) (suc d) (omega arith) in
      let t : nat_le (column first high (suc d)) x ≡ false = grind (arith, nat_tests) in
      rw t (setting_at b first high width c d x from to (omega arith))
]
  where
    here : (b : EdgeBits) (first high width c x : ℕ) → nat_le (column first high c) x ≡ true → 0 ≤ c →
        setting b first high width c x ≡ bits (flags b width c) (b.height c) (x - column first high c)
    here b first high width zero x t le = rw t refl
    here b first high width (suc c) x t le = rw t refl

-- a place of the whole line
setting_whole : (b : EdgeBits) (first high width d k : ℕ) → k < 6 → setting b first high width d (first + k) ≡ b.whole k
setting_whole b first high width zero k lt =
    let t : nat_le (column first high 0) (first + k) ≡ false = grind (arith, nat_tests) in
    let z : first + k - first ≡ k = omega arith in
    rw (t, z) refl
setting_whole b first high width (suc d) k lt =
    let up = column_rises first high 0 (suc d) (omega arith) in
    let t : nat_le (column first high (suc d)) (first + k) ≡ false = grind (arith, nat_tests) in
    rw t (setting_whole b first high width d k lt)

pub set_at : (b : EdgeBits) (first high width : ℕ) (v : Assignment) (x : ℕ) → first ≤ x → x < first + edge_size high width →
    set_edge b first high width v x ≡ setting b first high width width x
set_at b first high width v x from to =
    let t : nat_le first x ≡ true = grind (arith, nat_tests) in
    let s : nat_lt x (first + edge_size high width) ≡ true = grind (arith, nat_tests) in
    rw (t, s) refl

pub set_same : (b : EdgeBits) (first high width : ℕ) (v : Assignment) → SameOutside first (edge_size high width) v (set_edge b first high width v)
set_same b first high width v = record {
  below = λ x lt. let t : nat_le first x ≡ false = grind (arith, nat_tests) in rw t refl;
  above = λ x le.
      let t : nat_le first x ≡ true = grind (arith, nat_tests) in
      let s : nat_lt x (first + edge_size high width) ≡ false = grind (arith, nat_tests) in
      rw (t, s) refl;
}

-- by the place in the edge: one of the six of the whole line, in column 0, or in a later column

pub whole_setting : (b : EdgeBits) (first high width x : ℕ) → first ≤ x → x - first < 6 → b.whole (x - first) ≡ setting b first high width width x
whole_setting b first high width x from lt =
    let z : first + (x - first) ≡ x = omega arith in
    sym (ap (setting b first high width width) (sym z) ∙ setting_whole b first high width width (x - first) lt)

pub first_setting : (b : EdgeBits) (first high width x : ℕ) → 6 ≤ x - first → x - first - 6 < high + 4 →
    bits (flags b width 0) (b.height 0) (x - first - 6) ≡ setting b first high width width x
first_setting b first high width x from lt =
    let next = column_next first high 0 in
    let z : x - (first + 6) ≡ x - first - 6 = omega arith in
    sym (setting_at b first high width 0 width x (omega arith) (omega arith) (omega arith) ∙ ap (bits (flags b width 0) (b.height 0)) z)

pub later_setting : (b : EdgeBits) (first high width x q r : ℕ) → 6 ≤ x - first → high + 4 ≤ x - first - 6 → x - first - 6 - (high + 4) ≡ q * (high + 5) + r →
    r < high + 5 → q + 1 ≤ width
    → bits (flags b width (1 + q)) (b.height (1 + q)) r ≡ setting b first high width width x
later_setting b first high width x q r from past is small le =
    let next = column_next first high (suc q) in
    let z : x - (first + 10 + high + q * (high + 5)) ≡ r = omega arith in
    let one : 1 + q ≡ suc q = omega arith in
    ap (λ c. bits (flags b width c) (b.height c) r) one
    ∙ sym (setting_at b first high width (suc q) width x (omega arith) (omega arith) (omega arith) ∙ ap (bits (flags b width (suc q)) (b.height (suc q))) z)

-- the place k of column c
column_set : (b : EdgeBits) (first high width : ℕ) (v : Assignment) (c k : ℕ) → 1 ≤ width → c ≤ width → column first high c + k < column first high (c + 1) →
    column first high c + k < first + edge_size high width → set_edge b first high width v (column first high c + k) ≡ bits (flags b width c) (b.height c) k
column_set b first high width v c k some le lt top =
    let low = column_rises first high 0 c (omega arith) in
    let z : column first high c + k - column first high c ≡ k = omega arith in
    set_at b first high width v (column first high c + k) (omega arith) top
    ∙ setting_at b first high width c width (column first high c + k) (omega arith) lt le
    ∙ ap (bits (flags b width c) (b.height c)) z

-- what the edge's variables read in the setting
pub record AreSet (w : Assignment) (b : EdgeBits) (e : EdgeLits) (high width : ℕ) : Type 0 where
  pub inside : (c : ℕ) → c ≤ width → w (e.inside c) ≡ b.inside c
  pub up : (c : ℕ) → c < width → w (e.up c) ≡ b.up c
  pub down : (c : ℕ) → c < width → w (e.down c) ≡ b.down c
  pub seen : (c : ℕ) → c < width → w (e.seen c) ≡ b.seen c
  pub bend : (c : ℕ) → c + 1 < width → w (e.bend (c + 1)) ≡ b.bend c
  pub height : (c : ℕ) → c ≤ width → b.height c ≤ high → Reads w (e.height c) (b.height c)
  pub whole : (k : ℕ) → k < 6 → w (e.west_up + k) ≡ b.whole k

-- the last column, and the ones before it
last_flags : (b : EdgeBits) (width : ℕ) → flags b width width ≡ b.inside width ∷ []
last_flags b width = let t : nat_eq width width ≡ true = grind (arith, nat_tests) in rw t refl

inner_flags : (b : EdgeBits) (width c : ℕ) → c < width → flags b width c ≡ b.inside c ∷ b.up c ∷ b.down c ∷ b.seen c ∷ bend_bit b c
inner_flags b width c lt = let t : nat_eq c width ≡ false = grind (arith, nat_tests) in rw t refl

-- where a column ends
column_end : (first high width c : ℕ) → 1 ≤ width → c < width → column first high (c + 1) ≤ first + 5 + high + width * (high + 5)
column_end first high width c some lt =
    let z : c + 1 ≡ suc c = omega arith in
    let s : column first high (c + 1) ≡ first + 10 + high + c * (high + 5) = ap (column first high) z in
    let all = blocks (high + 5) width c lt in
    omega arith

last_column : (first high width : ℕ) → 1 ≤ width → column first high width + high + 1 ≡ first + edge_size high width
last_column first high zero some = absurd (omega arith)
last_column first high (suc c) some = let one : suc c * (high + 5) ≡ c * (high + 5) + (high + 5) = omega arith in omega arith

bits_after : (bs : List Bool) (h k : ℕ) → bits bs h (length bs + k) ≡ nat_lt k h
bits_after [] h k = let z : 0 + k ≡ k = omega arith in ap (λ j. nat_lt j h) z
bits_after (b ∷ bs) h k = let z : suc (length bs) + k ≡ suc (length bs + k) = omega arith in ap (bits (b ∷ bs) h) z ∙ bits_after bs h k

size_least : (high c : ℕ) → high + 4 ≤ column_size high c
size_least high zero = omega arith
size_least high (suc c) = omega arith

place_set : (b : EdgeBits) (first high width : ℕ) (v : Assignment) (c k : ℕ) → 1 ≤ width → c < width → k < column_size high c →
    set_edge b first high width v (column first high c + k) ≡ bits (flags b width c) (b.height c) k
place_set b first high width v c k some lt small =
    let next = column_next first high c in
    let end = column_end first high width c some lt in
    column_set b first high width v c k some (omega arith) (omega arith) (omega arith)

last_set : (b : EdgeBits) (first high width : ℕ) (v : Assignment) (k : ℕ) → 1 ≤ width → k ≤ high →
    set_edge b first high width v (column first high width + k) ≡ bits (flags b width width) (b.height width) k
last_set b first high width v k some small =
    let next = column_next first high width in
    let wide = size_least high width in
    let end = last_column first high width some in
    column_set b first high width v width k some (omega arith) (omega arith) (omega arith)

inside_set : (b : EdgeBits) (first high width : ℕ) (v : Assignment) (c : ℕ) → 1 ≤ width → c ≤ width →
    set_edge b first high width v (column first high c) ≡ b.inside c
inside_set b first high width v c some le =
    let z : column first high c ≡ column first high c + 0 = omega arith in
    let wide = size_least high c in
    ap (set_edge b first high width v) z ∙ elim (eqb_tells c width) [
      | inl same ↦ subst (λ d. set_edge b first high width v (column first high d + 0) ≡ b.inside d) (sym same.1)
          (last_set b first high width v 0 some (omega arith) ∙ ap (λ (f : List Bool). bits f (b.height width) 0) (last_flags b width))
      | inr other ↦ let ne = other.1 in let lt : c < width = omega arith in place_set b first high width v c 0 some lt (omega arith)
          ∙ ap (λ (f : List Bool). bits f (b.height c) 0) (inner_flags b width c lt)
    ]

bend_set : (b : EdgeBits) (first high width : ℕ) (v : Assignment) (c : ℕ) → 1 ≤ width → c + 1 < width →
    set_edge b first high width v (column first high (c + 1) + 4) ≡ b.bend c
bend_set b first high width v c some lt =
    let z : c + 1 ≡ suc c = omega arith in
    ap (λ d. set_edge b first high width v (column first high d + 4)) z
    ∙ place_set b first high width v (suc c) 4 some (omega arith) (omega arith)
    ∙ ap (λ (f : List Bool). bits f (b.height (suc c)) 4) (inner_flags b width (suc c) (omega arith))

-- where a column's height begins
height_place : (b : EdgeBits) (first high width c : ℕ) → c < width → height_first first high width c ≡ column first high c + length (flags b width c)
height_place b first high width zero lt =
    let t : nat_eq 0 width ≡ false = grind (arith, nat_tests) in
    let f = ap (λ (x : List Bool). length x) (inner_flags b width 0 lt) in
    rw t (omega arith)
height_place b first high width (suc c) lt =
    let t : nat_eq (suc c) width ≡ false = grind (arith, nat_tests) in
    let f = ap (λ (x : List Bool). length x) (inner_flags b width (suc c) lt) in
    let one : suc c * (high + 5) ≡ c * (high + 5) + (high + 5) = omega arith in
    rw t (omega arith)

last_place : (b : EdgeBits) (first high width : ℕ) → 1 ≤ width → height_first first high width width ≡ column first high width + length (flags b width width)
last_place b first high zero some = absurd (omega arith)
last_place b first high (suc c) some =
    let t : nat_eq (suc c) (suc c) ≡ true = grind (arith, nat_tests) in
    let f = ap (λ (x : List Bool). length x) (last_flags b (suc c)) in
    let one : suc c * (high + 5) ≡ c * (high + 5) + (high + 5) = omega arith in
    rw t (omega arith)

few_flags : (b : EdgeBits) (high width c : ℕ) → c < width → length (flags b width c) + high ≡ column_size high c
few_flags b high width zero lt = let f = ap (λ (x : List Bool). length x) (inner_flags b width 0 lt) in omega arith
few_flags b high width (suc c) lt = let f = ap (λ (x : List Bool). length x) (inner_flags b width (suc c) lt) in omega arith

steps_set : (b : EdgeBits) (first high width : ℕ) (v : Assignment) (c k : ℕ) → 1 ≤ width → c ≤ width → k < high →
    set_edge b first high width v (height_first first high width c + k) ≡ nat_lt k (b.height c)
steps_set b first high width v c k some le small = elim (eqb_tells c width) [
  | inl same ↦ subst (λ d. set_edge b first high width v (height_first first high width d + k) ≡ nat_lt k (b.height d)) (sym same.1)
      (at_last b first high width v k some small)
  | inr other ↦ let ne = other.1 in at_inner b first high width v c k some (omega arith) small
]
  where
    at_inner : (b : EdgeBits) (first high width : ℕ) (v : Assignment) (c k : ℕ) → 1 ≤ width → c < width → k < high →
        set_edge b first high width v (height_first first high width c + k) ≡ nat_lt k (b.height c)
    at_inner b first high width v c k some lt small =
        let n = length (flags b width c) in
        let size = few_flags b high width c lt in
        let z : height_first first high width c + k ≡ column first high c + (n + k) = ap (λ x. x + k) (height_place b first high width c lt) ∙ omega arith in
        ap (set_edge b first high width v) z ∙ place_set b first high width v c (n + k) some lt (omega arith) ∙ bits_after (flags b width c) (b.height c) k

    at_last : (b : EdgeBits) (first high width : ℕ) (v : Assignment) (k : ℕ) → 1 ≤ width → k < high →
        set_edge b first high width v (height_first first high width width + k) ≡ nat_lt k (b.height width)
    at_last b first high width v k some small =
        let n = length (flags b width width) in
        let one : n ≡ 1 = ap (λ (x : List Bool). length x) (last_flags b width) in
        let z : height_first first high width width + k ≡ column first high width + (n + k) = ap (λ x. x + k) (last_place b first high width some)
        ∙ omega arith in
        ap (set_edge b first high width v) z ∙ last_set b first high width v (n + k) some (omega arith) ∙ bits_after (flags b width width) (b.height width) k

pub edge_set : (b : EdgeBits) (first high width : ℕ) (v : Assignment) → 1 ≤ width →
    AreSet (set_edge b first high width v) b (edge_lits first high width) high width
edge_set b first high width v some =
    let w = set_edge b first high width v in
    record {
      inside = λ c le. inside_set b first high width v c some le;
      up = λ c lt. let wide = size_least high c in place_set b first high width v c 1 some lt (omega arith)
          ∙ ap (λ (f : List Bool). bits f (b.height c) 1) (inner_flags b width c lt);
      down = λ c lt. let wide = size_least high c in place_set b first high width v c 2 some lt (omega arith)
          ∙ ap (λ (f : List Bool). bits f (b.height c) 2) (inner_flags b width c lt);
      seen = λ c lt. let wide = size_least high c in place_set b first high width v c 3 some lt (omega arith)
          ∙ ap (λ (f : List Bool). bits f (b.height c) 3) (inner_flags b width c lt);
      bend = λ c lt. bend_set b first high width v c some lt;
      height = λ c le top. reads_from_steps w ((edge_lits first high width).height c) (b.height c) (omega arith) top (λ k small.
          let z : b.height c ≡ b.height c - 0 = omega arith in
          steps_set b first high width v c k some le (omega arith) ∙ ap (nat_lt k) z);
      whole = λ k lt. set_at b first high width v (first + k) (omega arith) (omega arith) ∙ setting_whole b first high width width k lt;
    }
