-- The order along a track never goes in a circle, and mileages are far below the limits of a word.
use Rattle.std.proofs.Common.{◌≡◌, ◌≢◌, FitsSigned, w64, to_z, of_z, ℕ, ◌<◌, List, slice_get, sym, ap, ◌∙◌, subst, inl, inr, arith}
use Rattle.std.proofs.Common.{length, get_or, refl}
use Rattle.std.specs.Prelude.{◌^◌, ◌||◌, Some, Bool, true, false, ℤ, ◌<ℤ◌}
use Rattle.std.proofs.lemmas.Int.{ints, to_z-of_z}
use Rattle.std.proofs.lemmas.Option.{same_Some, slice_get_within, slice_get_read}
use Rattle.plan_core.specs.declared.numbers.Micro.{Micro}
use Rattle.rail_mileage.specs.Metres.{MetresParts, IsMetres, mileage_told, micrometres, signed, is_minus, fraction_digits}
use Rattle.rail_mileage.proofs.Digits.{size_below}
use Rattle.railml_read.specs.declared.rows.Elem.{Elem}
use Rattle.railml_read.specs.declared.rows.ElemKind.TheVariants.{Switch, Crossing}
use Rattle.railml_faults.specs.Rows.{is_of_kind, bears_position, ReadsMetres, HasPosition}
use Rattle.railml_faults.proofs.Family.{of_kind}
use Rattle.railml_faults.proofs.PositionLemmas.{one_position}
use Rattle.railml_topology.specs.Resolved.{StandsBefore}
use Rattle.railml_topology.specs.Plans.{is_inner, IsOfSize}
use Rattle.railml_topology.specs.Sound.{AreSoundRows}

never_below : (z : ℤ) → z <ℤ z → ⊥
never_below z h = omega (arith, ints)

pub before_differs : (rows : List Elem) (i j : ℕ) → StandsBefore rows i j → i ≢ j
before_differs rows i j s same =
    let rows_same : s.there ≡ s.here = same_Some s.there s.here (sym s.is_there ∙ (ap (slice_get rows) (sym same) ∙ s.is_here)) in
    let level : s.from ≡ s.to = one_position s.here s.from s.to s.here_at (subst (λ (v : Elem). HasPosition v s.to) rows_same s.there_at) in
    elim s.before [
      | inl less ↦ never_below s.to (subst (λ (v : ℤ). v <ℤ s.to) level less)
      | inr later ↦ (let below : i < j = later.1 in omega arith)
    ]

-- ---- how far from nought

signed_within : (b n : ℕ) (negative : Bool) → n < b → IsOfSize b (signed negative n)
signed_within b n true h = (omega (arith, ints), omega (arith, ints))
signed_within b n false h = (omega (arith, ints), omega (arith, ints))

pub number_within : (text : List ℕ) (z : ℤ) → ReadsMetres text z → IsOfSize (10 ^ 15) z
number_within text z r =
    let m = r.metres in
    let p = r.parts in
    subst (IsOfSize (10 ^ 15)) r.is (signed_within (10 ^ 15) (micrometres p.whole (fraction_digits p.fraction)) (is_minus p.sign)
    (size_below p.whole (fraction_digits p.fraction) m.digits_before m.digits_after m.whole_limit m.fraction_limit))

-- the same of what a reader of metres says
pub metres_within : (text : List ℕ) (m : Micro) → (parts : MetresParts) × IsMetres text parts × (m ≡ mileage_told parts) → IsOfSize (10 ^ 15) m.0
metres_within text m (parts, metres, is) = number_within text m.0 (record { parts = parts; metres = metres; is = ap (λ (v : Micro). v.0) (sym is) })

fits_64 : (z : ℤ) → IsOfSize (10 ^ 15) z → FitsSigned w64 z
fits_64 z h = let low = h.0 in let high = h.1 in omega (arith, ints)

-- such a number goes through a signed word of 64 bits
pub kept_within : (z : ℤ) → IsOfSize (10 ^ 15) z → IsOfSize (10 ^ 15) (to_z w64 (of_z w64 z))
kept_within z h = subst (IsOfSize (10 ^ 15)) (sym (to_z-of_z w64 z (fits_64 z h))) h

-- ---- switches and crossings

pub inner_kind : (rows : List Elem) (i : ℕ) → is_inner rows i ≡ true → (row : Elem) × (slice_get rows i ≡ Some row) × (bears_position row.kind ≡ true)
inner_kind rows i h = choose (is_of_kind rows Switch i) refl h
  where
    choose : (v : Bool) → is_of_kind rows Switch i ≡ v → (v || is_of_kind rows Crossing i) ≡ true →
        (row : Elem) × (slice_get rows i ≡ Some row) × (bears_position row.kind ≡ true)
    choose true e h = let (row, is, kind) = of_kind rows Switch i e in (row, is, rw kind refl)
    choose false e h = let (row, is, kind) = of_kind rows Crossing i h in (row, is, rw kind refl)

-- a switch or a crossing has a position
pub inner_position : (rows : List Elem) → AreSoundRows rows → (i : ℕ) → is_inner rows i ≡ true →
    (row : Elem) × (slice_get rows i ≡ Some row) × ((z : ℤ) × HasPosition row z)
inner_position rows s i h = let (row, is, bears) = inner_kind rows i h in (row, is, s.positions i row is bears)

pub inner_within : (rows : List Elem) → AreSoundRows rows → (i : ℕ) → is_inner rows i ≡ true → i < length rows
inner_within rows s i h = let (row, is, bears) = inner_kind rows i h in slice_get_within rows i row is

pub word_is : (z : ℤ) → IsOfSize (10 ^ 15) z → to_z w64 (of_z w64 z) ≡ z
word_is z h = to_z-of_z w64 z (fits_64 z h)

-- the row that is read at the number of a switch or a crossing
pub inner_read : (rows : List Elem) → AreSoundRows rows → (i : ℕ) → is_inner rows i ≡ true → (read : Elem) → read ≡ get_or rows i read →
    (slice_get rows i ≡ Some read) × ((z : ℤ) × HasPosition read z)
inner_read rows s i h read e =
    let (row, is, there) = inner_position rows s i h in
    let at : slice_get rows i ≡ Some read = slice_get_read rows (length rows) i read refl (inner_within rows s i h) e in
    (at, subst (λ (v : Elem). (z : ℤ) × HasPosition v z) (same_Some row read (sym is ∙ at)) there)
