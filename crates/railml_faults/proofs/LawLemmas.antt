-- Rows have one first fault at most.
use Rattle.std.proofs.Common.{◌≡◌, ◌⊎◌, ℕ, ◌<◌, ◌≤◌, List, Some, slice_get, refl, sym, ◌∙◌, ap, subst, inl, inr, arith}
use Rattle.std.proofs.lemmas.Bool.{cases_lt}
use Rattle.std.proofs.lemmas.Option.{same_Some}
use Rattle.railml_read.specs.declared.rows.Elem.{Elem}
use Rattle.railml_read.specs.Formed.{AreFormed}
use Rattle.railml_faults.specs.declared.attributes.Attribute.{Attribute}
use Rattle.railml_faults.specs.declared.attributes.Attribute.TheVariants as attributes
use Rattle.railml_faults.specs.declared.fault.TopologyWhat.{TopologyWhat}
use Rattle.railml_faults.specs.declared.fault.TopologyWhat.TheVariants.{NoTracks, TooMany, Missing, Id, RepeatedId, Number, UnknownRef, NotMutual, SelfRef}
use Rattle.railml_faults.specs.declared.fault.TopologyWhat.TheVariants.{EndKind, Course, Orientation, OutsideTrack}
use Rattle.railml_faults.specs.Rows.{attribute_name, BearsId}
use Rattle.railml_faults.specs.Faults.{HasNoNumber, HasTopologyFault, HasFaultAt, HasNoTracks, IsTopologyFault, IsFirstTopologyFault, number_of}
use Rattle.railml_faults.proofs.IdLemmas.{one_row}
use Rattle.railml_faults.proofs.FaultLemmas.{one_kind}
use Rattle.railml_faults.proofs.ToldLemmas.{fault_at}

-- the attribute that is no number, and is told first, is one
one_attribute : (row : Elem) (a b : Attribute) → HasNoNumber row a → HasNoNumber row b → a ≡ b
one_attribute row attributes.Id b h k = absurd h
one_attribute row attributes.Ref b h k = absurd h
one_attribute row attributes.Orientation b h k = absurd h
one_attribute row attributes.Course b h k = absurd h
one_attribute row attributes.Pos attributes.Pos h k = refl
one_attribute row attributes.Pos attributes.AbsPos h k = absurd (k.1 h.1)
one_attribute row attributes.Pos attributes.Id h k = absurd k
one_attribute row attributes.Pos attributes.Ref h k = absurd k
one_attribute row attributes.Pos attributes.Orientation h k = absurd k
one_attribute row attributes.Pos attributes.Course h k = absurd k
one_attribute row attributes.AbsPos attributes.Pos h k = absurd (h.1 k.1)
one_attribute row attributes.AbsPos attributes.AbsPos h k = refl
one_attribute row attributes.AbsPos attributes.Id h k = absurd k
one_attribute row attributes.AbsPos attributes.Ref h k = absurd k
one_attribute row attributes.AbsPos attributes.Orientation h k = absurd k
one_attribute row attributes.AbsPos attributes.Course h k = absurd k

one_id : (rows : List Elem) (i : ℕ) (id other : List ℕ) → BearsId rows i id → BearsId rows i other → id ≡ other
one_id rows i id other a b =
    let same : a.row ≡ b.row = one_row rows i a.row b.row a.is b.is in
    same_Some id other (sym a.has ∙ (ap (λ (e : Elem). e.attrs.id) same ∙ b.has))

-- a row with a fault is told of with the same texts
module _ (rows : List Elem) (i : ℕ) (row : Elem) (first second one other : List ℕ) where
  both : {x y : List ℕ} → (first ≡ x) → (second ≡ y) → (one ≡ x) → (other ≡ y) → (first ≡ one) × (second ≡ other)
  both f s g t = (f ∙ sym g, s ∙ sym t)

  one_telling : (what : TopologyWhat) → HasTopologyFault rows what i row first second → HasTopologyFault rows what i row one other →
      (first ≡ one) × (second ≡ other)
  one_telling NoTracks h k = absurd h
  one_telling TooMany h k = both h.1 h.2 k.1 k.2
  one_telling Missing h k =
      let same : h.0 ≡ k.0 = same_Some h.0 k.0 (sym h.1 ∙ k.1) in
      (h.2 ∙ (ap attribute_name same ∙ sym k.2), h.3 ∙ sym k.3)
  one_telling Id h k = both h.1 h.2 k.1 k.2
  one_telling RepeatedId h k = (one_id rows i first one h.0.here k.0.here, h.1 ∙ sym k.1)
  one_telling Number h k = (h.2 ∙ sym k.2, h.3 ∙ (ap attribute_name (one_attribute row h.0 k.0 h.1 k.1) ∙ sym k.3))
  one_telling UnknownRef h k = both h.1 h.2 k.1 k.2
  one_telling NotMutual h k = (h.1 ∙ sym k.1, same_Some second other (sym h.0.refers.refers ∙ k.0.refers.refers))
  one_telling SelfRef h k = both h.1 h.2 k.1 k.2
  one_telling EndKind h k = both h.1 h.2 k.1 k.2
  one_telling Course h k = both h.1 h.2 k.1 k.2
  one_telling Orientation h k = both h.1 h.2 k.1 k.2
  one_telling OutsideTrack h k = both h.1 h.2 k.1 k.2

-- rows at one place are one
one_place : (rows : List Elem) (i j : ℕ) (a b : Elem) → AreFormed rows → slice_get rows i ≡ Some a → slice_get rows j ≡ Some b → a.at ≡ b.at → i ≡ j
one_place rows i j a b formed here there same = by (cases_lt i j) (cases_lt j i)
  where
    by : (i < j) ⊎ (j ≤ i) → (j < i) ⊎ (i ≤ j) → i ≡ j
    by (inl less) o = let rising = formed.rising i j a b less here there in absurd (omega arith)
    by (inr from) (inl less) = let rising = formed.rising j i b a less there here in absurd (omega arith)
    by (inr from) (inr to) = omega arith

module _ (rows : List Elem) (at : ℕ) (first second one other : List ℕ) (formed : AreFormed rows) where
  of_row : (what : TopologyWhat) → HasFaultAt rows what at first second → HasFaultAt rows what at one other → (first ≡ one) × (second ≡ other)
  of_row what h k =
      let number : k.number ≡ h.number = one_place rows k.number h.number k.row h.row formed k.is h.is (sym k.place ∙ h.place) in
      let here : slice_get rows h.number ≡ Some k.row = subst (λ j. slice_get rows j ≡ Some k.row) number k.is in
      let row : k.row ≡ h.row = one_row rows h.number k.row h.row here h.is in
      one_telling rows h.number h.row first second one other what h.fault (subst (λ (e : Elem). HasTopologyFault rows what h.number e one other) row
      (subst (λ j. HasTopologyFault rows what j k.row one other) number k.fault))

  same_texts : (what : TopologyWhat) → IsTopologyFault rows what at first second → IsTopologyFault rows what at one other → (first ≡ one) × (second ≡ other)
  same_texts what h k = by (fault_at rows at first second what h) (fault_at rows at one other what k)
    where
      -- that there is no track is told of no row
      of_no_row : (a b : List ℕ) → HasFaultAt rows what at a b → what ≡ NoTracks → ⊥
      of_no_row a b k none = subst (λ (w : TopologyWhat). HasTopologyFault rows w k.number k.row a b) none k.fault

      by : ((what ≡ NoTracks) × HasNoTracks rows at first second) ⊎ HasFaultAt rows what at first second →
          ((what ≡ NoTracks) × HasNoTracks rows at one other) ⊎ HasFaultAt rows what at one other → (first ≡ one) × (second ≡ other)
      by (inl h) (inl k) = (h.1.no_first ∙ sym k.1.no_first, h.1.no_second ∙ sym k.1.no_second)
      by (inl h) (inr k) = absurd (of_no_row one other k h.0)
      by (inr h) (inl k) = absurd (of_no_row first second h k.0)
      by (inr h) (inr k) = of_row what h k

-- what is neither below the other is equal to it
level : (m n : ℕ) → (m < n → ⊥) → (n < m → ⊥) → m ≡ n
level m n below above = by (cases_lt m n) (cases_lt n m)
  where
    by : (m < n) ⊎ (n ≤ m) → (n < m) ⊎ (m ≤ n) → m ≡ n
    by (inl less) o = absurd (below less)
    by (inr from) (inl less) = absurd (above less)
    by (inr from) (inr to) = omega arith

pub one_first_fault : (rows : List Elem) (a b : TopologyWhat) (at place : ℕ) (first second one other : List ℕ) → AreFormed rows →
    IsFirstTopologyFault rows a at first second → IsFirstTopologyFault rows b place one other
    → (a ≡ b) × (at ≡ place) × (first ≡ one) × (second ≡ other)
one_first_fault rows a b at place first second one other formed h k =
    let kind : b ≡ a = one_kind b a (level (number_of b) (number_of a) (λ less. h.lowest b place one other less k.holds)
    (λ less. k.lowest a at first second less h.holds)) in
    let k' : IsFirstTopologyFault rows a place one other = subst (λ (what : TopologyWhat). IsFirstTopologyFault rows what place one other) kind k in
    let spot : place ≡ at = level place at (λ less. h.least place one other less k'.holds) (λ less. k'.least at first second less h.holds) in
    let texts = same_texts rows at first second one other formed a h.holds (subst (λ n. IsTopologyFault rows a n one other) spot k'.holds) in
    (sym kind, sym spot, texts.0, texts.1)
