-- The joins of a topology that rows resolve to lead both ways.
use Rattle.std.proofs.Common.{◌≡◌, ◌≢◌, ◌⊎◌, ℕ, suc, zero, Bool, true, false, Option, Some, None, List, [], ◌∷◌, ◌++◌, length, map, slice_get, refl, sym, ap}
use Rattle.std.proofs.Common.{◌∙◌, subst, inl, inr}
use Rattle.std.specs.Prelude.{codes}
use Rattle.std.specs.List.{AllByRecursion, AllZip, Contains}
use Rattle.std.specs.Option.{option_map_or, option_map, option_and_then}
use Rattle.std.proofs.lemmas.Option.{same_Some, option_and_then_some, slice_get-map}
use Rattle.plan_core.proofs.PlaceFacts.{same_place}
use Rattle.railml_faults.proofs.IdLemmas.{one_row}
use Rattle.plan_core.specs.declared.topology.Topology.{Topology}
use Rattle.plan_core.specs.declared.topology.Track.{Track as TrackOf}
use Rattle.plan_core.specs.declared.topology.End.{End as EndOf}
use Rattle.plan_core.specs.declared.topology.Inner.{Inner}
use Rattle.plan_core.specs.declared.topology.InnerKind.{InnerKind}
use Rattle.plan_core.specs.declared.topology.InnerKind.TheVariants as inners
use Rattle.plan_core.specs.declared.topology.Conn.{Conn}
use Rattle.plan_core.specs.declared.topology.Place.{Place}
use Rattle.plan_core.specs.declared.topology.Part.{Part}
use Rattle.plan_core.specs.declared.topology.Part.TheVariants as parts
use Rattle.plan_core.specs.Topology.{branch_of, incoming_of, outgoing_of, connection_of, connection, LeadsBothWays}
use Rattle.railml_read.specs.declared.rows.Elem.{Elem}
use Rattle.railml_read.specs.declared.rows.ElemKind.{ElemKind}
use Rattle.railml_read.specs.declared.rows.ElemKind.TheVariants.{Track, Begin, End, Switch, Crossing, Connection}
use Rattle.railml_faults.specs.Rows.{is_of_kind, children, is_word, id_of, IsConnectionNamed}
use Rattle.railml_faults.specs.Faults.{RefersTo, AreOrientedAlike, HasTwoWays}
use Rattle.railml_faults.proofs.Apart.{Apart, Among}
use Rattle.railml_faults.proofs.Family.{among_from_contains, of_kind, IsChild, only_child}
use Rattle.railml_topology.specs.declared.layout.Layout.{Layout}
use Rattle.railml_topology.specs.Resolved.{AreLayouts, way_word, HasWay, IsBranchOf, IsWayOf, IsAtPart, IsAtPlace, IsConnOf, IsJoinedAs, IsTrackEndOf}
use Rattle.railml_topology.specs.Resolved.{IsInnerKindOf, IsInnerOf, IsTrackOf}
use Rattle.railml_topology.specs.Sound.{AreSoundRows}
use Rattle.railml_topology.proofs.Zips.{zip_first, zip_second}
use Rattle.railml_topology.proofs.ElementLemmas.{up, up_child, way_child, stands_of, Laid, IsSet, home, IsHomeOf, stands_home, stands_apart, all_laid}
use Rattle.railml_topology.proofs.ElementLemmas.{layouts_apart}

-- ---- the row at a place of the topology

-- the connection of a topology at a place is that of the row there
pub record IsMadeOf (rows : List Elem) (layouts : List Layout) (l : Layout) (part : Part) (c : Conn) : Type 0 where
  pub number : ℕ
  pub here : IsAtPart rows l number part
  pub conn : IsConnOf rows layouts number c

end_made : (rows : List Elem) (layouts : List Layout) (begin : Elem) (i : ℕ) (e : EndOf) (c : Conn) → IsTrackEndOf rows layouts begin i e → e.joined ≡ Some c →
    (k : ℕ) × (children rows i Connection ≡ k ∷ []) × IsConnOf rows layouts k c
end_made rows layouts begin i e c h is = rw is at h.joined

switch_made : (rows : List Elem) (layouts : List Layout) (i : ℕ) (row : Elem) (w : InnerKind) (c : Conn) → IsInnerKindOf rows layouts i row w →
    branch_of w ≡ Some c → (k : ℕ) × IsBranchOf rows i k × IsConnOf rows layouts k c
switch_made rows layouts i row (inners.Switch outgoing hand diverges conn) c h e = (
  h.number,
  h.is_branch,
  subst
      (λ (v : Conn). IsConnOf rows layouts h.number v) (same_Some conn c e) h.conn,
)
switch_made rows layouts i row (inners.Crossing hand incoming outgoing) c h e = absurd cc

incoming_made : (rows : List Elem) (layouts : List Layout) (i : ℕ) (row : Elem) (w : InnerKind) (c : Conn) →
    IsInnerKindOf rows layouts i row w → incoming_of w ≡ Some c → (k : ℕ) × IsWayOf rows i false k × IsConnOf rows layouts k c
incoming_made rows layouts i row (inners.Switch outgoing hand diverges conn) c h e = absurd cc
incoming_made rows layouts i row (inners.Crossing hand incoming outgoing) c h e = (
  h.coming,
  h.is_coming,
  subst (λ (v : Conn). IsConnOf rows layouts h.coming v)
      (same_Some incoming c e) h.coming_conn,
)

outgoing_made : (rows : List Elem) (layouts : List Layout) (i : ℕ) (row : Elem) (w : InnerKind) (c : Conn) → IsInnerKindOf rows layouts i row w →
    outgoing_of w ≡ Some c → (k : ℕ) × IsWayOf rows i true k × IsConnOf rows layouts k c
outgoing_made rows layouts i row (inners.Switch outgoing hand diverges conn) c h e = absurd cc
outgoing_made rows layouts i row (inners.Crossing hand incoming outgoing) c h e = (
  h.leaving,
  h.is_leaving,
  subst
      (λ (v : Conn). IsConnOf rows layouts h.leaving v) (same_Some outgoing c e) h.leaving_conn,
)

part_made : (rows : List Elem) (layouts : List Layout) (l : Layout) (track : TrackOf) (part : Part) (c : Conn) → IsTrackOf rows layouts l track →
    connection_of track part ≡ Some c → IsMadeOf rows layouts l part c
part_made rows layouts l track parts.Begin c h e = let (k, only, conn) = end_made rows layouts h.begin_row l.begin track.begin c h.begin e in record {
  number = k;
  here = only;
  conn = conn;
}
part_made rows layouts l track parts.End c h e = let (k, only, conn) = end_made rows layouts h.begin_row l.end track.end c h.end e in record {
  number = k;
  here = only;
  conn = conn;
}
part_made rows layouts l track (parts.Branch n) c h e =
    option_and_then_some (λ (x : Inner). branch_of x.what) (slice_get track.inner n) c e (λ x at is.
    (let (i, there, of) = zip_second (IsInnerOf rows layouts h.begin_row) l.inner track.inner h.inner n x at in
    let (k, branch, conn) = switch_made rows layouts i of.row x.what c of.what is in
    record { number = k; here = (i, there, branch); conn = conn }))
part_made rows layouts l track (parts.Incoming n) c h e =
    option_and_then_some (λ (x : Inner). incoming_of x.what) (slice_get track.inner n) c e (λ x at is.
    (let (i, there, of) = zip_second (IsInnerOf rows layouts h.begin_row) l.inner track.inner h.inner n x at in
    let (k, way, conn) = incoming_made rows layouts i of.row x.what c of.what is in
    record { number = k; here = (i, there, way); conn = conn }))
part_made rows layouts l track (parts.Outgoing n) c h e =
    option_and_then_some (λ (x : Inner). outgoing_of x.what) (slice_get track.inner n) c e (λ x at is.
    (let (i, there, of) = zip_second (IsInnerOf rows layouts h.begin_row) l.inner track.inner h.inner n x at in
    let (k, way, conn) = outgoing_made rows layouts i of.row x.what c of.what is in
    record { number = k; here = (i, there, way); conn = conn }))

-- the row of the connection at a place
pub record Made (rows : List Elem) (layouts : List Layout) (p : Place) (c : Conn) : Type 0 where
  pub number : ℕ
  pub here : IsAtPlace rows layouts number p
  pub conn : IsConnOf rows layouts number c

pub made : (rows : List Elem) (layouts : List Layout) (t : Topology) → AllZip (IsTrackOf rows layouts) layouts t.tracks → (p : Place) (c : Conn) →
    connection t p ≡ Some c → Made rows layouts p c
made rows layouts t tracks p c e =
    option_and_then_some (λ (track : TrackOf). connection_of track p.part) (slice_get t.tracks p.track) c e (λ track at is.
    (let (l, there, of) = zip_second (IsTrackOf rows layouts) layouts t.tracks tracks p.track track at in
    let m = part_made rows layouts l track p.part c of is in
    record { number = m.number; here = record { layout = l; is = there; here = m.here }; conn = m.conn }))

-- ---- the connection of the topology where a row stands

pub one_number : (xs : List ℕ) (a b : ℕ) → xs ≡ a ∷ [] → xs ≡ b ∷ [] → a ≡ b
one_number xs a b e f = let both : a ∷ [] ≡ b ∷ [] = sym e ∙ f in cc

pub none_only : (xs : List ℕ) (a : ℕ) → xs ≡ [] → xs ≡ a ∷ [] → ⊥
none_only xs a e f = let both : [] ≡ a ∷ [] = sym e ∙ f in cc

among_two : (xs : List ℕ) (a b x : ℕ) → xs ≡ a ∷ b ∷ [] → Contains xs x → (x ≡ a) ⊎ (x ≡ b)
among_two xs a b x e c = elim (let m : Among (a ∷ b ∷ []) x = subst (λ (v : List ℕ). Among v x) e (among_from_contains xs x c) in m) [
  | inl one ↦ inl one
  | inr rest ↦ elim rest [ inl two ↦ inr two | inr none ↦ absurd none ]
]

-- the connections of a crossing go different ways
pub one_way : (rows : List Elem) → AreSoundRows rows → (crossing : ℕ) (outgoing : Bool) (a b : ℕ) → IsWayOf rows crossing outgoing a →
    IsWayOf rows crossing outgoing b → a ≡ b
one_way rows s crossing outgoing a b v w =
    let (row, is, kind_is) = of_kind rows Crossing crossing v.a_crossing in
    let two : HasTwoWays rows crossing = (rw kind_is at (s.parts crossing row is)) in
    let alike : (i j : ℕ) → i ≡ a → j ≡ b → AreOrientedAlike rows i j =
    (λ i j e f. record {
      word = way_word outgoing;
      one = v.way.row;
      is_one = ap (slice_get rows) e ∙ v.way.is;
      one_word = v.way.way;
      other = w.way.row;
      is_other = ap
          (slice_get rows) f ∙ w.way.is;
      other_word = w.way.way;
    }) in
    let back : (i j : ℕ) → i ≡ b → j ≡ a → AreOrientedAlike rows i j =
    (λ i j e f. record {
      word = way_word outgoing;
      one = w.way.row;
      is_one = ap (slice_get rows) e ∙ w.way.is;
      one_word = w.way.way;
      other = v.way.row;
      is_other = ap
          (slice_get rows) f ∙ v.way.is;
      other_word = v.way.way;
    }) in
    elim (among_two (children rows crossing Connection) two.one two.other a two.two v.among) [
      | inl a_one ↦ elim (among_two (children rows crossing Connection) two.one two.other b two.two w.among) [
        | inl b_one ↦ a_one ∙ sym b_one
        | inr b_other ↦ absurd (two.differ (alike two.one two.other (sym a_one) (sym b_other)))
      ]
      | inr a_other ↦ elim (among_two (children rows crossing Connection) two.one two.other b two.two w.among) [
        | inl b_one ↦ absurd (two.differ (back two.one two.other (sym b_one) (sym a_other)))
        | inr b_other ↦ a_other ∙ sym b_other
      ]
    ]

-- the connection of the topology that is that of this row
pub record Found (rows : List Elem) (layouts : List Layout) (o : Option Conn) (k : ℕ) : Type 0 where
  pub c : Conn
  pub is : o ≡ Some c
  pub conn : IsConnOf rows layouts k c

end_found : (rows : List Elem) (layouts : List Layout) (i k : ℕ) (o : Option Conn) → IsJoinedAs rows layouts i o → children rows i Connection ≡ k ∷ [] →
    Found rows layouts o k
end_found rows layouts i k None h only = absurd (none_only (children rows i Connection) k h only)
end_found rows layouts i k (Some c) (j, one, conn) only = record {
  c = c;
  is = refl;
  conn = subst (λ (v : ℕ). IsConnOf rows layouts v c) (one_number (children rows i Connection) j k one only) conn;
}

pub kinds_clash : (rows : List Elem) (i : ℕ) → is_of_kind rows Switch i ≡ true → is_of_kind rows Crossing i ≡ true → ⊥
kinds_clash rows i a b =
    let (r, is_r, kind_r) = of_kind rows Switch i a in
    let (q, is_q, kind_q) = of_kind rows Crossing i b in
    let same : r ≡ q = one_row rows i r q is_r is_q in
    let kinds : Switch ≡ Crossing = sym kind_r ∙ (ap (λ (v : Elem). v.kind) same ∙ kind_q) in
    cc

branch_found : (rows : List Elem) (layouts : List Layout) (i k : ℕ) (row : Elem) (w : InnerKind) → IsInnerKindOf rows layouts i row w → IsBranchOf rows i k →
    Found rows layouts (branch_of w) k
branch_found rows layouts i k row (inners.Switch outgoing hand diverges c) h b = record {
  c = c;
  is = refl;
  conn = subst (λ (v : ℕ). IsConnOf rows layouts v c) (one_number (children rows i Connection) h.number k h.is_branch.only b.only) h.conn;
}
branch_found rows layouts i k row (inners.Crossing hand incoming outgoing) h b = absurd (kinds_clash rows i b.a_switch h.is_coming.a_crossing)

incoming_found : (rows : List Elem) (layouts : List Layout) → AreSoundRows rows → (i k : ℕ) (row : Elem) (w : InnerKind) → IsInnerKindOf rows layouts i row w →
    IsWayOf rows i false k → Found rows layouts (incoming_of w) k
incoming_found rows layouts s i k row (inners.Switch outgoing hand diverges c) h b = absurd (kinds_clash rows i h.is_branch.a_switch b.a_crossing)
incoming_found rows layouts s i k row (inners.Crossing hand incoming outgoing) h b = record {
  c = incoming;
  is = refl;
  conn = subst (λ (v : ℕ). IsConnOf rows layouts v incoming) (one_way rows s i false h.coming k h.is_coming b) h.coming_conn;
}

outgoing_found : (rows : List Elem) (layouts : List Layout) → AreSoundRows rows → (i k : ℕ) (row : Elem) (w : InnerKind) → IsInnerKindOf rows layouts i row w →
    IsWayOf rows i true k → Found rows layouts (outgoing_of w) k
outgoing_found rows layouts s i k row (inners.Switch outgoing hand diverges c) h b = absurd (kinds_clash rows i h.is_branch.a_switch b.a_crossing)
outgoing_found rows layouts s i k row (inners.Crossing hand incoming outgoing) h b = record {
  c = outgoing;
  is = refl;
  conn = subst (λ (v : ℕ). IsConnOf rows layouts v outgoing) (one_way rows s i true h.leaving k h.is_leaving b) h.leaving_conn;
}

-- through the place among the switches and crossings
inner_found : (rows : List Elem) (layouts : List Layout) (f : Inner → Option Conn) (xs : List Inner) (n k : ℕ) (x : Inner) → slice_get xs n ≡ Some x →
    Found rows layouts (f x) k → Found rows layouts (option_and_then f (slice_get xs n)) k
inner_found rows layouts f xs n k x e h = record { c = h.c; is = rw e h.is; conn = h.conn }

part_found : (rows : List Elem) (layouts : List Layout) → AreSoundRows rows → (l : Layout) (track : TrackOf) (part : Part) (k : ℕ) →
    IsTrackOf rows layouts l track → IsAtPart rows l k part → Found rows layouts (connection_of track part) k
part_found rows layouts s l track parts.Begin k h at = end_found rows layouts l.begin k track.begin.joined h.begin.joined at
part_found rows layouts s l track parts.End k h at = end_found rows layouts l.end k track.end.joined h.end.joined at
part_found rows layouts s l track (parts.Branch n) k h (i, there, branch) =
    let (x, is, of) = zip_first (IsInnerOf rows layouts h.begin_row) l.inner track.inner h.inner n i there in
    inner_found rows layouts (λ (x : Inner). branch_of x.what) track.inner n k x is (branch_found rows layouts i k of.row x.what of.what branch)
part_found rows layouts s l track (parts.Incoming n) k h (i, there, way) =
    let (x, is, of) = zip_first (IsInnerOf rows layouts h.begin_row) l.inner track.inner h.inner n i there in
    inner_found rows layouts (λ (x : Inner). incoming_of x.what) track.inner n k x is (incoming_found rows layouts s i k of.row x.what of.what way)
part_found rows layouts s l track (parts.Outgoing n) k h (i, there, way) =
    let (x, is, of) = zip_first (IsInnerOf rows layouts h.begin_row) l.inner track.inner h.inner n i there in
    inner_found rows layouts (λ (x : Inner). outgoing_of x.what) track.inner n k x is (outgoing_found rows layouts s i k of.row x.what of.what way)

pub found : (rows : List Elem) (layouts : List Layout) (t : Topology) → AreSoundRows rows → AllZip (IsTrackOf rows layouts) layouts t.tracks →
    (k : ℕ) (p : Place) → IsAtPlace rows layouts k p → Found rows layouts (connection t p) k
found rows layouts t s tracks k p h =
    let (track, is, of) = zip_first (IsTrackOf rows layouts) layouts t.tracks tracks p.track h.layout h.is in
    let f = part_found rows layouts s h.layout track p.part k of h.here in
    record { c = f.c; is = rw is f.is; conn = f.conn }

-- ---- a row stands at one place

pub all_at : {A : Type 0} (P : A → Type 0) (xs : List A) (k : ℕ) (x : A) → AllByRecursion P xs → slice_get xs k ≡ Some x → P x
all_at P [] k x h e = absurd cc
all_at P (y ∷ ys) zero x h e = let same : y ≡ x = same_Some y x e in subst P same h.0
all_at P (y ∷ ys) (suc k) x h e = all_at P ys k x h.1 e

pub apart_at : (xs : List ℕ) (i j x : ℕ) → Apart xs → slice_get xs i ≡ Some x → slice_get xs j ≡ Some x → i ≡ j
apart_at [] i j x h e f = absurd cc
apart_at (y ∷ ys) zero zero x h e f = refl
apart_at (y ∷ ys) zero (suc j) x h e f = absurd (all_at (λ z. y ≢ z) ys j x h.0 f (same_Some y x e))
apart_at (y ∷ ys) (suc i) zero x h e f = absurd (all_at (λ z. y ≢ z) ys i x h.0 e (same_Some y x f))
apart_at (y ∷ ys) (suc i) (suc j) x h e f = ap (λ (n : ℕ). suc n) (apart_at ys i j x h.1 e f)

get_left : (xs ys : List ℕ) (k x : ℕ) → slice_get xs k ≡ Some x → slice_get (xs ++ ys) k ≡ Some x
get_left [] ys k x e = absurd cc
get_left (y ∷ xs) ys zero x e = e
get_left (y ∷ xs) ys (suc k) x e = get_left xs ys k x e

get_last : (xs : List ℕ) (x : ℕ) → slice_get (xs ++ x ∷ []) (length xs) ≡ Some x
get_last [] x = refl
get_last (y ∷ xs) x = get_last xs x

-- the variants of parts, without their numbers
data Tag : Type 0 where
  begins : Tag
  ends : Tag
  branches : Tag
  comes : Tag
  leaves : Tag

abbrev tag : Part → Tag
tag parts.Begin = begins
tag parts.End = ends
tag (parts.Branch n) = branches
tag (parts.Incoming n) = comes
tag (parts.Outgoing n) = leaves

-- the place in `stands_of` of the row that holds the connection at a part
abbrev slot : Layout → Part → ℕ
slot l parts.Begin = 1
slot l parts.End = suc (suc (length l.inner))
slot l (parts.Branch n) = suc (suc n)
slot l (parts.Incoming n) = suc (suc n)
slot l (parts.Outgoing n) = suc (suc n)

abbrev down : ℕ → ℕ
down zero = zero
down (suc n) = n

abbrev part_from : Tag → ℕ → Part
part_from begins n = parts.Begin
part_from ends n = parts.End
part_from branches n = parts.Branch (down (down n))
part_from comes n = parts.Incoming (down (down n))
part_from leaves n = parts.Outgoing (down (down n))

part_again : (l : Layout) (part : Part) → part_from (tag part) (slot l part) ≡ part
part_again l parts.Begin = refl
part_again l parts.End = refl
part_again l (parts.Branch n) = refl
part_again l (parts.Incoming n) = refl
part_again l (parts.Outgoing n) = refl

abbrev kind_at : List Elem → ℕ → ElemKind
kind_at rows k = option_map_or (λ (row : Elem). row.kind) (slice_get rows k) Track

abbrev leaves_at : List Elem → ℕ → Bool
leaves_at rows k = option_map_or (λ (row : Elem). is_word (codes "outgoing") row.attrs.orientation) (slice_get rows k) false

abbrev tag_by : ElemKind → Bool → Tag
tag_by End leaving = ends
tag_by Switch leaving = branches
tag_by Crossing true = leaves
tag_by Crossing false = comes
tag_by kind leaving = begins

abbrev tag_of : List Elem → ℕ → Tag
tag_of rows k = tag_by (kind_at rows (up rows k)) (leaves_at rows k)

-- the row that holds the connection at a part
record IsHeld (rows : List Elem) (l : Layout) (k : ℕ) (part : Part) : Type 0 where
  holder : ℕ
  is_child : IsChild rows holder Connection k
  there : slice_get (stands_of l) (slot l part) ≡ Some holder
  tagged : tag_of rows k ≡ tag part

kind_up : (rows : List Elem) (i k : ℕ) (row : Elem) (kind : ElemKind) → IsChild rows i Connection k → slice_get rows i ≡ Some row → row.kind ≡ kind →
    kind_at rows (up rows k) ≡ kind
kind_up rows i k row kind c is e = ap (kind_at rows) (up_child rows i k Connection c) ∙ (rw is e)

tested_kind_up : (rows : List Elem) (i k : ℕ) (kind : ElemKind) → IsChild rows i Connection k → is_of_kind rows kind i ≡ true → kind_at rows (up rows k) ≡ kind
tested_kind_up rows i k kind c t = let (row, is, e) = of_kind rows kind i t in kind_up rows i k row kind c is e

leaves_word : (rows : List Elem) (k : ℕ) (outgoing : Bool) → HasWay rows k outgoing → leaves_at rows k ≡ is_word (codes "outgoing") (Some (way_word outgoing))
leaves_word rows k outgoing w = let is = w.is in let way = w.way in rw (is, way) refl

held : (rows : List Elem) (l : Layout) → Laid rows l → (k : ℕ) (part : Part) → IsAtPart rows l k part → IsHeld rows l k part
held rows l d k parts.Begin at =
    let c = only_child rows l.begin Connection k at in
    record {
      holder = l.begin;
      is_child = c;
      there = refl;
      tagged = ap (λ v. tag_by v (leaves_at rows k))
          (kind_up rows l.begin k d.begin.row Begin c d.begin.is d.begin.kind_is);
    }
held rows l d k parts.End at =
    let c = only_child rows l.end Connection k at in
    record {
      holder = l.end;
      is_child = c;
      there = get_last l.inner l.end;
      tagged = ap (λ v. tag_by v (leaves_at rows k))
          (kind_up rows l.end k d.end.row End c d.end.is d.end.kind_is);
    }
held rows l d k (parts.Branch n) (i, there, branch) =
    let c = only_child rows i Connection k branch.only in
    record {
      holder = i;
      is_child = c;
      there = get_left l.inner (l.end ∷ []) n i there;
      tagged = ap (λ v. tag_by v (leaves_at rows k))
          (tested_kind_up rows i k Switch c branch.a_switch);
    }
held rows l d k (parts.Incoming n) (i, there, way) =
    let c = way_child rows i k false way in
    record {
      holder = i;
      is_child = c;
      there = get_left l.inner (l.end ∷ []) n i there;
      tagged = ap (λ v. tag_by v (leaves_at rows k)) (tested_kind_up rows i k Crossing c way.a_crossing)
          ∙ ap (λ v. tag_by Crossing v) (leaves_word rows k false way.way);
    }
held rows l d k (parts.Outgoing n) (i, there, way) =
    let c = way_child rows i k true way in
    record {
      holder = i;
      is_child = c;
      there = get_left l.inner (l.end ∷ []) n i there;
      tagged = ap (λ v. tag_by v (leaves_at rows k)) (tested_kind_up rows i k Crossing c way.a_crossing)
          ∙ ap (λ v. tag_by Crossing v) (leaves_word rows k true way.way);
    }

held_home : (rows : List Elem) → AreSoundRows rows → (l : Layout) → Laid rows l → (k : ℕ) (part : Part) → IsHeld rows l k part → home rows k ≡ l.track
held_home rows s l d k part h =
    let of : IsHomeOf rows l.track h.holder = all_at (IsHomeOf rows l.track) (stands_of l) (slot l part) h.holder (stands_home rows s.formed l d) h.there in
    ap (λ n. up rows (up rows n)) (up_child rows h.holder k Connection h.is_child) ∙ of.two

one_part : (rows : List Elem) (l : Layout) (k : ℕ) (p q : Part) → Apart (stands_of l) → IsHeld rows l k p → IsHeld rows l k q → p ≡ q
one_part rows l k p q apart a b =
    let holders : b.holder ≡ a.holder = sym (up_child rows b.holder k Connection b.is_child) ∙ up_child rows a.holder k Connection a.is_child in
    let slots : slot l p ≡ slot l q = apart_at (stands_of l) (slot l p) (slot l q) a.holder apart a.there (b.there ∙ ap (λ (v : ℕ). Some v) holders) in
    let tags : tag p ≡ tag q = sym a.tagged ∙ b.tagged in
    sym (part_again l p) ∙ (ap (λ v. part_from v (slot l p)) tags ∙ (ap (λ v. part_from (tag q) v) slots ∙ part_again l q))

pub one_place : (rows : List Elem) (layouts : List Layout) → AreSoundRows rows → AreLayouts rows layouts → (k : ℕ) (p q : Place) → IsAtPlace rows layouts k p →
    IsAtPlace rows layouts k q → p ≡ q
one_place rows layouts s h k p q a b =
    let set_a : IsSet rows a.layout = all_at (IsSet rows) layouts p.track a.layout (all_laid rows layouts h) a.is in
    let set_b : IsSet rows b.layout = all_at (IsSet rows) layouts q.track b.layout (all_laid rows layouts h) b.is in
    let held_a = held rows a.layout set_a.laid_down k p.part a.here in
    let held_b = held rows b.layout set_b.laid_down k q.part b.here in
    let homes : b.layout.track ≡ a.layout.track = sym (held_home rows s b.layout set_b.laid_down k q.part held_b)
    ∙ held_home rows s a.layout set_a.laid_down k p.part held_a in
    let numbers = map (λ (l : Layout). l.track) layouts in
    let at_p : slice_get numbers p.track ≡ Some a.layout.track = slice_get-map (λ (l : Layout). l.track) layouts p.track
    ∙ ap (λ (v : Option Layout). option_map (λ (l : Layout). l.track) v) a.is in
    let at_q : slice_get numbers q.track ≡ Some a.layout.track = slice_get-map (λ (l : Layout). l.track) layouts q.track
    ∙ (ap (λ (v : Option Layout). option_map (λ (l : Layout). l.track) v) b.is ∙ ap (λ (v : ℕ). Some v) homes) in
    let tracks : p.track ≡ q.track = apart_at numbers p.track q.track a.layout.track (layouts_apart rows layouts h) at_p at_q in
    let layout : b.layout ≡ a.layout = same_Some b.layout a.layout (sym b.is ∙ (ap (slice_get layouts) (sym tracks) ∙ a.is)) in
    same_place p q tracks (one_part rows a.layout k p.part q.part (stands_apart rows a.layout set_a.laid_down set_a.ordered) held_a
    (subst (λ (v : Layout). IsHeld rows v k q.part) layout held_b))

-- ---- both ways

pub one_named : (rows : List Elem) → AreSoundRows rows → (i j : ℕ) (name : List ℕ) (a b : Elem) → IsConnectionNamed rows i name a →
    IsConnectionNamed rows j name b → i ≡ j
one_named rows s i j name a b m n =
    s.ids_differ i j name (record {
      row = a;
      is = m.is;
      bears = rw m.connection refl;
      has = m.has;
    }) (record { row = b; is = n.is; bears = rw n.connection refl; has = n.has })

-- a connection is named by its id
named_self : (rows : List Elem) (layouts : List Layout) (k : ℕ) (c : Conn) (h : IsConnOf rows layouts k c) → IsConnectionNamed rows k c.id h.row
named_self rows layouts k c h = record { is = h.is; connection = h.refers.connection; has = h.id }

id_of_conn : (rows : List Elem) (layouts : List Layout) (k : ℕ) (c : Conn) (h : IsConnOf rows layouts k c) → id_of h.row ≡ c.id
id_of_conn rows layouts k c h = let e = h.id in rw e refl

pub one_reference : (row : Elem) (a b : List ℕ) → RefersTo row a → RefersTo row b → a ≡ b
one_reference row a b h k = same_Some a b (sym h.refers ∙ k.refers)

-- the place that a connection leads to leads to its row
leads_back : (rows : List Elem) (layouts : List Layout) → AreSoundRows rows →
    (k : ℕ) (c : Conn) (h : IsConnOf rows layouts k c) (d : Conn) (g : IsConnOf rows layouts h.number d) → IsAtPlace rows layouts k d.to
leads_back rows layouts s k c h d g =
    let m = s.mutual_refs k h.row h.is h.refers.connection in
    let names : h.name ≡ m.name = one_reference h.row h.name m.name h.refers m.refers in
    let number : m.number ≡ h.number = one_named rows s m.number h.number m.name m.other h.other m.named
    (subst (λ (v : List ℕ). IsConnectionNamed rows h.number v h.other) names h.named) in
    let other : m.other ≡ g.row = one_row rows h.number m.other g.row (ap (slice_get rows) (sym number) ∙ m.named.is) g.is in
    let back : RefersTo g.row (id_of h.row) = subst (λ (v : Elem). RefersTo v (id_of h.row)) other m.back in
    let name : g.name ≡ c.id = one_reference g.row g.name (id_of h.row) g.refers back ∙ id_of_conn rows layouts k c h in
    let again : g.number ≡ k = one_named rows s g.number k c.id g.other h.row (subst (λ (v : List ℕ). IsConnectionNamed rows g.number v g.other) name g.named)
    (named_self rows layouts k c h) in
    subst (λ (v : ℕ). IsAtPlace rows layouts v d.to) again g.leads

-- no connection leads to itself
leads_elsewhere : (rows : List Elem) (layouts : List Layout) → AreSoundRows rows →
    (k : ℕ) (c : Conn) (h : IsConnOf rows layouts k c) (d : Conn) (g : IsConnOf rows layouts h.number d) → d ≢ c
leads_elsewhere rows layouts s k c h d g same =
    let m = s.mutual_refs k h.row h.is h.refers.connection in
    let names : h.name ≡ m.name = one_reference h.row h.name m.name h.refers m.refers in
    let other : h.other ≡ g.row = one_row rows h.number h.other g.row h.named.is g.is in
    let ids : Some h.name ≡ Some c.id = sym h.named.has ∙ (ap (λ (v : Elem). v.attrs.id) other ∙ (g.id ∙ ap (λ (v : Conn). Some v.id) same)) in
    m.elsewhere (sym names ∙ (same_Some h.name c.id ids ∙ sym (id_of_conn rows layouts k c h)))

pub both_ways : (rows : List Elem) (layouts : List Layout) (t : Topology) → AreSoundRows rows → AreLayouts rows layouts →
    AllZip (IsTrackOf rows layouts) layouts t.tracks → LeadsBothWays t
both_ways rows layouts t s h tracks = record {
  back = (λ p c e.
      (let m = made rows layouts t tracks p c e in
      let f = found rows layouts t s tracks m.conn.number c.to m.conn.leads in
      (f.c, f.is, one_place rows layouts s h m.number f.c.to p (leads_back rows layouts s m.number c m.conn f.c f.conn) m.here)));
  elsewhere = (λ p c e same.
      (let m = made rows layouts t tracks p c e in
      let f = found rows layouts t s tracks m.conn.number c.to m.conn.leads in
      leads_elsewhere rows layouts s m.number c m.conn f.c f.conn (same_Some f.c c (sym f.is ∙ (ap (connection t) same ∙ e)))));
}
