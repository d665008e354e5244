-- Which topology rows resolve to: of which rows each track consists, and how its elements, mileages, hands
-- and joins follow from them. It is said of rows of which nothing is wrong.
use Rattle.std.specs.Prelude.{◌≡◌, ◌↔◌, ◌⊎◌, ◌<◌, ℕ, Bool, true, false, codes, List, [], ◌∷◌, map, Option, Some, None}
use Rattle.std.specs.Prelude.{MatchOption, slice_get, All, AllPairs, Contains, ℤ, ◌+ℤ◌, ◌-ℤ◌, ◌<ℤ◌}
use Rattle.std.specs.List.{AllZip}
use Rattle.plan_core.specs.declared.sides.Hand.{Hand}
use Rattle.plan_core.specs.declared.sides.Hand.TheVariants.{Left, Right}
use Rattle.plan_core.specs.declared.topology.Topology.{Topology}
use Rattle.plan_core.specs.declared.topology.Track.{Track}
use Rattle.plan_core.specs.declared.topology.End.{End}
use Rattle.plan_core.specs.declared.topology.Inner.{Inner}
use Rattle.plan_core.specs.declared.topology.InnerKind.{InnerKind}
use Rattle.plan_core.specs.declared.topology.InnerKind.TheVariants.{Switch, Crossing}
use Rattle.plan_core.specs.declared.topology.Conn.{Conn}
use Rattle.plan_core.specs.declared.topology.Place.{Place}
use Rattle.plan_core.specs.declared.topology.Part.{Part}
use Rattle.plan_core.specs.declared.topology.Part.TheVariants as parts
use Rattle.railml_read.specs.declared.rows.Elem.{Elem}
use Rattle.railml_read.specs.declared.rows.ElemKind.TheVariants as kinds
use Rattle.railml_faults.specs.Rows.{track_rows, is_of_kind, children, IsConnectionNamed, ReadsMetres, HasPosition}
use Rattle.railml_faults.specs.Faults.{RefersTo}
use Rattle.railml_topology.specs.declared.layout.Layout.{Layout}

-- ---- layouts

-- row i stands before row j on their track: by position, and at one position by file order
pub record StandsBefore (rows : List Elem) (i j : ℕ) : Type 0 where
  pub here : Elem
  pub is_here : slice_get rows i ≡ Some here
  pub from : ℤ
  pub here_at : HasPosition here from
  pub there : Elem
  pub is_there : slice_get rows j ≡ Some there
  pub to : ℤ
  pub there_at : HasPosition there to
  pub before : (from <ℤ to) ⊎ ((from ≡ to) × (i < j))

-- the switches and crossings of a topology, in their order along the track
pub record AreInner (rows : List Elem) (topology : ℕ) (inner : List ℕ) : Type 0 where
  pub all : (i : ℕ) → Contains inner i ↔ (Contains (children rows topology kinds.Switch) i
      ⊎ Contains (children rows topology kinds.Crossing) i)
  pub ordered : AllPairs (StandsBefore rows) inner

-- the rows of a track: its one topology with its one begin and its one end, and all that stands between
pub record IsLayout (rows : List Elem) (l : Layout) : Type 0 where
  pub one_topology : children rows l.track kinds.Topology ≡ l.topology ∷ []
  pub one_begin : children rows l.topology kinds.Begin ≡ l.begin ∷ []
  pub one_end : children rows l.topology kinds.End ≡ l.end ∷ []
  pub between : AreInner rows l.topology l.inner

-- the layouts of all tracks, in file order
pub record AreLayouts (rows : List Elem) (layouts : List Layout) : Type 0 where
  pub tracks : map (λ (l : Layout). l.track) layouts ≡ track_rows rows
  pub each : All (IsLayout rows) layouts

-- ---- connections

-- the word for a connection that leaves towards the track's end, and for one that comes from its begin
abbrev pub way_word : Bool → List ℕ
way_word true = codes "outgoing"
way_word false = codes "incoming"

abbrev pub hand_word : Hand → List ℕ
hand_word Left = codes "left"
hand_word Right = codes "right"

-- row i goes this way, outgoing or not
pub record HasWay (rows : List Elem) (i : ℕ) (outgoing : Bool) : Type 0 where
  pub row : Elem
  pub is : slice_get rows i ≡ Some row
  pub way : row.attrs.orientation ≡ Some (way_word outgoing)

-- row i is the one connection of this switch
pub record IsBranchOf (rows : List Elem) (switch i : ℕ) : Type 0 where
  pub a_switch : is_of_kind rows kinds.Switch switch ≡ true
  pub only : children rows switch kinds.Connection ≡ i ∷ []

-- row i is the connection of this crossing that goes this way
pub record IsWayOf (rows : List Elem) (crossing : ℕ) (outgoing : Bool) (i : ℕ) : Type 0 where
  pub a_crossing : is_of_kind rows kinds.Crossing crossing ≡ true
  pub among : Contains (children rows crossing kinds.Connection) i
  pub way : HasWay rows i outgoing

-- row i is the connection at this part of the track; the numbers are those of its switches and crossings
abbrev pub IsAtPart : List Elem → Layout → ℕ → Part → Type 0
IsAtPart rows l i parts.Begin = children rows l.begin kinds.Connection ≡ i ∷ []
IsAtPart rows l i parts.End = children rows l.end kinds.Connection ≡ i ∷ []
IsAtPart rows l i (parts.Branch k) = (switch : ℕ) × (slice_get l.inner k ≡ Some switch) × IsBranchOf rows switch i
IsAtPart rows l i (parts.Incoming k) = (crossing : ℕ) × (slice_get l.inner k ≡ Some crossing)
    × IsWayOf rows crossing false i
IsAtPart rows l i (parts.Outgoing k) = (crossing : ℕ) × (slice_get l.inner k ≡ Some crossing)
    × IsWayOf rows crossing true i

-- row i is the connection at this place
pub record IsAtPlace (rows : List Elem) (layouts : List Layout) (i : ℕ) (p : Place) : Type 0 where
  pub layout : Layout
  pub is : slice_get layouts p.track ≡ Some layout
  pub here : IsAtPart rows layout i p.part

-- a connection is that of row i, and leads to the place of the connection that the row refers to
pub record IsConnOf (rows : List Elem) (layouts : List Layout) (i : ℕ) (c : Conn) : Type 0 where
  pub row : Elem
  pub is : slice_get rows i ≡ Some row
  pub id : row.attrs.id ≡ Some c.id
  pub at : row.at ≡ c.at
  pub name : List ℕ
  pub refers : RefersTo row name
  pub number : ℕ
  pub other : Elem
  pub named : IsConnectionNamed rows number name other
  pub leads : IsAtPlace rows layouts number c.to

-- ---- mileages, in micrometres

-- a row's `absPos` is this number
pub record HasAbsPos (row : Elem) (z : ℤ) : Type 0 where
  pub text : List ℕ
  pub has : row.attrs.abs_pos ≡ Some text
  pub reads : ReadsMetres text z

-- as far from the begin's mileage as the row's position is from the begin's
pub record IsMeasuredFrom (begin row : Elem) (z : ℤ) : Type 0 where
  pub start : ℤ
  pub starts : HasAbsPos begin start
  pub from : ℤ
  pub begin_at : HasPosition begin from
  pub to : ℤ
  pub row_at : HasPosition row to
  pub sum : z ≡ (start +ℤ to) -ℤ from

-- the mileage of a row of a track with this begin: its `absPos` where it has one
abbrev pub HasMileage : Elem → Elem → ℤ → Type 0
HasMileage begin row z = MatchOption row.attrs.abs_pos (IsMeasuredFrom begin row z) (λ text. ReadsMetres text z)

-- ---- tracks

-- a begin or an end without a connection has none to lead on
abbrev pub IsJoinedAs : List Elem → List Layout → ℕ → Option Conn → Type 0
IsJoinedAs rows layouts i None = children rows i kinds.Connection ≡ []
IsJoinedAs rows layouts i (Some c) = (k : ℕ) × (children rows i kinds.Connection ≡ k ∷ []) × IsConnOf rows layouts k c

-- a track's begin or end is that of row i
pub record IsTrackEndOf (rows : List Elem) (layouts : List Layout) (begin : Elem) (i : ℕ) (e : End) : Type 0 where
  pub row : Elem
  pub is : slice_get rows i ≡ Some row
  pub id : row.attrs.id ≡ Some e.id
  pub at : row.at ≡ e.at
  pub mile : HasMileage begin row e.mile.0
  pub joined : IsJoinedAs rows layouts i e.joined

-- A switch's branch has the course to a hand, and diverges to it; or it has the course `straight`, and
-- the track diverges to the hand that the switch names.
abbrev pub IsCourseOf : Elem → Elem → Hand → Bool → Type 0
IsCourseOf switch branch hand false = branch.attrs.course ≡ Some (hand_word hand)
IsCourseOf switch branch hand true = (branch.attrs.course ≡ Some (codes "straight"))
    × (switch.attrs.continue_course ≡ Some (hand_word hand))

-- what row i connects, a switch
pub record IsSwitchOf (rows : List Elem) (layouts : List Layout) (i : ℕ) (switch : Elem) (outgoing : Bool) (hand : Hand)
    (track_diverges : Bool) (c : Conn) : Type 0 where
  pub number : ℕ
  pub is_branch : IsBranchOf rows i number
  pub conn : IsConnOf rows layouts number c
  pub way : HasWay rows number outgoing
  pub course : IsCourseOf switch conn.row hand track_diverges

-- what row i connects, a crossing
pub record IsCrossingOf (rows : List Elem) (layouts : List Layout) (i : ℕ) (hand : Hand) (incoming outgoing : Conn) :
    Type 0 where
  pub coming : ℕ
  pub is_coming : IsWayOf rows i false coming
  pub coming_conn : IsConnOf rows layouts coming incoming
  pub leaving : ℕ
  pub is_leaving : IsWayOf rows i true leaving
  pub leaving_conn : IsConnOf rows layouts leaving outgoing
  pub course : leaving_conn.row.attrs.course ≡ Some (hand_word hand)

-- row i is a switch or a crossing, and this is what it connects
abbrev pub IsInnerKindOf : List Elem → List Layout → ℕ → Elem → InnerKind → Type 0
IsInnerKindOf rows layouts i row (Switch outgoing hand track_diverges c) =
    IsSwitchOf rows layouts i row outgoing hand track_diverges c
IsInnerKindOf rows layouts i row (Crossing hand incoming outgoing) = IsCrossingOf rows layouts i hand incoming outgoing

-- a switch or a crossing is that of row i
pub record IsInnerOf (rows : List Elem) (layouts : List Layout) (begin : Elem) (i : ℕ) (x : Inner) : Type 0 where
  pub row : Elem
  pub is : slice_get rows i ≡ Some row
  pub id : row.attrs.id ≡ Some x.id
  pub at : row.at ≡ x.at
  pub mile : HasMileage begin row x.mile.0
  pub what : IsInnerKindOf rows layouts i row x.what

-- a track is that of these rows
pub record IsTrackOf (rows : List Elem) (layouts : List Layout) (l : Layout) (track : Track) : Type 0 where
  pub row : Elem
  pub is : slice_get rows l.track ≡ Some row
  pub id : row.attrs.id ≡ Some track.id
  pub at : row.at ≡ track.at
  pub begin_row : Elem
  pub begin_is : slice_get rows l.begin ≡ Some begin_row
  pub begin : IsTrackEndOf rows layouts begin_row l.begin track.begin
  pub end : IsTrackEndOf rows layouts begin_row l.end track.end
  pub inner : AllZip (IsInnerOf rows layouts begin_row) l.inner track.inner

-- what these rows resolve to; formed rows without a fault resolve to at most one topology, proved by
-- `one_topology`
pub record IsTopologyOf (rows : List Elem) (t : Topology) : Type 0 where
  pub layouts : List Layout
  pub laid_out : AreLayouts rows layouts
  pub tracks : AllZip (IsTrackOf rows layouts) layouts t.tracks
