-- The thirteen things that can be wrong with a document's rows, each with the element that it is told of
-- and the texts that are told with it; and which of them is told where there are several.
use Rattle.std.specs.Prelude.{◌≡◌, ◌⊎◌, ◌<◌, ℕ, true, codes, List, [], ◌∷◌, Some, None, Option, slice_get, ⊤}
use Rattle.plan_core.specs.declared.limits.TheConstants.{MAX_TRACKS}
use Rattle.plan_core.specs.Topology.{IsId}
use Rattle.railml_read.specs.declared.rows.Elem.{Elem}
use Rattle.railml_read.specs.declared.rows.ElemKind.{ElemKind}
use Rattle.railml_read.specs.declared.rows.ElemKind.TheVariants as kinds
use Rattle.rail_mileage.specs.Metres.{MetresParts, IsMetres}
use Rattle.railml_faults.specs.declared.attributes.Attribute.{Attribute}
use Rattle.railml_faults.specs.declared.attributes.Attribute.TheVariants as attributes
use Rattle.railml_faults.specs.declared.fault.TopologyWhat.{TopologyWhat}
use Rattle.railml_faults.specs.declared.fault.TopologyWhat.TheVariants.{NoTracks, TooMany, Missing, Id, RepeatedId}
use Rattle.railml_faults.specs.declared.fault.TopologyWhat.TheVariants.{Number, UnknownRef, NotMutual, SelfRef}
use Rattle.railml_faults.specs.declared.fault.TopologyWhat.TheVariants.{EndKind, Course, Orientation, OutsideTrack}
use Rattle.railml_faults.specs.Rows.{track_rows, all_children, children, parent_of, bears_id, bears_position, id_of}
use Rattle.railml_faults.specs.Rows.{BearsId, IsConnectionNamed, attribute_name, lacking, ComesBefore, IsBeginBeside}
use Rattle.railml_faults.specs.Rows.{IsEndBeside}

-- 3: this is the first of the required attributes that the row lacks
abbrev pub Lacks : List Elem → Elem → Attribute → Type 0
Lacks rows row attribute = slice_get (lacking rows row) 0 ≡ Some attribute

-- 4: the id is none that a file may have
pub record HasBadId (row : Elem) : Type 0 where
  pub bears : bears_id row.kind ≡ true
  pub id : List ℕ
  pub has : row.attrs.id ≡ Some id
  pub bad : IsId id → ⊥

-- 5: row i bears an id that an earlier row bears
pub record RepeatsId (rows : List Elem) (i : ℕ) (id : List ℕ) : Type 0 where
  pub here : BearsId rows i id
  pub earlier : ℕ
  pub before : earlier < i
  pub there : BearsId rows earlier id

-- row i bears some id that an earlier row bears
abbrev pub Repeats : List Elem → ℕ → Type 0
Repeats rows i = (id : List ℕ) × RepeatsId rows i id

-- no id stands at two rows
abbrev pub AreIdsDistinct : List Elem → Type 0
AreIdsDistinct rows = (i : ℕ) → Repeats rows i → ⊥

-- a text that is there and is no number of metres
abbrev pub IsNoNumber : Option (List ℕ) → Type 0
IsNoNumber None = ⊥
IsNoNumber (Some text) = (parts : MetresParts) → IsMetres text parts → ⊥

-- 6: this attribute of an element with a position is no number, `pos` being told first
abbrev pub HasNoNumber : Elem → Attribute → Type 0
HasNoNumber row attributes.Pos = (bears_position row.kind ≡ true) × IsNoNumber row.attrs.pos
HasNoNumber row attributes.AbsPos = (bears_position row.kind ≡ true) × (IsNoNumber row.attrs.pos → ⊥)
    × IsNoNumber row.attrs.abs_pos
HasNoNumber row attribute = ⊥

-- a connection, and the name that it refers to
pub record RefersTo (row : Elem) (name : List ℕ) : Type 0 where
  pub connection : row.kind ≡ kinds.Connection
  pub refers : row.attrs.reference ≡ Some name

-- 7: a connection refers to what no connection is named
pub record RefersToNone (rows : List Elem) (row : Elem) : Type 0 where
  pub name : List ℕ
  pub refers : RefersTo row name
  pub none : (j : ℕ) (other : Elem) → IsConnectionNamed rows j name other → ⊥

-- 8: a connection refers to one that doesn't refer back to it
pub record IsNotReferredBack (rows : List Elem) (row : Elem) (name : List ℕ) : Type 0 where
  pub refers : RefersTo row name
  pub number : ℕ
  pub other : Elem
  pub named : IsConnectionNamed rows number name other
  pub elsewhere : other.attrs.reference ≡ Some (id_of row) → ⊥

-- 9: a connection refers to itself
abbrev pub RefersToItself : Elem → Type 0
RefersToItself row = RefersTo row (id_of row)

-- a track has one topology, with one begin and one end
pub record IsWholeTrack (rows : List Elem) (i : ℕ) : Type 0 where
  pub topology : ℕ
  pub begin : ℕ
  pub end : ℕ
  pub one_topology : children rows i kinds.Topology ≡ topology ∷ []
  pub one_begin : children rows topology kinds.Begin ≡ begin ∷ []
  pub one_end : children rows topology kinds.End ≡ end ∷ []

-- the orientations of two rows are one word
pub record AreOrientedAlike (rows : List Elem) (i j : ℕ) : Type 0 where
  pub word : List ℕ
  pub one : Elem
  pub is_one : slice_get rows i ≡ Some one
  pub one_word : one.attrs.orientation ≡ Some word
  pub other : Elem
  pub is_other : slice_get rows j ≡ Some other
  pub other_word : other.attrs.orientation ≡ Some word

-- a crossing has two connections, and their orientations aren't one word
pub record HasTwoWays (rows : List Elem) (i : ℕ) : Type 0 where
  pub one : ℕ
  pub other : ℕ
  pub two : children rows i kinds.Connection ≡ one ∷ other ∷ []
  pub differ : AreOrientedAlike rows one other → ⊥

-- the element has the parts that its kind asks for: a begin or an end has just one connection, open end,
-- buffer stop or macroscopic node, and no other children can stand there
abbrev pub HasItsParts : List Elem → ℕ → ElemKind → Type 0
HasItsParts rows i kinds.Track = IsWholeTrack rows i
HasItsParts rows i kinds.Begin = (part : ℕ) × (all_children rows i ≡ part ∷ [])
HasItsParts rows i kinds.End = (part : ℕ) × (all_children rows i ≡ part ∷ [])
HasItsParts rows i kinds.Switch = (part : ℕ) × (children rows i kinds.Connection ≡ part ∷ [])
HasItsParts rows i kinds.Crossing = HasTwoWays rows i
HasItsParts rows i kind = ⊤

-- 10
abbrev pub LacksItsParts : List Elem → ℕ → Elem → Type 0
LacksItsParts rows i row = HasItsParts rows i row.kind → ⊥

-- one of the words `left` and `right`
abbrev pub IsHand : List ℕ → Type 0
IsHand word = (word ≡ codes "left") ⊎ (word ≡ codes "right")

-- the course `straight`, where the switch says to which hand its track diverges
pub record IsStraight (switch : Elem) (word : List ℕ) : Type 0 where
  pub straight : word ≡ codes "straight"
  pub track : List ℕ
  pub continues : switch.attrs.continue_course ≡ Some track
  pub hand : IsHand track

-- a word that is the course of a switch's connection
abbrev pub IsCourseAt : Elem → List ℕ → Type 0
IsCourseAt switch word = IsHand word ⊎ IsStraight switch word

-- a connection of an element of this kind
pub record IsConnectionOf (rows : List Elem) (row : Elem) (kind : ElemKind) (parent : Elem) : Type 0 where
  pub connection : row.kind ≡ kinds.Connection
  pub holds : parent_of rows row ≡ Some parent
  pub of_kind : parent.kind ≡ kind

-- the course of a switch's connection is none that it may have
pub record HasBadSwitchCourse (rows : List Elem) (row : Elem) : Type 0 where
  pub switch : Elem
  pub of_switch : IsConnectionOf rows row kinds.Switch switch
  pub word : List ℕ
  pub has : row.attrs.course ≡ Some word
  pub bad : IsCourseAt switch word → ⊥

-- the course of a crossing's outgoing connection is neither `left` nor `right`
pub record HasBadCrossingCourse (rows : List Elem) (row : Elem) : Type 0 where
  pub crossing : Elem
  pub of_crossing : IsConnectionOf rows row kinds.Crossing crossing
  pub outgoing : row.attrs.orientation ≡ Some (codes "outgoing")
  pub word : List ℕ
  pub has : row.attrs.course ≡ Some word
  pub bad : IsHand word → ⊥

-- 11
abbrev pub HasBadCourse : List Elem → Elem → Type 0
HasBadCourse rows row = HasBadSwitchCourse rows row ⊎ HasBadCrossingCourse rows row

-- one of the words `incoming` and `outgoing`
abbrev pub IsWay : List ℕ → Type 0
IsWay word = (word ≡ codes "incoming") ⊎ (word ≡ codes "outgoing")

-- 12: a switch's or a crossing's connection has an orientation that is neither word
pub record HasBadOrientation (rows : List Elem) (row : Elem) : Type 0 where
  pub parent : Elem
  pub of_inner : IsConnectionOf rows row kinds.Switch parent ⊎ IsConnectionOf rows row kinds.Crossing parent
  pub word : List ℕ
  pub has : row.attrs.orientation ≡ Some word
  pub bad : IsWay word → ⊥

-- by their positions the row comes before the begin beside it
abbrev pub IsBeforeBegin : List Elem → Elem → Type 0
IsBeforeBegin rows row = (begin : Elem) × IsBeginBeside rows row begin × ComesBefore row begin

-- by their positions the row comes after the end beside it
abbrev pub IsBehindEnd : List Elem → Elem → Type 0
IsBehindEnd rows row = (end : Elem) × IsEndBeside rows row end × ComesBefore end row

-- 13
abbrev pub LiesOutside : List Elem → Elem → ElemKind → Type 0
LiesOutside rows row kinds.End = IsBeforeBegin rows row
LiesOutside rows row kinds.Switch = IsBeforeBegin rows row ⊎ IsBehindEnd rows row
LiesOutside rows row kinds.Crossing = IsBeforeBegin rows row ⊎ IsBehindEnd rows row
LiesOutside rows row kind = ⊥

-- ---- the table

-- a kind tells no text but these
abbrev pub IsUntold : List ℕ → Type 0
IsUntold text = text ≡ []

-- row i has this fault, which is told with these texts; that there is no track is told of no row
abbrev pub HasTopologyFault : List Elem → TopologyWhat → ℕ → Elem → List ℕ → List ℕ → Type 0
HasTopologyFault rows NoTracks i row first second = ⊥
HasTopologyFault rows TooMany i row first second = (slice_get (track_rows rows) MAX_TRACKS ≡ Some i) × IsUntold first
    × IsUntold second
HasTopologyFault rows Missing i row first second = (attribute : Attribute) × Lacks rows row attribute
    × (first ≡ attribute_name attribute) × IsUntold second
HasTopologyFault rows Id i row first second = HasBadId row × IsUntold first × IsUntold second
HasTopologyFault rows RepeatedId i row first second = RepeatsId rows i first × IsUntold second
HasTopologyFault rows Number i row first second = (attribute : Attribute) × HasNoNumber row attribute
    × (first ≡ id_of row) × (second ≡ attribute_name attribute)
HasTopologyFault rows UnknownRef i row first second = RefersToNone rows row × (first ≡ id_of row) × IsUntold second
HasTopologyFault rows NotMutual i row first second = IsNotReferredBack rows row second × (first ≡ id_of row)
HasTopologyFault rows SelfRef i row first second = RefersToItself row × (first ≡ id_of row) × IsUntold second
HasTopologyFault rows EndKind i row first second = LacksItsParts rows i row × (first ≡ id_of row) × IsUntold second
HasTopologyFault rows Course i row first second = HasBadCourse rows row × (first ≡ id_of row) × IsUntold second
HasTopologyFault rows Orientation i row first second = HasBadOrientation rows row × (first ≡ id_of row)
    × IsUntold second
HasTopologyFault rows OutsideTrack i row first second = LiesOutside rows row row.kind × (first ≡ id_of row)
    × IsUntold second

-- a row that has this fault, and whose start tag stands at this place
pub record HasFaultAt (rows : List Elem) (what : TopologyWhat) (at : ℕ) (first second : List ℕ) : Type 0 where
  pub number : ℕ
  pub row : Elem
  pub is : slice_get rows number ≡ Some row
  pub place : at ≡ row.at
  pub fault : HasTopologyFault rows what number row first second

-- there is no track, which is told of the start of the file
pub record HasNoTracks (rows : List Elem) (at : ℕ) (first second : List ℕ) : Type 0 where
  pub none : track_rows rows ≡ []
  pub start : at ≡ 0
  pub no_first : IsUntold first
  pub no_second : IsUntold second

-- the rows have this fault at this place, and these are the texts that are told with it
abbrev pub IsTopologyFault : List Elem → TopologyWhat → ℕ → List ℕ → List ℕ → Type 0
IsTopologyFault rows NoTracks at first second = HasNoTracks rows at first second
IsTopologyFault rows what at first second = HasFaultAt rows what at first second

-- ---- which fault is told

-- the number of a fault in the table
abbrev pub number_of : TopologyWhat → ℕ
number_of NoTracks = 1
number_of TooMany = 2
number_of Missing = 3
number_of Id = 4
number_of RepeatedId = 5
number_of Number = 6
number_of UnknownRef = 7
number_of NotMutual = 8
number_of SelfRef = 9
number_of EndKind = 10
number_of Course = 11
number_of Orientation = 12
number_of OutsideTrack = 13

-- the word of a fault in the table
abbrev pub word_of : TopologyWhat → List ℕ
word_of NoTracks = codes "NoTracks"
word_of TooMany = codes "TooMany"
word_of Missing = codes "Missing"
word_of Id = codes "Id"
word_of RepeatedId = codes "RepeatedId"
word_of Number = codes "Number"
word_of UnknownRef = codes "UnknownRef"
word_of NotMutual = codes "NotMutual"
word_of SelfRef = codes "SelfRef"
word_of EndKind = codes "EndKind"
word_of Course = codes "Course"
word_of Orientation = codes "Orientation"
word_of OutsideTrack = codes "OutsideTrack"

-- of all faults this one has the lowest number, and the least place among those of its kind; formed rows
-- have at most one such fault, proved by `one_fault`
pub record IsFirstTopologyFault (rows : List Elem) (what : TopologyWhat) (at : ℕ) (first second : List ℕ) : Type 0 where
  pub holds : IsTopologyFault rows what at first second
  pub lowest : (other : TopologyWhat) (place : ℕ) (a b : List ℕ) → number_of other < number_of what →
      IsTopologyFault rows other place a b → ⊥
  pub least : (place : ℕ) (a b : List ℕ) → place < at → IsTopologyFault rows what place a b → ⊥

-- nothing is wrong
abbrev pub HasNoFault : List Elem → Type 0
HasNoFault rows = (what : TopologyWhat) (at : ℕ) (first second : List ℕ) → IsTopologyFault rows what at first second → ⊥
