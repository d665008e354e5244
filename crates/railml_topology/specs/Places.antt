-- Where the connections of rows are: what is kept of it, row by row.
-- Private contracts alone cite this module.
use Rattle.std.specs.Prelude.{◌≡◌, ◌⊎◌, ◌<◌, ◌&&◌, ℕ, Bool, true, false, List, length, Option, Some, slice_get}
use Rattle.std.specs.Option.{option_map_or}
use Rattle.plan_core.specs.declared.topology.Place.{Place}
use Rattle.plan_core.specs.declared.topology.Part.{Part}
use Rattle.plan_core.specs.declared.topology.Part.TheVariants as parts
use Rattle.railml_read.specs.declared.rows.Elem.{Elem}
use Rattle.railml_read.specs.declared.rows.ElemKind.TheVariants as kinds
use Rattle.railml_faults.specs.Rows.{is_of_kind, is_word}
use Rattle.railml_faults.specs.Tables.{entry_in}
use Rattle.railml_topology.specs.declared.layout.Layout.{Layout}
use Rattle.railml_topology.specs.Resolved.{IsBranchOf, IsWayOf, IsAtPart, IsAtPlace}

-- an entry of a table isn't empty
pub record IsFilled {X : Type 0} (table : List (Option X)) (i : ℕ) : Type 0 where
  pub entry : X
  pub is : entry_in table i ≡ Some entry

-- what a table has gained: at rows of which T holds the place that it has there, and nothing else
pub record Adds (T : ℕ → Place → Type 0) (old new : List (Option Place)) : Type 0 where
  pub whole : length new ≡ length old
  pub only : (i : ℕ) (p : Place) → entry_in new i ≡ Some p → (entry_in old i ≡ Some p) ⊎ T i p
  pub kept : (i : ℕ) → IsFilled old i → IsFilled new i
  pub added : (i : ℕ) (p : Place) → T i p → IsFilled new i

-- row i is that of the connection at a part of the switch or crossing with this row and this number
abbrev pub IsAtInner : List Elem → ℕ → ℕ → ℕ → Part → Type 0
IsAtInner rows number inner i (parts.Branch k) = (k ≡ number) × IsBranchOf rows inner i
IsAtInner rows number inner i (parts.Incoming k) = (k ≡ number) × IsWayOf rows inner false i
IsAtInner rows number inner i (parts.Outgoing k) = (k ≡ number) × IsWayOf rows inner true i
IsAtInner rows number inner i part = ⊥

-- row i is that of the connection at a place of the track with this number and layout
pub record IsOnTrack (rows : List Elem) (number : ℕ) (l : Layout) (i : ℕ) (p : Place) : Type 0 where
  pub track : p.track ≡ number
  pub here : IsAtPart rows l i p.part

-- row i is that of the connection at a place of this switch or crossing of a track
pub record IsOnInner (rows : List Elem) (track number inner i : ℕ) (p : Place) : Type 0 where
  pub on : p.track ≡ track
  pub here : IsAtInner rows number inner i p.part

-- the place of each row of a connection
pub record HasPlaces (rows : List Elem) (layouts : List Layout) (table : List (Option Place)) : Type 0 where
  pub whole : length table ≡ length rows
  pub only : (i : ℕ) (p : Place) → entry_in table i ≡ Some p → IsAtPlace rows layouts i p
  pub all : (i : ℕ) (p : Place) → IsAtPlace rows layouts i p → IsFilled table i

-- row i is a connection, and its orientation is this word
abbrev pub goes_by : List Elem → List ℕ → ℕ → Bool
goes_by rows word i = is_of_kind rows kinds.Connection i && option_map_or
    (λ (row : Elem). is_word word row.attrs.orientation) (slice_get rows i) false

-- row i is that of the connection at a place of one of the first of these switches and crossings
pub record IsOnFirst (rows : List Elem) (track : ℕ) (inner : List ℕ) (limit i : ℕ) (p : Place) : Type 0 where
  pub number : ℕ
  pub below : number < limit
  pub row : ℕ
  pub is : slice_get inner number ≡ Some row
  pub on : IsOnInner rows track number row i p
