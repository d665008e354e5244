-- The signals of a tree, in file order.
use Rattle.std.specs.Prelude.{◌≡◌, ◌<◌, ℕ, ◌+◌, ◌-◌, Bool, true, false, count_by, codes, List, [], ◌∷◌, ◌++◌, Some}
use Rattle.std.specs.Prelude.{slice_get}
use Rattle.railml_text.specs.declared.item.Attr.{Attr}
use Rattle.railml_text.specs.declared.fault.TextWhat.{TextWhat}
use Rattle.railml_read.specs.declared.rows.SignalElem.{SignalElem}
use Rattle.railml_read.specs.declared.rows.Elem.{Elem}
use Rattle.railml_read.specs.declared.rows.ElemKind.{ElemKind}
use Rattle.railml_read.specs.declared.rows.ElemKind.TheVariants.{Track}
use Rattle.railml_read.specs.declared.contexts.Context.{Context}
use Rattle.railml_read.specs.declared.contexts.Context.TheVariants.{Outside, Selected, Signal}
use Rattle.railml_read.specs.Contexts.{below}
use Rattle.railml_read.specs.Tree.{Elements, none, element, XmlTree, root_of}
use Rattle.railml_read.specs.Rows.{text_named}
use Rattle.railml_read.specs.Document.{SpellsTree, IsTextFault}

-- 1 for an element that stands here, if it is a track
abbrev pub own_track : Context → ℕ
own_track (Selected Track) = 1
own_track context = 0

-- the signal that an element is, if it stands where signals do; so many tracks have begun, the last of them its own
abbrev pub own_signal : Context → ℕ → List Attr → ℕ → List SignalElem
own_signal Signal at attrs tracks = record {
  at = at;
  track = tracks - 1;
  id = text_named (codes "id") attrs;
  pos = text_named (codes "pos") attrs;
  abs_pos = text_named (codes "absPos") attrs;
} ∷ []
own_signal context at attrs tracks = []

-- how many tracks are among elements whose parent stands here
abbrev pub tracks_from : Context → Elements → ℕ
tracks_from context none = 0
tracks_from context (element at name attrs children after) =
    own_track (below context name) + tracks_from (below context name) children + tracks_from context after

-- the signals among elements whose parent stands here, and before which so many tracks have begun
abbrev pub signals_from : Context → ℕ → Elements → List SignalElem
signals_from context tracks none = []
signals_from context tracks (element at name attrs children after) =
    let here = below context name in
    let begun = tracks + own_track here in
    own_signal here at attrs begun ++ (signals_from here begun children
    ++ signals_from context (begun + tracks_from here children) after)

-- the signals of a tree, in file order
abbrev pub signals_of : XmlTree → List SignalElem
signals_of tree = signals_from Outside 0 (root_of tree)

-- the signals of a tree that the bytes spell
pub record AreSignals (bytes : List ℕ) (signals : List SignalElem) : Type 0 where
  pub tree : XmlTree
  pub spells : SpellsTree bytes tree
  pub found : signals ≡ signals_of tree

-- the text has no fault, and these are the signals of its tree
pub record GivesSignals (bytes : List ℕ) (signals : List SignalElem) : Type 0 where
  pub are_signals : AreSignals bytes signals
  pub sound : (what : TextWhat) (at : ℕ) → IsTextFault bytes what at → ⊥

-- how signals are formed, for whoever places them: their places rise
pub record AreRising (signals : List SignalElem) : Type 0 where
  pub rise : (i j : ℕ) (a b : SignalElem) → i < j → slice_get signals i ≡ Some a → slice_get signals j ≡ Some b →
      a.at < b.at

-- an element of this kind is a track
abbrev pub is_track : ElemKind → Bool
is_track Track = true
is_track kind = false

-- how many rows are tracks
abbrev pub track_count : List Elem → ℕ
track_count rows = count_by (λ (row : Elem). is_track row.kind) rows
