-- What the reader keeps while items go by.
use Rattle.std.specs.Prelude.{ℕ, ◌+◌, ◌-◌, ◌==◌, nat_le, Bool, true, false, not, ◌||◌, ◌&&◌, if◌then◌else◌, codes}
use Rattle.std.specs.Prelude.{List, [], ◌∷◌, ◌++◌, length, take, map, fold, Option, Some, None, slice_get, bytes_eq}
use Rattle.std.specs.Option.{option_map_or}
use Rattle.railml_text.specs.declared.fault.TextWhat.{TextWhat}
use Rattle.railml_text.specs.declared.fault.TextWhat.TheVariants.{Markup, EndTag, Root, AfterRoot, Depth}
use Rattle.railml_text.specs.Cutting.{Placed}
use Rattle.railml_read.specs.declared.rows.Elem.{Elem}
use Rattle.railml_read.specs.declared.contexts.Context.{Context}
use Rattle.railml_read.specs.declared.contexts.Context.TheVariants.{Outside, Infrastructure}
use Rattle.railml_read.specs.declared.progress.TheConstants.{MAX_DEPTH}
use Rattle.railml_read.specs.declared.progress.Frame.{Frame}
use Rattle.railml_read.specs.declared.progress.Progress.{Progress as Kept}
use Rattle.railml_read.specs.Contexts.{below}
use Rattle.railml_read.specs.declared.rows.SignalElem.{SignalElem}
use Rattle.railml_read.specs.Rows.{own_row, nearest}
use Rattle.railml_read.specs.Signals.{own_track, own_signal}
use Rattle.railml_read.specs.Tree.{Tag, opens, closes}
use Rattle.railml_read.specs.Places.{tags_in, innermost, Role, opening, closing, content, free}

-- the open elements, the rows so far, and whether an infrastructure has begun
pub record State : Type 0 where
  pub stack : List Frame
  pub rows : List Elem
  pub reached : Bool

abbrev pub state_of : Kept → State
state_of kept = record { stack = kept.stack.items; rows = kept.rows.items; reached = kept.has_infrastructure }

abbrev pub top_frame : List Frame → Option Frame
top_frame stack = slice_get stack (length stack - 1)

abbrev pub context_in : Option Frame → Context
context_in None = Outside
context_in (Some frame) = frame.context

abbrev pub row_in : Option Frame → Option ℕ
row_in None = None
row_in (Some frame) = frame.row

abbrev pub is_infrastructure : Context → Bool
is_infrastructure Infrastructure = true
is_infrastructure context = false

-- the frame of an element of this name that opens inside these, and whose own row would have the
-- number n
abbrev pub frame_in : List Frame → List ℕ → ℕ → Frame
frame_in stack name n =
    let here = below (context_in (top_frame stack)) name in
    record { name = name; context = here; row = nearest here n (row_in (top_frame stack)) }

abbrev pub after_tag : State → Tag → State
after_tag s (opens at name attrs) =
    let frame = frame_in s.stack name (length s.rows) in
    record {
      stack = s.stack ++ frame ∷ [];
      rows = s.rows ++ own_row frame.context at attrs (row_in (top_frame s.stack));
      reached = s.reached || is_infrastructure frame.context;
    }
after_tag s (closes name) = record { stack = take (length s.stack - 1) s.stack; rows = s.rows; reached = s.reached }

abbrev pub start : State
start = record { stack = []; rows = []; reached = false }

-- after the tags of these items
abbrev pub state_after : List Placed → State
state_after items = fold after_tag start (tags_in items)

-- ---- where the next item stands

abbrev pub is_root_name : List ℕ → Bool
is_root_name name = bytes_eq name (codes "railml") || bytes_eq name (codes "infrastructure")

abbrev pub is_innermost : List ℕ → List (List ℕ) → Bool
is_innermost name names = option_map_or (λ other. bytes_eq other name) (innermost names) false

-- the fault with the lowest number of an item of this role, if its place gives it one
abbrev pub fault_in : List (List ℕ) → Bool → Role → Option TextWhat
fault_in names rooted (opening name) =
    if not rooted && not (is_root_name name) then Some Root
    else if rooted && (length names == 0) then Some AfterRoot
    else if nat_le MAX_DEPTH (length names) then Some Depth
    else None
fault_in names rooted (closing name) = if is_innermost name names then None else Some EndTag
fault_in names rooted content =
    if not rooted then Some Markup
    else if length names == 0 then Some AfterRoot
    else None
fault_in names rooted free = None

abbrev pub names_in : List Frame → List (List ℕ)
names_in stack = map (λ frame. frame.name) stack

-- ---- signals

-- how many tracks have begun, and the signals so far
pub record Marks : Type 0 where
  pub tracks : ℕ
  pub signals : List SignalElem

abbrev pub marks_of : Kept → Marks
marks_of kept = record { tracks = kept.tracks; signals = kept.signals.items }

abbrev pub after_mark : State → Marks → Tag → Marks
after_mark s m (opens at name attrs) =
    let here = below (context_in (top_frame s.stack)) name in
    record {
      tracks = m.tracks + own_track here;
      signals = m.signals
          ++ own_signal here at attrs (m.tracks + own_track here);
    }
after_mark s m (closes name) = m

-- what is kept of rows, and what is kept of signals
abbrev pub after_both : State × Marks → Tag → State × Marks
after_both both tag = (after_tag both.0 tag, after_mark both.0 both.1 tag)

abbrev pub no_marks : Marks
no_marks = record { tracks = 0; signals = [] }

abbrev pub marks_after : List Placed → Marks
marks_after items = (fold after_both (start, no_marks) (tags_in items)).1
