-- Each signal stands on a track that is there.
use Rattle.std.proofs.Common.{◌≡◌, ℕ, zero, suc, ◌+◌, ◌<◌, ◌≤◌, Bool, true, false, cond, Option, Some, None, List, [], ◌∷◌, ◌++◌, length, slice_get, refl}
use Rattle.std.proofs.Common.{subst, arith}
use Rattle.std.specs.Prelude.{bytes_eq, codes}
use Rattle.std.proofs.lemmas.Option.{same_Some}
use Rattle.std.proofs.lemmas.List.Sums.{sum_by-append}
use Rattle.railml_text.specs.declared.item.Attr.{Attr}
use Rattle.railml_read.specs.declared.rows.Elem.{Elem}
use Rattle.railml_read.specs.declared.rows.SignalElem.{SignalElem}
use Rattle.railml_read.specs.declared.rows.ElemKind.{ElemKind}
use Rattle.railml_read.specs.declared.rows.ElemKind.TheVariants as kinds
use Rattle.railml_read.specs.declared.contexts.Context.{Context}
use Rattle.railml_read.specs.declared.contexts.Context.TheVariants.{Outside, Railml, Infrastructure, Tracks, Connections, OcsElements, Signals, Signal}
use Rattle.railml_read.specs.declared.contexts.Context.TheVariants.{Selected, Skipped}
use Rattle.railml_read.specs.Contexts.{below, below_selected, below_end}
use Rattle.railml_read.specs.Tree.{Elements, none, element, XmlTree, root_of}
use Rattle.railml_read.specs.Rows.{own_row, nearest, rows_from, rows_of}
use Rattle.railml_read.specs.Signals.{own_track, own_signal, tracks_from, signals_from, signals_of, is_track, track_count}

-- what holds of each signal
Each : (SignalElem → Type 0) → List SignalElem → Type 0
Each P [] = Unit {0}
Each P (x ∷ xs) = P x × Each P xs

each_both : (P : SignalElem → Type 0) (xs ys : List SignalElem) → Each P xs → Each P ys → Each P (xs ++ ys)
unfolding Each
each_both P [] ys h k = k
each_both P (x ∷ xs) ys h k = (h.0, each_both P xs ys h.1 k)

each_weaker : (P Q : SignalElem → Type 0) → ((x : SignalElem) → P x → Q x) → (xs : List SignalElem) → Each P xs → Each Q xs
unfolding Each
each_weaker P Q weaker [] h = tt
each_weaker P Q weaker (x ∷ xs) h = (weaker x h.0, each_weaker P Q weaker xs h.1)

each_at : (P : SignalElem → Type 0) (xs : List SignalElem) (i : ℕ) (x : SignalElem) → Each P xs → slice_get xs i ≡ Some x → P x
unfolding Each
each_at P [] i x h e = absurd cc
each_at P (y ∷ ys) zero x h e = subst P (same_Some y x e) h.0
each_at P (y ∷ ys) (suc i) x h e = each_at P ys i x h.1 e

-- some track has begun where an element stands in a track
abbrev HasTrack : Context → ℕ → Type 0
HasTrack (Selected kinds.Track) n = 1 ≤ n
HasTrack OcsElements n = 1 ≤ n
HasTrack Signals n = 1 ≤ n
HasTrack Signal n = 1 ≤ n
HasTrack context n = Unit {0}

-- one of two places, as a test says
abbrev Has : Context → ℕ → Type 0
Has here n = HasTrack here (n + own_track here)

either : (test : Bool) (a b : Context) (n : ℕ) → Has a n → Has b n → Has (cond test a b) n
either true a b n h k = h
either false a b n h k = k

below_end_has : (name : List ℕ) (n : ℕ) → Has (below_end name) n
below_end_has name n =
    either (bytes_eq name (codes "connection")) _ _ n tt
    (either (bytes_eq name (codes "openEnd")) _ _ n tt
    (either (bytes_eq name (codes "bufferStop")) _ _ n tt
    (either (bytes_eq name (codes "macroscopicNode")) _ _ n tt tt)))

selected_has : (kind : ElemKind) (name : List ℕ) (n : ℕ) → HasTrack (Selected kind) n → Has (below_selected kind name) n
selected_has kinds.Track name n h = either (bytes_eq name (codes "trackTopology")) _ _ n tt
    (either (bytes_eq name (codes "ocsElements")) _ _ n (omega (arith, h)) tt)
selected_has kinds.Topology name n h = either (bytes_eq name (codes "trackBegin")) _ _ n tt
    (either (bytes_eq name (codes "trackEnd")) _ _ n tt (either (bytes_eq name (codes "connections")) _ _ n tt tt))
selected_has kinds.Begin name n h = below_end_has name n
selected_has kinds.End name n h = below_end_has name n
selected_has kinds.Switch name n h = either (bytes_eq name (codes "connection")) _ _ n tt tt
selected_has kinds.Crossing name n h = either (bytes_eq name (codes "connection")) _ _ n tt tt
selected_has kind name n h = tt

below_has : (context : Context) (name : List ℕ) (n : ℕ) → HasTrack context n → Has (below context name) n
below_has Outside name n h = either (bytes_eq name (codes "railml")) _ _ n tt (either (bytes_eq name (codes "infrastructure")) _ _ n tt tt)
below_has Railml name n h = either (bytes_eq name (codes "infrastructure")) _ _ n tt tt
below_has Infrastructure name n h = either (bytes_eq name (codes "tracks")) _ _ n tt tt
below_has Tracks name n h = either (bytes_eq name (codes "track")) _ _ n (omega arith) tt
below_has Connections name n h = either (bytes_eq name (codes "switch")) _ _ n tt (either (bytes_eq name (codes "crossing")) _ _ n tt tt)
below_has OcsElements name n h = either (bytes_eq name (codes "signals")) _ _ n (omega (arith, h)) tt
below_has Signals name n h = either (bytes_eq name (codes "signal")) _ _ n (omega (arith, h)) tt
below_has Signal name n h = tt
below_has (Selected kind) name n h = selected_has kind name n h
below_has Skipped name n h = tt

abbrev IsBelow : ℕ → SignalElem → Type 0
IsBelow n x = x.track < n

own_below : (here : Context) (at : ℕ) (attrs : List Attr) (n : ℕ) → HasTrack here n → Each (IsBelow n) (own_signal here at attrs n)
unfolding Each
own_below Signal at attrs n h = (omega (arith, h), tt)
own_below here at attrs n h = tt

all_below : (elements : Elements) (context : Context) (n : ℕ) → HasTrack context n →
    Each (IsBelow (n + tracks_from context elements)) (signals_from context n elements)
unfolding Each
all_below none context n h = tt
all_below (element at name attrs children after) context n h =
    let here = below context name in
    let begun = n + own_track here in
    let inside = tracks_from here children in
    let behind = tracks_from context after in
    let all = n + (own_track here + inside + behind) in
    let has = below_has context name n h in
    let later : HasTrack context (begun + inside) = has_more context n (begun + inside) (omega arith) h in
    let a = each_weaker (IsBelow begun) (IsBelow all) (λ x less. omega (arith, less)) (own_signal here at attrs begun) (own_below here at attrs begun has) in
    let b = each_weaker (IsBelow (begun + inside)) (IsBelow all) (λ x less. omega (arith, less)) (signals_from here begun children)
    (all_below children here begun has) in
    let c = each_weaker (IsBelow (begun + inside + behind)) (IsBelow all) (λ x less. omega (arith, less)) (signals_from context (begun + inside) after)
    (all_below after context (begun + inside) later) in
    each_both (IsBelow all) (own_signal here at attrs begun) (signals_from here begun children ++ signals_from context (begun + inside) after) a
    (each_both (IsBelow all) (signals_from here begun children) (signals_from context (begun + inside) after) b c)
  where
    has_more : (context : Context) (m n : ℕ) → m ≤ n → HasTrack context m → HasTrack context n
    has_more (Selected kinds.Track) m n le h = omega (arith, le, h)
    has_more OcsElements m n le h = omega (arith, le, h)
    has_more Signals m n le h = omega (arith, le, h)
    has_more Signal m n le h = omega (arith, le, h)
    has_more context m n le h = tt

-- ---- tracks are rows

own_count : (here : Context) (at : ℕ) (attrs : List Attr) (parent : Option ℕ) → track_count (own_row here at attrs parent) ≡ own_track here
own_count (Selected kinds.Track) at attrs parent = refl
own_count here at attrs parent = refl

tracks_are_rows : (elements : Elements) (context : Context) (parent : Option ℕ) (n : ℕ) →
    track_count (rows_from context parent n elements) ≡ tracks_from context elements
tracks_are_rows none context parent n = refl
tracks_are_rows (element at name attrs children after) context parent n =
    let here = below context name in
    let own = own_row here at attrs parent in
    let inside = rows_from here (nearest here n parent) (n + length own) children in
    let behind = rows_from context parent (n + length own + length inside) after in
    let weight : Elem → ℕ = λ row. cond (is_track row.kind) 1 0 in
    omega (
      arith,
      sum_by-append weight own (inside ++ behind),
      sum_by-append weight inside behind,
      own_count here at attrs parent,
      tracks_are_rows children here
          (nearest here n parent) (n + length own),
      tracks_are_rows after context parent (n + length own + length inside),
    )

pub on_a_track : (tree : XmlTree) (i : ℕ) (x : SignalElem) → slice_get (signals_of tree) i ≡ Some x → x.track < track_count (rows_of tree)
on_a_track tree i x e =
    let less = each_at (IsBelow (0 + tracks_from Outside (root_of tree))) (signals_of tree) i x (all_below (root_of tree) Outside 0 tt) e in
    omega (arith, less, tracks_are_rows (root_of tree) Outside None 0)
