-- Rows are formed while they are read.
use Rattle.std.proofs.Common.{◌≡◌, ℕ, suc, zero, ◌-◌, ◌<◌, ◌≤◌, Bool, true, false, cond, Option, Some, None, List, [], ◌∷◌, ◌++◌, length, take, slice_get}
use Rattle.std.proofs.Common.{refl, sym, ap, subst, inl, inr, length-append, arith}
use Rattle.std.specs.Prelude.{fold, ◌||◌, bytes_eq, codes}
use Rattle.std.proofs.lemmas.List.{append-nil}
use Rattle.std.proofs.lemmas.Option.{slice_get_within}
use Rattle.plan_core.proofs.ListFacts.{get_front, get_last, get_pushed}
use Rattle.plan_core.specs.declared.limits.TheConstants.{MAX_FILE_BYTES}
use Rattle.railml_text.specs.declared.item.Attr.{Attr}
use Rattle.railml_text.specs.declared.item.ItemKind.{ItemKind}
use Rattle.railml_text.specs.declared.item.ItemKind.TheVariants as kinds
use Rattle.railml_read.specs.declared.rows.Elem.{Elem}
use Rattle.railml_read.specs.declared.rows.ElemKind.{ElemKind}
use Rattle.railml_read.specs.declared.rows.ElemKind.TheVariants.{Track, Topology, Begin, End, Switch, Crossing, Connection, OpenEnd, BufferStop, MacroNode}
use Rattle.railml_read.specs.declared.contexts.Context.{Context}
use Rattle.railml_read.specs.declared.contexts.Context.TheVariants.{Outside, Railml, Infrastructure, Tracks, Connections, OcsElements, Signals, Signal}
use Rattle.railml_read.specs.declared.contexts.Context.TheVariants.{Selected, Skipped}
use Rattle.railml_read.specs.declared.progress.Frame.{Frame}
use Rattle.railml_read.specs.Contexts.{below, below_selected, below_end}
use Rattle.railml_read.specs.Tree.{opens, closes}
use Rattle.railml_read.specs.Rows.{own_row, nearest, attrs_read}
use Rattle.railml_read.specs.Formed.{may_hold, HasParent, IsRowPlaced, AreFormed}
use Rattle.railml_read.specs.Places.{tags_at}
use Rattle.railml_read.specs.Progress.{State, top_frame, context_in, row_in, is_infrastructure, after_tag, start}

-- ---- what is at a place

get_taken : {X : Type 0} (n : ℕ) (xs : List X) (i : ℕ) (x : X) → slice_get (take n xs) i ≡ Some x → slice_get xs i ≡ Some x
get_taken zero xs i x e = absurd cc
get_taken (suc n) [] i x e = absurd cc
get_taken (suc n) (y ∷ xs) zero x e = e
get_taken (suc n) (y ∷ xs) (suc i) x e = get_taken n xs i x e

-- ---- the nearest row at or above an element

pub record HasRow (rows : List Elem) (row : Option ℕ) (kind : ElemKind) : Type 0 where
  pub number : ℕ
  pub elem : Elem
  pub is : row ≡ Some number
  pub at : slice_get rows number ≡ Some elem
  pub kind_is : elem.kind ≡ kind

-- of an element that stands here
abbrev pub FitsIn : List Elem → Context → Option ℕ → Type 0
FitsIn rows (Selected kind) row = HasRow rows row kind
FitsIn rows Connections row = HasRow rows row Topology
FitsIn rows OcsElements row = Unit {0}
FitsIn rows Signals row = Unit {0}
FitsIn rows Signal row = Unit {0}
FitsIn rows Skipped row = Unit {0}
FitsIn rows context row = row ≡ None

-- of the parent of an element that stands here
abbrev pub FitsAbove : List Elem → Context → Option ℕ → Type 0
FitsAbove rows (Selected Track) row = row ≡ None
FitsAbove rows (Selected kind) row = (parent : ElemKind) × HasRow rows row parent × (may_hold parent kind ≡ true)
FitsAbove rows Connections row = HasRow rows row Topology
FitsAbove rows OcsElements row = Unit {0}
FitsAbove rows Signals row = Unit {0}
FitsAbove rows Signal row = Unit {0}
FitsAbove rows Skipped row = Unit {0}
FitsAbove rows context row = row ≡ None

either : (rows : List Elem) (row : Option ℕ) (test : Bool) (a b : Context) → FitsAbove rows a row → FitsAbove rows b row → FitsAbove rows (cond test a b) row
either rows row true a b h k = h
either rows row false a b h k = k

end_fits : (rows : List Elem) (row : Option ℕ) (name : List ℕ) (parent : ElemKind) → may_hold parent Connection ≡ true → may_hold parent OpenEnd ≡ true →
    may_hold parent BufferStop ≡ true → may_hold parent MacroNode ≡ true → HasRow rows row parent → FitsAbove rows (below_end name) row
end_fits rows row name parent a b c d h =
    either rows row (bytes_eq name (codes "connection")) _ _ (parent, h, a)
    (either rows row (bytes_eq name (codes "openEnd")) _ _ (parent, h, b)
    (either rows row (bytes_eq name (codes "bufferStop")) _ _ (parent, h, c)
    (either rows row (bytes_eq name (codes "macroscopicNode")) _ _ (parent, h, d) tt)))

selected_fits : (rows : List Elem) (row : Option ℕ) (name : List ℕ) (kind : ElemKind) → HasRow rows row kind → FitsAbove rows (below_selected kind name) row
selected_fits rows row name Track h = either rows row (bytes_eq name (codes "trackTopology")) _ _ (Track, h, refl)
    (either rows row (bytes_eq name (codes "ocsElements")) _ _ tt tt)
selected_fits rows row name Topology h =
    either rows row (bytes_eq name (codes "trackBegin")) _ _ (Topology, h, refl)
    (either rows row (bytes_eq name (codes "trackEnd")) _ _ (Topology, h, refl)
    (either rows row (bytes_eq name (codes "connections")) _ _ h tt))
selected_fits rows row name Begin h = end_fits rows row name Begin refl refl refl refl h
selected_fits rows row name End h = end_fits rows row name End refl refl refl refl h
selected_fits rows row name Switch h = either rows row (bytes_eq name (codes "connection")) _ _ (Switch, h, refl) tt
selected_fits rows row name Crossing h = either rows row (bytes_eq name (codes "connection")) _ _ (Crossing, h, refl) tt
selected_fits rows row name kind h = tt

below_fits : (rows : List Elem) (row : Option ℕ) (name : List ℕ) (context : Context) → FitsIn rows context row → FitsAbove rows (below context name) row
below_fits rows row name Outside h = either rows row (bytes_eq name (codes "railml")) _ _ h (either rows row (bytes_eq name (codes "infrastructure")) _ _ h tt)
below_fits rows row name Railml h = either rows row (bytes_eq name (codes "infrastructure")) _ _ h tt
below_fits rows row name Infrastructure h = either rows row (bytes_eq name (codes "tracks")) _ _ h tt
below_fits rows row name Tracks h = either rows row (bytes_eq name (codes "track")) _ _ h tt
below_fits rows row name Connections h =
    either rows row (bytes_eq name (codes "switch")) _ _ (Topology, h, refl)
    (either rows row (bytes_eq name (codes "crossing")) _ _ (Topology, h, refl) tt)
below_fits rows row name (Selected kind) h = selected_fits rows row name kind h
below_fits rows row name OcsElements h = either rows row (bytes_eq name (codes "signals")) _ _ tt tt
below_fits rows row name Signals h = either rows row (bytes_eq name (codes "signal")) _ _ tt tt
below_fits rows row name Signal h = tt
below_fits rows row name Skipped h = tt

row_more : (rows more : List Elem) (row : Option ℕ) (kind : ElemKind) → HasRow rows row kind → HasRow (rows ++ more) row kind
row_more rows more row kind h = record { number = h.number; elem = h.elem; is = h.is; at = get_front rows more h.number h.elem h.at; kind_is = h.kind_is }

fits_more : (rows more : List Elem) (context : Context) (row : Option ℕ) → FitsIn rows context row → FitsIn (rows ++ more) context row
fits_more rows more (Selected kind) row h = row_more rows more row kind h
fits_more rows more Connections row h = row_more rows more row Topology h
fits_more rows more OcsElements row h = tt
fits_more rows more Signals row h = tt
fits_more rows more Signal row h = tt
fits_more rows more Skipped row h = tt
fits_more rows more context row h = h

-- ---- the rows so far, all of them before this place

pub record IsFormedUpTo (s : State) (at : ℕ) : Type 0 where
  pub rising : (i j : ℕ) (a b : Elem) → i < j → slice_get s.rows i ≡ Some a → slice_get s.rows j ≡ Some b → a.at < b.at
  pub parents : (i : ℕ) (row : Elem) → slice_get s.rows i ≡ Some row → IsRowPlaced s.rows i row row.kind
  pub before : (i : ℕ) (row : Elem) → slice_get s.rows i ≡ Some row → row.at < at
  pub few : length s.rows ≤ at
  pub frames : (i : ℕ) (frame : Frame) → slice_get s.stack i ≡ Some frame → FitsIn s.rows frame.context frame.row

pub formed_start : (at : ℕ) → IsFormedUpTo start at
formed_start at = record {
  rising = λ i j a b lt e f. absurd cc;
  parents = λ i row e. absurd cc;
  before = λ i row e. absurd cc;
  few = omega arith;
  frames = λ i frame e. absurd cc;
}

pub formed_later : (s : State) (at next : ℕ) → at ≤ next → IsFormedUpTo s at → IsFormedUpTo s next
formed_later s at next le h = record {
  rising = h.rising;
  parents = h.parents;
  before = λ i row e. let lt = h.before i row e in omega arith;
  few = omega (arith, h.few);
  frames = h.frames;
}

-- ---- one tag more

placed_more : (rows more : List Elem) (i : ℕ) (row : Elem) (kind : ElemKind) → IsRowPlaced rows i row kind → IsRowPlaced (rows ++ more) i row kind
placed_more rows more i row Track h = h
placed_more rows more i row kind h = record {
  number = h.number;
  parent = h.parent;
  is = h.is;
  earlier = h.earlier;
  at = get_front rows more h.number h.parent h.at;
  holds = h.holds;
}

row_of : ElemKind → ℕ → Option ℕ → List Attr → Elem
row_of kind at row attrs = record { kind = kind; at = at; parent = row; attrs = attrs_read attrs }

has_parent : (rows more : List Elem) (row : Elem) (kind : ElemKind) → row.kind ≡ kind →
    (parent : ElemKind) × HasRow rows row.parent parent × (may_hold parent kind ≡ true) → HasParent (rows ++ more) (length rows) row
has_parent rows more row kind same h = record {
  number = h.1.number;
  parent = h.1.elem;
  is = h.1.is;
  earlier = slice_get_within rows h.1.number h.1.elem h.1.at;
  at = get_front rows more h.1.number h.1.elem h.1.at;
  holds = rw (h.1.kind_is, same) h.2;
}

new_placed : (rows : List Elem) (at : ℕ) (row : Option ℕ) (attrs : List Attr) (kind : ElemKind) → FitsAbove rows (Selected kind) row →
    IsRowPlaced (rows ++ row_of kind at row attrs ∷ []) (length rows) (row_of kind at row attrs) kind
unfolding row_of
new_placed rows at row attrs Track h = h
new_placed rows at row attrs kind h = has_parent rows (row_of kind at row attrs ∷ []) (row_of kind at row attrs) kind refl h

formed_row : (s : State) (at : ℕ) (kind : ElemKind) (row : Option ℕ) (name : List ℕ) (attrs : List Attr) (reached : Bool) → IsFormedUpTo s at →
    FitsAbove s.rows (Selected kind) row → IsFormedUpTo (record {
      stack = s.stack ++ record {
        name = name;
        context = Selected kind;
        row = Some (length s.rows);
      } ∷ [];
      rows = s.rows ++ row_of kind at row attrs ∷ [];
      reached = reached;
    }) (suc at)
unfolding row_of
formed_row s at kind row name attrs reached h above =
    let new = row_of kind at row attrs in
    let frame : Frame = record { name = name; context = Selected kind; row = Some (length s.rows) } in
    record {
      rising = λ i j a b lt e f. elim (get_pushed s.rows new j b f) [
        | inl old ↦
            let within = slice_get_within s.rows j b old in
            elim (get_pushed s.rows new i a e) [
              | inl earlier ↦ h.rising i j a b lt earlier old
              | inr same ↦ absurd (omega (arith, same.0, within, lt))
            ]
        | inr last ↦ elim (get_pushed s.rows new i a e) [
          | inl earlier ↦ let low = h.before i a earlier in let place : at ≡ b.at = ap (λ (x : Elem). x.at) last.1 in omega (arith, low, place)
          | inr same ↦ absurd (omega (arith, same.0, last.0, lt))
        ]
      ];
      parents = λ i r e. elim (get_pushed s.rows new i r e) [
        | inl old ↦ placed_more s.rows (new ∷ []) i r r.kind (h.parents i r old)
        | inr last ↦ subst (λ (x : Elem). IsRowPlaced (s.rows ++ new ∷ []) i x x.kind) last.1
            (subst (λ (k : ℕ). IsRowPlaced (s.rows ++ new ∷ []) k new kind) (sym last.0) (new_placed s.rows at row attrs kind above))
      ];
      before = λ i r e. elim (get_pushed s.rows new i r e) [
        | inl old ↦ let low = h.before i r old in omega arith
        | inr last ↦ let place : at ≡ r.at = ap (λ (x : Elem). x.at) last.1 in omega arith
      ];
      few = omega (arith, h.few, length-append s.rows (new ∷ []));
      frames = λ i f e. elim (get_pushed s.stack frame i f e) [
        | inl old ↦ fits_more s.rows (new ∷ []) f.context f.row (h.frames i f old)
        | inr last ↦ subst (λ (x : Frame). FitsIn (s.rows ++ new ∷ []) x.context x.row) last.1 (record {
          number = length s.rows;
          elem = new;
          is = refl;
          at = get_last s.rows new;
          kind_is = refl;
        })
      ];
    }

formed_frame : (s : State) (at : ℕ) (frame : Frame) (reached : Bool) → IsFormedUpTo s at → FitsIn s.rows frame.context frame.row →
    IsFormedUpTo (record { stack = s.stack ++ frame ∷ []; rows = s.rows ++ []; reached = reached }) (suc at)
formed_frame s at frame reached h fits =
    let same = append-nil s.rows in
    let k : IsFormedUpTo (record { stack = s.stack ++ frame ∷ []; rows = s.rows; reached = reached }) (suc at) = record {
      rising = h.rising;
      parents = h.parents;
      before = λ i r e. let low = h.before i r e in omega arith;
      few = omega (arith, h.few);
      frames = λ i f e. elim (get_pushed s.stack frame i f e) [
        | inl old ↦ h.frames i f old
        | inr last ↦ subst (λ (x : Frame). FitsIn s.rows x.context x.row) last.1 fits
      ];
    } in
    subst (λ (r : List Elem). IsFormedUpTo (record { stack = s.stack ++ frame ∷ []; rows = r; reached = reached }) (suc at)) (sym same) k

-- an element opens that stands here
formed_here : (s : State) (at : ℕ) (here : Context) (row : Option ℕ) (name : List ℕ) (attrs : List Attr) (reached : Bool) → IsFormedUpTo s at →
    FitsAbove s.rows here row → IsFormedUpTo (record {
      stack = s.stack ++ record {
        name = name;
        context = here;
        row = nearest here (length s.rows) row;
      } ∷ [];
      rows = s.rows ++ own_row here at attrs row;
      reached = reached;
    }) (suc at)
unfolding row_of
formed_here s at (Selected kind) row name attrs reached h above = formed_row s at kind row name attrs reached h above
formed_here s at Connections row name attrs reached h above = formed_frame s at (record { name = name; context = Connections; row = row }) reached h above
formed_here s at OcsElements row name attrs reached h above = formed_frame s at (record { name = name; context = OcsElements; row = row }) reached h tt
formed_here s at Signals row name attrs reached h above = formed_frame s at (record { name = name; context = Signals; row = row }) reached h tt
formed_here s at Signal row name attrs reached h above = formed_frame s at (record { name = name; context = Signal; row = row }) reached h tt
formed_here s at Skipped row name attrs reached h above = formed_frame s at (record { name = name; context = Skipped; row = row }) reached h tt
formed_here s at here row name attrs reached h above = formed_frame s at (record { name = name; context = here; row = row }) reached h above

top_fits : (s : State) (at : ℕ) (o : Option Frame) → top_frame s.stack ≡ o → IsFormedUpTo s at → FitsIn s.rows (context_in o) (row_in o)
top_fits s at None e h = refl
top_fits s at (Some frame) e h = h.frames (length s.stack - 1) frame e

formed_opening : (s : State) (at : ℕ) (name : List ℕ) (attrs : List Attr) → IsFormedUpTo s at → IsFormedUpTo (after_tag s (opens at name attrs)) (suc at)
formed_opening s at name attrs h =
    let context = context_in (top_frame s.stack) in
    let row = row_in (top_frame s.stack) in
    formed_here s at (below context name) row name attrs (s.reached || is_infrastructure (below context name)) h
    (below_fits s.rows row name context (top_fits s at (top_frame s.stack) refl h))

formed_closing : (s : State) (at : ℕ) (name : List ℕ) → IsFormedUpTo s at → IsFormedUpTo (after_tag s (closes name)) at
formed_closing s at name h = record {
  rising = h.rising;
  parents = h.parents;
  before = h.before;
  few = h.few;
  frames = λ i f e. h.frames i f (get_taken (length s.stack - 1) s.stack i f e);
}

pub formed_item : (s : State) (at next : ℕ) (kind : ItemKind) → at < next → IsFormedUpTo s at → IsFormedUpTo (fold after_tag s (tags_at at kind)) next
formed_item s at next (kinds.Start name attrs true) lt h = formed_later _ (suc at) next lt
    (formed_closing (after_tag s (opens at name attrs)) (suc at) name (formed_opening s at name attrs h))
formed_item s at next (kinds.Start name attrs false) lt h = formed_later _ (suc at) next lt (formed_opening s at name attrs h)
formed_item s at next (kinds.EndTag name) lt h = formed_later _ at next (omega arith) (formed_closing s at name h)
formed_item s at next kind lt h = formed_later s at next (omega arith) h

pub all_formed : (s : State) (at : ℕ) → at ≤ MAX_FILE_BYTES → IsFormedUpTo s at → AreFormed s.rows
all_formed s at few h = record { rising = h.rising; parents = h.parents; few = omega (arith, h.few) }
