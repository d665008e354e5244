-- Each element of a resolved topology is that of a row of its own.
use Rattle.std.proofs.Common.{◌≡◌, ◌≢◌, ◌⊎◌, ℕ, suc, ◌≤◌, Bool, true, false, cond, Option, Some, None, List, [], ◌∷◌, ◌++◌, map, get_or, slice_get, refl, sym}
use Rattle.std.proofs.Common.{ap, ◌∙◌, subst, inl, inr, arith}
use Rattle.std.specs.List.{AllByRecursion, AllPairs, AllZip, flat_map}
use Rattle.std.specs.Option.{option_map_or, unwrap_or, option_to_list}
use Rattle.std.proofs.lemmas.List.{append-nil}
use Rattle.std.proofs.lemmas.List.Elements.{recursion_from_All}
use Rattle.std.proofs.lemmas.List.Concat.{flat_map-append}
use Rattle.std.proofs.lemmas.List.Folds.{flat_map-map}
use Rattle.railml_faults.proofs.IdLemmas.{one_row}
use Rattle.plan_core.specs.declared.topology.Topology.{Topology}
use Rattle.plan_core.specs.declared.topology.Track.{Track as TrackOf}
use Rattle.plan_core.specs.declared.topology.End.{End as EndOf}
use Rattle.plan_core.specs.declared.topology.Inner.{Inner}
use Rattle.plan_core.specs.declared.topology.InnerKind.{InnerKind}
use Rattle.plan_core.specs.declared.topology.InnerKind.TheVariants as inners
use Rattle.plan_core.specs.declared.topology.Conn.{Conn}
use Rattle.plan_core.specs.Topology.{Element, conn_element, end_element, inner_element, track_element, connections, end_elements, inner_elements}
use Rattle.plan_core.specs.Topology.{track_elements, elements}
use Rattle.railml_read.specs.declared.rows.Elem.{Elem}
use Rattle.railml_read.specs.declared.rows.ElemKind.{ElemKind}
use Rattle.railml_read.specs.declared.rows.ElemKind.TheVariants.{Track, Topology as TopologyKind, Begin, End, Switch, Crossing, Connection}
use Rattle.railml_read.specs.Formed.{AreFormed}
use Rattle.railml_faults.specs.Rows.{same_kind, numbers_from, track_rows, is_of_kind, children, bears_id, id_of}
use Rattle.railml_faults.proofs.Apart.{Apart, all_more, all_both, all_joined, stands_joined, stands_from_pairs, stands_weaker, Among, all_among, Covers}
use Rattle.railml_faults.proofs.Apart.{covers_weaker, covers_groups}
use Rattle.railml_faults.proofs.Family.{among_from_contains, contains_from_among, same_kind_is, is_of_its_kind, numbered, IsChild, child, only_child}
use Rattle.railml_topology.specs.declared.layout.Layout.{Layout}
use Rattle.railml_topology.specs.Resolved.{StandsBefore, IsLayout, AreLayouts, way_word, HasWay, IsWayOf, IsConnOf, IsJoinedAs, IsTrackEndOf, IsInnerKindOf}
use Rattle.railml_topology.specs.Resolved.{IsInnerOf, IsTrackOf}
use Rattle.railml_topology.proofs.PositionLemmas.{before_differs}
use Rattle.railml_topology.proofs.Zips.{zip_joined, zip_keyed}

-- ---- up from a row

-- a row bears an id
pub record Bears (rows : List Elem) (k : ℕ) : Type 0 where
  pub row : Elem
  pub is : slice_get rows k ≡ Some row
  pub bears : bears_id row.kind ≡ true

-- the id and the place of row k
abbrev pub element_of : List Elem → ℕ → Element
element_of rows k = option_map_or (λ (row : Elem). record { id = id_of row; at = row.at }) (slice_get rows k) (record { id = []; at = 0 })

-- the number of the row that holds row k, or its own where none does
abbrev pub up : List Elem → ℕ → ℕ
up rows k = option_map_or (λ (row : Elem). unwrap_or row.parent k) (slice_get rows k) k

-- the row that a row stands by: of a connection the one that holds it, of another itself
abbrev pub stand : List Elem → ℕ → ℕ
stand rows k = cond (is_of_kind rows Connection k) (up rows k) k

-- the track of a row
abbrev pub home : List Elem → ℕ → ℕ
home rows k = up rows (up rows (up rows k))

pub element_is : (rows : List Elem) (k : ℕ) (row : Elem) (id : List ℕ) (at : ℕ) → slice_get rows k ≡ Some row → row.attrs.id ≡ Some id → row.at ≡ at →
    element_of rows k ≡ record { id = id; at = at }
element_is rows k row id at is has place = rw (is, has, place) refl

pub up_child : (rows : List Elem) (i k : ℕ) (kind : ElemKind) → IsChild rows i kind k → up rows k ≡ i
up_child rows i k kind c = let is = c.is in let p = c.parent_is in rw (is, p) refl

pub up_track : (rows : List Elem) → AreFormed rows → (k : ℕ) (row : Elem) → slice_get rows k ≡ Some row → row.kind ≡ Track → up rows k ≡ k
up_track rows formed k row is kind_is =
    let placed = formed.parents k row is in
    let none : row.parent ≡ None = (rw kind_is at placed) in
    rw (is, none) refl

pub stand_connection : (rows : List Elem) (i k : ℕ) → IsChild rows i Connection k → stand rows k ≡ i
stand_connection rows i k c =
    let a : is_of_kind rows Connection k ≡ true = subst (λ (v : ElemKind). is_of_kind rows v k ≡ true) c.kind_is (is_of_its_kind rows k c.row c.is) in
    rw a (up_child rows i k Connection c)

pub kind_tested : (rows : List Elem) (k : ℕ) (row : Elem) (kind : ElemKind) → slice_get rows k ≡ Some row → is_of_kind rows kind k ≡ same_kind row.kind kind
kind_tested rows k row kind is = rw is refl

pub stand_other : (rows : List Elem) (k : ℕ) (row : Elem) → slice_get rows k ≡ Some row → same_kind row.kind Connection ≡ false → stand rows k ≡ k
stand_other rows k row is other = let e : is_of_kind rows Connection k ≡ false = kind_tested rows k row Connection is ∙ other in rw e refl

-- rows of two kinds differ
pub kinds_differ : (rows : List Elem) (i j : ℕ) (a b : Elem) → slice_get rows i ≡ Some a → slice_get rows j ≡ Some b → a.kind ≢ b.kind → i ≢ j
kinds_differ rows i j a b is_a is_b differ same = differ (ap (λ (v : Elem). v.kind) (one_row rows i a b is_a (ap (slice_get rows) same ∙ is_b)))

-- ---- a row with its connections

all_children_stand : (rows : List Elem) (i : ℕ) (ks : List ℕ) → AllByRecursion (IsChild rows i Connection) ks →
    AllByRecursion (λ k. Bears rows k × (stand rows k ≡ i)) ks
all_children_stand rows i ks h = all_more (IsChild rows i Connection) (λ k. Bears rows k × (stand rows k ≡ i)) (λ k c. (
  record {
    row = c.row;
    is = c.is;
    bears = ap bears_id c.kind_is;
  },
  stand_connection rows i k c,
)) ks h

-- the number of a row that is no connection differs from those of its connections
apart_from_children : (rows : List Elem) (i : ℕ) (row : Elem) (ks : List ℕ) → slice_get rows i ≡ Some row → same_kind row.kind Connection ≡ false →
    AllByRecursion (IsChild rows i Connection) ks → AllByRecursion (λ k. i ≢ k) ks
apart_from_children rows i row ks is other h = all_more (IsChild rows i Connection) (λ k. i ≢ k)
    (λ k c. kinds_differ rows i k row c.row is c.is (λ e. absurd (let t : same_kind Connection Connection ≡ false = subst
    (λ (v : ElemKind). same_kind v Connection ≡ false) (e ∙ c.kind_is) other in cc))) ks h

pub group : (rows : List Elem) (i : ℕ) (row : Elem) (ks : List ℕ) (es : List Element) → slice_get rows i ≡ Some row → bears_id row.kind ≡ true →
    same_kind row.kind Connection ≡ false → AllByRecursion (IsChild rows i Connection) ks → Apart ks → es ≡ map (element_of rows) (i ∷ ks) →
    Covers (element_of rows) (λ k. Bears rows k × (stand rows k ≡ i)) es
group rows i row ks es is bears other h apart same = record {
  ks = i ∷ ks;
  same = same;
  good = ((record { row = row; is = is; bears = bears }, stand_other rows i row is other), all_children_stand rows i ks h);
  apart = (apart_from_children rows i row ks is other h, apart);
}

-- ---- begins and ends, switches and crossings

pub conn_element_is : (rows : List Elem) (layouts : List Layout) (k : ℕ) (c : Conn) → IsConnOf rows layouts k c → conn_element c ≡ element_of rows k
conn_element_is rows layouts k c h = sym (element_is rows k h.row c.id c.at h.is h.id h.at)

one_child_apart : (k : ℕ) → Apart (k ∷ [])
one_child_apart k = (tt, tt)

pub end_group : (rows : List Elem) (layouts : List Layout) (begin : Elem) (i : ℕ) (e : EndOf) → IsTrackEndOf rows layouts begin i e → (row : Elem) →
    slice_get rows i ≡ Some row → bears_id row.kind ≡ true → same_kind row.kind Connection ≡ false →
    Covers (element_of rows) (λ k. Bears rows k × (stand rows k ≡ i)) (end_elements e)
end_group rows layouts begin i e h row is bears other = choose e.joined refl h.joined
  where
    own : end_element e ≡ element_of rows i
    own = sym (element_is rows i h.row e.id e.at h.is h.id h.at)

    whole : (ks : List ℕ) (o : Option Conn) → e.joined ≡ o → map conn_element (option_to_list o) ≡ map (element_of rows) ks →
        end_elements e ≡ map (element_of rows) (i ∷ ks)
    whole ks o at same = ap (λ (v : Option Conn). end_element e ∷ map conn_element (option_to_list v)) at
        ∙ (ap (λ (v : List Element). end_element e ∷ v) same ∙ ap (λ (v : Element). v ∷ map (element_of rows) ks) own)

    choose : (o : Option Conn) → e.joined ≡ o → IsJoinedAs rows layouts i o → Covers (element_of rows) (λ k. Bears rows k × (stand rows k ≡ i)) (end_elements e)
    choose None at j = group rows i row [] (end_elements e) is bears other tt tt (whole [] None at refl)
    choose (Some c) at (k, only, conn) =
        group rows i row (k ∷ []) (end_elements e) is bears other (only_child rows i Connection k only, tt) (one_child_apart k)
        (whole (k ∷ []) (Some c) at (ap (λ (v : Element). v ∷ []) (conn_element_is rows layouts k c conn)))

pub way_words_differ : Some (way_word false) ≡ Some (way_word true) → ⊥
way_words_differ e = let first : ◌≡◌ {A = ℕ} 105 111 = ap (λ (v : Option (List ℕ)). get_or (unwrap_or v []) 0 0) e in omega arith

ways_differ : (rows : List Elem) (i j : ℕ) → HasWay rows i false → HasWay rows j true → i ≢ j
ways_differ rows i j a b same =
    let rows_same : a.row ≡ b.row = one_row rows i a.row b.row a.is (ap (slice_get rows) same ∙ b.is) in
    way_words_differ (sym a.way ∙ (ap (λ (v : Elem). v.attrs.orientation) rows_same ∙ b.way))

pub way_child : (rows : List Elem) (crossing k : ℕ) (outgoing : Bool) → IsWayOf rows crossing outgoing k → IsChild rows crossing Connection k
way_child rows crossing k outgoing w = child rows crossing Connection k (among_from_contains (children rows crossing Connection) k w.among)

pub inner_group : (rows : List Elem) (layouts : List Layout) (begin : Elem) (i : ℕ) (x : Inner) → IsInnerOf rows layouts begin i x → (row : Elem) →
    slice_get rows i ≡ Some row → bears_id row.kind ≡ true → same_kind row.kind Connection ≡ false →
    Covers (element_of rows) (λ k. Bears rows k × (stand rows k ≡ i)) (inner_elements x)
inner_group rows layouts begin i x h row is bears other = choose x.what refl h.what
  where
    own : inner_element x ≡ element_of rows i
    own = sym (element_is rows i h.row x.id x.at h.is h.id h.at)

    whole : (ks : List ℕ) (w : InnerKind) → x.what ≡ w → map conn_element (connections w) ≡ map (element_of rows) ks → inner_elements x ≡ map (element_of rows)
        (i ∷ ks)
    whole ks w at same = ap (λ (v : InnerKind). inner_element x ∷ map conn_element (connections v)) at
        ∙ (ap (λ (v : List Element). inner_element x ∷ v) same ∙ ap (λ (v : Element). v ∷ map (element_of rows) ks) own)

    choose : (w : InnerKind) → x.what ≡ w → IsInnerKindOf rows layouts i h.row w →
        Covers (element_of rows) (λ k. Bears rows k × (stand rows k ≡ i)) (inner_elements x)
    choose (inners.Switch outgoing hand diverges c) at s =
        group rows i row (s.number ∷ []) (inner_elements x) is bears other (only_child rows i Connection s.number s.is_branch.only, tt)
        (one_child_apart s.number)
        (whole (s.number ∷ []) (inners.Switch outgoing hand diverges c) at (ap (λ (v : Element). v ∷ []) (conn_element_is rows layouts s.number c s.conn)))
    choose (inners.Crossing hand incoming outgoing) at s =
        group rows i row (s.coming ∷ s.leaving ∷ []) (inner_elements x) is bears other
        (way_child rows i s.coming false s.is_coming, (way_child rows i s.leaving true s.is_leaving, tt))
        ((ways_differ rows s.coming s.leaving s.is_coming.way s.is_leaving.way, tt), (tt, tt))
        (whole (s.coming ∷ s.leaving ∷ []) (inners.Crossing hand incoming outgoing) at
        (ap (λ (v : Element). v ∷ conn_element outgoing ∷ []) (conn_element_is rows layouts s.coming incoming s.coming_conn)
        ∙ ap (λ (v : Element). element_of rows s.coming ∷ v ∷ []) (conn_element_is rows layouts s.leaving outgoing s.leaving_conn)))

-- ---- the rows of a track

-- the rows of a layout, each a child of the right kind
pub record Laid (rows : List Elem) (l : Layout) : Type 0 where
  pub track : Elem
  pub is_track : slice_get rows l.track ≡ Some track
  pub track_kind : track.kind ≡ Track
  pub topology : IsChild rows l.track TopologyKind l.topology
  pub begin : IsChild rows l.topology Begin l.begin
  pub end : IsChild rows l.topology End l.end
  pub inner : AllByRecursion (λ i. IsChild rows l.topology Switch i ⊎ IsChild rows l.topology Crossing i) l.inner

pub all_that_among : (P : ℕ → Type 0) (xs : List ℕ) → ((x : ℕ) → Among xs x → P x) → AllByRecursion P xs
all_that_among P [] h = tt
all_that_among P (x ∷ xs) h = (h x (inl refl), all_that_among P xs (λ y a. h y (inr a)))

pub laid : (rows : List Elem) (l : Layout) (track : Elem) → slice_get rows l.track ≡ Some track → track.kind ≡ Track → IsLayout rows l → Laid rows l
laid rows l track is kind_is h = record {
  track = track;
  is_track = is;
  track_kind = kind_is;
  topology = only_child rows l.track TopologyKind l.topology h.one_topology;
  begin = only_child rows l.topology Begin l.begin h.one_begin;
  end = only_child rows l.topology End l.end h.one_end;
  inner = all_that_among (λ i. IsChild rows l.topology Switch i ⊎ IsChild rows l.topology Crossing i) l.inner
      (λ i a. elim ((h.between.all i).0 (contains_from_among l.inner i a)) [
        | inl s ↦ inl (child rows l.topology Switch i (among_from_contains (children rows l.topology Switch) i s))
        | inr x ↦ inr (child rows l.topology Crossing i (among_from_contains (children rows l.topology Crossing) i x))
      ]);
}

-- the rows of a track that others stand by
abbrev pub stands_of : Layout → List ℕ
stands_of l = l.track ∷ l.begin ∷ (l.inner ++ l.end ∷ [])

-- a row of another kind
pub record IsOther (rows : List Elem) (kind : ElemKind) (k : ℕ) : Type 0 where
  pub row : Elem
  pub is : slice_get rows k ≡ Some row
  pub other : kind ≢ row.kind

others_differ : (rows : List Elem) (i : ℕ) (row : Elem) (kind : ElemKind) → slice_get rows i ≡ Some row → row.kind ≡ kind → (ks : List ℕ) →
    AllByRecursion (IsOther rows kind) ks → AllByRecursion (λ k. i ≢ k) ks
others_differ rows i row kind is kind_is ks h = all_more (IsOther rows kind) (λ k. i ≢ k)
    (λ k o. kinds_differ rows i k row o.row is o.is (λ e. o.other (sym kind_is ∙ e))) ks h

other_child : (rows : List Elem) (i : ℕ) (kind mine : ElemKind) (k : ℕ) → mine ≢ kind → IsChild rows i kind k → IsOther rows mine k
other_child rows i kind mine k differ c = record { row = c.row; is = c.is; other = (λ e. differ (e ∙ c.kind_is)) }

inner_others : (rows : List Elem) (l : Layout) (mine : ElemKind) → mine ≢ Switch → mine ≢ Crossing → Laid rows l → AllByRecursion (IsOther rows mine) l.inner
inner_others rows l mine switch crossing h =
    all_more (λ i. IsChild rows l.topology Switch i ⊎ IsChild rows l.topology Crossing i) (IsOther rows mine)
    (λ i c. elim c [ inl s ↦ other_child rows l.topology Switch mine i switch s | inr x ↦ other_child rows l.topology Crossing mine i crossing x ]) l.inner
    h.inner

pub stands_apart : (rows : List Elem) (l : Layout) → Laid rows l → AllPairs (StandsBefore rows) l.inner → Apart (stands_of l)
stands_apart rows l h ordered =
    let end_differs = λ (mine : ElemKind) (differ : mine ≢ End). other_child rows l.topology End mine l.end differ h.end in
    let inner_apart : Apart l.inner = stands_weaker (StandsBefore rows) (λ (i j : ℕ). i ≢ j) (before_differs rows) l.inner
    (stands_from_pairs (StandsBefore rows) l.inner ordered) in
    let inner_end : AllByRecursion (λ i. AllByRecursion (λ k. i ≢ k) (l.end ∷ [])) l.inner =
    all_more (IsOther rows End) (λ i. AllByRecursion (λ k. i ≢ k) (l.end ∷ []))
    (λ i o. ((λ e. kinds_differ rows l.end i h.end.row o.row h.end.is o.is (λ f. o.other (sym h.end.kind_is ∙ f)) (sym e)), tt)) l.inner
    (inner_others rows l End (λ e. cc) (λ e. cc) h) in
    let between : Apart (l.inner ++ l.end ∷ []) = stands_joined (λ (i j : ℕ). i ≢ j) l.inner (l.end ∷ []) inner_apart (one_child_apart l.end) inner_end in
    let others = λ (mine : ElemKind) (a : mine ≢ Switch) (b : mine ≢ Crossing) (c : mine ≢ End).
    all_joined (IsOther rows mine) l.inner (l.end ∷ []) (inner_others rows l mine a b h) (end_differs mine c, tt) in (
      others_differ rows l.track h.track Track h.is_track h.track_kind (l.begin ∷ (l.inner ++ l.end ∷ []))
          (other_child rows l.topology Begin Track l.begin (λ e. cc) h.begin, others Track (λ e. cc) (λ e. cc) (λ e. cc)),
      (
        others_differ rows l.begin h.begin.row Begin h.begin.is h.begin.kind_is (l.inner ++ l.end ∷ []) (others Begin (λ e. cc) (λ e. cc) (λ e. cc)),
        between,
      ),
    )

-- the elements of a track, each group by the row that it stands by
abbrev pub groups : TrackOf → List (List Element)
groups track = (track_element track ∷ []) ∷ end_elements track.begin ∷ (map inner_elements track.inner ++ end_elements track.end ∷ [])

groups-join : (track : TrackOf) → flat_map (λ (v : List Element). v) (groups track) ≡ track_elements track
groups-join track =
    let inner : flat_map (λ (v : List Element). v) (map inner_elements track.inner ++ end_elements track.end ∷ []) ≡ flat_map inner_elements track.inner
    ++ end_elements track.end =
    flat_map-append (λ (v : List Element). v) (map inner_elements track.inner) (end_elements track.end ∷ [])
    ∙ (ap (λ (v : List Element). v ++ (end_elements track.end ++ [])) (flat_map-map (λ (v : List Element). v) inner_elements track.inner)
    ∙ ap (λ (v : List Element). flat_map inner_elements track.inner ++ v) (append-nil (end_elements track.end))) in
    ap (λ (v : List Element). track_element track ∷ (end_elements track.begin ++ v)) inner

inner_groups : (rows : List Elem) (layouts : List Layout) (begin : Elem) (topology : ℕ) (is : List ℕ) (xs : List Inner) →
    AllByRecursion (λ i. IsChild rows topology Switch i ⊎ IsChild rows topology Crossing i) is → AllZip (IsInnerOf rows layouts begin) is xs →
    AllZip (λ i es. Covers (element_of rows) (λ k. Bears rows k × (stand rows k ≡ i)) es) is (map inner_elements xs)
inner_groups rows layouts begin topology [] [] c h = tt
inner_groups rows layouts begin topology [] (x ∷ xs) c h = absurd h
inner_groups rows layouts begin topology (i ∷ is) [] c h = absurd h
inner_groups rows layouts begin topology (i ∷ is) (x ∷ xs) c h = (
  elim c.0 [
    | inl s ↦ inner_group rows layouts begin i x h.0 s.row s.is (ap bears_id s.kind_is) (ap (λ (v : ElemKind). same_kind v Connection) s.kind_is)
    | inr s ↦ inner_group rows layouts begin i x h.0 s.row s.is (ap bears_id s.kind_is) (ap (λ (v : ElemKind). same_kind v Connection) s.kind_is)
  ],
  inner_groups rows layouts begin topology is xs c.1 h.1,
)

track_group : (rows : List Elem) (layouts : List Layout) (l : Layout) (track : TrackOf) → Laid rows l → IsTrackOf rows layouts l track →
    AllZip (λ i es. Covers (element_of rows) (λ k. Bears rows k × (stand rows k ≡ i)) es) (stands_of l) (groups track)
track_group rows layouts l track d h = (
  group rows l.track d.track [] (track_element track ∷ []) d.is_track (ap bears_id d.track_kind) (ap (λ (v : ElemKind). same_kind v Connection) d.track_kind) tt
      tt
      (ap (λ (v : Element). v ∷ []) (sym (element_is rows l.track h.row track.id track.at h.is h.id h.at))),
  (
    end_group rows layouts h.begin_row l.begin track.begin h.begin d.begin.row d.begin.is (ap bears_id d.begin.kind_is)
        (ap (λ (v : ElemKind). same_kind v Connection) d.begin.kind_is),
    zip_joined (λ i es. Covers (element_of rows) (λ k. Bears rows k × (stand rows k ≡ i)) es) l.inner (l.end ∷ []) (map inner_elements track.inner)
        (end_elements track.end ∷ [])
        (inner_groups rows layouts h.begin_row l.topology l.inner track.inner d.inner h.inner) (
          end_group rows layouts h.begin_row l.end track.end h.end d.end.row d.end.is (ap bears_id d.end.kind_is)
              (ap (λ (v : ElemKind). same_kind v Connection) d.end.kind_is),
          tt,
        ),
  ),
)

-- two and three steps up from what others stand by is the track
pub record IsHomeOf (rows : List Elem) (track s : ℕ) : Type 0 where
  pub two : up rows (up rows s) ≡ track
  pub three : up rows (up rows (up rows s)) ≡ track

pub home_of_track : (rows : List Elem) → AreFormed rows → (l : Layout) → Laid rows l → IsHomeOf rows l.track l.track
home_of_track rows formed l d =
    let one = up_track rows formed l.track d.track d.is_track d.track_kind in
    record { two = ap (up rows) one ∙ one; three = ap (λ k. up rows (up rows k)) one ∙ (ap (up rows) one ∙ one) }

pub home_of_child : (rows : List Elem) → AreFormed rows → (l : Layout) → Laid rows l → (kind : ElemKind) (s : ℕ) → IsChild rows l.topology kind s →
    IsHomeOf rows l.track s
home_of_child rows formed l d kind s c =
    let one : up rows l.track ≡ l.track = up_track rows formed l.track d.track d.is_track d.track_kind in
    let two : up rows (up rows s) ≡ l.track = ap (up rows) (up_child rows l.topology s kind c) ∙ up_child rows l.track l.topology TopologyKind d.topology in
    record { two = two; three = ap (up rows) two ∙ one }

pub stands_home : (rows : List Elem) → AreFormed rows → (l : Layout) → Laid rows l → AllByRecursion (IsHomeOf rows l.track) (stands_of l)
stands_home rows formed l d = (
  home_of_track rows formed l d,
  (
    home_of_child rows formed l d Begin l.begin d.begin,
    all_joined (IsHomeOf rows l.track) l.inner (l.end ∷ [])
        (all_more (λ i. IsChild rows l.topology Switch i ⊎ IsChild rows l.topology Crossing i) (IsHomeOf rows l.track)
        (λ i c. elim c [ inl s ↦ home_of_child rows formed l d Switch i s | inr s ↦ home_of_child rows formed l d Crossing i s ]) l.inner d.inner)
        (home_of_child rows formed l d End l.end d.end, tt),
  ),
)

home_from_stand : (rows : List Elem) (track k : ℕ) → IsHomeOf rows track (stand rows k) → home rows k ≡ track
home_from_stand rows track k h = choose (is_of_kind rows Connection k) refl
  where
    choose : (v : Bool) → is_of_kind rows Connection k ≡ v → home rows k ≡ track
    choose true e = let s : stand rows k ≡ up rows k = rw e refl in ap (λ n. up rows (up rows n)) (sym s) ∙ h.two
    choose false e = let s : stand rows k ≡ k = rw e refl in ap (λ n. up rows (up rows (up rows n))) (sym s) ∙ h.three

pub track_covers : (rows : List Elem) (layouts : List Layout) → AreFormed rows → (l : Layout) (track : TrackOf) → Laid rows l →
    AllPairs (StandsBefore rows) l.inner → IsTrackOf rows layouts l track →
    Covers (element_of rows) (λ k. Bears rows k × (home rows k ≡ l.track)) (track_elements track)
track_covers rows layouts formed l track d ordered h =
    let all = covers_groups (element_of rows) (stand rows) (Bears rows) (λ (v : List Element). v) (stands_of l) (groups track)
    (track_group rows layouts l track d h) (stands_apart rows l d ordered) in
    let whole : Covers (element_of rows) (λ k. Bears rows k × Among (stands_of l) (stand rows k)) (track_elements track) =
    subst (λ (v : List Element). Covers (element_of rows) (λ k. Bears rows k × Among (stands_of l) (stand rows k)) v) (groups-join track) all in
    covers_weaker (element_of rows) (λ k. Bears rows k × Among (stands_of l) (stand rows k)) (λ k. Bears rows k × (home rows k ≡ l.track))
    (track_elements track)
    (λ k g. (g.0, home_from_stand rows l.track k (all_among (IsHomeOf rows l.track) (stands_of l) (stand rows k) (stands_home rows formed l d) g.1))) whole

-- ---- all tracks

above : (p : Elem → Bool) (n m : ℕ) (rows : List Elem) → n ≤ m → AllByRecursion (λ k. n ≤ k) (numbers_from p m rows)
above p n m [] h = tt
above p n m (row ∷ rows) h = choose (p row) (above p n (suc m) rows (omega arith))
  where
    choose : (v : Bool) → AllByRecursion (λ k. n ≤ k) (numbers_from p (suc m) rows) →
        AllByRecursion (λ k. n ≤ k) (cond v (m ∷ numbers_from p (suc m) rows) (numbers_from p (suc m) rows))
    choose true rest = (h, rest)
    choose false rest = rest

pub numbers_apart : (p : Elem → Bool) (n : ℕ) (rows : List Elem) → Apart (numbers_from p n rows)
numbers_apart p n [] = tt
numbers_apart p n (row ∷ rows) = choose (p row) (numbers_apart p (suc n) rows)
  where
    later : AllByRecursion (λ k. n ≢ k) (numbers_from p (suc n) rows)
    later = all_more (λ k. suc n ≤ k) (λ k. n ≢ k) (λ k h. (λ (same : n ≡ k). omega arith)) (numbers_from p (suc n) rows)
        (above p (suc n) (suc n) rows (omega arith))

    choose : (v : Bool) → Apart (numbers_from p (suc n) rows) → Apart (cond v (n ∷ numbers_from p (suc n) rows) (numbers_from p (suc n) rows))
    choose true rest = (later, rest)
    choose false rest = rest

pub track_rows_kind : (rows : List Elem) (k : ℕ) → Among (track_rows rows) k → (row : Elem) × (slice_get rows k ≡ Some row) × (row.kind ≡ Track)
track_rows_kind rows k a =
    let (j, e, h) = numbered (λ (row : Elem). same_kind row.kind Track) 0 rows k a in
    let place : k ≡ j = omega arith in
    (h.row, ap (slice_get rows) place ∙ h.is, same_kind_is h.row.kind Track h.passes)

mapped_among : {A : Type 0} (f : A → ℕ) (xs : List A) → AllByRecursion (λ x. Among (map f xs) (f x)) xs
mapped_among f [] = tt
mapped_among f (x ∷ xs) = (inl refl, all_more (λ y. Among (map f xs) (f y)) (λ y. Among (map f (x ∷ xs)) (f y)) (λ y a. inr a) xs (mapped_among f xs))

-- what is known of each layout
pub record IsSet (rows : List Elem) (l : Layout) : Type 0 where
  pub laid_down : Laid rows l
  pub ordered : AllPairs (StandsBefore rows) l.inner

pub all_laid : (rows : List Elem) (layouts : List Layout) → AreLayouts rows layouts → AllByRecursion (IsSet rows) layouts
all_laid rows layouts h =
    let tracks : AllByRecursion (λ (l : Layout). Among (track_rows rows) l.track) layouts =
    subst (λ (v : List ℕ). AllByRecursion (λ (l : Layout). Among v l.track) layouts) h.tracks (mapped_among (λ (l : Layout). l.track) layouts) in
    all_more (λ (l : Layout). Among (track_rows rows) l.track × IsLayout rows l) (IsSet rows)
    (λ l f. (let (row, is, kind_is) = track_rows_kind rows l.track f.0 in record { laid_down = laid rows l row is kind_is f.1; ordered = f.1.between.ordered }))
    layouts (all_both (λ (l : Layout). Among (track_rows rows) l.track) (IsLayout rows) layouts tracks (recursion_from_All (IsLayout rows) layouts h.each))

pub layouts_apart : (rows : List Elem) (layouts : List Layout) → AreLayouts rows layouts → Apart (map (λ (l : Layout). l.track) layouts)
layouts_apart rows layouts h = subst Apart (sym h.tracks) (numbers_apart (λ (row : Elem). same_kind row.kind Track) 0 rows)

pub covered : (rows : List Elem) (layouts : List Layout) (t : Topology) → AreFormed rows → AreLayouts rows layouts →
    AllZip (IsTrackOf rows layouts) layouts t.tracks → Covers (element_of rows) (Bears rows) (elements t)
covered rows layouts t formed h tracks =
    let each : AllZip (λ s track. Covers (element_of rows) (λ k. Bears rows k × (home rows k ≡ s)) (track_elements track))
    (map (λ (l : Layout). l.track) layouts) t.tracks =
    zip_keyed (IsSet rows) (IsTrackOf rows layouts) (λ s track. Covers (element_of rows) (λ k. Bears rows k × (home rows k ≡ s)) (track_elements track))
    (λ (l : Layout). l.track)
    (λ l track s of. track_covers rows layouts formed l track s.laid_down s.ordered of) layouts t.tracks (all_laid rows layouts h) tracks in
    covers_weaker (element_of rows) (λ k. Bears rows k × Among (map (λ (l : Layout). l.track) layouts) (home rows k)) (Bears rows) (elements t) (λ k g. g.0)
    (covers_groups (element_of rows) (home rows) (Bears rows) track_elements (map (λ (l : Layout). l.track) layouts) t.tracks each
    (layouts_apart rows layouts h))
