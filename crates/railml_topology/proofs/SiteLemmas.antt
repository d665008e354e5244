-- What the rows and tables that a topology is built from say of its connections.
use Rattle.std.proofs.Common.{◌≡◌, ◌⊎◌, ℕ, suc, zero, ◌<◌, Bool, true, false, Option, Some, None, List, [], ◌∷◌, length, map, get_or, slice_get, refl, sym, ap}
use Rattle.std.proofs.Common.{◌∙◌, subst, inl, inr, zero-add}
use Rattle.std.specs.List.{Contains, filter}
use Rattle.std.proofs.lemmas.List.Elements.{recursion_from_All}
use Rattle.std.proofs.lemmas.Option.{slice_get_within, slice_get-get_or, option_and_then_some}
use Rattle.railml_faults.proofs.IdLemmas.{one_row}
use Rattle.plan_core.specs.declared.topology.Conn.{Conn}
use Rattle.plan_core.specs.declared.topology.Place.{Place}
use Rattle.plan_core.specs.declared.topology.Part.TheVariants as parts
use Rattle.railml_read.specs.declared.rows.Elem.{Elem}
use Rattle.railml_read.specs.declared.rows.ElemKind.{ElemKind}
use Rattle.railml_read.specs.declared.rows.ElemKind.TheVariants as kinds
use Rattle.railml_read.specs.Formed.{may_hold, HasParent, IsRowPlaced, AreFormed}
use Rattle.railml_faults.specs.Rows.{same_kind, track_rows, is_of_kind, all_children, children, bears_id}
use Rattle.railml_faults.specs.Faults.{HasItsParts}
use Rattle.railml_faults.specs.Tables.{IsReferredTo, IsTargetOf, HasTargets, entry_in}
use Rattle.railml_faults.proofs.Apart.{Among}
use Rattle.railml_faults.proofs.Family.{contains_from_among, of_kind, is_of_its_kind, has_number, among_filtered, IsChild, has_child, is_only}
use Rattle.railml_topology.specs.declared.layout.Layout.{Layout}
use Rattle.railml_topology.specs.Resolved.{IsConnOf, IsLayout, AreLayouts, IsWayOf, IsAtPlace}
use Rattle.railml_topology.specs.Places.{HasPlaces}
use Rattle.railml_topology.specs.Sound.{AreSoundRows}
use Rattle.railml_topology.proofs.JoinLemmas.{all_at}
use Rattle.railml_topology.proofs.PlaceLemmas.{way_of_child}

-- ---- each connection has a place

-- a row that holds a connection, or a track's topology, is a child of its own parent
parent_of_row : (rows : List Elem) → AreFormed rows → (k : ℕ) (row : Elem) → slice_get rows k ≡ Some row → same_kind row.kind kinds.Track ≡ false →
    HasParent rows k row
parent_of_row rows f k row is other = choose row.kind refl other (f.parents k row is)
  where
    choose : (v : ElemKind) → row.kind ≡ v → same_kind v kinds.Track ≡ false → IsRowPlaced rows k row v → HasParent rows k row
    choose kinds.Track e h p = absurd cc
    choose kinds.Topology e h p = p
    choose kinds.Begin e h p = p
    choose kinds.End e h p = p
    choose kinds.Switch e h p = p
    choose kinds.Crossing e h p = p
    choose kinds.Connection e h p = p
    choose kinds.OpenEnd e h p = p
    choose kinds.BufferStop e h p = p
    choose kinds.MacroNode e h p = p

-- what holds a connection
holder_kind : (k : ElemKind) → may_hold k kinds.Connection ≡ true → ((k ≡ kinds.Begin) ⊎ (k ≡ kinds.End)) ⊎ ((k ≡ kinds.Switch) ⊎ (k ≡ kinds.Crossing))
holder_kind kinds.Begin h = inl (inl refl)
holder_kind kinds.End h = inl (inr refl)
holder_kind kinds.Switch h = inr (inl refl)
holder_kind kinds.Crossing h = inr (inr refl)
holder_kind k h = absurd cc

-- a topology holds begins, ends, switches and crossings, and a track holds topologies
topology_holds : (k child : ElemKind) → may_hold k child ≡ true →
    ((child ≡ kinds.Begin) ⊎ (child ≡ kinds.End)) ⊎ ((child ≡ kinds.Switch) ⊎ (child ≡ kinds.Crossing)) → k ≡ kinds.Topology
topology_holds kinds.Topology child h e = refl
topology_holds kinds.Track kinds.Topology h e = elim e [
  | inl x ↦ elim x [ inl y ↦ absurd cc | inr y ↦ absurd cc ]
  | inr x ↦ elim x
      [ inl y ↦ absurd cc | inr y ↦ absurd cc ]
]
topology_holds k kinds.Connection h e = elim e [
  | inl x ↦ elim x [ inl y ↦ absurd cc | inr y ↦ absurd cc ]
  | inr x ↦ elim x
      [ inl y ↦ absurd cc | inr y ↦ absurd cc ]
]
topology_holds k kinds.OpenEnd h e = elim e [
  | inl x ↦ elim x [ inl y ↦ absurd cc | inr y ↦ absurd cc ]
  | inr x ↦ elim x
      [ inl y ↦ absurd cc | inr y ↦ absurd cc ]
]
topology_holds k kinds.BufferStop h e = elim e [
  | inl x ↦ elim x [ inl y ↦ absurd cc | inr y ↦ absurd cc ]
  | inr x ↦ elim x
      [ inl y ↦ absurd cc | inr y ↦ absurd cc ]
]
topology_holds k kinds.MacroNode h e = elim e [
  | inl x ↦ elim x [ inl y ↦ absurd cc | inr y ↦ absurd cc ]
  | inr x ↦ elim x
      [ inl y ↦ absurd cc | inr y ↦ absurd cc ]
]
topology_holds k child h e = absurd cc

track_holds : (k : ElemKind) → may_hold k kinds.Topology ≡ true → k ≡ kinds.Track
track_holds kinds.Track h = refl
track_holds k h = absurd cc

same_kind_none : (a b : ElemKind) → a ≡ b → same_kind b kinds.Track ≡ false → same_kind a kinds.Track ≡ false
same_kind_none a b e h = ap (λ (v : ElemKind). same_kind v kinds.Track) e ∙ h

-- the number of the layout of a track
layout_number : (layouts : List Layout) (k : ℕ) → Among (map (λ (l : Layout). l.track) layouts) k →
    (n : ℕ) × (l : Layout) × (slice_get layouts n ≡ Some l) × (l.track ≡ k)
layout_number [] k a = absurd a
layout_number (l ∷ ls) k (inl e) = (0, l, refl, sym e)
layout_number (l ∷ ls) k (inr a) = let (n, m, at, same) = layout_number ls k a in (suc n, m, at, same)

moved_parent : (row : Elem) (a b : ℕ) → row.parent ≡ Some a → a ≡ b → row.parent ≡ Some b
moved_parent row a b e f = e ∙ ap (λ (v : ℕ). Some v) f

-- row k is held by a topology: the layout of the track, in which that topology is the track's
pub record IsHeldIn (rows : List Elem) (layouts : List Layout) (topology : ℕ) : Type 0 where
  pub number : ℕ
  pub layout : Layout
  pub at : slice_get layouts number ≡ Some layout
  pub laid : IsLayout rows layout
  pub same : topology ≡ layout.topology

topology_layout : (rows : List Elem) (layouts : List Layout) → AreSoundRows rows → AreLayouts rows layouts → (topology : ℕ) (row : Elem) →
    slice_get rows topology ≡ Some row → row.kind ≡ kinds.Topology → IsHeldIn rows layouts topology
topology_layout rows layouts s h topology row is kind_is =
    let up = parent_of_row rows s.formed topology row is (same_kind_none row.kind kinds.Topology kind_is refl) in
    let track_kind : up.parent.kind ≡ kinds.Track = track_holds up.parent.kind (subst (λ (v : ElemKind). may_hold up.parent.kind v ≡ true) kind_is up.holds) in
    let numbered : Among (track_rows rows) up.number = subst (λ n. Among (track_rows rows) n) (zero-add up.number)
    (has_number (λ (r : Elem). same_kind r.kind kinds.Track) 0 rows up.number up.parent up.at (ap (λ (v : ElemKind). same_kind v kinds.Track) track_kind)) in
    let (n, l, at, same) = layout_number layouts up.number (subst (λ (v : List ℕ). Among v up.number) (sym h.tracks) numbered) in
    let laid : IsLayout rows l = all_at (IsLayout rows) layouts n l (recursion_from_All (IsLayout rows) layouts h.each) at in
    let child : IsChild rows l.track kinds.Topology topology = record {
      row = row;
      is = is;
      parent_is = moved_parent row up.number l.track up.is (sym same);
      kind_is = kind_is;
    } in
    record { number = n; layout = l; at = at; laid = laid; same = is_only rows l.track kinds.Topology l.topology topology laid.one_topology child }

-- what holds a connection stands in the layout of its track
pub record IsHolder (rows : List Elem) (layouts : List Layout) (k : ℕ) : Type 0 where
  pub holder : ℕ
  pub row : Elem
  pub is : slice_get rows holder ≡ Some row
  pub connection : IsChild rows holder kinds.Connection k
  pub kind_is : ((row.kind ≡ kinds.Begin) ⊎ (row.kind ≡ kinds.End)) ⊎ ((row.kind ≡ kinds.Switch) ⊎ (row.kind ≡ kinds.Crossing))
  pub in_layout : (n : ℕ) × (l : Layout) × (slice_get layouts n ≡ Some l) × IsLayout rows l × IsChild rows l.topology row.kind holder

holder_of : (rows : List Elem) (layouts : List Layout) → AreSoundRows rows → AreLayouts rows layouts → (k : ℕ) → is_of_kind rows kinds.Connection k ≡ true →
    IsHolder rows layouts k
holder_of rows layouts s h k t =
    let (row, is, kind_is) = of_kind rows kinds.Connection k t in
    let up = parent_of_row rows s.formed k row is (same_kind_none row.kind kinds.Connection kind_is refl) in
    let kind = holder_kind up.parent.kind (subst (λ (v : ElemKind). may_hold up.parent.kind v ≡ true) kind_is up.holds) in
    let above = parent_of_row rows s.formed up.number up.parent up.at (no_track up.parent.kind kind) in
    let topology_kind : above.parent.kind ≡ kinds.Topology = topology_holds above.parent.kind up.parent.kind above.holds kind in
    let held = topology_layout rows layouts s h above.number above.parent above.at topology_kind in
    record {
      holder = up.number;
      row = up.parent;
      is = up.at;
      connection = record { row = row; is = is; parent_is = up.is; kind_is = kind_is };
      kind_is = kind;
      in_layout = (
        held.number,
        held.layout,
        held.at,
        held.laid,
        record {
          row = up.parent;
          is = up.at;
          parent_is = moved_parent up.parent above.number held.layout.topology above.is held.same;
          kind_is = refl;
        },
      );
    }
  where
    no_track : (v : ElemKind) → ((v ≡ kinds.Begin) ⊎ (v ≡ kinds.End)) ⊎ ((v ≡ kinds.Switch) ⊎ (v ≡ kinds.Crossing)) → same_kind v kinds.Track ≡ false
    no_track v (inl (inl e)) = ap (λ w. same_kind w kinds.Track) e
    no_track v (inl (inr e)) = ap (λ w. same_kind w kinds.Track) e
    no_track v (inr (inl e)) = ap (λ w. same_kind w kinds.Track) e
    no_track v (inr (inr e)) = ap (λ w. same_kind w kinds.Track) e

-- a begin or an end has one child; a connection below it is its only one
only_below : (rows : List Elem) (i part k : ℕ) → all_children rows i ≡ part ∷ [] → IsChild rows i kinds.Connection k → children rows i kinds.Connection ≡ k ∷ []
only_below rows i part k e c =
    let same : k ≡ part = elim (let a : Among (part ∷ []) k = subst (λ (v : List ℕ). Among v k) e
    (among_filtered (is_of_kind rows kinds.Connection) (all_children rows i) k (has_child rows i kinds.Connection k c)).0 in a)
    [ inl x ↦ x | inr none ↦ absurd none ] in
    let passes : is_of_kind rows kinds.Connection part ≡ true = subst (λ n. is_of_kind rows kinds.Connection n ≡ true) same
    (subst (λ (v : ElemKind). is_of_kind rows v k ≡ true) c.kind_is (is_of_its_kind rows k c.row c.is)) in
    ap (filter (is_of_kind rows kinds.Connection)) e ∙ (rw passes (ap (λ (n : ℕ). n ∷ []) (sym same)))

parts_at : (rows : List Elem) → AreSoundRows rows → (i : ℕ) (row : Elem) (kind : ElemKind) → slice_get rows i ≡ Some row → row.kind ≡ kind →
    HasItsParts rows i kind
parts_at rows s i row kind is e = subst (HasItsParts rows i) e (s.parts i row is)

place_in : (xs : List ℕ) (x : ℕ) → Contains xs x → (k : ℕ) × (slice_get xs k ≡ Some x)
place_in xs x (k, within, is) = (k, slice_get-get_or xs k x within ∙ ap (λ (v : ℕ). Some v) is)

pub place_exists : (rows : List Elem) (layouts : List Layout) → AreSoundRows rows → AreLayouts rows layouts → (k : ℕ) →
    is_of_kind rows kinds.Connection k ≡ true → (p : Place) × IsAtPlace rows layouts k p
place_exists rows layouts s h k t =
    let o = holder_of rows layouts s h k t in
    let (n, l, at, laid, c) = o.in_layout in
    by o n l at laid c o.kind_is
  where
    by : (o : IsHolder rows layouts k) (n : ℕ) (l : Layout) → slice_get layouts n ≡ Some l → IsLayout rows l → IsChild rows l.topology o.row.kind o.holder →
        ((o.row.kind ≡ kinds.Begin) ⊎ (o.row.kind ≡ kinds.End)) ⊎ ((o.row.kind ≡ kinds.Switch) ⊎ (o.row.kind ≡ kinds.Crossing)) →
        (p : Place) × IsAtPlace rows layouts k p
    by o n l at laid c (inl (inl e)) =
        let same : o.holder ≡ l.begin = is_only rows l.topology kinds.Begin l.begin o.holder laid.one_begin
        (subst (λ v. IsChild rows l.topology v o.holder) e c) in
        let one = parts_at rows s o.holder o.row kinds.Begin o.is e in (
          record {
            track = n;
            part = parts.Begin;
          },
          record {
            layout = l;
            is = at;
            here = subst (λ m. children rows m kinds.Connection ≡ k ∷ []) same (only_below rows o.holder one.0 k one.1 o.connection);
          },
        )
    by o n l at laid c (inl (inr e)) =
        let same : o.holder ≡ l.end = is_only rows l.topology kinds.End l.end o.holder laid.one_end (subst (λ v. IsChild rows l.topology v o.holder) e c) in
        let one = parts_at rows s o.holder o.row kinds.End o.is e in (
          record {
            track = n;
            part = parts.End;
          },
          record {
            layout = l;
            is = at;
            here = subst (λ m. children rows m kinds.Connection ≡ k ∷ []) same (only_below rows o.holder one.0 k one.1 o.connection);
          },
        )
    by o n l at laid c (inr (inl e)) =
        let among : Contains l.inner o.holder = (laid.between.all o.holder).1 (inl
        (contains_from_among (children rows l.topology kinds.Switch) o.holder
        (has_child rows l.topology kinds.Switch o.holder (subst (λ v. IsChild rows l.topology v o.holder) e c)))) in
        let (m, there) = place_in l.inner o.holder among in
        let one = parts_at rows s o.holder o.row kinds.Switch o.is e in
        let same : k ≡ one.0 = is_only rows o.holder kinds.Connection one.0 k one.1 o.connection in (
          record {
            track = n;
            part = parts.Branch m;
          },
          record {
            layout = l;
            is = at;
            here = (
              o.holder,
              there,
              record {
                a_switch = subst (λ v. is_of_kind rows v o.holder ≡ true) e (is_of_its_kind rows o.holder o.row o.is);
                only = one.1
                    ∙ ap (λ (x : ℕ). x ∷ []) (sym same);
              },
            );
          },
        )
    by o n l at laid c (inr (inr e)) =
        let among : Contains l.inner o.holder = (laid.between.all o.holder).1 (inr
        (contains_from_among (children rows l.topology kinds.Crossing) o.holder
        (has_child rows l.topology kinds.Crossing o.holder (subst (λ v. IsChild rows l.topology v o.holder) e c)))) in
        let (m, there) = place_in l.inner o.holder among in
        let a : is_of_kind rows kinds.Crossing o.holder ≡ true = subst (λ v. is_of_kind rows v o.holder ≡ true) e (is_of_its_kind rows o.holder o.row o.is) in
        let (outgoing, way) = way_of_child rows s o.holder k a o.connection in
        at_way o.holder n m l at there outgoing way
      where
        at_way : (holder n m : ℕ) (l : Layout) → slice_get layouts n ≡ Some l → slice_get l.inner m ≡ Some holder → (outgoing : Bool) →
            IsWayOf rows holder outgoing k → (p : Place) × IsAtPlace rows layouts k p
        at_way holder n m l at there false way = (record { track = n; part = parts.Incoming m }, record { layout = l; is = at; here = (holder, there, way) })
        at_way holder n m l at there true way = (record { track = n; part = parts.Outgoing m }, record { layout = l; is = at; here = (holder, there, way) })

-- ---- the tables

entry_get : {X : Type 0} (table : List (Option X)) (k : ℕ) (x : X) → get_or table k None ≡ Some x → entry_in table k ≡ Some x
entry_get [] k x e = absurd cc
entry_get (y ∷ ys) zero x e = e
entry_get (y ∷ ys) (suc k) x e = entry_get ys k x e

no_entry : {X : Type 0} (table : List (Option X)) (k : ℕ) (x : X) → get_or table k None ≡ None → entry_in table k ≡ Some x → ⊥
no_entry [] k x e f = cc
no_entry (y ∷ ys) zero x e f = let g : Some x ≡ None = sym f ∙ e in cc
no_entry (y ∷ ys) (suc k) x e f = no_entry ys k x e f

pub place_read : (rows : List Elem) (layouts : List Layout) (table : List (Option Place)) → HasPlaces rows layouts table → (k : ℕ) (p : Place) →
    get_or table k None ≡ Some p → IsAtPlace rows layouts k p
place_read rows layouts table h k p e = h.only k p (entry_get table k p e)

pub place_missing : (rows : List Elem) (layouts : List Layout) → AreSoundRows rows → AreLayouts rows layouts → (table : List (Option Place)) →
    HasPlaces rows layouts table → (k : ℕ) → is_of_kind rows kinds.Connection k ≡ true → get_or table k None ≡ None → ⊥
place_missing rows layouts s l table h k t e =
    let (p, at) = place_exists rows layouts s l k t in
    let there = h.all k p at in
    no_entry table k there.entry e there.is

pub target_is : (rows : List Elem) (table : List (Option ℕ)) → HasTargets rows table → (k j : ℕ) (row : Elem) → slice_get rows k ≡ Some row →
    entry_in table k ≡ Some j → IsReferredTo rows row j
target_is rows table h k j row is e =
    option_and_then_some (λ (x : Option ℕ). x) (slice_get table k) j e (λ x at same. subst (IsTargetOf rows row) same (h.entry k x at row is))

pub target_there : (rows : List Elem) → AreSoundRows rows → (table : List (Option ℕ)) → HasTargets rows table → (k : ℕ) →
    is_of_kind rows kinds.Connection k ≡ true → (j : ℕ) × (entry_in table k ≡ Some j)
target_there rows s table h k t =
    let (row, is, kind_is) = of_kind rows kinds.Connection k t in
    let m = s.mutual_refs k row is kind_is in
    let inside : k < length table = subst (λ n. k < n) (sym h.whole) (slice_get_within rows k row is) in
    choose (get_or table k None) row m.number (record {
      name = m.name;
      other = m.other;
      refers = m.refers;
      named = m.named;
    }) (slice_get-get_or table k None inside) (h.entry k (get_or table k None) (slice_get-get_or table k None inside) row is)
  where
    choose : (o : Option ℕ) (row : Elem) (n : ℕ) → IsReferredTo rows row n → slice_get table k ≡ Some o → IsTargetOf rows row o →
        (j : ℕ) × (entry_in table k ≡ Some j)
    choose None row n r at of = absurd (of n r)
    choose (Some j) row n r at of = (j, rw at refl)

pub target_kind : (rows : List Elem) (row : Elem) (j : ℕ) → IsReferredTo rows row j → is_of_kind rows kinds.Connection j ≡ true
target_kind rows row j r = subst (λ (v : ElemKind). is_of_kind rows v j ≡ true) r.named.connection (is_of_its_kind rows j r.other r.named.is)

pub conn_made : (rows : List Elem) (layouts : List Layout) (k : ℕ) (row : Elem) (j : ℕ) (c : Conn) → slice_get rows k ≡ Some row → row.attrs.id ≡ Some c.id →
    row.at ≡ c.at → IsReferredTo rows row j → IsAtPlace rows layouts j c.to → IsConnOf rows layouts k c
conn_made rows layouts k row j c is id at r place = record {
  row = row;
  is = is;
  id = id;
  at = at;
  name = r.name;
  refers = r.refers;
  number = j;
  other = r.other;
  named = r.named;
  leads = place;
}

pub id_there : (rows : List Elem) → AreSoundRows rows → (k : ℕ) (row : Elem) → slice_get rows k ≡ Some row → bears_id row.kind ≡ true →
    (t : List ℕ) × (row.attrs.id ≡ Some t)
id_there rows s k row is bears = let good = s.ids k row is bears in (good.id, good.has)

pub bears_by_kind : (rows : List Elem) (kind : ElemKind) (k : ℕ) (row : Elem) → bears_id kind ≡ true → is_of_kind rows kind k ≡ true →
    slice_get rows k ≡ Some row → bears_id row.kind ≡ true
bears_by_kind rows kind k row b t is =
    let (r, at, e) = of_kind rows kind k t in
    let same : r ≡ row = one_row rows k r row at is in
    subst (λ (v : ElemKind). bears_id v ≡ true) (sym (ap (λ (v : Elem). v.kind) (sym same) ∙ e)) b

-- ---- begins and ends
