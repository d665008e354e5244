-- The rows of a track, by the tables of only children.
use Rattle.std.proofs.Common.{◌≡◌, ℕ, suc, ◌+◌, ◌<◌, ◌≤◌, Bool, true, false, cond, Option, Some, List, [], ◌∷◌, ◌++◌, length, map, get_or, slice_get, drop}
use Rattle.std.proofs.Common.{refl, sym, ap, ◌∙◌, append_assoc, arith}
use Rattle.std.specs.List.{All}
use Rattle.std.proofs.lemmas.List.{map-append, drop_more, drop_all, append-nil}
use Rattle.std.proofs.lemmas.List.Elements.{All-push}
use Rattle.std.proofs.lemmas.Option.{option_and_then_some, slice_get_within}
use Rattle.railml_faults.proofs.PartLemmas.{only_some, only_child_entry}
use Rattle.railml_read.specs.declared.rows.Elem.{Elem}
use Rattle.railml_read.specs.declared.rows.ElemKind.{ElemKind}
use Rattle.railml_read.specs.declared.rows.ElemKind.TheVariants.{Track, Topology, Begin, End}
use Rattle.railml_faults.specs.declared.tables.Tables.{Tables}
use Rattle.railml_faults.specs.Rows.{same_kind, numbers_from, track_rows, is_of_kind, children}
use Rattle.railml_faults.specs.Faults.{IsWholeTrack}
use Rattle.railml_faults.specs.Tables.{HasOnlyChildren, entry_in, AreTablesOf}
use Rattle.railml_faults.proofs.Family.{of_kind, only_child}
use Rattle.railml_topology.specs.declared.layout.Layout.{Layout}
use Rattle.railml_topology.specs.Resolved.{IsLayout}
use Rattle.railml_topology.specs.Sound.{AreSoundRows}

pub entry_child : (rows : List Elem) (kind : ElemKind) (table : List (Option ℕ)) (i k : ℕ) → HasOnlyChildren rows kind table → entry_in table i ≡ Some k →
    children rows i kind ≡ k ∷ []
entry_child rows kind table i k h e =
    option_and_then_some (λ (x : Option ℕ). x) (slice_get table i) k e (λ x at is. only_some (children rows i kind) k (sym (h.entry i x at) ∙ is))

-- row i has just one child of this kind
pub record HasOne (rows : List Elem) (i : ℕ) (kind : ElemKind) : Type 0 where
  pub number : ℕ
  pub only : children rows i kind ≡ number ∷ []

pub one_entry : (rows : List Elem) (kind : ElemKind) (table : List (Option ℕ)) (i : ℕ) → HasOnlyChildren rows kind table → i < length rows →
    HasOne rows i kind → (k : ℕ) × (entry_in table i ≡ Some k)
one_entry rows kind table i h within one = (one.number, only_child_entry rows kind table i one.number h within one.only)

-- ---- a whole track

pub track_whole : (rows : List Elem) → AreSoundRows rows → (track : ℕ) → is_of_kind rows Track track ≡ true → (track < length rows) × IsWholeTrack rows track
track_whole rows s track t =
    let (row, is, kind_is) = of_kind rows Track track t in
    (slice_get_within rows track row is, rw kind_is at (s.parts track row is))

pub topology_entry : (rows : List Elem) → AreSoundRows rows → (t : Tables) → AreTablesOf rows t → (track : ℕ) → is_of_kind rows Track track ≡ true →
    (k : ℕ) × (entry_in t.topologies.items track ≡ Some k)
topology_entry rows s t h track is =
    let whole = track_whole rows s track is in
    (whole.1.topology, only_child_entry rows Topology t.topologies.items track whole.1.topology h.topologies whole.0 whole.1.one_topology)

heads : (a b : ℕ) → ◌≡◌ {A = List ℕ} (a ∷ []) (b ∷ []) → a ≡ b
heads a b e = cc

-- the topology that the table has is that of the track
pub record IsFound (rows : List Elem) (track topology : ℕ) : Type 0 where
  pub only : children rows track Topology ≡ topology ∷ []
  pub within : topology < length rows
  pub begin : HasOne rows topology Begin
  pub end : HasOne rows topology End

pub topology_found : (rows : List Elem) → AreSoundRows rows → (t : Tables) → AreTablesOf rows t → (track topology : ℕ) → is_of_kind rows Track track ≡ true →
    entry_in t.topologies.items track ≡ Some topology → IsFound rows track topology
topology_found rows s t h track topology is e =
    let whole = (track_whole rows s track is).1 in
    let only : children rows track Topology ≡ topology ∷ [] = entry_child rows Topology t.topologies.items track topology h.topologies e in
    let same : whole.topology ≡ topology = heads whole.topology topology (sym whole.one_topology ∙ only) in
    let c = only_child rows track Topology topology only in
    record {
      only = only;
      within = slice_get_within rows topology c.row c.is;
      begin = record { number = whole.begin; only = ap (λ k. children rows k Begin) (sym same) ∙ whole.one_begin };
      end = record { number = whole.end; only = ap (λ k. children rows k End) (sym same) ∙ whole.one_end };
    }

pub begin_entry : (rows : List Elem) → AreSoundRows rows → (t : Tables) → AreTablesOf rows t → (track topology : ℕ) → is_of_kind rows Track track ≡ true →
    entry_in t.topologies.items track ≡ Some topology → (k : ℕ) × (entry_in t.begins.items topology ≡ Some k)
begin_entry rows s t h track topology is e = let f = topology_found rows s t h track topology is e in one_entry rows Begin t.begins.items topology h.begins
    f.within f.begin

pub end_entry : (rows : List Elem) → AreSoundRows rows → (t : Tables) → AreTablesOf rows t → (track topology : ℕ) → is_of_kind rows Track track ≡ true →
    entry_in t.topologies.items track ≡ Some topology → (k : ℕ) × (entry_in t.ends.items topology ≡ Some k)
end_entry rows s t h track topology is e = let f = topology_found rows s t h track topology is e in one_entry rows End t.ends.items topology h.ends f.within
    f.end

-- the layouts of the tracks among the first n rows
pub record LaidUpTo (rows : List Elem) (n : ℕ) (layouts : List Layout) : Type 0 where
  pub tracks : map (λ (l : Layout). l.track) layouts ++ numbers_from (λ (row : Elem). same_kind row.kind Track) n (drop n rows) ≡ track_rows rows
  pub each : All (IsLayout rows) layouts

rest_of_rows : (p : Elem → Bool) (rows : List Elem) (n : ℕ) (row : Elem) → n < length rows → row ≡ get_or rows n row →
    numbers_from p n (drop n rows) ≡ cond (p row) (n ∷ numbers_from p (n + 1) (drop (n + 1) rows)) (numbers_from p (n + 1) (drop (n + 1) rows))
rest_of_rows p rows n row within is =
    let next : suc n ≡ n + 1 = omega arith in
    ap (numbers_from p n) (drop_more rows n row within ∙ ap (λ (v : Elem). v ∷ drop (n + 1) rows) (sym is))
    ∙ ap (λ m. cond (p row) (n ∷ numbers_from p m (drop (n + 1) rows)) (numbers_from p m (drop (n + 1) rows))) next

pub laid_more : (rows : List Elem) (n : ℕ) (layouts : List Layout) (row : Elem) (l : Layout) → LaidUpTo rows n layouts → n < length rows →
    row ≡ get_or rows n row → same_kind row.kind Track ≡ true → l.track ≡ n → IsLayout rows l → LaidUpTo rows (n + 1) (layouts ++ l ∷ [])
laid_more rows n layouts row l h within is track same laid = record {
  tracks =
      let p : Elem → Bool = λ (r : Elem). same_kind r.kind Track in
      let rest : numbers_from p n (drop n rows) ≡ l.track ∷ numbers_from p (n + 1) (drop (n + 1) rows) =
      rest_of_rows p rows n row within is ∙ (ap (λ v. cond v (n ∷ numbers_from p (n + 1) (drop (n + 1) rows)) (numbers_from p (n + 1) (drop (n + 1) rows)))
      track
      ∙ ap (λ k. k ∷ numbers_from p (n + 1) (drop (n + 1) rows)) (sym same)) in
      ap (λ v. v ++ numbers_from p (n + 1) (drop (n + 1) rows)) (map-append (λ (v : Layout). v.track) layouts (l ∷ []))
      ∙ (append_assoc (map (λ (v : Layout). v.track) layouts) (l.track ∷ []) (numbers_from p (n + 1) (drop (n + 1) rows))
      ∙ (ap (λ v. map (λ (w : Layout). w.track) layouts ++ v) (sym rest) ∙ h.tracks));
  each = All-push (IsLayout rows) layouts l h.each laid;
}

pub laid_passed : (rows : List Elem) (n : ℕ) (layouts : List Layout) (row : Elem) → LaidUpTo rows n layouts → n < length rows → row ≡ get_or rows n row →
    same_kind row.kind Track ≡ false → LaidUpTo rows (n + 1) layouts
laid_passed rows n layouts row h within is other = record {
  tracks =
      let p : Elem → Bool = λ (r : Elem). same_kind r.kind Track in
      let rest : numbers_from p n (drop n rows) ≡ numbers_from p (n + 1) (drop (n + 1) rows) =
      rest_of_rows p rows n row within is ∙ ap (λ v. cond v (n ∷ numbers_from p (n + 1) (drop (n + 1) rows)) (numbers_from p (n + 1) (drop (n + 1) rows)))
      other in
      ap (λ v. map (λ (w : Layout). w.track) layouts ++ v) (sym rest) ∙ h.tracks;
  each = h.each;
}
