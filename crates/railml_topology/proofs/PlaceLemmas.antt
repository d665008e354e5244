-- Where the connections of rows are.
use Rattle.std.proofs.Common.{Vec, Global, ◌^◌, ◌≡◌, ◌≢◌, ◌⊎◌, ℕ, suc, zero, ◌+◌, ◌<◌, ◌≤◌, Bool, true, false, cond, Option, Some, None, List, [], ◌∷◌, length}
use Rattle.std.proofs.Common.{map, get_or, slice_get, set, refl, sym, ap, ◌∙◌, subst, inl, inr, length-set, replicate, arith}
use Rattle.std.proofs.lemmas.List.{length-replicate, length-map}
use Rattle.std.proofs.lemmas.List.Elements.{All-from_recursion}
use Rattle.std.proofs.Math.Bool.{or-true}
use Rattle.std.specs.Prelude.{◌&&◌, find}
use Rattle.std.proofs.lemmas.Slice.Eq.{bytes_eq-Decides}
use Rattle.std.specs.Option.{option_map_or}
use Rattle.std.specs.List.{Contains, All, AllByRecursion}
use Rattle.std.proofs.lemmas.Bool.Decides.{eqb_tells}
use Rattle.std.proofs.lemmas.Option.{same_Some, slice_get_within, slice_get_read, option_and_then_some}
use Rattle.plan_core.proofs.PlaceFacts.{same_place}
use Rattle.railml_faults.proofs.PartLemmas.{only_child_entry}
use Rattle.railml_faults.proofs.IdLemmas.{one_row}
use Rattle.plan_core.specs.declared.topology.Place.{Place}
use Rattle.plan_core.specs.declared.topology.Part.{Part}
use Rattle.plan_core.specs.declared.topology.Part.TheVariants as parts
use Rattle.railml_read.specs.declared.rows.Elem.{Elem}
use Rattle.railml_read.specs.declared.rows.ElemKind.{ElemKind}
use Rattle.railml_read.specs.declared.rows.ElemKind.TheVariants.{Begin, End, Switch, Crossing, Connection}
use Rattle.railml_faults.specs.declared.tables.Tables.{Tables}
use Rattle.railml_faults.specs.Rows.{is_of_kind, is_word, all_children, children}
use Rattle.railml_faults.specs.Faults.{HasTwoWays, IsConnectionOf}
use Rattle.railml_faults.specs.Tables.{entry_in, AreTablesOf}
use Rattle.railml_faults.proofs.Apart.{Apart, Among, all_more, stands_weaker, stands_from_pairs, apart_short}
use Rattle.railml_faults.proofs.Family.{among_from_contains, contains_from_among, among_filtered, filtered_among, of_kind, is_of_its_kind, IsChild, child}
use Rattle.railml_faults.proofs.Family.{has_child, only_child}
use Rattle.railml_faults.proofs.TableLemmas.{entry_written, slice_get-set_other}
use Rattle.railml_topology.specs.declared.layout.Layout.{Layout}
use Rattle.railml_topology.specs.Resolved.{StandsBefore, way_word, IsLayout, IsBranchOf, IsWayOf, IsAtPart, IsAtPlace}
use Rattle.railml_topology.specs.Places.{IsFilled, Adds, IsAtInner, IsOnInner, IsOnFirst, IsOnTrack, HasPlaces, goes_by}
use Rattle.railml_topology.specs.Sound.{AreSoundRows}
use Rattle.railml_topology.proofs.PositionLemmas.{before_differs, inner_within}
use Rattle.railml_topology.specs.Plans.{is_inner}
use Rattle.railml_topology.proofs.ElementLemmas.{way_child, all_that_among}
use Rattle.railml_topology.proofs.LayoutLemmas.{entry_child}
use Rattle.railml_topology.proofs.JoinLemmas.{one_way, kinds_clash}

-- ---- one entry

set_there : {X : Type 0} (xs : List X) (i : ℕ) (x : X) → i < length xs → slice_get (set xs i x) i ≡ Some x
set_there [] i x h = absurd (omega arith)
set_there (y ∷ ys) zero x h = refl
set_there (y ∷ ys) (suc i) x h = set_there ys i x (omega arith)

pub put_one : (table : List (Option Place)) (row : ℕ) (place : Place) → row < length table →
    Adds (λ i p. (i ≡ row) × (p ≡ place)) table (set table row (Some place))
put_one table row place within = record {
  whole = length-set table row (Some place);
  only = (λ i p e. option_and_then_some (λ (x : Option Place). x) (slice_get (set table row (Some place)) i) p e
      (λ x at is. elim (entry_written table row (Some place) i x at) [
        | inl here ↦ inr (here.0, same_Some p place (sym is ∙ here.1))
        | inr other ↦ inl (let old = other.1 in rw old is)
      ]));
  kept = (λ i there. elim (eqb_tells i row) [
    | inl same ↦ record {
      entry = place;
      is = (let at : slice_get (set table row (Some place)) i ≡ Some (Some place) = ap (slice_get (set table row (Some place))) same.1
          ∙ set_there table row (Some place) within in rw at refl);
    }
    | inr differ ↦ record { entry = there.entry; is = (let at = slice_get-set_other table row (Some place) i differ.1 in rw at there.is) }
  ]);
  added = (λ i p t. record {
    entry = place;
    is = (let at : slice_get (set table row (Some place)) i ≡ Some (Some place) = ap (slice_get (set table row (Some place))) t.0
        ∙ set_there table row (Some place) within in rw at refl);
  });
}

-- ---- several

pub adds_then : (T U : ℕ → Place → Type 0) (a b c : List (Option Place)) → Adds T a b → Adds U b c → Adds (λ i p. T i p ⊎ U i p) a c
adds_then T U a b c h k = record {
  whole = k.whole ∙ h.whole;
  only = (λ i p e. elim (k.only i p e) [
    | inl before ↦ elim (h.only i p before) [ inl old ↦ inl old | inr t ↦ inr (inl t) ]
    | inr u ↦ inr (inr u)
  ]);
  kept = (λ i there. k.kept i (h.kept i there));
  added = (λ i p e. elim e [ inl t ↦ k.kept i (h.added i p t) | inr u ↦ k.added i p u ]);
}

pub adds_as : (T U : ℕ → Place → Type 0) (a b : List (Option Place)) → ((i : ℕ) (p : Place) → T i p → U i p) → ((i : ℕ) (p : Place) → U i p → T i p) →
    Adds T a b → Adds U a b
adds_as T U a b to from h = record {
  whole = h.whole;
  only = (λ i p e. elim (h.only i p e) [ inl old ↦ inl old | inr t ↦ inr (to i p t) ]);
  kept = h.kept;
  added = (λ i p u. h.added i p (from i p u));
}

found_passes : (p : ℕ → Bool) (xs : List ℕ) (n : ℕ) → find p xs ≡ Some n → Among xs n × (p n ≡ true)
found_passes p [] n e = absurd cc
found_passes p (x ∷ xs) n e = choose (p x) refl e (found_passes p xs n)
  where
    choose : (v : Bool) → p x ≡ v → cond v (Some x) (find p xs) ≡ Some n → (find p xs ≡ Some n → Among xs n × (p n ≡ true)) → Among (x ∷ xs) n × (p n ≡ true)
    choose true t e ih = let same : x ≡ n = same_Some x n e in (inl (sym same), ap p (sym same) ∙ t)
    choose false t e ih = let r = ih e in (inr r.0, r.1)

none_found : (p : ℕ → Bool) (xs : List ℕ) (n : ℕ) → find p xs ≡ None → Among xs n → p n ≡ true → ⊥
none_found p [] n e a t = a
none_found p (x ∷ xs) n e a t = choose (p x) refl e a (none_found p xs n)
  where
    choose : (v : Bool) → p x ≡ v → cond v (Some x) (find p xs) ≡ None → Among (x ∷ xs) n → (find p xs ≡ None → Among xs n → p n ≡ true → ⊥) → ⊥
    choose true u e a ih = cc
    choose false u e (inl same) ih = let v : p n ≡ false = ap p same ∙ u in let w = t in cc
    choose false u e (inr rest) ih = ih e rest t

-- a connection whose orientation is a word
pub record Goes (rows : List Elem) (word : List ℕ) (n : ℕ) : Type 0 where
  pub row : Elem
  pub is : slice_get rows n ≡ Some row
  pub kind_is : row.kind ≡ Connection
  pub way : row.attrs.orientation ≡ Some word

word_from : (word : List ℕ) (o : Option (List ℕ)) → is_word word o ≡ true → o ≡ Some word
word_from word None h = absurd cc
word_from word (Some other) h = ap (λ (v : List ℕ). Some v) ((bytes_eq-Decides other word).0 h)

goes_true : (rows : List Elem) (word : List ℕ) (n : ℕ) → goes_by rows word n ≡ true → Goes rows word n
goes_true rows word n h = choose (is_of_kind rows Connection n) refl h
  where
    choose : (v : Bool) → is_of_kind rows Connection n ≡ v → (v && option_map_or (λ (row : Elem). is_word word row.attrs.orientation) (slice_get rows n) false)
        ≡ true → Goes rows word n
    choose true e h =
        let (row, is, kind_is) = of_kind rows Connection n e in
        let way : is_word word row.attrs.orientation ≡ true = (rw is at h) in
        record { row = row; is = is; kind_is = kind_is; way = word_from word row.attrs.orientation way }
    choose false e h = absurd cc

goes_if : (rows : List Elem) (word : List ℕ) (n : ℕ) → Goes rows word n → goes_by rows word n ≡ true
goes_if rows word n g =
    let is = g.is in
    let kind = g.kind_is in
    let way = g.way in
    rw (is, kind, way) ((bytes_eq-Decides word word).1 refl)

pub way_found : (rows : List Elem) (crossing n : ℕ) (outgoing : Bool) → is_of_kind rows Crossing crossing ≡ true →
    find (goes_by rows (way_word outgoing)) (all_children rows crossing) ≡ Some n → IsWayOf rows crossing outgoing n
way_found rows crossing n outgoing a e =
    let f = found_passes (goes_by rows (way_word outgoing)) (all_children rows crossing) n e in
    let g = goes_true rows (way_word outgoing) n f.1 in
    record {
      a_crossing = a;
      among = contains_from_among (children rows crossing Connection) n (filtered_among (is_of_kind rows Connection) (all_children rows crossing) n f.0
          (subst (λ (v : ElemKind). is_of_kind rows v n ≡ true) g.kind_is (is_of_its_kind rows n g.row g.is)));
      way = record { row = g.row; is = g.is; way = g.way };
    }

-- a child of a row is one of its connections
pub connection_of_row : (rows : List Elem) (i k : ℕ) (parent : Elem) (kind : ElemKind) → slice_get rows i ≡ Some parent → parent.kind ≡ kind →
    (c : IsChild rows i Connection k) → IsConnectionOf rows c.row kind parent
connection_of_row rows i k parent kind is kind_is c =
    let up = c.parent_is in record { connection = c.kind_is; holds = rw up is; of_kind = kind_is }

-- the way of a child of a crossing
pub way_of_child : (rows : List Elem) → AreSoundRows rows → (crossing k : ℕ) → is_of_kind rows Crossing crossing ≡ true → IsChild rows crossing Connection k →
    (outgoing : Bool) × IsWayOf rows crossing outgoing k
way_of_child rows s crossing k a c =
    let (parent, is, kind_is) = of_kind rows Crossing crossing a in
    let (outgoing, way) = s.ways k c.row parent c.is (inr (connection_of_row rows crossing k parent Crossing is kind_is c)) in (
      outgoing,
      record {
        a_crossing = a;
        among = contains_from_among (children rows crossing Connection) k (has_child rows crossing Connection k c);
        way = record {
          row = c.row;
          is = c.is;
          way = way;
        };
      },
    )

pub has_way : (rows : List Elem) → AreSoundRows rows → (crossing : ℕ) (outgoing : Bool) → is_of_kind rows Crossing crossing ≡ true →
    (k : ℕ) × IsWayOf rows crossing outgoing k
has_way rows s crossing outgoing a =
    let (row, is, kind_is) = of_kind rows Crossing crossing a in
    let two : HasTwoWays rows crossing = (rw kind_is at (s.parts crossing row is)) in
    let one = way_of_child rows s crossing two.one a (child rows crossing Connection two.one (let e = two.two in rw e (inl refl))) in
    let other = way_of_child rows s crossing two.other a (child rows crossing Connection two.other (let e = two.two in rw e (inr (inl refl)))) in
    let alike : one.0 ≡ other.0 → ⊥ = (λ same. two.differ (record {
      word = way_word one.0;
      one = one.1.way.row;
      is_one = one.1.way.is;
      one_word = one.1.way.way;
      other = other.1.way.row;
      is_other = other.1.way.is;
      other_word = other.1.way.way ∙ ap (λ v. Some (way_word v)) (sym same);
    })) in
    choose outgoing two.one two.other one.0 other.0 one.1 other.1 alike
  where
    choose : (v : Bool) (i j : ℕ) (x y : Bool) → IsWayOf rows crossing x i → IsWayOf rows crossing y j → (x ≡ y → ⊥) → (k : ℕ) × IsWayOf rows crossing v k
    choose true i j true y g h n = (i, g)
    choose true i j false true g h n = (j, h)
    choose true i j false false g h n = absurd (n refl)
    choose false i j false y g h n = (i, g)
    choose false i j true false g h n = (j, h)
    choose false i j true true g h n = absurd (n refl)

pub way_not_missing : (rows : List Elem) → AreSoundRows rows → (crossing : ℕ) (outgoing : Bool) → is_of_kind rows Crossing crossing ≡ true →
    find (goes_by rows (way_word outgoing)) (all_children rows crossing) ≡ None → ⊥
way_not_missing rows s crossing outgoing a e =
    let (k, w) = has_way rows s crossing outgoing a in
    let c = way_child rows crossing k outgoing w in
    let same : c.row ≡ w.way.row = one_row rows k c.row w.way.row c.is w.way.is in
    none_found (goes_by rows (way_word outgoing)) (all_children rows crossing) k e
    (among_filtered (is_of_kind rows Connection) (all_children rows crossing) k (has_child rows crossing Connection k c)).0
    (goes_if rows (way_word outgoing) k (record {
      row = w.way.row;
      is = w.way.is;
      kind_is = ap (λ (v : Elem). v.kind) (sym same) ∙ c.kind_is;
      way = w.way.way;
    }))

pub branch_entry : (rows : List Elem) → AreSoundRows rows → (t : Tables) → AreTablesOf rows t → (switch : ℕ) → is_of_kind rows Switch switch ≡ true →
    (k : ℕ) × (entry_in t.connections.items switch ≡ Some k)
branch_entry rows s t h switch a =
    let (row, is, kind_is) = of_kind rows Switch switch a in
    let one : (part : ℕ) × (children rows switch Connection ≡ part ∷ []) = (rw kind_is at (s.parts switch row is)) in
    (one.0, only_child_entry rows Connection t.connections.items switch one.0 h.connections (slice_get_within rows switch row is) one.1)

pub branch_found : (rows : List Elem) (t : Tables) → AreTablesOf rows t → (switch k : ℕ) → is_of_kind rows Switch switch ≡ true →
    entry_in t.connections.items switch ≡ Some k → IsBranchOf rows switch k
branch_found rows t h switch k a e = record { a_switch = a; only = entry_child rows Connection t.connections.items switch k h.connections e }

pub read_children : (rows : List Elem) (t : Tables) → AreTablesOf rows t → (i : ℕ) (list : Vec ℕ Global) → i < length rows →
    list ≡ get_or t.children.items i list → list.items ≡ all_children rows i
read_children rows t h i list within is =
    let inside : i < length t.children.items = subst (λ n. i < n) (sym h.children.whole) within in
    h.children.entry i list (slice_get_read t.children.items (length t.children.items) i list refl inside is)

-- ---- one switch or crossing

-- a place of a track
abbrev pub at_part : ℕ → Part → Place
at_part track part = record { track = track; part = part }

crossing_places : (rows : List Elem) → AreSoundRows rows → (track n inner coming leaving : ℕ) → IsWayOf rows inner false coming →
    IsWayOf rows inner true leaving → (i : ℕ) (track' : ℕ) (part : Part) → track' ≡ track → IsAtInner rows n inner i part
    → ((i ≡ coming) × (at_part track' part ≡ at_part track (parts.Incoming n))) ⊎ ((i ≡ leaving) × (at_part track' part ≡ at_part track (parts.Outgoing n)))
crossing_places rows s track n inner coming leaving c l i t parts.Begin e h = absurd h
crossing_places rows s track n inner coming leaving c l i t parts.End e h = absurd h
crossing_places rows s track n inner coming leaving c l i t (parts.Branch k) e h = absurd (kinds_clash rows inner h.1.a_switch c.a_crossing)
crossing_places rows s track n inner coming leaving c l i t (parts.Incoming k) e h =
    inl (
      one_way rows s inner false i coming h.1 c,
      same_place (at_part t (parts.Incoming k)) (at_part track (parts.Incoming n)) e
          (ap (λ m. parts.Incoming m) h.0),
    )
crossing_places rows s track n inner coming leaving c l i t (parts.Outgoing k) e h =
    inr (
      one_way rows s inner true i leaving h.1 l,
      same_place (at_part t (parts.Outgoing k)) (at_part track (parts.Outgoing n)) e
          (ap (λ m. parts.Outgoing m) h.0),
    )

pub crossing_put : (rows : List Elem) → AreSoundRows rows → (track n inner coming leaving : ℕ) (old middle new : List (Option Place)) →
    IsWayOf rows inner false coming → IsWayOf rows inner true leaving
    → Adds (λ i p. (i ≡ coming) × (p ≡ at_part track (parts.Incoming n))) old middle →
    Adds (λ i p. (i ≡ leaving) × (p ≡ at_part track (parts.Outgoing n))) middle new → Adds (IsOnInner rows track n inner) old new
crossing_put rows s track n inner coming leaving old middle new c l h k =
    let T : ℕ → Place → Type 0 = λ i p. (i ≡ coming) × (p ≡ at_part track (parts.Incoming n)) in
    let U : ℕ → Place → Type 0 = λ i p. (i ≡ leaving) × (p ≡ at_part track (parts.Outgoing n)) in
    adds_as (λ i p. T i p ⊎ U i p) (IsOnInner rows track n inner) old new
    (λ i p e. elim e [
      | inl t ↦ record {
        on = ap (λ (v : Place). v.track) t.1;
        here = subst (λ (v : Place). IsAtInner rows n inner i v.part) (sym t.1)
            (refl, subst (λ m. IsWayOf rows inner false m) (sym t.0) c);
      }
      | inr u ↦ record {
        on = ap (λ (v : Place). v.track) u.1;
        here = subst (λ (v : Place). IsAtInner rows n inner i v.part) (sym u.1)
            (refl, subst (λ m. IsWayOf rows inner true m) (sym u.0) l);
      }
    ])
    (λ i p u. crossing_places rows s track n inner coming leaving c l i p.track p.part u.on u.here)
    (adds_then T U old middle new h k)

pub branch_within : (rows : List Elem) (switch k : ℕ) → IsBranchOf rows switch k → k < length rows
branch_within rows switch k b = let c = only_child rows switch Connection k b.only in slice_get_within rows k c.row c.is

pub first_more : (rows : List Elem) (track : ℕ) (inner : List ℕ) (n x : ℕ) (old middle new : List (Option Place)) → n < length inner → x ≡ get_or inner n x →
    Adds (IsOnFirst rows track inner n) old middle → Adds (IsOnInner rows track n x) middle new → Adds (IsOnFirst rows track inner (n + 1)) old new
first_more rows track inner n x old middle new within is h k =
    let at : slice_get inner n ≡ Some x = slice_get_read inner (length inner) n x refl within is in
    adds_as (λ i p. IsOnFirst rows track inner n i p ⊎ IsOnInner rows track n x i p) (IsOnFirst rows track inner (n + 1)) old new
    (λ i p e. elim e [
      | inl f ↦ record { number = f.number; below = (let b : f.number < n = f.below in omega arith); row = f.row; is = f.is; on = f.on }
      | inr o ↦ record { number = n; below = omega arith; row = x; is = at; on = o }
    ])
    (λ i p f. elim (eqb_tells f.number n) [
      | inl same ↦ inr (let row : f.row ≡ x = same_Some f.row x (sym f.is ∙ (ap (slice_get inner) same.1 ∙ at)) in
          subst (λ m. IsOnInner rows track m x i p) same.1 (subst (λ r. IsOnInner rows track f.number r i p) row f.on))
      | inr differ ↦ inl (record {
        number = f.number;
        below = (let b : f.number < n + 1 = f.below in let d = differ.1 in omega arith);
        row = f.row;
        is = f.is;
        on = f.on;
      })
    ])
    (adds_then (IsOnFirst rows track inner n) (IsOnInner rows track n x) old middle new h k)

-- ---- a track

-- the connection at a begin or an end, by the table of only connections
abbrev pub AtEnd : List (Option ℕ) → ℕ → Place → ℕ → Place → Type 0
AtEnd connections holder place i p = (entry_in connections holder ≡ Some i) × (p ≡ place)

pub entry_within : (rows : List Elem) (t : Tables) → AreTablesOf rows t → (holder i : ℕ) → entry_in t.connections.items holder ≡ Some i → i < length rows
entry_within rows t h holder i e =
    let c = only_child rows holder Connection i (entry_child rows Connection t.connections.items holder i h.connections e) in
    slice_get_within rows i c.row c.is

track_places : (rows : List Elem) (t : Tables) → AreTablesOf rows t → (track : ℕ) (l : Layout) → l.begin < length rows → l.end < length rows →
    (i : ℕ) (track' : ℕ) (part : Part) → track' ≡ track → IsAtPart rows l i part
    → (AtEnd t.connections.items l.begin (at_part track parts.Begin) i (at_part track' part) ⊎ AtEnd t.connections.items l.end (at_part track parts.End) i
    (at_part track' part)) ⊎ IsOnFirst rows track l.inner (length l.inner) i (at_part track' part)
track_places rows t h track l begin end i u parts.Begin e a = inl (inl (
  only_child_entry rows Connection t.connections.items l.begin i h.connections begin a,
  same_place (at_part u parts.Begin) (at_part track parts.Begin) e refl,
))
track_places rows t h track l begin end i u parts.End e a = inl (inr (
  only_child_entry rows Connection t.connections.items l.end i h.connections end a,
  same_place (at_part u parts.End) (at_part track parts.End) e refl,
))
track_places rows t h track l begin end i u (parts.Branch k) e (row, is, b) = inr (record {
  number = k;
  below = slice_get_within l.inner k row is;
  row = row;
  is = is;
  on = record { on = e; here = (refl, b) };
})
track_places rows t h track l begin end i u (parts.Incoming k) e (row, is, b) = inr (record {
  number = k;
  below = slice_get_within l.inner k row is;
  row = row;
  is = is;
  on = record { on = e; here = (refl, b) };
})
track_places rows t h track l begin end i u (parts.Outgoing k) e (row, is, b) = inr (record {
  number = k;
  below = slice_get_within l.inner k row is;
  row = row;
  is = is;
  on = record { on = e; here = (refl, b) };
})

inner_part : (rows : List Elem) (l : Layout) (n row i : ℕ) (part : Part) → slice_get l.inner n ≡ Some row → IsAtInner rows n row i part → IsAtPart rows l i part
inner_part rows l n row i parts.Begin is h = absurd h
inner_part rows l n row i parts.End is h = absurd h
inner_part rows l n row i (parts.Branch k) is h = (row, ap (slice_get l.inner) h.0 ∙ is, h.1)
inner_part rows l n row i (parts.Incoming k) is h = (row, ap (slice_get l.inner) h.0 ∙ is, h.1)
inner_part rows l n row i (parts.Outgoing k) is h = (row, ap (slice_get l.inner) h.0 ∙ is, h.1)

pub track_put : (rows : List Elem) (t : Tables) → AreTablesOf rows t → (track : ℕ) (l : Layout) → IsLayout rows l → (a b c d : List (Option Place))
    → Adds (AtEnd t.connections.items l.begin (at_part track parts.Begin)) a b → Adds (AtEnd t.connections.items l.end (at_part track parts.End)) b c →
    Adds (IsOnFirst rows track l.inner (length l.inner)) c d → Adds (IsOnTrack rows track l) a d
track_put rows t h track l laid a b c d one two three =
    let begin = only_child rows l.topology Begin l.begin laid.one_begin in
    let end = only_child rows l.topology End l.end laid.one_end in
    let T : ℕ → Place → Type 0 = AtEnd t.connections.items l.begin (at_part track parts.Begin) in
    let U : ℕ → Place → Type 0 = AtEnd t.connections.items l.end (at_part track parts.End) in
    let V : ℕ → Place → Type 0 = IsOnFirst rows track l.inner (length l.inner) in
    adds_as (λ i p. (T i p ⊎ U i p) ⊎ V i p) (IsOnTrack rows track l) a d
    (λ i p e. elim e [
      | inl ends ↦ elim ends [
        | inl x ↦ record {
          track = ap (λ (v : Place). v.track) x.1;
          here = subst (λ (v : Place). IsAtPart rows l i v.part) (sym x.1)
              (entry_child rows Connection t.connections.items l.begin i h.connections x.0);
        }
        | inr x ↦ record {
          track = ap (λ (v : Place). v.track) x.1;
          here = subst (λ (v : Place). IsAtPart rows l i v.part) (sym x.1)
              (entry_child rows Connection t.connections.items l.end i h.connections x.0);
        }
      ]
      | inr f ↦ record { track = f.on.on; here = inner_part rows l f.number f.row i p.part f.is f.on.here }
    ])
    (λ i p o. track_places rows t h track l (slice_get_within rows l.begin begin.row begin.is) (slice_get_within rows l.end end.row end.is) i p.track p.part
    o.track o.here)
    (adds_then (λ i p. T i p ⊎ U i p) V a c d (adds_then T U a b c one two) three)

-- ---- all tracks

-- the places on the first tracks are there
pub record PlacedUpTo (rows : List Elem) (layouts : List Layout) (k : ℕ) (table : List (Option Place)) : Type 0 where
  pub whole : length table ≡ length rows
  pub only : (i : ℕ) (p : Place) → entry_in table i ≡ Some p → IsAtPlace rows layouts i p
  pub all : (i : ℕ) (p : Place) → p.track < k → IsAtPlace rows layouts i p → IsFilled table i

pub placed_more : (rows : List Elem) (layouts : List Layout) (k : ℕ) (l : Layout) (old new : List (Option Place)) → k < length layouts →
    slice_get layouts k ≡ Some l → PlacedUpTo rows layouts k old → Adds (IsOnTrack rows k l) old new → PlacedUpTo rows layouts (k + 1) new
placed_more rows layouts k l old new within at h a = record {
  whole = a.whole ∙ h.whole;
  only = (λ i p e. elim (a.only i p e) [
    | inl before ↦ h.only i p before
    | inr t ↦ record { layout = l; is = ap (slice_get layouts) t.track ∙ at; here = t.here }
  ]);
  all = (λ i p below here. elim (eqb_tells p.track k) [
    | inl same ↦ a.added i p (record {
      track = same.1;
      here = (let layout : here.layout ≡ l = same_Some here.layout l (sym here.is ∙ (ap (slice_get layouts) same.1 ∙ at)) in subst
          (λ (v : Layout). IsAtPart rows v i p.part) layout here.here);
    })
    | inr differ ↦ a.kept i (h.all i p (let d = differ.1 in omega arith) here)
  ]);
}

pub placed_all : (rows : List Elem) (layouts : List Layout) (k : ℕ) (table : List (Option Place)) → length layouts ≤ k → PlacedUpTo rows layouts k table →
    HasPlaces rows layouts table
placed_all rows layouts k table all h = record {
  whole = h.whole;
  only = h.only;
  all = (λ i p here. h.all i p (let within : p.track < length layouts = slice_get_within layouts p.track here.layout here.is in omega arith) here);
}

-- ---- what is inner

inner_of_kind : (rows : List Elem) (topology i : ℕ) → Contains (children rows topology Switch) i ⊎ Contains (children rows topology Crossing) i →
    is_inner rows i ≡ true
inner_of_kind rows topology i (inl c) = let e = (among_filtered (is_of_kind rows Switch) (all_children rows topology) i
    (among_from_contains (children rows topology Switch) i c)).1 in rw e refl
inner_of_kind rows topology i (inr c) = let e = (among_filtered (is_of_kind rows Crossing) (all_children rows topology) i
    (among_from_contains (children rows topology Crossing) i c)).1 in rw e (or-true (is_of_kind rows Switch i))

inner_each : (rows : List Elem) (l : Layout) → IsLayout rows l → AllByRecursion (λ i. is_inner rows i ≡ true) l.inner
inner_each rows l h = all_that_among (λ i. is_inner rows i ≡ true) l.inner (λ i a. inner_of_kind rows l.topology i
    ((h.between.all i).0 (contains_from_among l.inner i a)))

pub inner_all : (rows : List Elem) (l : Layout) → IsLayout rows l → All (λ i. is_inner rows i ≡ true) l.inner
inner_all rows l h = All-from_recursion (λ i. is_inner rows i ≡ true) l.inner (inner_each rows l h)

pub inner_few : (rows : List Elem) → AreSoundRows rows → (l : Layout) → IsLayout rows l → length l.inner < 2 ^ 32
inner_few rows s l h =
    let apart : Apart l.inner = stands_weaker (StandsBefore rows) (λ (i j : ℕ). i ≢ j) (before_differs rows) l.inner
    (stands_from_pairs (StandsBefore rows) l.inner h.between.ordered) in
    let short : length l.inner ≤ length rows = apart_short (length rows) l.inner apart
    (all_more (λ i. is_inner rows i ≡ true) (λ i. i < length rows) (inner_within rows s) l.inner (inner_each rows l h)) in
    let few = s.formed.few in
    omega arith
