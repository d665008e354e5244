-- Parts of elements, by the tables.
use Rattle.std.proofs.Common.{◌≡◌, ◌⊎◌, inl, inr, ℕ, ◌<◌, ◌==◌, Bool, true, false, true≢false, List, [], ◌∷◌, length, filter, Option, Some, None, is_some}
use Rattle.std.proofs.Common.{slice_get, refl, sym, ◌∙◌, ap, subst, arith, if◌then◌else◌}
use Rattle.std.proofs.lemmas.Option.{same_Some, none-some}
use Rattle.std.proofs.lemmas.Bool.{eqb-true, eq-eqb}
use Rattle.std.specs.Prelude.{IsTrue}
use Rattle.std.specs.Option.{option_and_then}
use Rattle.std.specs.declared.vec.Vec.{Vec}
use Rattle.std.specs.declared.alloc.Global.{Global}
use Rattle.railml_faults.proofs.Family.{within_of_kind}
use Rattle.plan_core.proofs.ListFacts.{get_within}
use Rattle.railml_read.specs.declared.rows.Elem.{Elem}
use Rattle.railml_read.specs.declared.rows.ElemKind.{ElemKind}
use Rattle.railml_read.specs.declared.rows.ElemKind.TheVariants.{Topology, Begin, End, Connection}
use Rattle.railml_faults.specs.declared.tables.Tables.{Tables}
use Rattle.railml_faults.specs.Rows.{all_children, children, is_of_kind}
use Rattle.railml_faults.specs.Faults.{IsWholeTrack, HasItsParts}
use Rattle.railml_faults.specs.Tables.{only_of, HasEntries, HasOnlyChildren, ListsChildren, AreTablesOf, entry_in, IsWholeBy, IsListAt}

pub some_of : {X : Type 0} (o : Option X) → is_some o ≡ true → (x : X) × (o ≡ Some x)
some_of None h = absurd (true≢false (sym h))
some_of (Some x) h = (x, refl)

-- ---- entries of tables

-- within the rows there is an entry
pub entry_at : {X : Type 0} (Q : ℕ → X → Type 0) (rows : List Elem) (table : List X) (i : ℕ) → HasEntries Q rows table → i < length rows →
    (x : X) × (slice_get table i ≡ Some x) × Q i x
entry_at {X} Q rows table i has within =
    let inside : i < length table = omega (arith, has.whole) in
    let h = get_within table i inside in
    (h.0, h.1, has.entry i h.0 h.1)

pub only_some : (list : List ℕ) (c : ℕ) → only_of list ≡ Some c → list ≡ c ∷ []
only_some [] c h = absurd (none-some c h)
only_some (d ∷ []) c h = ap (λ k. k ∷ []) (same_Some d c h)
only_some (d ∷ e ∷ list) c h = absurd (none-some c h)

-- what passes a filter passes its test
pub first_passed : (p : ℕ → Bool) (list : List ℕ) (c : ℕ) (more : List ℕ) → filter p list ≡ c ∷ more → p c ≡ true
first_passed p [] c more h = cc
first_passed p (d ∷ list) c more h = by (p d) refl h (first_passed p list c more)
  where
    by : (b : Bool) → p d ≡ b → (if b then d ∷ filter p list else filter p list) ≡ c ∷ more → (filter p list ≡ c ∷ more → p c ≡ true) → p c ≡ true
    by true e h rest = let same : d ≡ c = cc in subst (λ k. p k ≡ true) same e
    by false e h rest = rest h

-- the entry of a row in a table of only children
pub only_entry_is : (rows : List Elem) (kind : ElemKind) (table : List (Option ℕ)) (i : ℕ) → HasOnlyChildren rows kind table → i < length rows →
    entry_in table i ≡ only_of (children rows i kind)
only_entry_is rows kind table i has within = let h = entry_at (λ j (only : Option ℕ). only ≡ only_of (children rows j kind)) rows table i has within in ap
    (option_and_then (λ x. x)) h.1 ∙ h.2

pub only_child : (rows : List Elem) (kind : ElemKind) (table : List (Option ℕ)) (i c : ℕ) → HasOnlyChildren rows kind table → i < length rows →
    entry_in table i ≡ Some c → children rows i kind ≡ c ∷ []
only_child rows kind table i c has within at = only_some (children rows i kind) c (sym (only_entry_is rows kind table i has within) ∙ at)

pub only_child_entry : (rows : List Elem) (kind : ElemKind) (table : List (Option ℕ)) (i c : ℕ) → HasOnlyChildren rows kind table → i < length rows →
    children rows i kind ≡ c ∷ [] → entry_in table i ≡ Some c
only_child_entry rows kind table i c has within is = only_entry_is rows kind table i has within ∙ ap only_of is

pub child_within : (rows : List Elem) (kind : ElemKind) (i c : ℕ) → children rows i kind ≡ c ∷ [] → c < length rows
child_within rows kind i c is = within_of_kind rows kind c (first_passed (is_of_kind rows kind) (all_children rows i) c [] is)

-- ---- whole tracks

pub whole_by : (t : Tables) (i topology : ℕ) (b : Bool) → entry_in t.topologies.items i ≡ Some topology → is_some (entry_in t.begins.items topology) ≡ true →
    b ≡ is_some (entry_in t.ends.items topology) → (IsTrue b → IsWholeBy t i) × (IsWholeBy t i → IsTrue b)
whole_by t i topology b at has_begin is = (yes, no)
  where
    yes : b ≡ true → IsWholeBy t i
    yes h =
        let begin = some_of (entry_in t.begins.items topology) has_begin in
        let end = some_of (entry_in t.ends.items topology) (sym is ∙ h) in
        record { topology = topology; begin = begin.0; end = end.0; one_topology = at; one_begin = begin.1; one_end = end.1 }

    no : IsWholeBy t i → b ≡ true
    no w =
        let same : w.topology ≡ topology = same_Some w.topology topology (sym w.one_topology ∙ at) in
        is ∙ ap is_some (subst (λ k. entry_in t.ends.items k ≡ Some w.end) same w.one_end)

pub whole_track : (rows : List Elem) (t : Tables) (i : ℕ) → AreTablesOf rows t → i < length rows → IsWholeBy t i → IsWholeTrack rows i
whole_track rows t i tables within w =
    let one = only_child rows Topology t.topologies.items i w.topology tables.topologies within w.one_topology in
    let inside = child_within rows Topology i w.topology one in
    record {
      topology = w.topology;
      begin = w.begin;
      end = w.end;
      one_topology = one;
      one_begin = only_child rows Begin t.begins.items w.topology w.begin tables.begins inside w.one_begin;
      one_end = only_child rows End t.ends.items w.topology w.end tables.ends inside w.one_end;
    }

pub whole_track_by : (rows : List Elem) (t : Tables) (i : ℕ) → AreTablesOf rows t → i < length rows → IsWholeTrack rows i → IsWholeBy t i
whole_track_by rows t i tables within w =
    let inside = child_within rows Topology i w.topology w.one_topology in
    record {
      topology = w.topology;
      begin = w.begin;
      end = w.end;
      one_topology = only_child_entry rows Topology t.topologies.items i w.topology tables.topologies within w.one_topology;
      one_begin = only_child_entry rows Begin t.begins.items w.topology w.begin tables.begins inside w.one_begin;
      one_end = only_child_entry rows End t.ends.items w.topology w.end tables.ends inside w.one_end;
    }

-- ---- children

pub list_is : (rows : List Elem) (table : List (Vec ℕ Global)) (i : ℕ) (list : List ℕ) → ListsChildren rows table → IsListAt table i list →
    list ≡ all_children rows i
list_is rows table i list lists at = at.2 ∙ lists.entry i at.0 at.1

-- a list with one entry
pub one_entry : (list : List ℕ) → length list ≡ 1 → (c : ℕ) × (list ≡ c ∷ [])
one_entry [] h = absurd (omega arith)
one_entry (c ∷ []) h = (c, refl)
one_entry (c ∷ d ∷ list) h = absurd (omega arith)

pub one_part : (rows : List Elem) (i : ℕ) (list : List ℕ) → list ≡ all_children rows i →
    (IsTrue (length list == 1) → (part : ℕ) × (all_children rows i ≡ part ∷ [])) × ((part : ℕ) × (all_children rows i ≡ part ∷ []) → IsTrue (length list == 1))
one_part rows i list is = (
  λ h. (let one = one_entry list (eqb-true (length list) 1 h) in (one.0, sym is ∙ one.1)),
  λ p. eq-eqb (length list) 1
      (ap length (is ∙ p.1)),
)

pub one_connection_part : (rows : List Elem) (t : Tables) (i : ℕ) (b : Bool) → AreTablesOf rows t → i < length rows →
    b ≡ is_some (entry_in t.connections.items i) → (IsTrue b → (part : ℕ) × (children rows i Connection ≡ part ∷ [])) ×
    ((part : ℕ) × (children rows i Connection ≡ part ∷ []) → IsTrue b)
one_connection_part rows t i b tables within is = (
  λ h. (let one = some_of (entry_in t.connections.items i) (sym is ∙ h) in (
    one.0,
    only_child rows Connection t.connections.items i one.0 tables.connections
        within one.1,
  )),
  λ p. is ∙ ap is_some (only_child_entry rows Connection t.connections.items i p.0 tables.connections within p.1),
)

module _ (rows : List Elem) (i : ℕ) (b : Bool) where
  abbrev Tells : ElemKind → Type 0
  Tells kind = (IsTrue b → HasItsParts rows i kind) × (HasItsParts rows i kind → IsTrue b)

  pub tells_at : (kind other : ElemKind) → kind ≡ other → Tells other → Tells kind
  tells_at kind other is h = subst Tells (sym is) h

  pub tells_at_either : (kind : ElemKind) → (kind ≡ Begin) ⊎ (kind ≡ End) → Tells Begin → Tells kind
  tells_at_either kind (inl is) h = tells_at kind Begin is h
  tells_at_either kind (inr is) h = tells_at kind End is h
