-- The columns of a graph, and the column of each node.
use Rattle.std.proofs.Common.{◌≡◌, ℕ, ◌+◌, ◌<◌, ◌≤◌, ℤ, Bool, true, false, cond, ◌||◌, List, [], ◌∷◌, ◌++◌, length, map, take, get_or, Option, Some, None, Err}
use Rattle.std.proofs.Common.{refl, sym, ap, ◌∙◌, subst, inl, inr, arith}
use Rattle.std.specs.Prelude.{◌<ℤ◌, All, AllPairs, Contains, slice_get}
use Rattle.std.specs.Ordering.{nat_cmp, int_cmp, int_eq, match_ordering, is_lt}
use Rattle.std.specs.declared.cmp.Ordering.TheVariants.{Less, Equal, Greater}
use Rattle.std.specs.List.{dedup, dedup_from, HoldsAt}
use Rattle.std.specs.List.Retain.{IsFiltered, DiffersFromLast}
use Rattle.std.specs.List.Sorted.{IsSorted, IsSortedBy, IsPermutation, IsBinarySearchResult}
use Rattle.std.specs.BTreeSet.{insert_key}
use Rattle.std.specs.Cmp.{tied_itself, nat_cmp_is, int_cmp_is}
use Rattle.std.specs.FinMap.{int_cmp-IsAntisymmetric}
use Rattle.std.proofs.lemmas.Bool.{cases_lt, cases_order}
use Rattle.std.proofs.lemmas.Bool.Decides.{Decides-int_eq}
use Rattle.std.proofs.lemmas.Cmp.{nat_cmp_total, int_cmp_total, int_ranked}
use Rattle.std.proofs.lemmas.List.{length-map, get_or-map, map-append, map_more}
use Rattle.std.proofs.lemmas.List.Elements.{All-contains}
use Rattle.std.proofs.lemmas.List.Filters.{dedup_is}
use Rattle.std.proofs.lemmas.List.Kept.{IsStrictlySortedBy-dedup}
use Rattle.std.proofs.lemmas.List.Sorted.{list_any-IsPermutation, searchable_from_sorted}
use Rattle.std.proofs.lemmas.Map.Keys.{Less-from_sorted}
use Rattle.std.proofs.lemmas.Option.{slice_get-get_or, slice_get_within, get_or_from_slice_get, same_Some}
use Rattle.plan_core.specs.declared.numbers.ColumnNo.{ColumnNo}
use Rattle.plan_core.specs.Graph.{Graph, Node, Edge, Ports as PlainPorts, no_node, no_edge, node, edge, mileage, ArePortsOf}
use Rattle.plan_core.proofs.TruthFacts.{same_when}
use Rattle.port_graph.specs.declared.rows.NodeRow.{NodeRow}
use Rattle.port_graph.specs.declared.rows.EdgeRow.{EdgeRow}
use Rattle.port_graph.specs.StationGraph.{IsStationGraph}
use Rattle.port_graph.specs.Plain.{plain_graph, plain_node, plain_edge, plain_ports, miles_of}
use Rattle.port_graph.specs.Columns.{mileages, rising, columns_of, AreColumns}
use Rattle.port_graph.specs.Kept.{ArePlaces, IsKeptGraph}
use Rattle.port_graph.proofs.RisingLemmas.{Rises, is_in, rising_rises, is_in-rising, same_rising, all_in, or_again, rises_from_pairs, is_in_from, contains_from}

-- ---- the list of columns

pub rising_pairs : (ms : List ℤ) → AllPairs (λ (x y : ℤ). x <ℤ y) (rising ms)
rising_pairs ms i j d less within =
    int_ranked _ _ Less (sym (Less-from_sorted int_cmp (rising ms) i j d (rising_rises ms) less within))

pub all_in_rising : (ms : List ℤ) → All (Contains (rising ms)) ms
all_in_rising ms = all_in ms (rising ms) (λ q there. is_in-rising q ms ∙ there)

pub columns_are : (g : Graph) → AreColumns g (columns_of g)
unfolding columns_of
columns_are g = record {
  rise = rising_pairs (mileages g);
  every = all_in_rising (mileages g);
  no_other = all_in (rising (mileages g)) (mileages g) (λ q there. sym (is_in-rising q (mileages g)) ∙ there);
}

-- no other list is so
pub only_columns : (g : Graph) (columns : List ℤ) → AreColumns g columns → columns ≡ columns_of g
unfolding columns_of
only_columns g columns are =
    let ms : List ℤ = mileages g in
    same_rising columns (rising ms) (rises_from_pairs columns are.rise) (rising_rises ms)
    (λ q.
    same_when (is_in q columns) (is_in q ms)
    (λ there. is_in_from ms q (All-contains (Contains ms) columns q are.no_other (contains_from columns q there)))
    (λ there. is_in_from columns q (All-contains (Contains columns) ms q are.every (contains_from ms q there)))
    ∙ sym (is_in-rising q ms))

length-put : (k : ℤ) (ks : List ℤ) → length (insert_key int_cmp ks k) ≤ length ks + 1
length-put k [] = omega arith
length-put k (y ∷ ys) =
    elim (int_cmp k y) as (λ r. length (match_ordering r (k ∷ y ∷ ys) (y ∷ ys) (y ∷ insert_key int_cmp ys k)) ≤ length (y ∷ ys) + 1) [
      | Less ↦ omega arith
      | Equal ↦ omega arith
      | Greater ↦ omega (arith, length-put k ys)
    ]

pub length-rising : (ms : List ℤ) → length (rising ms) ≤ length ms
unfolding rising
length-rising [] = omega arith
length-rising (m ∷ ms) = omega (arith, length-rising ms, length-put m (rising ms))

-- ---- numbers sorted, and each kept once

is_in-dedup_from : (q k : ℤ) (xs : List ℤ) → is_in q (dedup_from int_eq k xs) ≡ (int_eq q k || is_in q xs)
is_in-dedup_from q k [] = refl
is_in-dedup_from q k (x ∷ xs) =
    elim (int_eq x k) as (λ b. int_eq x k ≡ b → is_in q (cond b (dedup_from int_eq k xs) (k ∷ dedup_from int_eq x xs))
    ≡ (int_eq q k || (int_eq q x || is_in q xs))) [
      | true ↦ λ e.
          is_in-dedup_from q k xs ∙ or_again (int_eq q k) (is_in q xs)
          ∙ ap (λ (n : ℤ). int_eq q k || (int_eq q n || is_in q xs)) (sym ((Decides-int_eq x k).0 e))
      | false ↦ λ e. ap (λ (b : Bool). int_eq q k || b) (is_in-dedup_from q x xs)
    ] refl

is_in-dedup : (q : ℤ) (xs : List ℤ) → is_in q (dedup int_eq xs) ≡ is_in q xs
is_in-dedup q [] = refl
is_in-dedup q (x ∷ xs) = is_in-dedup_from q x xs

pub sorted_once : (old sorted new : List ℤ) → IsPermutation old sorted → IsSorted int_cmp sorted → IsFiltered (DiffersFromLast int_eq) [] sorted new →
    new ≡ rising old
sorted_once old sorted new moved order kept =
    let once : Rises (dedup int_eq sorted) = IsStrictlySortedBy-dedup int_cmp_total (λ x y. refl) sorted order in
    let same : (q : ℤ) → is_in q (dedup int_eq sorted) ≡ is_in q (rising old) = λ q. is_in-dedup q sorted
    ∙ sym (list_any-IsPermutation (int_eq q) old sorted moved) ∙ sym (is_in-rising q old) in
    dedup_is int_eq sorted new kept ∙ same_rising (dedup int_eq sorted) (rising old) once (rising_rises old) same

-- ---- the place of a mileage

neighbours_rise : (columns : List ℤ) → AllPairs (λ (x y : ℤ). x <ℤ y) columns → IsSortedBy (λ (a b : ℤ). is_lt (int_cmp a b)) columns
neighbours_rise columns rise k d from within =
    ap is_lt (sym (int_cmp_is (get_or columns (k + 1) d) (get_or columns k d) Greater (rise k (k + 1) d (omega arith) within)))

pub place_found : (columns : List ℤ) (m : ℤ) (i : ℕ) → HoldsAt (λ (y : ℤ). int_cmp y m ≡ Equal) columns i → i < length columns → slice_get columns i ≡ Some m
place_found columns m i at_i within =
    slice_get-get_or columns i m within ∙ ap Some (int_cmp-IsAntisymmetric (get_or columns i m) m (at_i m))

less_isnt_equal : Less ≡ Equal → ⊥
less_isnt_equal e = cc

greater_isnt_equal : Greater ≡ Equal → ⊥
greater_isnt_equal e = cc

pub always_found : (columns : List ℤ) (m : ℤ) (i : ℕ) → AllPairs (λ (x y : ℤ). x <ℤ y) columns → Contains columns m →
    IsBinarySearchResult {X = ℤ} (λ (y : ℤ). int_cmp y m) columns (Err i) → ⊥
always_found columns m i rise there search_result =
    let sides = search_result (searchable_from_sorted int_cmp_total (λ (x : ℤ). x) columns m (neighbours_rise columns rise)) in
    let k : ℕ = there.0 in
    let same : int_cmp (get_or columns k m) m ≡ Equal = ap (λ (x : ℤ). int_cmp x m) there.2 ∙ tied_itself int_cmp_total m in
    elim (cases_lt k i) [
      | inl before ↦ less_isnt_equal (sym (sides.0 k m (omega arith) before) ∙ same)
      | inr after ↦ greater_isnt_equal (sym (sides.1 k m after there.1) ∙ same)
    ]

-- ---- rows

pub miles_plain : (nodes : List NodeRow) (edges : List EdgeRow) → miles_of nodes ≡ mileages (plain_graph nodes edges)
miles_plain [] edges = refl
miles_plain (n ∷ nodes) edges = ap (λ (ms : List ℤ). n.mileage.0 ∷ ms) (miles_plain nodes edges)

pub place_of_node : (columns miles : List ℤ) (numbers : List ColumnNo) (n : ℕ) (c : ColumnNo) (m : ℤ) → ArePlaces columns miles numbers → n < length miles →
    c ≡ get_or numbers n c → m ≡ get_or miles n m → slice_get columns c.0 ≡ Some m
place_of_node columns miles numbers n c m places within is is' =
    let as_long : length numbers ≡ length miles = sym (length-map numbers (λ (c : ColumnNo). slice_get columns c.0))
    ∙ ap (λ (l : List (Option ℤ)). length l) places ∙ length-map miles (λ (x : ℤ). Some x) in
    ap (λ (c : ColumnNo). slice_get columns c.0) is
    ∙ sym (get_or-map (λ (c : ColumnNo). slice_get columns c.0) numbers n c None (omega arith))
    ∙ ap (λ (l : List (Option ℤ)). get_or l n None) places
    ∙ get_or-map (λ (x : ℤ). Some x) miles n m None within
    ∙ ap (λ (x : ℤ). Some x) (sym is')

pub column_of_node : (nodes : List NodeRow) (edges : List EdgeRow) (numbers : List ColumnNo) (g : Graph) (n : ℕ) (c : ColumnNo) → plain_graph nodes edges ≡ g →
    ArePlaces (columns_of (plain_graph nodes edges)) (mileages (plain_graph nodes edges)) numbers → n < length g.nodes → c ≡ get_or numbers n c →
    slice_get (columns_of g) c.0 ≡ Some (mileage g n)
column_of_node nodes edges numbers g n c is places within at_n =
    let places' : ArePlaces (columns_of g) (mileages g) numbers = subst (λ (g : Graph). ArePlaces (columns_of g) (mileages g) numbers) is places in
    let as_many : length (mileages g) ≡ length g.nodes = length-map g.nodes (λ (x : Node). x.mileage) in
    place_of_node (columns_of g) (mileages g) numbers n c (mileage g n) places' (omega arith) at_n
    (sym (get_or-map (λ (x : Node). x.mileage) g.nodes n no_node (mileage g n) within))

pub few_columns : (nodes : List NodeRow) (edges : List EdgeRow) (g : Graph) (columns : ℕ) → plain_graph nodes edges ≡ g →
    columns ≡ length (columns_of (plain_graph nodes edges)) → columns ≤ length g.nodes
unfolding columns_of
few_columns nodes edges g columns is count =
    let as_g : columns ≡ length (columns_of g) = subst (λ (g : Graph). columns ≡ length (columns_of g)) is count in
    let as_many : length (mileages g) ≡ length g.nodes = length-map g.nodes (λ (x : Node). x.mileage) in
    omega (arith, length-rising (mileages g))

-- the columns of the graph that rows stand for
pub columns_of_rows : (nodes : List NodeRow) (edges : List EdgeRow) → columns_of (plain_graph nodes edges) ≡ rising (miles_of nodes)
unfolding columns_of
columns_of_rows nodes edges = ap rising (sym (miles_plain nodes edges))

pub rows_kept : (nodes : List NodeRow) (edges : List EdgeRow) (columns : ℕ) (numbers : List ColumnNo) → IsStationGraph (plain_graph nodes edges) →
    columns ≡ length (rising (miles_of nodes)) → ArePlaces (rising (miles_of nodes)) (miles_of nodes) numbers →
    IsKeptGraph (plain_graph nodes edges) columns numbers
rows_kept nodes edges columns numbers station count places = record {
  station = station;
  count = count ∙ ap (λ (l : List ℤ). length l) (sym (columns_of_rows nodes edges));
  places =
      subst (λ (l : List ℤ). ArePlaces l (mileages (plain_graph nodes edges)) numbers) (sym (columns_of_rows nodes edges))
      (subst (λ (ms : List ℤ). ArePlaces (rising (miles_of nodes)) ms numbers) (miles_plain nodes edges) places);
}

pub few_rising : (nodes : List NodeRow) (columns : List ℤ) → columns ≡ rising (miles_of nodes) → length columns ≤ length nodes
few_rising nodes columns is =
    let as_many : length (miles_of nodes) ≡ length nodes = length-map nodes (λ (x : NodeRow). x.mileage.0) in
    subst (λ (l : List ℤ). length l ≤ length nodes) (sym is) (omega (arith, length-rising (miles_of nodes)))

pub columns_rise : (columns ms : List ℤ) → columns ≡ rising ms → AllPairs (λ (x y : ℤ). x <ℤ y) columns
columns_rise columns ms is = subst (λ (l : List ℤ). AllPairs (λ (x y : ℤ). x <ℤ y) l) (sym is) (rising_pairs ms)

pub mile_there : (columns : List ℤ) (nodes : List NodeRow) (k : ℕ) (n : NodeRow) → columns ≡ rising (miles_of nodes) → k < length nodes → n ≡ get_or nodes k n →
    Contains columns n.mileage.0
mile_there columns nodes k n columns_is within is =
    let every : All (Contains columns) (miles_of nodes) = subst (λ (l : List ℤ). All (Contains l) (miles_of nodes)) (sym columns_is)
    (all_in_rising (miles_of nodes)) in
    let as_many : length (miles_of nodes) ≡ length nodes = length-map nodes (λ (x : NodeRow). x.mileage.0) in
    subst (Contains columns)
    (get_or-map (λ (x : NodeRow). x.mileage.0) nodes k n n.mileage.0 within ∙ ap (λ (x : NodeRow). x.mileage.0) (sym is))
    (every k n.mileage.0 (omega arith))

-- the place of one mileage more
pub placed_over : (columns : List ℤ) (nodes : List NodeRow) (k : ℕ) (n : NodeRow) (numbers new : List ColumnNo) (c : ColumnNo) → k < length nodes →
    n ≡ get_or nodes k n → ArePlaces columns (miles_of (take k nodes)) numbers → new ≡ numbers ++ c ∷ [] → slice_get columns c.0 ≡ Some n.mileage.0 →
    ArePlaces columns (miles_of (take (k + 1) nodes)) new
placed_over columns nodes k n numbers new c within is places pushed at_c =
    let place : ColumnNo → Option ℤ = λ (x : ColumnNo). slice_get columns x.0 in
    let more : miles_of (take (k + 1) nodes) ≡ miles_of (take k nodes) ++ n.mileage.0 ∷ [] = map_more (λ (x : NodeRow). x.mileage.0) nodes k n within
    ∙ ap (λ (x : NodeRow). miles_of (take k nodes) ++ x.mileage.0 ∷ []) (sym is) in
    ap (map place) pushed
    ∙ map-append place numbers (c ∷ [])
    ∙ ap (λ (l : List (Option ℤ)). l ++ place c ∷ []) places
    ∙ ap (λ (o : Option ℤ). map (λ (m : ℤ). Some m) (miles_of (take k nodes)) ++ o ∷ []) at_c
    ∙ sym (ap (map (λ (m : ℤ). Some m)) more ∙ map-append (λ (m : ℤ). Some m) (miles_of (take k nodes)) (n.mileage.0 ∷ []))

-- ---- the ends of an edge

pub west_there : (nodes : List NodeRow) (edges : List EdgeRow) (g : Graph) (e : ℕ) (x : EdgeRow) → plain_graph nodes edges ≡ g →
    IsStationGraph (plain_graph nodes edges) → e < length g.edges → x ≡ get_or edges e x → x.west.0 < length g.nodes
west_there nodes edges g e x is station within at_e =
    let here : e < length edges = subst (λ (k : ℕ). e < k) (ap (λ (g : Graph). length g.edges) (sym is) ∙ length-map edges plain_edge) within in
    let row : (edge (plain_graph nodes edges) e).west ≡ x.west.0 = ap (λ (y : Edge). y.west) (get_or-map plain_edge edges e x no_edge here)
    ∙ ap (λ (y : EdgeRow). y.west.0) (sym at_e) in
    let there = (station.track_graph.nodes e (subst (λ (k : ℕ). e < k) (sym (length-map edges plain_edge)) here)).0 in
    subst (λ (g : Graph). x.west.0 < length g.nodes) is (subst (λ (k : ℕ). k < length (plain_graph nodes edges).nodes) row there)

pub east_there : (nodes : List NodeRow) (edges : List EdgeRow) (g : Graph) (e : ℕ) (x : EdgeRow) → plain_graph nodes edges ≡ g →
    IsStationGraph (plain_graph nodes edges) → e < length g.edges → x ≡ get_or edges e x → x.east.0 < length g.nodes
east_there nodes edges g e x is station within at_e =
    let here : e < length edges = subst (λ (k : ℕ). e < k) (ap (λ (g : Graph). length g.edges) (sym is) ∙ length-map edges plain_edge) within in
    let row : (edge (plain_graph nodes edges) e).east ≡ x.east.0 = ap (λ (y : Edge). y.east) (get_or-map plain_edge edges e x no_edge here)
    ∙ ap (λ (y : EdgeRow). y.east.0) (sym at_e) in
    let there = (station.track_graph.nodes e (subst (λ (k : ℕ). e < k) (sym (length-map edges plain_edge)) here)).1 in
    subst (λ (g : Graph). x.east.0 < length g.nodes) is (subst (λ (k : ℕ). k < length (plain_graph nodes edges).nodes) row there)

-- ---- for callers: columns stand in the order of their mileages

before_below : (columns : List ℤ) (i j : ℕ) (m n : ℤ) → AllPairs (λ (x y : ℤ). x <ℤ y) columns → i < j → slice_get columns i ≡ Some m →
    slice_get columns j ≡ Some n → m <ℤ n
before_below columns i j m n rise less is is' =
    subst (λ (x : ℤ). x <ℤ n) (get_or_from_slice_get columns i m n is)
    (subst (λ (y : ℤ). get_or columns i n <ℤ y) (get_or_from_slice_get columns j n n is') (rise i j n less (slice_get_within columns j n is')))

pub column_order : (columns : List ℤ) (i j : ℕ) (m n : ℤ) → AllPairs (λ (x y : ℤ). x <ℤ y) columns → slice_get columns i ≡ Some m →
    slice_get columns j ≡ Some n → nat_cmp i j ≡ int_cmp m n
column_order columns i j m n rise is is' =
    elim (cases_order i j) [
      | inl same ↦
          let one : m ≡ n = same_Some m n (sym is ∙ ap (λ (k : ℕ). slice_get columns k) same ∙ is') in
          ap (λ (k : ℕ). nat_cmp k j) same ∙ tied_itself nat_cmp_total j
          ∙ sym (ap (λ (x : ℤ). int_cmp x n) one ∙ tied_itself int_cmp_total n)
      | inr (inl less) ↦ sym (nat_cmp_is i j Less less) ∙ int_cmp_is m n Less (before_below columns i j m n rise less is is')
      | inr (inr more) ↦ sym (nat_cmp_is i j Greater more) ∙ int_cmp_is m n Greater (before_below columns j i n m rise more is' is)
    ]

-- the ports of a row are those of its node
pub ports_there : (nodes : List NodeRow) (edges : List EdgeRow) (g : Graph) (n : ℕ) (x : NodeRow) → plain_graph nodes edges ≡ g →
    IsStationGraph (plain_graph nodes edges) → n < length g.nodes → x ≡ get_or nodes n x → ArePortsOf g n (plain_ports x.ports)
ports_there nodes edges g n x is station within at_n =
    let here : n < length nodes = subst (λ (k : ℕ). n < k) (ap (λ (g : Graph). length g.nodes) (sym is) ∙ length-map nodes plain_node) within in
    let row : (node (plain_graph nodes edges) n).ports ≡ plain_ports x.ports = ap (λ (y : Node). y.ports) (get_or-map plain_node nodes n x no_node here)
    ∙ ap (λ (y : NodeRow). plain_ports y.ports) (sym at_n) in
    let there = station.track_graph.ports n (subst (λ (k : ℕ). n < k) (sym (length-map nodes plain_node)) here) in
    subst (λ (g : Graph). ArePortsOf g n (plain_ports x.ports)) is (subst (λ (p : PlainPorts). ArePortsOf (plain_graph nodes edges) n p) row there)
