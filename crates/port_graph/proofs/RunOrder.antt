-- The pieces, and then the joins in the order of the file, are all runs in the order of their numbers.
use Rattle.std.proofs.Common.{◌≡◌, ℕ, ◌+◌, inl, inr, List, ◌++◌, length, map, Some, sym, ap, ◌∙◌, arith, length-append}
use Rattle.std.specs.Prelude.{slice_get, nat_lt, count_by}
use Rattle.std.specs.List.Sorted.{IsPermutation, IsNonDecreasingBy}
use Rattle.std.proofs.lemmas.List.{length-map}
use Rattle.std.proofs.lemmas.List.Sorted.{Contains-permutation, IsPermutation-sym, length_permutation}
use Rattle.plan_core.specs.declared.topology.Topology.{Topology}
use Rattle.plan_core.specs.Topology.{IsResolved}
use Rattle.plan_core.proofs.ListFacts.{get_front, get_back}
use Rattle.port_graph.specs.declared.runs.Run.{Run}
use Rattle.port_graph.specs.declared.runs.Join.{Join}
use Rattle.port_graph.specs.Runs.{pieces_of_tracks, joins, join_number}
use Rattle.port_graph.specs.TopologyGraph.{IsRun}
use Rattle.port_graph.specs.Ordered.{AreRunsOf}
use Rattle.port_graph.proofs.FromFile.{join_places_differ}
use Rattle.port_graph.proofs.ListPlaces.{place_cases, place_of, contained, place_map, place_map_from}
use Rattle.port_graph.proofs.RunLemmas.{length-pieces}
use Rattle.port_graph.proofs.RankLemmas.{place_in_order}

abbrev run_of : Join → Run
run_of j = j.run

-- the place of a join in order is its number after the pieces
join_place : (t : Topology) (js : List Join) → IsResolved t → IsPermutation (joins t) js → IsNonDecreasingBy (λ (j : Join). j.at) js → (n : ℕ) (j : Join) →
    slice_get js n ≡ Some j → length (pieces_of_tracks t) + n ≡ join_number t j.at
join_place t js resolved moved up n j is =
    let rank : count_by (λ (i : Join). nat_lt i.at j.at) (joins t) ≡ n = place_in_order (λ (i : Join). i.at) (joins t) js moved up
    (join_places_differ t resolved) n j is in
    omega (arith, rank, length-pieces t)

each_at : (t : Topology) (js : List Join) → IsResolved t → IsPermutation (joins t) js → IsNonDecreasingBy (λ (j : Join). j.at) js → (e : ℕ) (r : Run) →
    IsRun t e r → slice_get (pieces_of_tracks t ++ map run_of js) e ≡ Some r
each_at t js resolved moved up e r (inl piece) = get_front (pieces_of_tracks t) (map run_of js) e r piece
each_at t js resolved moved up e r (inr (j, there, number, run)) =
    let at = place_of js j (Contains-permutation (joins t) js j moved there) in
    let e_is : length (pieces_of_tracks t) + at.0 ≡ e = join_place t js resolved moved up at.0 j at.1 ∙ number in
    ap (slice_get (pieces_of_tracks t ++ map run_of js)) (sym e_is)
    ∙ get_back (pieces_of_tracks t) (map run_of js) at.0
    ∙ place_map run_of js at.0 j at.1
    ∙ ap Some run

only_at : (t : Topology) (js : List Join) → IsResolved t → IsPermutation (joins t) js → IsNonDecreasingBy (λ (j : Join). j.at) js → (e : ℕ) (r : Run) →
    slice_get (pieces_of_tracks t ++ map run_of js) e ≡ Some r → IsRun t e r
only_at t js resolved moved up e r is = elim (place_cases (pieces_of_tracks t) (map run_of js) e r is) [
  | inl piece ↦ inl piece
  | inr later ↦
      let found = place_map_from run_of js later.0 r later.2 in
      let j = found.0 in
      inr (
        j,
        Contains-permutation js (joins t) j (IsPermutation-sym (joins t) js moved) (contained js later.0 j found.1),
        sym (join_place t js resolved moved up later.0 j found.1) ∙ later.1,
        found.2,
      )
]

pub runs_in_order : (t : Topology) (js : List Join) → IsResolved t → IsPermutation (joins t) js → IsNonDecreasingBy (λ (j : Join). j.at) js →
    AreRunsOf t (pieces_of_tracks t ++ map (λ (j : Join). j.run) js)
runs_in_order t js resolved moved up = record {
  count = omega (arith, length-append (pieces_of_tracks t) (map run_of js), length-map js run_of, length_permutation (joins t) js moved, length-pieces t);
  each = each_at t js resolved moved up;
  only = only_at t js resolved moved up;
}
