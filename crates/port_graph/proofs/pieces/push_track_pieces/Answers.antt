use Rattle.std.proofs.Common.{◌≡◌, ℕ, ◌+◌, ◌<◌, List, [], ◌∷◌, ◌++◌, length, map, drop, get_or, sym, ap, ◌∙◌, append_assoc}
use Rattle.plan_core.specs.declared.topology.Inner.{Inner}
use Rattle.port_graph.specs.declared.runs.Spot.{Spot}
use Rattle.port_graph.specs.declared.runs.Run.{Run}
use Rattle.port_graph.specs.Spots.{inner_spot, leads_to}
use Rattle.port_graph.specs.Runs.{runs_between}
use Rattle.port_graph.proofs.EdgeLemmas.{drop_here}
use Rattle.port_graph.proofs.pieces.push_track_pieces.Goals as goal

-- what is left of the runs of this name, from here over these to the end
abbrev Left : List ℕ → Spot → List Inner → Spot → List Run
Left name from xs end = runs_between name (from ∷ (map inner_spot xs ++ end ∷ []))

-- one run of what is left goes over to what is there
run_over : (name : List ℕ) (there next all : List Run) (from to end : Spot) (xs : List Inner) (i : ℕ) (x : Inner) → i < length xs → x ≡ get_or xs i x →
    there ++ Left name from (drop i xs) end ≡ all → to ≡ inner_spot x → next ≡ there ++ record { track = name; from = from; to = to } ∷ [] →
    next ++ Left name to (drop (i + 1) xs) end ≡ all
run_over name there next all from to end xs i x within is so_far to_is pushed =
    ap (λ l. l ++ Left name to (drop (i + 1) xs) end) pushed
    ∙ append_assoc there (record { track = name; from = from; to = to } ∷ []) (Left name to (drop (i + 1) xs) end)
    ∙ ap (λ (s : Spot). there ++ record { track = name; from = from; to = s } ∷ Left name s (drop (i + 1) xs) end) to_is
    ∙ ap (λ l. there ++ Left name from l end) (sym (drop_here xs i x within is))
    ∙ so_far

pub loop-inner-preserved : goal.loop-inner-preserved
loop-inner-preserved c = run_over c.args.track.now.id _ _ _ c.loop-inner.from _ (leads_to c.args.t.now c.args.track.now.end) c.as_slice-inner-items.result.now
    c.loop-inner.inner-index c.inner-item.result c.loop-inner-test.true c.inner-item.is c.loop-inner.invariant c.inner_spot-to.ensures c.in_ok-push_run.ensures
