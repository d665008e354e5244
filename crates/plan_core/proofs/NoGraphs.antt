-- The graphs with one thing wrong are no track graphs.
use Rattle.std.proofs.Common.{refl}
use Rattle.plan_core.specs.Graph.{IsTrackGraph}
use Rattle.plan_core.specs.Breaches.{backwards_graph, flat_graph, loose_graph, misplaced_graph, stray_graph, one_legged_graph, idle_graph}
use Rattle.plan_core.proofs.Deciding.{refuted}
use Rattle.plan_core.proofs.LawfulTest.{is_track_graph}

pub backwards_graph_is_none : IsTrackGraph backwards_graph → ⊥
backwards_graph_is_none = refuted (is_track_graph backwards_graph) refl

pub flat_graph_is_none : IsTrackGraph flat_graph → ⊥
flat_graph_is_none = refuted (is_track_graph flat_graph) refl

pub loose_graph_is_none : IsTrackGraph loose_graph → ⊥
loose_graph_is_none = refuted (is_track_graph loose_graph) refl

pub misplaced_graph_is_none : IsTrackGraph misplaced_graph → ⊥
misplaced_graph_is_none = refuted (is_track_graph misplaced_graph) refl

pub stray_graph_is_none : IsTrackGraph stray_graph → ⊥
stray_graph_is_none = refuted (is_track_graph stray_graph) refl

pub one_legged_graph_is_none : IsTrackGraph one_legged_graph → ⊥
one_legged_graph_is_none = refuted (is_track_graph one_legged_graph) refl

pub idle_graph_is_none : IsTrackGraph idle_graph → ⊥
idle_graph_is_none = refuted (is_track_graph idle_graph) refl
