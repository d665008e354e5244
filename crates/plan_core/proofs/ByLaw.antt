-- A lawful drawing law by law: the same as all instances at once.
use Rattle.std.proofs.Common.{ℕ, ◌<◌, Bool, length}
use Rattle.plan_core.specs.Grid.{GridSize}
use Rattle.plan_core.specs.Graph.{Graph}
use Rattle.plan_core.specs.Drawing.{Drawing}
use Rattle.plan_core.specs.Laws.{NodeIsOnGrid, LineIsOnGrid, NodesAreOrdered, LineJoinsItsNodes, NodeIsAligned, NodesAreApart, EdgeIsOver, EdgesAreParted}
use Rattle.plan_core.specs.Lawful.{NodeOnGrid, LineOnGrid, Ordered, Joined, Aligned, Apart, Over, Parted, IsPair, IsAbovePair, IsOtherPair, Fits, Lawful}

-- the drawing fits the graph, and each law holds for all its parties
pub record KeepsEachLaw (g : Graph) (above : ℕ → ℕ → Bool) (grid : GridSize) (d : Drawing) : Type 0 where
  pub fits : Fits g d
  pub nodes_on_grid : (n : ℕ) → n < length g.nodes → NodeIsOnGrid grid d n
  pub lines_on_grid : (e : ℕ) → e < length g.edges → LineIsOnGrid grid d e
  pub ordered : (u v : ℕ) → IsPair (length g.nodes) u v → NodesAreOrdered g d u v
  pub joined : (e : ℕ) → e < length g.edges → LineJoinsItsNodes g grid d e
  pub aligned : (n : ℕ) → n < length g.nodes → NodeIsAligned g d n
  pub apart : (u v : ℕ) → IsPair (length g.nodes) u v → NodesAreApart d u v
  pub over : (e f : ℕ) → IsAbovePair g above e f → EdgeIsOver g d e f
  pub parted : (e f : ℕ) → IsOtherPair g above e f → EdgesAreParted g d e f

pub each_law : (g : Graph) (above : ℕ → ℕ → Bool) (grid : GridSize) (d : Drawing) → Lawful g above grid d → KeepsEachLaw g above grid d
each_law g above grid d lawful = record {
  fits = lawful.fits;
  nodes_on_grid = λ n. lawful.laws (NodeOnGrid n);
  lines_on_grid = λ e. lawful.laws (LineOnGrid e);
  ordered = λ u v. lawful.laws (Ordered u v);
  joined = λ e. lawful.laws (Joined e);
  aligned = λ n. lawful.laws (Aligned n);
  apart = λ u v. lawful.laws (Apart u v);
  over = λ e f. lawful.laws (Over e f);
  parted = λ e f. lawful.laws (Parted e f);
}
