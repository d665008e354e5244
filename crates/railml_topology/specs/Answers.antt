-- What rows are answered with: the topology that they resolve to, or their first fault.
use Rattle.std.specs.Prelude.{List}
use Rattle.plan_core.specs.declared.topology.Topology.{Topology as Resolved}
use Rattle.railml_read.specs.declared.rows.Elem.{Elem}
use Rattle.railml_faults.specs.Faults.{IsFirstTopologyFault, HasNoFault}
use Rattle.railml_topology.specs.declared.fault.ResolveFault.{ResolveFault}
use Rattle.railml_topology.specs.declared.fault.ResolveFault.TheVariants.{Topology, Memory}
use Rattle.railml_topology.specs.Resolved.{IsTopologyOf}

-- nothing is wrong with the rows, and this is their topology
pub record ResolvesTo (rows : List Elem) (t : Resolved) : Type 0 where
  pub faultless : HasNoFault rows
  pub is_topology : IsTopologyOf rows t

-- the fault that is told of the rows; want of memory is none
abbrev pub IsResolveFault : List Elem → ResolveFault → Type 0
IsResolveFault rows (Topology what at first second) = IsFirstTopologyFault rows what at first second
IsResolveFault rows Memory = ⊥
