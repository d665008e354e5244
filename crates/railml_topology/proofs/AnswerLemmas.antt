-- What is answered of rows is this alone, or want of memory.
use Rattle.std.proofs.Common.{◌≡◌, ◌⊎◌, List, Result, Ok, Err}
use Rattle.std.specs.Result.{IfOk, IfErr, OnOk}
use Rattle.plan_core.specs.Exactly.{AnswersExactly}
use Rattle.plan_core.proofs.ExactlyLemmas.{answers_exactly}
use Rattle.plan_core.specs.declared.topology.Topology.{Topology as Resolved}
use Rattle.railml_read.specs.declared.rows.Elem.{Elem}
use Rattle.railml_read.specs.Formed.{AreFormed}
use Rattle.railml_faults.specs.Faults.{HasNoFault}
use Rattle.railml_faults.proofs.LawLemmas.{one_first_fault}
use Rattle.railml_topology.specs.declared.fault.ResolveFault.{ResolveFault}
use Rattle.railml_topology.specs.declared.fault.ResolveFault.TheVariants.{Topology, Memory}
use Rattle.railml_topology.specs.Resolved.{IsTopologyOf}
use Rattle.railml_topology.specs.Answers.{ResolvesTo, IsResolveFault}
use Rattle.railml_topology.proofs.OneTopologyLemmas.{one_topology}

module _ (rows : List Elem) (formed : AreFormed rows) where
  one_resolved : (t u : Resolved) → ResolvesTo rows t → ResolvesTo rows u → t ≡ u
  one_resolved t u h k = one_topology rows t u formed h.faultless h.is_topology k.is_topology

  one_resolve_fault : (e f : ResolveFault) → IsResolveFault rows e → IsResolveFault rows f → e ≡ f
  one_resolve_fault (Topology what at first second) (Topology other place one another) h k =
      let same = one_first_fault rows what other at place first second one another formed h k in
      let kind = same.0 in
      let here = same.1 in
      let texts = same.2 in
      let more = same.3 in
      cc
  one_resolve_fault (Topology what at first second) Memory h k = absurd k
  one_resolve_fault Memory f h k = absurd h

  topology_or_fault : (t : Resolved) (e : ResolveFault) → ResolvesTo rows t → IsResolveFault rows e → ⊥
  topology_or_fault t (Topology what at first second) h k = h.faultless what at first second k.holds
  topology_or_fault t Memory h k = k

  resolves : (r : Result Resolved ResolveFault) → IfOk r (λ t. IsTopologyOf rows t) → OnOk r (HasNoFault rows) → IfOk r (ResolvesTo rows)
  resolves (Ok t) is_topology faultless = record { faultless = faultless; is_topology = is_topology }
  resolves (Err e) is_topology faultless = tt

pub resolves_exactly : (rows : List Elem) (r : Result Resolved ResolveFault) → AreFormed rows → IfOk r (λ t. IsTopologyOf rows t) → OnOk r (HasNoFault rows) →
    IfErr r (λ e. (e ≡ Memory) ⊎ IsResolveFault rows e) → AnswersExactly r Memory (ResolvesTo rows) (IsResolveFault rows)
resolves_exactly rows r formed is_topology faultless fault = answers_exactly r Memory (ResolvesTo rows) (IsResolveFault rows)
    (resolves rows formed r is_topology faultless) fault (one_resolved rows formed) (one_resolve_fault rows formed) (topology_or_fault rows formed)
