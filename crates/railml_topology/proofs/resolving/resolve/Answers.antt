use Rattle.railml_topology.proofs.AnswerLemmas.{resolves_exactly}
use Rattle.railml_topology.proofs.resolving.resolve.Goals as goal

pub returns-clause-answers : goal.returns-clause-answers
returns-clause-answers c =
    let rows = c.as_slice.ensures in
    let said = c.topology_or_fault.ensures in
    resolves_exactly c.args.rows.now c.topology_or_fault.result c.requires (rw rows at said.topology) (rw rows at said.faultless) (rw rows at said.fault)
