use Rattle.cnf_core.proofs.PropagationLemmas.{new_by_witness}
use Rattle.cnf_core.proofs.unit_laws.new_by_a_closed_set.Goals as goal

pub returns : goal.returns
returns c = λ clauses first others set w named.
    let both = new_by_witness clauses first others set w in
    record { named = named; unfalsified = both.0; unknown = both.1 }
