use Rattle.cnf_core.proofs.PropagationLemmas.{new_includes_none}
use Rattle.cnf_core.proofs.unit_laws.new_includes_no_clause.Goals as goal

pub returns : goal.returns
returns c = new_includes_none
