use Rattle.cnf_core.proofs.GatherLemmas.{truth-negate, value-flip}
use Rattle.cnf_core.proofs.laws.negation_is_false.Goals as goal

pub returns-clause-literal : goal.returns-clause-literal
returns-clause-literal c = truth-negate

pub returns-clause-given : goal.returns-clause-given
returns-clause-given c = value-flip
