use Rattle.cdcl_core.proofs.LogLemmas.{belongs_bound}
use Rattle.cdcl_core.proofs.laws.a_bound_line_changes_nothing.Goals as goal

pub returns : goal.returns
returns c = λ lines k criterion n x formed b. belongs_bound lines k.clauses k.words criterion n x formed b
