use Rattle.run_explain_redraw.proofs.ExplainedLemmas.{exists}
use Rattle.run_explain_redraw.proofs.laws.exists_where_lawful.Goals as goal

pub returns : goal.returns
returns c = exists
