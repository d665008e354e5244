use Rattle.run_explain_redraw.proofs.JudgedLemmas.{former_or_fault}
use Rattle.run_explain_redraw.proofs.laws.former_or_fault.Goals as goal

pub returns : goal.returns
returns c = former_or_fault
