use Rattle.run_input.proofs.SignalLemmas.{signals_or_fault}
use Rattle.run_input.proofs.laws.signals_or_fault.Goals as goal

pub returns : goal.returns
returns c = signals_or_fault
