use Rattle.run_input.proofs.InputLemmas.{station_or_fault}
use Rattle.run_input.proofs.laws.station_or_fault.Goals as goal

pub returns : goal.returns
returns c = station_or_fault
