use Rattle.railml_text.proofs.CutLemmas.{one_first_fault, fault_no_cut}
use Rattle.railml_text.proofs.laws.one_first_fault.Goals as goal

pub returns-clause-one : goal.returns-clause-one
returns-clause-one c = one_first_fault

pub returns-clause-no_cut : goal.returns-clause-no_cut
returns-clause-no_cut c = fault_no_cut
