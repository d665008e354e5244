use Rattle.schematic_main.proofs.SoRefused.{names_file_fault, verify_names, check_names}
use Rattle.schematic_main.proofs.laws.refusals_name_the_fault.Goals as goal

pub returns-clause-file : goal.returns-clause-file
returns-clause-file c = names_file_fault

pub returns-clause-verified : goal.returns-clause-verified
returns-clause-verified c = verify_names

pub returns-clause-checked : goal.returns-clause-checked
returns-clause-checked c = check_names
