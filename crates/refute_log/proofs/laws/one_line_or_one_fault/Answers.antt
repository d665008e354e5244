use Rattle.refute_log.proofs.LawLemmas.{fault_once, line_no_fault}
use Rattle.refute_log.proofs.laws.one_line_or_one_fault.Goals as goal

pub returns-clause-fault : goal.returns-clause-fault
returns-clause-fault c = fault_once

pub returns-clause-line : goal.returns-clause-line
returns-clause-line c = line_no_fault
