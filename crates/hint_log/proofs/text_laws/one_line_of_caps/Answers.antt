use Rattle.hint_log.proofs.CapsLemmas.{caps_once, caps_fault_once, caps_no_fault, caps_lack}
use Rattle.hint_log.proofs.text_laws.one_line_of_caps.Goals as goal

pub returns-clause-caps : goal.returns-clause-caps
returns-clause-caps c = caps_once

pub returns-clause-fault : goal.returns-clause-fault
returns-clause-fault c = caps_fault_once

pub returns-clause-line : goal.returns-clause-line
returns-clause-line c = caps_no_fault

pub returns-clause-one_line : goal.returns-clause-one_line
returns-clause-one_line c = caps_lack
