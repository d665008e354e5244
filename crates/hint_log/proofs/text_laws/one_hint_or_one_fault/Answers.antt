use Rattle.hint_log.proofs.OnceLemmas.{fault_once, hint_no_fault}
use Rattle.hint_log.proofs.text_laws.one_hint_or_one_fault.Goals as goal

pub returns : goal.returns
returns c = record { fault = fault_once; line = hint_no_fault }
