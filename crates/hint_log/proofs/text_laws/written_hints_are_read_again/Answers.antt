use Rattle.hint_log.proofs.OnceLemmas.{hint_lacks}
use Rattle.hint_log.proofs.text_laws.written_hints_are_read_again.Goals as goal

pub returns-clause-one_line : goal.returns-clause-one_line
returns-clause-one_line c = hint_lacks
