use Rattle.hint_log.proofs.OnceLemmas.{hint_once}
use Rattle.hint_log.proofs.text_laws.one_hinted_line.Goals as goal

pub returns : goal.returns
returns c = hint_once
