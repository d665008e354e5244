use Rattle.hint_log.proofs.OnceLemmas.{form_once}
use Rattle.hint_log.proofs.text_laws.one_hint_form.Goals as goal

pub returns : goal.returns
returns c = form_once
