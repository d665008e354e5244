use Rattle.refute_log.proofs.LawLemmas.{form_once}
use Rattle.refute_log.proofs.laws.one_form.Goals as goal

pub returns : goal.returns
returns c = form_once
