use Rattle.refute_log.proofs.LogLemmas.{words_of_log}
use Rattle.refute_log.proofs.log_laws.words_are_of_formula_and_learnt_lines.Goals as goal

pub returns : goal.returns
returns c = words_of_log
