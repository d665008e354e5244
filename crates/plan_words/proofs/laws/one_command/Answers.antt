use Rattle.plan_words.proofs.AnswerLemmas.{command_same}
use Rattle.plan_words.proofs.laws.one_command.Goals as goal

pub returns : goal.returns
returns c = command_same
