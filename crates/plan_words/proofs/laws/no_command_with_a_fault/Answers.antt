use Rattle.plan_words.proofs.AnswerLemmas.{command_or_fault}
use Rattle.plan_words.proofs.laws.no_command_with_a_fault.Goals as goal

pub returns : goal.returns
returns c = command_or_fault
