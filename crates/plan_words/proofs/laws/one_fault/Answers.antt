use Rattle.plan_words.proofs.AnswerLemmas.{fault_same}
use Rattle.plan_words.proofs.laws.one_fault.Goals as goal

pub returns : goal.returns
returns c = fault_same
