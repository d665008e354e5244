use Rattle.plan_words.specs.Arguments.{texts_of}
use Rattle.plan_words.proofs.AnswerLemmas.{words_exactly}
use Rattle.plan_words.proofs.reading.read_words.Goals as goal

pub returns : goal.returns
returns c = words_exactly (texts_of c.args.words.now) c.read_line.result c.read_line.ensures.command c.read_line.ensures.fault
