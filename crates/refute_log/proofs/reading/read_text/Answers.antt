use Rattle.std.proofs.Common.{refl}
use Rattle.std.proofs.lemmas.Bool.{false≢true}
use Rattle.refute_log.proofs.LetterLemmas.{no_front}
use Rattle.refute_log.proofs.reading.read_text.Goals as goal

pub returns-else-is_model-clause-fault : goal.returns-else-is_model-clause-fault
returns-else-is_model-clause-fault c = (refl, no_front c.args.text.now c.in-None.ensures (λ e. false≢true (c.if-is_model.ensures.1 e)))
