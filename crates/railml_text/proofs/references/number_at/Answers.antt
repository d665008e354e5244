use Rattle.railml_text.proofs.ReferenceLemmas.{front_digits}
use Rattle.railml_text.proofs.references.number_at.Goals as goal

pub number_of-number-requires-clause-each : goal.number_of-number-requires-clause-each
number_of-number-requires-clause-each c = rw c.split_digits.ensures.front (front_digits c.args.base c.args.bytes.now)
