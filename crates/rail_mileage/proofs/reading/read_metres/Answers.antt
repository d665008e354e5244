use Rattle.std.proofs.Common.{◌∙◌}
use Rattle.rail_mileage.proofs.PartsLemmas.{reads, only}
use Rattle.rail_mileage.proofs.WrittenLemmas.{reads_again}
use Rattle.rail_mileage.proofs.reading.read_metres.Goals as goal

pub returns-clause-reads : goal.returns-clause-reads
returns-clause-reads c = λ parts m. c.read_parts.ensures ∙ reads c.args.text.now parts m

pub returns-clause-only : goal.returns-clause-only
returns-clause-only c = only c.args.text.now c.read_parts.result c.read_parts.ensures

pub returns-clause-written : goal.returns-clause-written
returns-clause-written c = λ z small e. c.read_parts.ensures ∙ reads_again c.args.text.now z small e
