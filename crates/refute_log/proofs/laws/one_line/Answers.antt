use Rattle.refute_log.proofs.LawLemmas.{line_once}
use Rattle.refute_log.proofs.laws.one_line.Goals as goal

pub returns : goal.returns
returns c = line_once
