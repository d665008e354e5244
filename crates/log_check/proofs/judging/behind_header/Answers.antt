use Rattle.std.proofs.lemmas.Bool.Decides.{Decides-eqb}
use Rattle.std.proofs.lemmas.Slice.Eq.{strip_prefix_is}
use Rattle.refute_log.specs.Lines.{header}
use Rattle.log_check.proofs.judging.behind_header.Goals as goal

pub returns : goal.returns
returns c = strip_prefix_is Decides-eqb c.args.log.now header c.strip_prefix.result c.strip_prefix.ensures.cases
