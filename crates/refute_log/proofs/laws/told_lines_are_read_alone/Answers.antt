use Rattle.refute_log.proofs.FeedLemmas.{line_lacks, told_is_read}
use Rattle.refute_log.proofs.laws.told_lines_are_read_alone.Goals as goal

pub returns-clause-read : goal.returns-clause-read
returns-clause-read c = told_is_read

pub returns-clause-one_line : goal.returns-clause-one_line
returns-clause-one_line c = λ line h. line_lacks line h.formed
