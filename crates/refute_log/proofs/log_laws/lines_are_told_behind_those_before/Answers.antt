use Rattle.std.proofs.Common.{refl, sym}
use Rattle.refute_log.proofs.log_laws.lines_are_told_behind_those_before.Goals as goal

pub returns : goal.returns
returns c = λ count old new lines h. (sym (h.behind old refl), h.counted)
