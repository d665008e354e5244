use Rattle.std.proofs.Common.{arith}
use Rattle.log_trim.proofs.UsedLemmas.{learnt_one}
use Rattle.log_trim.proofs.shortening.keep_line.Goals as goal

pub keep_learnt-requires : goal.keep_learnt-requires
keep_learnt-requires c =
    let one = learnt_one c.args.line.now c.in-Learnt.lits c.in-Learnt.hints c.in-Learnt.is in
    omega (arith, one, c.requires)
