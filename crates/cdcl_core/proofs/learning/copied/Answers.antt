use Rattle.std.proofs.Common.{◌<◌, ◌≤◌, ◌∙◌, length, arith}
use Rattle.std.proofs.lemmas.List.{take_all}
use Rattle.cdcl_core.proofs.StepLemmas.{copied_more}
use Rattle.cdcl_core.proofs.learning.copied.Goals as goal

pub loop-i-preserved : goal.loop-i-preserved
loop-i-preserved c =
    let within : c.loop-i.i < length c.args.analyser.now.clause = let t = c.loop-i-test.true in let n = c.len-len.ensures in omega arith in
    copied_more c.args.analyser.now.clause c.loop-i.lits.items c.push.new.self.items c.loop-i.i c.lit.result within c.lit.ensures c.loop-i.invariant
    c.in_ok-push.ensures.items

pub returns : goal.returns
returns c =
    let past : length c.args.analyser.now.clause ≤ c.loop-i.i = let t = c.loop-i-test.false in let n = c.len-len.ensures in omega arith in
    c.loop-i.invariant ∙ take_all c.loop-i.i c.args.analyser.now.clause past
