use Rattle.std.proofs.lemmas.Result.{IfOk-weaker}
use Rattle.run_check.proofs.TrimmedLemmas.{file_finding}
use Rattle.run_check.proofs.trimming.judge.Goals as goal

pub returns-in-Ok : goal.returns-in-Ok
returns-in-Ok c =
    IfOk-weaker c.judge_sheet.result _ _ (λ f h. file_finding c.args.bytes.now c.args.sheet.now c.args.log.now c.in-Ok.station.graph c.in-Ok.station.order f
    c.in-Ok.ensures.station h) c.judge_sheet.ensures
