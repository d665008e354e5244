use Rattle.std.specs.Prelude.{false}
use Rattle.std.proofs.lemmas.Result.{IfOk-weaker}
use Rattle.run_check.proofs.SettledLemmas.{sheet_claims}
use Rattle.run_check.proofs.TrimmedLemmas.{sheet_finding}
use Rattle.run_check.proofs.trimming.judge_sheet.Goals as goal

pub judge_claim-requires-clause-claim : goal.judge_claim-requires-clause-claim
judge_claim-requires-clause-claim c = sheet_claims c.args.station.now.graph false c.args.sheet.now c.in-Ok.sheet c.in-Ok.ensures.value

pub returns-in-Ok : goal.returns-in-Ok
returns-in-Ok c =
    IfOk-weaker c.judge_claim.result _ _ (λ f h. sheet_finding c.args.station.now.graph c.args.station.now.order c.args.sheet.now c.args.log.now c.in-Ok.sheet f
    c.in-Ok.ensures.value h) c.judge_claim.ensures
