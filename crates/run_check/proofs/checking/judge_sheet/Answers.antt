use Rattle.std.specs.Prelude.{false}
use Rattle.run_check.proofs.SettledLemmas.{sheet_claims}
use Rattle.run_check.proofs.checking.judge_sheet.Goals as goal

pub check_claim-requires-clause-claim : goal.check_claim-requires-clause-claim
check_claim-requires-clause-claim c = sheet_claims c.args.station.now.graph false c.args.sheet.now c.in-Ok.sheet c.in-Ok.ensures.value
