use Rattle.std.specs.Prelude.{IfSome}
use Rattle.plan_core.specs.Lawful.{Lawful}
use Rattle.track_order.specs.Order.{is_above}
use Rattle.log_trim.proofs.ReadingLemmas.{where_none}
use Rattle.run_check.proofs.TrimmedLemmas.{trimmed_for, passes_for, lacking_not_done, certifies_of}
use Rattle.run_check.proofs.trimming.judge_claim.Goals as goal

pub returns-in-Ok-Some : goal.returns-in-Ok-Some
returns-in-Ok-Some c =
    let g = c.args.station.now.graph in
    let o = c.args.station.now.order in
    let said = c.args.sheet.now in
    let lawful : IfSome said.found (Lawful g (is_above o) said.grid) = where_none _ _ c.in_ok-reply.field-0 c.in_ok-reply.ensures c.in_default.not-Some in
    let left = rw c.in-Ok-Some.field-0-is at (trimmed_for g o said _ c.claim_of-claim.result c.args.log.now c.in-Ok-Some.field-0 c.sheet.view_is
    c.claim_of-claim.ensures c.in-Ok-Some.ensures.left) in
    (certifies_of g o said c.args.log.now lawful left.0, left.1)

pub returns-in_ok-reply-in-Ok-None : goal.returns-in_ok-reply-in-Ok-None
returns-in_ok-reply-in-Ok-None c =
    let g = c.args.station.now.graph in
    let o = c.args.station.now.order in
    let said = c.args.sheet.now in
    let reply = c.in_ok-reply-in-Ok-None.reply in
    let lacks = rw c.in-Ok-None.field-0-is at (trimmed_for g o said _ c.claim_of-claim.result c.args.log.now c.in-Ok-None.field-0 c.sheet.view_is
    c.claim_of-claim.ensures c.in-Ok-None.ensures.left) in
    (c.in_ok-reply-in-Ok-None.ensures, lacking_not_done g o said c.args.log.now reply.status reply.text.items lacks c.in_ok-reply-in-Ok-None.ensures)

pub refused_claim-requires-clause-fault : goal.refused_claim-requires-clause-fault
refused_claim-requires-clause-fault c = λ is. passes_for c.args.station.now.graph c.args.station.now.order c.args.sheet.now _
    c.claim_of-claim.result c.args.log.now c.in-Err.fault c.sheet.view_is c.claim_of-claim.ensures is c.in-Err.ensures.limits
