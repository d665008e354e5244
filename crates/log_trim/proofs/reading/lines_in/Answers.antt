use Rattle.std.proofs.Common.{◌≡◌, length, rules}
use Rattle.std.proofs.lemmas.List.{nil_from_length}
use Rattle.log_check.proofs.JudgingLemmas.{fault_next, line_next}
use Rattle.log_trim.proofs.ReadingLemmas.{read_none, read_next, read_whole, read_faulty, read_headless, where_none}
use Rattle.log_trim.proofs.reading.lines_in.Goals as goal

pub returns-in_default : goal.returns-in_default
returns-in_default c = read_headless c.args.log.now (where_none _ _ c.behind_header.result c.behind_header.ensures c.in_default.not-Some)

pub loop-rest-init : goal.loop-rest-init
loop-rest-init c = read_none c.args.log.now c.in-Some.body.now c.new-list.result c.new-list.ensures c.in-Some.ensures

pub push-requires : goal.push-requires
push-requires c = (line_next c.loop-rest.rest.now c.in_ok-line.field-0 c.in-Line.line c.in-Line.more c.in-Line.is c.in_ok-line.ensures).0

pub loop-rest-preserved : goal.loop-rest-preserved
loop-rest-preserved c =
    let next = line_next c.loop-rest.rest.now c.in_ok-line.field-0 c.in-Line.line c.in-Line.more c.in-Line.is c.in_ok-line.ensures in
    read_next c.args.log.now c.loop-rest.rest.now c.in-Line.more.now c.loop-rest.list c.push.new.self c.in-Line.line next.0 next.1
    c.in_ok-push-in-Line.ensures.ok c.loop-rest.invariant

pub returns-in-Fault : goal.returns-in-Fault
returns-in-Fault c =
    read_faulty c.args.log.now c.loop-rest.rest.now c.loop-rest.list c.in-Fault.field-0 c.loop-rest.invariant
    (fault_next c.loop-rest.rest.now c.in_ok-line.field-0 c.in-Fault.field-0 c.in-Fault.is c.in_ok-line.ensures)

pub returns : goal.returns
returns c =
    let none : length c.loop-rest.rest.now ≡ 0 = search rules in
    read_whole c.args.log.now c.loop-rest.rest.now c.loop-rest.list (nil_from_length c.loop-rest.rest.now none) c.loop-rest.invariant
