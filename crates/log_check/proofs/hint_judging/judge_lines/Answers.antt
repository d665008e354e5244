use Rattle.std.proofs.Common.{◌≡◌, length, arith, rules}
use Rattle.std.proofs.lemmas.List.{nil_from_length}
use Rattle.log_check.proofs.HintLineLemmas.{line_leaves_less, fault_next, line_next}
use Rattle.log_check.proofs.HintJudgingLemmas.{read_none, read_next, read_whole, read_refused, read_faulty, accepted_at, refused_at}
use Rattle.log_check.proofs.hint_judging.judge_lines.Goals as goal

pub loop-rest-init : goal.loop-rest-init
loop-rest-init c = record { read = λ e h. read_none e c.args.body.now c.args.checker.now h; from = omega arith; few = omega arith }

pub returns-in-Fault : goal.returns-in-Fault
returns-in-Fault c = λ e h.
    read_faulty e c.args.body.now c.loop-rest.rest.now c.loop-rest.number c.in-Fault.what c.loop-rest.checker
    (fault_next c.loop-rest.rest.now c.in_ok-what.field-0 c.in-Fault.what c.in-Fault.is c.in_ok-what.ensures) (c.loop-rest.invariant.read e h)

pub accept-requires : goal.accept-requires
accept-requires c =
    let next = line_next c.loop-rest.rest.now c.in_ok-what.field-0 c.in-Line.line c.in-Line.more c.in-Line.is c.in_ok-what.ensures in
    let few = c.loop-rest.invariant.few in
    let from = c.loop-rest.invariant.from in
    let short = c.requires in
    omega (arith, next.1)

pub returns-in-Some : goal.returns-in-Some
returns-in-Some c = λ e h.
    let next = line_next c.loop-rest.rest.now c.in_ok-what.field-0 c.in-Line.line c.in-Line.more c.in-Line.is c.in_ok-what.ensures in
    read_refused e c.args.body.now c.loop-rest.rest.now c.in-Line.more.now c.loop-rest.number c.in-Line.line c.in-Some.why c.loop-rest.checker next.0 next.2
    (refused_at e c.in-Line.line c.loop-rest.checker c.accept.new.checker c.in_ok-why-in-Line.field-0 c.in-Some.why c.in-Some.is
    (c.in_ok-why-in-Line.ensures e)) (c.loop-rest.invariant.read e h)

pub loop-rest-smaller : goal.loop-rest-smaller
loop-rest-smaller c =
    let next = line_next c.loop-rest.rest.now c.in_ok-what.field-0 c.in-Line.line c.in-Line.more c.in-Line.is c.in_ok-what.ensures in
    let less = line_leaves_less c.loop-rest.rest.now c.in-Line.more.now c.in-Line.line next.2 in
    omega arith

pub loop-rest-preserved : goal.loop-rest-preserved
loop-rest-preserved c =
    let next = line_next c.loop-rest.rest.now c.in_ok-what.field-0 c.in-Line.line c.in-Line.more c.in-Line.is c.in_ok-what.ensures in
    record {
      read = λ e h.
          read_next e c.args.body.now c.loop-rest.rest.now c.in-Line.more.now c.loop-rest.number c.in-Line.line c.loop-rest.checker c.accept.new.checker next.0
          next.2
          (accepted_at e c.in-Line.line c.loop-rest.checker c.accept.new.checker c.in_ok-why-in-Line.field-0 c.in-None.is (c.in_ok-why-in-Line.ensures e))
          (c.loop-rest.invariant.read e h);
      from = (let from = c.loop-rest.invariant.from in omega arith);
      few = (let less = line_leaves_less c.loop-rest.rest.now c.in-Line.more.now c.in-Line.line next.2 in let few = c.loop-rest.invariant.few in omega arith);
    }

pub returns : goal.returns
returns c = λ e h.
    let none : length c.loop-rest.rest.now ≡ 0 = search rules in
    read_whole e c.args.body.now c.loop-rest.rest.now c.loop-rest.number c.loop-rest.checker (nil_from_length c.loop-rest.rest.now none)
    (c.loop-rest.invariant.read e h)
