use Rattle.std.proofs.Common.{◌≡◌, length, refl, arith, rules, inl, inr}
use Rattle.std.proofs.lemmas.List.{nil_from_length}
use Rattle.log_check.proofs.JudgingLemmas.{read_none, read_next, read_whole, read_refused, read_faulty, read_knows, awaited_ready, line_leaves_less}
use Rattle.log_check.proofs.JudgingLemmas.{header_leaves_less, fault_next, line_next, accepted_at, refused_at, no_header}
use Rattle.log_check.proofs.judging.judge_lines.Goals as goal

pub loop-rest-init : goal.loop-rest-init
loop-rest-init c =
    let is = c.in-Some.ensures in
    record {
      read = λ e h. read_none e c.args.log.now c.in-Some.body.now c.args.progress.now is h;
      few = (let less = header_leaves_less c.args.log.now c.in-Some.body.now is in omega arith);
    }

pub returns-in-Fault-clause-judged : goal.returns-in-Fault-clause-judged
returns-in-Fault-clause-judged c = λ e h.
    inl (read_faulty e c.args.log.now c.loop-rest.rest.now c.loop-rest.number c.in-Fault.what c.loop-rest.progress
    (fault_next c.loop-rest.rest.now c.in_ok-what.field-0 c.in-Fault.what c.in-Fault.is c.in_ok-what.ensures) (c.loop-rest.invariant.read e h))

pub accept-requires-clause-formed : goal.accept-requires-clause-formed
accept-requires-clause-formed c = (line_next c.loop-rest.rest.now c.in_ok-what.field-0 c.in-Line.line c.in-Line.more c.in-Line.is c.in_ok-what.ensures).0.formed

pub accept-requires-clause-awaited : goal.accept-requires-clause-awaited
accept-requires-clause-awaited c =
    let e = c.requires.begun.0 in
    let r = c.loop-rest.invariant.read e c.requires.begun.1 in
    awaited_ready e r.lines c.loop-rest.progress.awaited r.known.awaited

pub returns-in-Some-2-clause-judged : goal.returns-in-Some-2-clause-judged
returns-in-Some-2-clause-judged c = λ e h.
    let next = line_next c.loop-rest.rest.now c.in_ok-what.field-0 c.in-Line.line c.in-Line.more c.in-Line.is c.in_ok-what.ensures in
    read_refused e c.args.log.now c.loop-rest.rest.now c.in-Line.more.now c.loop-rest.number c.in-Line.line c.in-Some-2.why c.loop-rest.progress next.0 next.1
    (refused_at e c.in-Line.line c.loop-rest.progress c.accept.new.progress c.in_ok-why-in-Line.field-0 c.in-Some-2.why c.in-Some-2.is
    (c.in_ok-why-in-Line.ensures.judged e)) (c.loop-rest.invariant.read e h)

pub loop-rest-smaller : goal.loop-rest-smaller
loop-rest-smaller c =
    let next = line_next c.loop-rest.rest.now c.in_ok-what.field-0 c.in-Line.line c.in-Line.more c.in-Line.is c.in_ok-what.ensures in
    let less = line_leaves_less c.loop-rest.rest.now c.in-Line.more.now c.in-Line.line next.1 in
    omega arith

pub loop-rest-preserved : goal.loop-rest-preserved
loop-rest-preserved c =
    let next = line_next c.loop-rest.rest.now c.in_ok-what.field-0 c.in-Line.line c.in-Line.more c.in-Line.is c.in_ok-what.ensures in
    record {
      read = λ e h.
          read_next e c.args.log.now c.loop-rest.rest.now c.in-Line.more.now c.loop-rest.number c.in-Line.line c.loop-rest.progress c.accept.new.progress next.0
          next.1
          (accepted_at e c.in-Line.line c.loop-rest.progress c.accept.new.progress c.in_ok-why-in-Line.field-0 c.in-None.is
          (c.in_ok-why-in-Line.ensures.judged e)) (c.loop-rest.invariant.read e h);
      few = (let less = line_leaves_less c.loop-rest.rest.now c.in-Line.more.now c.in-Line.line next.1 in let few = c.loop-rest.invariant.few in omega arith);
    }

pub returns-clause-judged : goal.returns-clause-judged
returns-clause-judged c = λ e h.
    let none : length c.loop-rest.rest.now ≡ 0 = search rules in
    read_whole e c.args.log.now c.loop-rest.rest.now c.loop-rest.number c.loop-rest.progress (nil_from_length c.loop-rest.rest.now none)
    (c.loop-rest.invariant.read e h)

pub returns-clause-known : goal.returns-clause-known
returns-clause-known c =
    let e = c.requires.begun.0 in
    read_knows e c.args.log.now c.loop-rest.rest.now c.loop-rest.number c.loop-rest.progress (c.loop-rest.invariant.read e c.requires.begun.1)

pub returns-in_default-clause-judged : goal.returns-in_default-clause-judged
returns-in_default-clause-judged c = λ e h.
    inr (record { lacks = no_header c.args.log.now c.behind_header.result c.behind_header.ensures c.in_default.not-Some; what_is = refl; numbered = refl })
