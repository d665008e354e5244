use Rattle.plan_core.specs.Values.{value_of}
use Rattle.drawing_cnf.specs.Layout.{layout}
use Rattle.log_check.specs.Expectation.{expectation}
use Rattle.log_trim.specs.Shown.{MayBeTrimmed}
use Rattle.log_trim.proofs.CompletingLemmas.{still_refuted, kept_of}
use Rattle.log_trim.proofs.HintRoomLemmas.{passing}
use Rattle.log_trim.proofs.trimming.kept_of.Goals as goal

pub trim-requires : goal.trim-requires
trim-requires c =
    let e = expectation (layout c.args.g.now c.args.t.now c.args.grid.now) c.args.order.now (value_of c.args.caps.now) in
    let may : MayBeTrimmed e c.args.lines.now c.args.wanted.now c.fit_for.new.lines = rw c.if-not-branch.false at c.in_ok-fit_for.ensures in
    still_refuted e c.args.lines.now c.fit_for.new.lines c.args.wanted.now may c.requires.wanted

pub returns-clause-kept : goal.returns-clause-kept
returns-clause-kept c =
    let e = expectation (layout c.args.g.now c.args.t.now c.args.grid.now) c.args.order.now (value_of c.args.caps.now) in
    let may : MayBeTrimmed e c.args.lines.now c.args.wanted.now c.fit_for.new.lines = rw c.if-not-branch.false at c.in_ok-fit_for.ensures in
    kept_of e c.args.lines.now c.fit_for.new.lines c.args.wanted.now c.in_ok-trim.field-0 may c.in_ok-trim.ensures

pub returns-in_err-check_room-clause-limits : goal.returns-in_err-check_room-clause-limits
returns-in_err-check_room-clause-limits c = λ k.
    let e = expectation (layout c.args.g.now c.args.t.now c.args.grid.now) c.args.order.now (value_of c.args.caps.now) in
    let may : MayBeTrimmed e c.args.lines.now c.args.wanted.now c.fit_for.new.lines = rw c.if-not-branch.false at c.in_ok-fit_for.ensures in
    passing e c.args.lines.now c.args.wanted.now c.fit_for.new.lines may c.in_err-check_room.ensures.fault.1
