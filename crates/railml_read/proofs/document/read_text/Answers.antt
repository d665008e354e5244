use Rattle.std.proofs.Common.{inr}
use Rattle.railml_read.specs.Progress.{state_of, marks_of}
use Rattle.railml_read.proofs.EndLemmas.{ends_open, lacks_infrastructure, are_rows, are_signals}
use Rattle.railml_read.proofs.FaultLemmas.{no_text_fault}
use Rattle.railml_read.proofs.document.read_text.Goals as goal

pub returns-then-not-is_closed-clause-fault : goal.returns-then-not-is_closed-clause-fault
returns-then-not-is_closed-clause-fault c = inr (inr (ends_open c.args.bytes.now (state_of c.in_ok-progress.progress) c.in_ok-progress.progress.has_root
    c.requires.utf8 c.in_ok-progress.ensures.through (c.is_closed.ensures.no c.if-not-is_closed.true)))

pub returns-then-not-progress-clause-fault : goal.returns-then-not-progress-clause-fault
returns-then-not-progress-clause-fault c =
    let closed = c.is_closed.ensures.yes c.if-not-is_closed.false in
    inr (lacks_infrastructure c.args.bytes.now (state_of c.in_ok-progress.progress) c.in_ok-progress.progress.has_root c.requires.utf8
    c.in_ok-progress.ensures.through closed.0 closed.1 c.if-not-progress.true)

pub returns-clause-rows : goal.returns-clause-rows
returns-clause-rows c =
    let closed = c.is_closed.ensures.yes c.if-not-is_closed.false in
    are_rows c.args.bytes.now (state_of c.in_ok-progress.progress) c.in_ok-progress.progress.has_root c.in_ok-progress.ensures.through closed.0 closed.1

pub returns-clause-signals : goal.returns-clause-signals
returns-clause-signals c =
    let closed = c.is_closed.ensures.yes c.if-not-is_closed.false in
    let progress = c.in_ok-progress.progress in
    are_signals c.args.bytes.now (state_of progress) progress.has_root (marks_of progress) c.in_ok-progress.ensures.marks closed.0 closed.1

pub returns-clause-sound : goal.returns-clause-sound
returns-clause-sound c =
    let closed = c.is_closed.ensures.yes c.if-not-is_closed.false in
    no_text_fault c.args.bytes.now (state_of c.in_ok-progress.progress) c.in_ok-progress.progress.has_root c.in_ok-progress.ensures.through c.requires.utf8
    closed.0 closed.1 c.if-not-progress.false
