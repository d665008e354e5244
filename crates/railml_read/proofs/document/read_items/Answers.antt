use Rattle.std.proofs.Common.{inr}
use Rattle.railml_read.specs.Progress.{state_of, marks_of}
use Rattle.railml_read.proofs.KeptLemmas.{new_state, new_marks, both_start, both_next, marked_through, item_fault, place_fault}
use Rattle.railml_read.proofs.document.read_items.Goals as goal

pub loop-at-init : goal.loop-at-init
loop-at-init c =
    let new = c.new-progress.result in
    let is = c.new-progress.ensures in
    both_start c.args.bytes.now c.start_of-at.result (state_of new) new.has_root (marks_of new) c.requires.utf8 c.start_of-at.ensures
    (new_state new.stack.items new.rows.items new.has_infrastructure is.stack is.rows is.infrastructure) is.root
    (new_marks new.tracks new.signals.items is.tracks is.signals)

pub returns-in-Err-clause-fault : goal.returns-in-Err-clause-fault
returns-in-Err-clause-fault c =
    let said = item_fault c.args.bytes.now c.loop-at.at c.loop-at.first (state_of c.loop-at.progress) c.loop-at.progress.has_root c.in-Err.fault c.requires.utf8
    c.loop-at.invariant.kept c.loop-at-test.true c.in-Err.ensures.answers.fault in
    rw c.fault_at.ensures said

pub returns-in-Some-clause-fault : goal.returns-in-Some-clause-fault
returns-in-Some-clause-fault c = inr (place_fault c.args.bytes.now c.loop-at.at c.loop-at.first (state_of c.loop-at.progress) c.loop-at.progress.has_root
    c.in-Ok.item.kind _ c.in-Some.what c.requires.utf8 c.loop-at.invariant.kept c.loop-at-test.true c.in-Ok.ensures.answers.value.sound c.in-Some.ensures)

pub loop-at-preserved : goal.loop-at-preserved
loop-at-preserved c = both_next c.args.bytes.now c.loop-at.at c.in-Ok.item.end c.loop-at.first (state_of c.loop-at.progress) (state_of c.add.new.self)
    c.loop-at.progress.has_root c.add.new.self.has_root (marks_of c.loop-at.progress) (marks_of c.add.new.self) c.in-Ok.item.kind c.loop-at.invariant
    c.in-Ok.ensures.answers.value.sound c.in-Ok.ensures.after c.in-Ok.ensures.answers.value.within c.in-Ok.ensures.ends c.in_default.ensures
    c.in_ok-add.ensures.state c.in_ok-add.ensures.root c.in_ok-add.ensures.marks

pub returns-clause-marks : goal.returns-clause-marks
returns-clause-marks c = marked_through c.args.bytes.now c.loop-at.at c.loop-at.first (state_of c.loop-at.progress) c.loop-at.progress.has_root
    (marks_of c.loop-at.progress) c.requires.few c.loop-at.invariant c.loop-at-test.false
