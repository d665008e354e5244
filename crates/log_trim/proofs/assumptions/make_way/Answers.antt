use Rattle.std.proofs.Common.{◌∙◌, sym}
use Rattle.watch_arena.proofs.LawLemmas.{may_be_watched}
use Rattle.log_trim.proofs.AssumingLemmas.{idle_emptied, open_watched}
use Rattle.log_trim.proofs.assumptions.make_way.Goals as goal

pub returns-then-is_false-clause-open_ : goal.returns-then-is_false-clause-open_
returns-then-is_false-clause-open_ c =
    let idle = c.requires.idle.2 in
    let left = idle_emptied c.requires.idle.0 c.requires.idle.1 c.args.trail.now c.undo_to.new.self idle c.undo_to.ensures.value
    (c.undo_to.ensures.watched c.requires.idle.0 idle.watched) in
    let none = left.0 in
    may_be_watched c.undo_to.new.self c.args.lits.now none.lits c.requires.two

pub returns-then-is_false-clause-idle : goal.returns-then-is_false-clause-idle
returns-then-is_false-clause-idle c = λ a vars idle. (idle_emptied a vars c.args.trail.now c.undo_to.new.self idle c.undo_to.ensures.value
    (c.undo_to.ensures.watched a idle.watched)).1

pub returns-else-is_false-2-clause-open_ : goal.returns-else-is_false-2-clause-open_
returns-else-is_false-2-clause-open_ c =
    open_watched c.args.trail.now c.args.lits.now c.index-lits-0.result c.index-lits-1.result c.requires.two (sym c.index-lits-0.is) (sym c.index-lits-1.is)
    (sym c.is_false.ensures ∙ c.if-is_false.false) (sym c.is_false-else-is_false.ensures ∙ c.if-is_false-2.false)
