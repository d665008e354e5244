use Rattle.std.proofs.Common.{[], Err, ◌∙◌, ap, arith}
use Rattle.cnf_core.specs.Clause.{words_of}
use Rattle.cnf_core.specs.Formula.{Cnf}
use Rattle.drawing_cnf.specs.Layout.{layout_of}
use Rattle.search_moved.proofs.StartLemmas.{passes_second, passes_both, is_counting}
use Rattle.search_moved.proofs.counting.counting.Goals as goal

pub returns-then-words-room-clause-formula : goal.returns-then-words-room-clause-formula
returns-then-words-room-clause-formula c =
    passes_both c.args.encoded.now c.args.former.now c.args.room c.words.result c.words-in-Ok.result c.add_count.new.f [] c.requires.whole c.requires.bounds
    (c.words.ensures.value ∙ ap (λ (f : Cnf). words_of f.clauses) c.formula.ensures) c.words-in-Ok.ensures.value c.in-Ok.ensures.clauses
    (let t = c.if-words-room.true in omega (arith, t))

pub returns-in-Ok-clause-formula : goal.returns-in-Ok-clause-formula
returns-in-Ok-clause-formula c =
    is_counting c.args.encoded.now c.args.former.now c.args.room c.words.result c.words-in-Ok.result c.add_count.new.f c.requires.whole c.requires.bounds
    (c.words.ensures.value ∙ ap (λ (f : Cnf). words_of f.clauses) c.formula.ensures) c.words-in-Ok.ensures.value c.in-Ok.ensures.vars c.in-Ok.ensures.clauses
    (let t = c.if-words-room.false in omega (arith, t))

pub returns-in-Err-Room-clause-formula : goal.returns-in-Err-Room-clause-formula
returns-in-Err-Room-clause-formula c =
    passes_second (layout_of c.args.encoded.now) c.args.former.now c.in_ok-counting.counting.room c.args.room c.in_ok-counting.ensures.room
    (c.in-Err-Room.ensures.room (ap Err c.in-Err-Room.field-0-is))
