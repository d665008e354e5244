use Rattle.std.proofs.Common.{List, sym, ◌∙◌, subst, ap}
use Rattle.cnf_core.specs.Lit.{Literal}
use Rattle.cnf_core.specs.Clause.{AreThere}
use Rattle.refute_log.specs.declared.line.LogLine.{LogLine}
use Rattle.refute_log.specs.declared.line.LogLine.TheVariants.{Formula, Learnt, Refuted}
use Rattle.log_trim.specs.HintRoom.{IsLineWithin}
use Rattle.log_trim.proofs.hint_trimming.greatest_in.Goals as goal

pub returns-in-Formula-clause-least : goal.returns-in-Formula-clause-least
returns-in-Formula-clause-least c = λ n h.
    let line : IsLineWithin n (Formula c.in-Formula.c) = rw c.in-Formula.is at h in
    c.greatest.ensures.least n (subst (λ (ls : List Literal). AreThere n ls) (sym c.as_slice.ensures.value) line)

pub returns-in-Learnt-clause-least : goal.returns-in-Learnt-clause-least
returns-in-Learnt-clause-least c = λ n h.
    let line : IsLineWithin n (Learnt c.in-Learnt.c) = rw c.in-Learnt.is at h in
    c.greatest-in-Learnt.ensures.least n (subst (λ (ls : List Literal). AreThere n ls) (sym c.as_slice-in-Learnt.ensures.value) line)

pub returns-in-Refuted-clause-least : goal.returns-in-Refuted-clause-least
returns-in-Refuted-clause-least c = λ n h.
    let line : IsLineWithin n (Refuted c.in-Refuted.c) = rw c.in-Refuted.is at h in
    c.greatest-in-Refuted.ensures.least n (subst (λ (ls : List Literal). AreThere n ls) (sym c.as_slice-in-Refuted.ensures.value) line)
