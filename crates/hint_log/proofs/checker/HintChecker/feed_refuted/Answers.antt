use Rattle.std.proofs.Common.{◌∙◌}
use Rattle.std.specs.Prelude.{Some}
use Rattle.hint_log.specs.Checked.{hint_facts}
use Rattle.hint_log.proofs.CheckerLemmas.{kept_grown, facts_grown, memory_answer, is_read}
use Rattle.hint_log.proofs.CheckerLemmas.{still_kept, still_same, verdict_of, refuted_accepts}
use Rattle.hint_log.proofs.checker.HintChecker.feed_refuted.Goals as goal

pub invariant_of-self : goal.invariant_of-self
invariant_of-self c = kept_grown c.self.inside.slots c.by_slot.new.self c.self.inside.kept c.by_slot.ensures.begins c.self.invariant

pub returns-in_err-by_slot : goal.returns-in_err-by_slot
returns-in_err-by_slot c = memory_answer c.args.self.now _ _ c.from_residual.result
    (facts_grown c.self.inside.slots c.by_slot.new.self c.self.inside.kept c.self.inside.refuted.items c.by_slot.ensures.begins c.self.invariant
    ∙ c.self.view_is)
    c.from_residual.ensures.1

pub invariant_of-self-in_err-k : goal.invariant_of-self-in_err-k
invariant_of-self-in_err-k c =
    let read = is_read c.self.inside.slots c.by_slot.new.self c.self.inside.kept c.self.inside.refuted.items c.args.self.now c.args.lits.now
    c.as_slice.result.now c.in_ok-by_slot.by_slot.items c.self.view_is c.self.invariant c.by_slot.ensures.begins
    c.in_ok-by_slot.ensures.one c.in_ok-by_slot.ensures.lits c.as_slice.ensures.value in
    still_kept read c.judge.new.self c.judge.ensures.same

pub returns-in_err-k : goal.returns-in_err-k
returns-in_err-k c =
    let read = is_read c.self.inside.slots c.by_slot.new.self c.self.inside.kept c.self.inside.refuted.items c.args.self.now c.args.lits.now
    c.as_slice.result.now c.in_ok-by_slot.by_slot.items c.self.view_is c.self.invariant c.by_slot.ensures.begins
    c.in_ok-by_slot.ensures.one c.in_ok-by_slot.ensures.lits c.as_slice.ensures.value in
    memory_answer c.args.self.now _ _ c.from_residual-in_err-k.result (still_same read c.judge.new.self c.judge.ensures.same)
    c.from_residual-in_err-k.ensures.1

pub invariant_of-self-in-Some : goal.invariant_of-self-in-Some
invariant_of-self-in-Some c =
    let read = is_read c.self.inside.slots c.by_slot.new.self c.self.inside.kept c.self.inside.refuted.items c.args.self.now c.args.lits.now
    c.as_slice.result.now c.in_ok-by_slot.by_slot.items c.self.view_is c.self.invariant c.by_slot.ensures.begins
    c.in_ok-by_slot.ensures.one c.in_ok-by_slot.ensures.lits c.as_slice.ensures.value in
    still_kept read c.judge.new.self c.judge.ensures.same

pub returns-in-Some : goal.returns-in-Some
returns-in-Some c =
    let read = is_read c.self.inside.slots c.by_slot.new.self c.self.inside.kept c.self.inside.refuted.items c.args.self.now c.args.lits.now
    c.as_slice.result.now c.in_ok-by_slot.by_slot.items c.self.view_is c.self.invariant c.by_slot.ensures.begins
    c.in_ok-by_slot.ensures.one c.in_ok-by_slot.ensures.lits c.as_slice.ensures.value in (
      verdict_of read c.args.hints.now (Some c.in-Some.k)
          (rw (c.deref.ensures.value, c.as_slice-2.ensures, c.in-Some.is) at c.in_ok-k.ensures.verdict),
      still_same read c.judge.new.self c.judge.ensures.same,
    )

pub invariant_of-self-in-None : goal.invariant_of-self-in-None
invariant_of-self-in-None c =
    let read = is_read c.self.inside.slots c.by_slot.new.self c.self.inside.kept c.self.inside.refuted.items c.args.self.now c.args.lits.now
    c.as_slice.result.now c.in_ok-by_slot.by_slot.items c.self.view_is c.self.invariant c.by_slot.ensures.begins
    c.in_ok-by_slot.ensures.one c.in_ok-by_slot.ensures.lits c.as_slice.ensures.value in
    still_kept read c.judge.new.self c.judge.ensures.same

pub returns-in_err-keep_refuted-in-None : goal.returns-in_err-keep_refuted-in-None
returns-in_err-keep_refuted-in-None c =
    let read = is_read c.self.inside.slots c.by_slot.new.self c.self.inside.kept c.self.inside.refuted.items c.args.self.now c.args.lits.now
    c.as_slice.result.now c.in_ok-by_slot.by_slot.items c.self.view_is c.self.invariant c.by_slot.ensures.begins
    c.in_ok-by_slot.ensures.one c.in_ok-by_slot.ensures.lits c.as_slice.ensures.value in
    memory_answer c.args.self.now _ _ c.from_residual-in_err-keep_refuted-in-None.result
    (c.in_err-keep_refuted-in-None.ensures.err ∙ still_same read c.judge.new.self c.judge.ensures.same) c.from_residual-in_err-keep_refuted-in-None.ensures.1

pub returns : goal.returns
returns c =
    let read = is_read c.self.inside.slots c.by_slot.new.self c.self.inside.kept c.self.inside.refuted.items c.args.self.now c.args.lits.now
    c.as_slice.result.now c.in_ok-by_slot.by_slot.items c.self.view_is c.self.invariant c.by_slot.ensures.begins
    c.in_ok-by_slot.ensures.one c.in_ok-by_slot.ensures.lits c.as_slice.ensures.value in
    refuted_accepts read (hint_facts c.by_slot.new.self c.judge.new.self c.self.inside.refuted.items) c.keep_refuted.new.self c.args.hints.now
    (still_same read c.judge.new.self c.judge.ensures.same) (rw (c.deref.ensures.value, c.as_slice-2.ensures, c.in-None.is) at c.in_ok-k.ensures.verdict)
    (rw c.as_slice-in-None.ensures.value at c.in_ok-keep_refuted-in-None.ensures.ok)
