use Rattle.std.proofs.Common.{rules}
use Rattle.cnf_core.specs.Clause.{HasAllOf}
use Rattle.refute_log.proofs.AmongLemmas.{all_more_at, all_end}
use Rattle.cnf_core.proofs.ClauseLemmas.{includes_from, includes_to}
use Rattle.hint_log.proofs.VerdictLemmas.{refutes_at, refutes_none}
use Rattle.hint_log.proofs.checker.HintChecker.verdict.Goals as goal

pub loop-clause-preserved : goal.loop-clause-preserved
loop-clause-preserved c = all_more_at (λ d. HasAllOf c.args.allowed.now d → ⊥) c.deref-clause-items.result.now c.loop-clause.clause-index c.clause-item.result
    c.loop-clause-test.true c.clause-item.is c.loop-clause.invariant
    (λ h. c.are_among.ensures.no c.if-are_among.false (includes_to c.args.allowed.now c.as_slice.result.now c.clause-item.result c.as_slice.ensures.value h))

pub returns-then-are_among : goal.returns-then-are_among
returns-then-are_among c = (
  λ _. refutes_at c.self.inside.slots c.self.inside.kept c.self.inside.refuted.items c.deref-clause-items.result.now
      c.args.self.now c.args.allowed.now c.loop-clause.clause-index c.clause-item.result c.deref-clause-items.ensures.value c.self.view_is
      c.loop-clause-test.true
      c.clause-item.is
      (includes_from c.args.allowed.now c.as_slice.result.now c.clause-item.result c.as_slice.ensures.value (c.are_among.ensures.yes c.if-are_among.true)),
  λ _. search rules,
)

pub returns : goal.returns
returns c = (
  λ t. cc,
  λ r. absurd (refutes_none c.self.inside.slots c.self.inside.kept c.self.inside.refuted.items
      c.deref-clause-items.result.now c.args.self.now c.args.allowed.now c.deref-clause-items.ensures.value c.self.view_is
      (all_end (λ d. HasAllOf c.args.allowed.now d → ⊥) c.deref-clause-items.result.now c.loop-clause.clause-index c.loop-clause-test.false
      c.loop-clause.invariant) r),
)
