use Rattle.std.proofs.Common.{ℕ, List, rules, sym, subst, arith}
use Rattle.std.specs.Prelude.{IsErrOf}
use Rattle.plan_core.specs.Values.{value_of}
use Rattle.drawing_cnf.specs.Layout.{layout}
use Rattle.log_check.specs.Expectation.{expectation}
use Rattle.log_trim.specs.declared.fault.TrimFault.TheVariants.{Limits}
use Rattle.log_trim.specs.TrimmedLog.{IsSpelledLog}
use Rattle.log_trim.specs.Shown.{IsKeptOf}
use Rattle.log_trim.specs.Wanted.{AreWanted}
use Rattle.log_trim.proofs.ReadingLemmas.{short_log, where_none}
use Rattle.log_trim.proofs.WantedLemmas.{wanted_certify}
use Rattle.log_trim.proofs.TrimmedLemmas.{accepted_by, certified_by, whole_by, are_refuted, trimmed_log, passing_log}
use Rattle.log_trim.proofs.trimming.trim_log.Goals as goal

pub wanted_of-requires-clause-short : goal.wanted_of-requires-clause-short
wanted_of-requires-clause-short c =
    let is : IsSpelledLog c.args.log.now c.in-Some.lines = rw c.in-Some.is at c.in_ok-lines.ensures in
    let short = short_log c.args.log.now c.in-Some.lines is in
    let log = c.requires.short in
    omega (arith, short, log)

pub returns-in_default-2-clause-left : goal.returns-in_default-2-clause-left
returns-in_default-2-clause-left c = λ whole.
    let is : IsSpelledLog c.args.log.now c.in-Some.lines = rw c.in-Some.is at c.in_ok-lines.ensures in
    where_none _ _ c.in_ok-wanted.field-0 c.in_ok-wanted.ensures c.in_default-2.not-Some
    (certified_by (layout c.args.g.now c.args.t.now c.args.grid.now) c.args.order.now c.args.claim.now c.args.log.now
    (value_of c.greatest_values-greatest.result) c.in-Some.lines whole is c.greatest_values-greatest.ensures)

pub kept_of-requires-clause-wanted : goal.kept_of-requires-clause-wanted
kept_of-requires-clause-wanted c =
    let greatest = value_of c.greatest_values-greatest.result in
    let are : AreWanted greatest c.in-Some.lines c.args.order.now c.args.claim.now c.in-Some-2.wanted.items = rw c.in-Some-2.is at c.in_ok-wanted.ensures in
    are_refuted greatest c.in-Some.lines c.args.order.now c.args.claim.now c.deref-2.result.now
    (subst (λ (ns : List ℕ). AreWanted greatest c.in-Some.lines c.args.order.now c.args.claim.now ns) (sym c.deref-2.ensures.value) are)

pub returns-in_default-3-clause-left : goal.returns-in_default-3-clause-left
returns-in_default-3-clause-left c = λ whole.
    let is : IsSpelledLog c.args.log.now c.in-Some.lines = rw c.in-Some.is at c.in_ok-lines.ensures in
    where_none _ _ c.in_ok-kept.field-0 c.in_ok-kept.ensures.kept c.in_default-3.not-Some
    (accepted_by (layout c.args.g.now c.args.t.now c.args.grid.now) c.args.order.now c.args.claim.now c.args.log.now
    (value_of c.greatest_values-greatest.result) (value_of c.in_ok-caps.caps) c.in-Some.lines whole is
    c.greatest_values-greatest.ensures c.in_ok-caps.ensures)

pub returns-clause-left : goal.returns-clause-left
returns-clause-left c =
    let y = layout c.args.g.now c.args.t.now c.args.grid.now in
    let order = c.args.order.now in
    let claim = c.args.claim.now in
    let log = c.args.log.now in
    let greatest = value_of c.greatest_values-greatest.result in
    let caps = value_of c.in_ok-caps.caps in
    let lines = c.in-Some.lines in
    let wanted = c.deref-2.result.now in
    let same = c.greatest_values-greatest.ensures in
    let counted = c.in_ok-caps.ensures in
    let is : IsSpelledLog log lines = rw c.in-Some.is at c.in_ok-lines.ensures in
    let found : AreWanted greatest lines order claim c.in-Some-2.wanted.items = rw c.in-Some-2.is at c.in_ok-wanted.ensures in
    let are = subst (λ (ns : List ℕ). AreWanted greatest lines order claim ns) (sym c.deref-2.ensures.value) found in
    let kept : IsKeptOf (expectation y order caps) lines wanted c.in-Some-3.kept = rw c.in-Some-3.is at c.in_ok-kept.ensures.kept in (
      whole_by y order claim log greatest caps lines is same counted kept.accepted (wanted_certify greatest lines order claim wanted are),
      trimmed_log y order claim log greatest (record {
        caps = c.in_ok-caps.caps;
        kept = c.in-Some-3.kept;
        learnt = c.count_learnt-learnt.result;
      }) lines wanted is same counted are kept c.count_learnt-learnt.ensures,
    )

pub returns-in_err-kept-clause-limits : goal.returns-in_err-kept-clause-limits
returns-in_err-kept-clause-limits c = λ k.
    let is : IsSpelledLog c.args.log.now c.in-Some.lines = rw c.in-Some.is at c.in_ok-lines.ensures in
    let limits : IsErrOf c.kept_of.result Limits = search (rules, k) in
    let greatest = value_of c.greatest_values-greatest.result in
    let wanted = c.deref-2.result.now in
    let found : AreWanted greatest c.in-Some.lines c.args.order.now c.args.claim.now c.in-Some-2.wanted.items = rw c.in-Some-2.is at c.in_ok-wanted.ensures in
    let are : AreWanted greatest c.in-Some.lines c.args.order.now c.args.claim.now wanted =
    subst (λ (ns : List ℕ). AreWanted greatest c.in-Some.lines c.args.order.now c.args.claim.now ns) (sym c.deref-2.ensures.value) found in
    passing_log (layout c.args.g.now c.args.t.now c.args.grid.now) c.args.order.now c.args.claim.now c.args.log.now greatest
    (value_of c.in_ok-caps.caps) c.in-Some.lines wanted is c.greatest_values-greatest.ensures c.in_ok-caps.ensures are (c.kept_of.ensures.limits limits)
