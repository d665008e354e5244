use Rattle.std.proofs.Common.{refl}
use Rattle.refute_check.specs.Kept.{checked_facts}
use Rattle.refute_check.proofs.CheckerLemmas.{named_line, there_named, refuted_wrong, refuted_answers, refuted_unproved, refuted_accepts}
use Rattle.refute_check.specs.Standing.{is_lost}
use Rattle.refute_check.proofs.checker.Checker.feed_refuted.Goals as goal

pub returns-then-not-answer : goal.returns-then-not-answer
returns-then-not-answer c =
    let named = named_line c.args.clause.now c.as_slice-lits.result.now c.vars.result c.self.inside.room c.self.inside.formula c.self.inside.query
    c.self.inside.refuted.items (is_lost c.self.inside.standing) c.args.self.now c.as_slice-lits.ensures.value c.vars.ensures.value c.self.view_is
    (c.are_named.ensures.yes c.if-not-are_named.false) in (
      refuted_wrong c.args.self.now c.self.inside.room c.self.inside.formula c.self.inside.query c.self.inside.refuted.items (is_lost c.self.inside.standing)
          c.args.clause.now c.as_slice-lits.result.now c.as_slice-lits.ensures.value c.self.view_is named (c.answer.ensures.no c.if-not-answer.true),
      refl,
    )

pub follows-requires-clause-there : goal.follows-requires-clause-there
follows-requires-clause-there c =
    let named = named_line c.args.clause.now c.as_slice-lits.result.now c.vars.result c.self.inside.room c.self.inside.formula c.self.inside.query
    c.self.inside.refuted.items (is_lost c.self.inside.standing) c.args.self.now c.as_slice-lits.ensures.value c.vars.ensures.value c.self.view_is
    (c.are_named.ensures.yes c.if-not-are_named.false) in
    there_named 1073741823 c.args.self.now.facts.greatest c.args.clause.now c.as_slice-lits.result.now c.requires c.as_slice-lits.ensures.value named

pub returns-then-not-branch : goal.returns-then-not-branch
returns-then-not-branch c =
    let named = named_line c.args.clause.now c.as_slice-lits.result.now c.vars.result c.self.inside.room c.self.inside.formula c.self.inside.query
    c.self.inside.refuted.items (is_lost c.self.inside.standing) c.args.self.now c.as_slice-lits.ensures.value c.vars.ensures.value c.self.view_is
    (c.are_named.ensures.yes c.if-not-are_named.false) in
    let answers = refuted_answers c.args.self.now c.self.inside.room c.self.inside.formula c.self.inside.query c.self.inside.refuted.items
    (is_lost c.self.inside.standing) c.args.clause.now c.as_slice-lits.result.now c.as_slice-lits.ensures.value c.self.view_is
    (c.answer.ensures.yes c.if-not-answer.false) in (
      refuted_unproved c.args.self.now c.args.clause.now c.as_slice-lits.result.now c.as_slice-lits.ensures.value named answers
          (c.in_ok-follows.ensures.no c.if-not-branch.true),
      c.in_ok-follows.ensures.same,
    )

pub returns : goal.returns
returns c =
    let named = named_line c.args.clause.now c.as_slice-lits.result.now c.vars.result c.self.inside.room c.self.inside.formula c.self.inside.query
    c.self.inside.refuted.items (is_lost c.self.inside.standing) c.args.self.now c.as_slice-lits.ensures.value c.vars.ensures.value c.self.view_is
    (c.are_named.ensures.yes c.if-not-are_named.false) in
    let answers = refuted_answers c.args.self.now c.self.inside.room c.self.inside.formula c.self.inside.query c.self.inside.refuted.items
    (is_lost c.self.inside.standing) c.args.clause.now c.as_slice-lits.result.now c.as_slice-lits.ensures.value c.self.view_is
    (c.answer.ensures.yes c.if-not-answer.false) in
    refuted_accepts c.args.self.now c.follows.new.self (checked_facts c.self-2.inside.room c.self-2.inside.formula c.self-2.inside.query c.push.new.self.items
    (is_lost c.self-2.inside.standing)) c.self-2.inside.room c.self-2.inside.formula c.self-2.inside.query c.self-2.inside.refuted.items
    (is_lost c.self-2.inside.standing) c.push.new.self.items c.args.clause.now c.as_slice-lits.result.now c.in_ok-kept.kept c.as_slice-lits.ensures.value
    c.in_ok-kept.ensures c.in_ok-follows.ensures.same c.self-2.view_is c.in_ok-push.ensures.items refl named answers
    (c.in_ok-follows.ensures.yes c.if-not-branch.false)
