use Rattle.std.proofs.Common.{refl}
use Rattle.refute_check.specs.declared.novelty.Novelty.TheVariants.{Unproved, Known, New}
use Rattle.refute_check.specs.Novelty.{HasNovelty}
use Rattle.refute_check.proofs.CheckerLemmas.{named_line, there_named, learnt_lacks, learnt_unproved, learnt_old, learnt_accepts, there_zero}
use Rattle.refute_check.specs.Standing.{is_lost}
use Rattle.refute_check.proofs.checker.Checker.feed_learnt.Goals as goal

pub returns-then-lacks_room : goal.returns-then-lacks_room
returns-then-lacks_room c =
    let named = named_line c.args.clause.now c.as_slice-lits.result.now c.vars.result c.self.inside.room c.self.inside.formula c.self.inside.query
    c.self.inside.refuted.items (is_lost c.self.inside.standing) c.args.self.now c.as_slice-lits.ensures.value c.vars.ensures.value c.self.view_is
    (c.are_named.ensures.yes c.if-not-are_named.false) in (
      learnt_lacks c.args.self.now c.args.clause.now c.as_slice-lits.result.now c.as_slice-lits.ensures.value named
          (c.lacks_room.ensures.yes c.if-lacks_room.true),
      refl,
    )

pub novelty_of-requires-clause-there : goal.novelty_of-requires-clause-there
novelty_of-requires-clause-there c =
    let named = named_line c.args.clause.now c.as_slice-lits.result.now c.vars.result c.self.inside.room c.self.inside.formula c.self.inside.query
    c.self.inside.refuted.items (is_lost c.self.inside.standing) c.args.self.now c.as_slice-lits.ensures.value c.vars.ensures.value c.self.view_is
    (c.are_named.ensures.yes c.if-not-are_named.false) in
    there_named 1073741823 c.args.self.now.facts.greatest c.args.clause.now c.as_slice-lits.result.now c.requires.there c.as_slice-lits.ensures.value named

pub returns-in-Unproved : goal.returns-in-Unproved
returns-in-Unproved c =
    let named = named_line c.args.clause.now c.as_slice-lits.result.now c.vars.result c.self.inside.room c.self.inside.formula c.self.inside.query
    c.self.inside.refuted.items (is_lost c.self.inside.standing) c.args.self.now c.as_slice-lits.ensures.value c.vars.ensures.value c.self.view_is
    (c.are_named.ensures.yes c.if-not-are_named.false) in
    let judged : HasNovelty c.args.self.now.facts.clauses c.as_slice-lits.result.now Unproved = rw c.in-Unproved.is at c.in_ok-novelty.ensures.novelty in (
      learnt_unproved c.args.self.now c.args.clause.now c.as_slice-lits.result.now c.as_slice-lits.ensures.value named
          (c.lacks_room.ensures.no c.if-lacks_room.false) judged,
      c.in_ok-novelty.ensures.same,
    )

pub returns-in-Known : goal.returns-in-Known
returns-in-Known c =
    let named = named_line c.args.clause.now c.as_slice-lits.result.now c.vars.result c.self.inside.room c.self.inside.formula c.self.inside.query
    c.self.inside.refuted.items (is_lost c.self.inside.standing) c.args.self.now c.as_slice-lits.ensures.value c.vars.ensures.value c.self.view_is
    (c.are_named.ensures.yes c.if-not-are_named.false) in
    let judged : HasNovelty c.args.self.now.facts.clauses c.as_slice-lits.result.now Known = rw c.in-Known.is at c.in_ok-novelty.ensures.novelty in (
      learnt_old c.args.self.now c.args.self.now c.args.clause.now c.as_slice-lits.result.now c.as_slice-lits.ensures.value refl named
          (c.lacks_room.ensures.no c.if-lacks_room.false) judged.0 judged.1,
      c.in_ok-novelty.ensures.same,
    )

pub keep-requires-clause-there : goal.keep-requires-clause-there
keep-requires-clause-there c =
    let named = named_line c.args.clause.now c.as_slice-lits.result.now c.vars.result c.self.inside.room c.self.inside.formula c.self.inside.query
    c.self.inside.refuted.items (is_lost c.self.inside.standing) c.args.self.now c.as_slice-lits.ensures.value c.vars.ensures.value c.self.view_is
    (c.are_named.ensures.yes c.if-not-are_named.false) in
    there_zero c.args.self.now c.novelty_of.new.self c.as_slice-lits.result.now c.in_ok-novelty.ensures.same
    (there_named 1073741823 c.args.self.now.facts.greatest c.args.clause.now c.as_slice-lits.result.now c.requires.there c.as_slice-lits.ensures.value named)

pub returns-in_ok-keep-in-New : goal.returns-in_ok-keep-in-New
returns-in_ok-keep-in-New c =
    let named = named_line c.args.clause.now c.as_slice-lits.result.now c.vars.result c.self.inside.room c.self.inside.formula c.self.inside.query
    c.self.inside.refuted.items (is_lost c.self.inside.standing) c.args.self.now c.as_slice-lits.ensures.value c.vars.ensures.value c.self.view_is
    (c.are_named.ensures.yes c.if-not-are_named.false) in
    let judged : HasNovelty c.args.self.now.facts.clauses c.as_slice-lits.result.now New = rw c.in-New.is at c.in_ok-novelty.ensures.novelty in
    learnt_accepts c.args.self.now c.args.self.now c.novelty_of.new.self c.keep.new.self c.args.clause.now c.as_slice-lits.result.now
    c.as_slice-lits.ensures.value refl c.in_ok-novelty.ensures.same named (c.lacks_room.ensures.no c.if-lacks_room.false) judged.0 judged.1
    c.in_ok-keep-in-New.ensures.kept
