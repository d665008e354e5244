use Rattle.std.proofs.Common.{refl}
use Rattle.refute_check.proofs.CheckerLemmas.{there_up, formula_lacks, formula_accepts}
use Rattle.refute_check.proofs.checker.Checker.feed_formula.Goals as goal

pub returns-then-lacks_room : goal.returns-then-lacks_room
returns-then-lacks_room c = (
  formula_lacks c.args.self.now c.args.clause.now c.as_slice-lits.result.now c.as_slice-lits.ensures.value (c.lacks_room.ensures.yes c.if-lacks_room.true),
  refl,
)

pub keep-requires-clause-there : goal.keep-requires-clause-there
keep-requires-clause-there c =
    there_up 1073741823 c.args.self.now.facts.greatest c.greatest-most.result c.args.clause.now c.as_slice-lits.result.now c.requires
    c.as_slice-lits.ensures.value c.greatest-most.ensures

pub returns : goal.returns
returns c =
    formula_accepts c.args.self.now c.keep.new.self c.args.clause.now c.as_slice-lits.result.now c.greatest-most.result c.as_slice-lits.ensures.value
    c.greatest-most.ensures c.if-most-gt-VARS.false (c.lacks_room.ensures.no c.if-lacks_room.false) c.in_ok-keep.ensures.kept
