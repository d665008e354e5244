use Rattle.std.proofs.Common.{arith}
use Rattle.cdcl_core.proofs.GivenLemmas.{silent_one, asserted_one, first_there}
use Rattle.cdcl_core.proofs.search.Search.keep_one_open.Goals as goal

pub get-requires : goal.get-requires
get-requires c = let s = c.requires.fronted.some in omega arith

pub is_unset-requires : goal.is_unset-requires
is_unset-requires c = first_there c.args.self.now.trail.vars c.args.clause c.get.result c.get.ensures c.requires.there

pub keep_asserting-requires-clause-asserted : goal.keep_asserting-requires-clause-asserted
keep_asserting-requires-clause-asserted c = asserted_one c.args.self.now.arena c.args.self.now.trail c.args.clause c.get.result
    c.requires.idle.search.solving.grounded.marks c.requires.idle.level c.requires.fronted c.get.ensures (c.is_unset.ensures.unset c.if-is_unset.true)
    c.requires.there c.requires.distinct

pub keep_silent-requires-clause-silent : goal.keep_silent-requires-clause-silent
keep_silent-requires-clause-silent c = silent_one c.args.self.now.trail c.args.clause c.get.result c.requires.fronted c.get.ensures
    (c.is_unset.ensures.set c.if-is_unset.false)
