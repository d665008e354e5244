use Rattle.std.proofs.Common.{arith}
use Rattle.law_core.specs.Search.{layout_with}
use Rattle.law_core.proofs.AskLemmas.{selecting_count, selecting_few}
use Rattle.law_core.proofs.search.WhySearchLawOracle.laws.Goals as goal

pub overflow_cast-result : goal.overflow_cast-result
overflow_cast-result g c =
    let k = c.args.self.now.known.now in
    let few = selecting_few (layout_with k) k.selecting.items k.budget k.room c.args.self.now.solver.now c.requires in
    let is = c.len.ensures in
    omega (arith, few, is)

pub returns : goal.returns
returns g c =
    let k = c.args.self.now.known.now in
    let count = selecting_count (layout_with k) k.selecting.items c.requires.selecting_are in
    let is = c.len.ensures in
    omega (arith, count, is)
