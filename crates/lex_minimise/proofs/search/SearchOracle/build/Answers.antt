use Rattle.drawing_cnf.specs.Layout.{layout_of}
use Rattle.lex_minimise.proofs.StartLemmas.{same_task}
use Rattle.lex_minimise.proofs.search.SearchOracle.build.Goals as goal

pub returns-clause-task : goal.returns-clause-task
returns-clause-task g c =
    let new = c.build.new.known in
    let old = c.args.self.now.known.now in
    same_task (layout_of new.encoded) (layout_of old.encoded) new.budget old.budget new.room old.room c.build.ensures.layout c.build.ensures.budget
    c.build.ensures.room
