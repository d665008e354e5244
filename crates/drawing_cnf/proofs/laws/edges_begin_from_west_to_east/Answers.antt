use Rattle.std.proofs.Common.{length}
use Rattle.drawing_cnf.proofs.BoundLemmas.{first_there, edges_length}
use Rattle.drawing_cnf.proofs.WestFirst.{first_contains, first_rising}
use Rattle.drawing_cnf.proofs.laws.edges_begin_from_west_to_east.Goals as goal

pub returns-clause-there : goal.returns-clause-there
returns-clause-there c = λ g. first_there g (length g.edges)

pub returns-clause-each : goal.returns-clause-each
returns-clause-each c = λ g. first_contains g (length g.edges)

pub returns-clause-once : goal.returns-clause-once
returns-clause-once c = edges_length

pub returns-clause-rising : goal.returns-clause-rising
returns-clause-rising c = λ g. first_rising g (length g.edges)
