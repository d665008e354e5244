use Rattle.std.proofs.Common.{arith}
use Rattle.drawing_cnf.proofs.BoundWords.{bound_words, bound_variables}
use Rattle.drawing_cnf.proofs.BoundNames.{bound_named}
use Rattle.drawing_cnf.proofs.BoundForced.{bound_forced}
use Rattle.drawing_cnf.proofs.CriterionLemmas.{whole_there}
use Rattle.drawing_cnf.proofs.laws.bounds_are_small_and_named.Goals as goal

pub returns-clause-words : goal.returns-clause-words
returns-clause-words c = λ g x grid b some. bound_words g x grid b.last b.cap b.criterion some

pub returns-clause-vars : goal.returns-clause-vars
returns-clause-vars c = λ g x grid b some. bound_variables g x grid b.last b.cap b.criterion some

pub returns-clause-named : goal.returns-clause-named
returns-clause-named c = λ e d cap k whole size few limit from to.
    bound_named e.graph e.grid e.formula.vars cap d k size (whole_there e whole) few limit from to

pub returns-clause-forced : goal.returns-clause-forced
returns-clause-forced c = λ g x grid b k limit to past. bound_forced g x grid b.last b.cap b.criterion k limit (omega arith) to past
