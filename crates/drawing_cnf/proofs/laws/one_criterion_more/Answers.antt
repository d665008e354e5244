use Rattle.cnf_laws.specs.Expected.{drawing_vars, formula_size}
use Rattle.drawing_cnf.proofs.OrderLemmas.{from_more, from_same}
use Rattle.drawing_cnf.proofs.laws.one_criterion_more.Goals as goal

pub returns-clause-added : goal.returns-clause-added
returns-clause-added c = λ g above overlap grid order caps k some. from_more g (drawing_vars g grid) grid caps (formula_size g above overlap grid) order k some

pub returns-clause-skipped : goal.returns-clause-skipped
returns-clause-skipped c = λ g above overlap grid order caps k none. from_same g (drawing_vars g grid) grid caps (formula_size g above overlap grid) order k
    none
