use Rattle.drawing_cnf.proofs.OrderLemmas.{front_words, front_last, drawing_in_front, drawing_before}
use Rattle.drawing_cnf.proofs.laws.no_more_in_front.Goals as goal

pub returns-clause-words : goal.returns-clause-words
returns-clause-words c = front_words

pub returns-clause-vars : goal.returns-clause-vars
returns-clause-vars c = front_last

pub returns-clause-drawing_words : goal.returns-clause-drawing_words
returns-clause-drawing_words c = drawing_in_front

pub returns-clause-drawing_size : goal.returns-clause-drawing_size
returns-clause-drawing_size c = drawing_before
