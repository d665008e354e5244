use Rattle.refute_check.proofs.judging.answer.Goals as goal

pub returns-in-Some-clause-yes : goal.returns-in-Some-clause-yes
returns-in-Some-clause-yes c = λ t. rw c.in-Some.is (c.are_negated.ensures.yes t)

pub returns-in-Some-clause-no : goal.returns-in-Some-clause-no
returns-in-Some-clause-no c = λ f. rw c.in-Some.is (c.are_negated.ensures.no f)
