use Rattle.std.proofs.Common.{ltb, rules, tests}
use Rattle.std.proofs.lemmas.List.Sorted.{answers_always}
use Rattle.refute_log.proofs.TwiceLemmas.{distinct_answer}
use Rattle.refute_log.proofs.literals.none_twice.Goals as goal

pub returns : goal.returns
returns c = distinct_answer c.args.numbers.now.items c.sort_unstable.new.self.items c.is_sorted_by.result c.sort_unstable.ensures.permutation
    c.sort_unstable.ensures.sorted (rw c.deref.ensures.value at (c.is_sorted_by.ensures.cases ltb
    (answers_always _ _ _ (λ f a r after called. search (rules, tests)))))
