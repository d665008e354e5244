use Rattle.std.proofs.Common.{◌+◌, map}
use Rattle.law_core.specs.declared.parties.Law.TheVariants as law
use Rattle.law_core.specs.Law.{instance_of}
use Rattle.law_core.specs.Choices.{choices_size, selectors}
use Rattle.law_core.proofs.SelectLemmas.{size_next, list_next}
use Rattle.law_core.proofs.selecting.selectors_from.Goals as goal

pub loop-law-preserved : goal.loop-law-preserved
loop-law-preserved c =
    let d = law.Ordered (record { 0 = 0 }) (record { 0 = 0 }) in
    let all = map instance_of c.args.laws.now in
    record {
      sum = size_next c.args.laws.now c.loop-law.law-index d c.loop-law.at c.choice_size-at.result (c.args.first + choices_size all) c.loop-law-test.true
          c.choice_size-at.ensures c.loop-law.invariant.sum;
      list = list_next c.args.laws.now c.loop-law.law-index d c.loop-law.at c.choice_size-at.result c.loop-law.selecting.items c.push.new.self.items
          (selectors c.args.first all)
          c.loop-law-test.true c.choice_size-at.ensures c.loop-law.invariant.list c.in_ok-push.ensures.items;
    }
