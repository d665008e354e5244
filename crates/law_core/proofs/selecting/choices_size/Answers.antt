use Rattle.std.proofs.Common.{map}
use Rattle.law_core.specs.declared.parties.Law.TheVariants as law
use Rattle.law_core.specs.Law.{instance_of}
use Rattle.law_core.specs.Choices.{choices_size}
use Rattle.law_core.proofs.SelectLemmas.{size_next}
use Rattle.law_core.proofs.selecting.choices_size.Goals as goal

pub loop-law-preserved : goal.loop-law-preserved
loop-law-preserved c =
    size_next c.args.laws.now c.loop-law.law-index (law.Ordered (record {
      0 = 0;
    }) (record { 0 = 0 })) c.loop-law.sum c.choice_size-sum.result (choices_size (map instance_of c.args.laws.now))
    c.loop-law-test.true c.choice_size-sum.ensures c.loop-law.invariant
