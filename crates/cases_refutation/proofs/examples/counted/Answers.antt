use Rattle.std.proofs.Common.{refl}
use Rattle.cases_refutation.proofs.ExampleLemmas.{one_is_settled}
use Rattle.cases_refutation.proofs.examples.counted.Goals as goal

pub returns : goal.returns
returns c = record {
  below_the_whole_order = one_is_settled;
  without_a_drawing = refl;
  each_bound = refl;
  at_most_the_greatest_value = refl;
  no_bound = refl;
  of_another_criterion = refl;
}
