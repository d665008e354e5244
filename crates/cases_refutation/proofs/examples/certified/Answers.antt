use Rattle.cases_refutation.proofs.ExampleLemmas.{short_log_derives, short_log_is_met, height_then_width_certified, zeros_certified, none_certified}
use Rattle.cases_refutation.proofs.examples.certified.Goals as goal

pub returns : goal.returns
returns c = record {
  derives = short_log_derives;
  is_met = short_log_is_met;
  height_then_width = height_then_width_certified;
  zeros_need_no_line = zeros_certified;
  a_refuted_line_without_literals = none_certified;
}
