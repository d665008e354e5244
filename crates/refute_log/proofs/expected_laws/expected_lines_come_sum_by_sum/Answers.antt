use Rattle.refute_log.proofs.ExpectedLemmas.{expected_none, expected_vars_none, expected_same, expected_vars_same, expected_next, expected_vars_next}
use Rattle.refute_log.proofs.expected_laws.expected_lines_come_sum_by_sum.Goals as goal

pub returns : goal.returns
returns c = record {
  none = expected_none;
  none_vars = expected_vars_none;
  same = expected_same;
  same_vars = expected_vars_same;
  next = expected_next;
  next_vars = expected_vars_next;
}
