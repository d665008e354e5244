use Rattle.std.proofs.Common.{◌≡◌, length, take, map, eqb}
use Rattle.std.specs.List.{slice_split}
use Rattle.outside_io.specs.Criteria.{criterion_word}
use Rattle.plan_words.proofs.option_values.criteria_in.Given as goal

abbrev pub invariant-loop-word : goal.invariant-loop-word
invariant-loop-word l = record {
  read : map criterion_word l.list.items ≡ take (length l.yielded) (slice_split (λ b. eqb b 44) l.text);
  count : length l.list.items ≡ length l.yielded;
}
