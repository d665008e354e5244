use Rattle.cases_refutation.proofs.ExampleLemmas.{width_first_lacks, greater_height_lacks, capped_height_lacks, no_empty_clause}
use Rattle.cases_refutation.proofs.examples.lacking.Goals as goal

pub returns : goal.returns
returns c = record {
  the_width_where_it_comes_first = width_first_lacks;
  a_greater_height = greater_height_lacks;
  the_width_where_height_2_is_no_bound = capped_height_lacks;
  that_there_is_no_drawing = no_empty_clause;
}
