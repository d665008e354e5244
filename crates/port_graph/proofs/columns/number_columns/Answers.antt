use Rattle.std.proofs.Common.{◌∙◌, ◌≤◌, length, arith, rules}
use Rattle.port_graph.proofs.ColumnLemmas.{few_rising}
use Rattle.port_graph.proofs.columns.number_columns.Goals as goal

pub column_numbers-requires-clause-few : goal.column_numbers-requires-clause-few
column_numbers-requires-clause-few c =
    omega (arith, few_rising c.args.nodes.now c.deref.result.now (c.deref.ensures.value ∙ c.in_ok-columns.ensures))

pub overflow_cast-result : goal.overflow_cast-result
overflow_cast-result c =
    let few : length c.in_ok-columns.columns.items ≤ length c.args.nodes.now = few_rising c.args.nodes.now c.in_ok-columns.columns.items
    c.in_ok-columns.ensures in
    search rules
