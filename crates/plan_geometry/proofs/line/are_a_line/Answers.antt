use Rattle.plan_geometry.proofs.LineLemmas.{long_is_no_line}
use Rattle.plan_geometry.proofs.line.are_a_line.Goals as goal

pub returns-in_default-2 : goal.returns-in_default-2
returns-in_default-2 c = long_is_no_line c.args.points.now c.in_default.len_at_least
