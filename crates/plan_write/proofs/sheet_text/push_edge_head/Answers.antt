use Rattle.std.proofs.Common.{rules, append_assoc}
use Rattle.std.proofs.lemmas.Result.{IfOk-equal}
use Rattle.plan_write.proofs.sheet_text.push_edge_head.Goals as goal

pub returns-clause-ok : goal.returns-clause-ok
returns-clause-ok c = search (rules, append_assoc, IfOk-equal)
