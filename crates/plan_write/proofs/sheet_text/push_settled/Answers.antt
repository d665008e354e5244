use Rattle.std.proofs.Common.{rules, append_assoc}
use Rattle.plan_write.proofs.sheet_text.push_settled.Goals as goal

pub returns-clause-ok : goal.returns-clause-ok
returns-clause-ok c = search (rules, append_assoc)
