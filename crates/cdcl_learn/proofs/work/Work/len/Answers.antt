use Rattle.std.proofs.Common.{◌≤◌, ◌+◌, length, subst}
use Rattle.cnf_core.specs.declared.limits.TheConstants.{VARS}
use Rattle.cdcl_learn.specs.Cut.{Cut}
use Rattle.cdcl_learn.proofs.WorkLemmas.{rest_len, view_short}
use Rattle.cdcl_learn.proofs.work.Work.len.Goals as goal

pub returns-clause-value : goal.returns-clause-value
returns-clause-value c = rest_len _ _ _ _ _ _ _ c.args.self.now c.self.view_is c.self.invariant

pub returns-clause-short : goal.returns-clause-short
returns-clause-short c = subst (λ (m : Cut). length m.rest ≤ m.vars + 1) c.self.view_is (view_short _ _ _ _ _ _ _ c.self.invariant)

pub returns-clause-limit : goal.returns-clause-limit
returns-clause-limit c = subst (λ (m : Cut). m.vars ≤ VARS) c.self.view_is c.self.invariant.limit
