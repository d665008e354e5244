use Rattle.std.proofs.Common.{refl}
use Rattle.plan_text.proofs.CheckLemmas.{end_fault}
use Rattle.plan_text.proofs.sheet_checks.ending.Goals as goal

pub returns-in-Err : goal.returns-in-Err
returns-in-Err c = λ g before told. (
  refl,
  end_fault g before c.args.text.now c.in-Some.rest.now c.args.order.now _ c.in-Err.what c.in-Some.ensures.0
      c.in-Some.ensures.1 c.in-Err.ensures told,
)
