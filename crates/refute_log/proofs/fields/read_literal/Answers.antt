use Rattle.plan_core.proofs.OptionFacts.{none_at}
use Rattle.refute_log.proofs.FieldLemmas.{no_literal}
use Rattle.refute_log.proofs.fields.read_literal.Goals as goal

pub returns-in_err-variable : goal.returns-in_err-variable
returns-in_err-variable c =
    none_at c.from_residual.result _ _ c.from_residual.ensures (no_literal c.split_sign-positive.result.0 c.args.field.now c.split_sign-positive.result.1.now
    c.split_sign-positive.ensures.spelled c.split_sign-positive.ensures.positive (c.in_err-variable.ensures))
