use Rattle.std.proofs.Common.{subst}
use Rattle.law_core.specs.declared.ending.Why.{Why}
use Rattle.law_core.specs.Why.{IsRightWhy}
use Rattle.run_explain_redraw.specs.Explained.{explain_task}
use Rattle.run_explain_redraw.proofs.ExplainedLemmas.{all_fit}
use Rattle.run_explain_redraw.proofs.explaining.reply_of.Goals as goal

pub text_of-requires : goal.text_of-requires
text_of-requires c =
    let p = explain_task c.args.station.now.graph c.args.station.now.order c.args.asked.now in
    all_fit p c.in-Laws.laws c.in-Laws.without (subst (IsRightWhy p) c.in-Laws.is c.requires.right)
