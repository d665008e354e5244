use Rattle.std.proofs.Common.{List, subst}
use Rattle.run_input.specs.declared.status.Status.{Status}
use Rattle.run_check.specs.Checked.{IsSheetAnswer}
use Rattle.run_check.proofs.trimming.refused_claim.Goals as goal

pub returns-in-Limits : goal.returns-in-Limits
returns-in-Limits c =
    let text = c.in_ok-checked.checked.text.items in
    record {
      text = text;
      checked =
          subst (λ (s : Status). IsSheetAnswer c.args.station.now.graph c.args.station.now.order c.args.sheet.now c.args.log.now s text) c.in-Done.is
          c.in_ok-checked.ensures;
      passes = c.requires.fault c.in-Limits.is;
    }
