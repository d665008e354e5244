use Rattle.plan_core.proofs.OptionFacts.{none_at}
use Rattle.plan_text.proofs.FormLemmas.{no_edge_word}
use Rattle.plan_text.proofs.sheet_lines.numbered_edge.Goals as goal

pub returns-in_err-rest-in-First : goal.returns-in_err-rest-in-First
returns-in_err-rest-in-First c = none_at c.from_residual.result _ _ c.from_residual.ensures
    (no_edge_word c.args.edition c.args.text.now c.in_err-rest-in-First.ensures)
