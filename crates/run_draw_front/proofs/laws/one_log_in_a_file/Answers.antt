use Rattle.std.proofs.Common.{◌≡◌, Some, sym, ◌∙◌}
use Rattle.refute_log.specs.Lines.{log_text}
use Rattle.refute_log.specs.OneText.{log_text_once, formed_lines}
use Rattle.run_draw_front.proofs.laws.one_log_in_a_file.Goals as goal

pub returns : goal.returns
returns c = λ contents name a b first second.
    let texts : Some (log_text a) ≡ Some (log_text b) = sym first.text ∙ second.text in
    log_text_once a b (formed_lines a first.formed) (formed_lines b second.formed) (cc)
