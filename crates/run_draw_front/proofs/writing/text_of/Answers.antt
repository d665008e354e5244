use Rattle.std.proofs.Common.{rules, append_assoc}
use Rattle.run_draw_front.proofs.writing.text_of.Goals as goal

pub returns : goal.returns
returns c = search (rules, append_assoc)
