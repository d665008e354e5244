use Rattle.railml_text.proofs.ScanLemmas.{chars_sound}
use Rattle.railml_text.proofs.scanning.chars_item.Goals as goal

pub returns : goal.returns
returns c = λ first. rw (c.are_blank-blank.ensures, c.past_text-after.ensures.past) (chars_sound first c.args.rest.now c.requires.some c.requires.begins)
