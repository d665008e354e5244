use Rattle.railml_text.proofs.ScanLemmas.{rest_is, rest_utf8, end_sound, end_boundary}
use Rattle.railml_text.proofs.scanning.item_from.Goals as goal

pub item_at-requires-clause-utf8 : goal.item_at-requires-clause-utf8
item_at-requires-clause-utf8 c = rw (rest_is c.args.bytes.now c.args.at) (rest_utf8 c.args.bytes.now c.args.at c.requires.utf8 c.requires.begins)

pub returns-clause-item : goal.returns-clause-item
returns-clause-item c = end_sound c.args.first c.args.bytes.now c.args.at c.in_ok-kind.kind c.in_ok-kind.after.now c.requires.within
    (rw (rest_is c.args.bytes.now c.args.at) at c.in_ok-kind.ensures.item)

pub returns-clause-ends : goal.returns-clause-ends
returns-clause-ends c = end_boundary c.args.first c.args.bytes.now c.args.at c.in_ok-kind.kind c.in_ok-kind.after.now c.requires.within c.requires.utf8
    c.requires.begins (rw (rest_is c.args.bytes.now c.args.at) at c.in_ok-kind.ensures.item)
