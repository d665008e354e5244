use Rattle.railml_text.proofs.OneItem.{one_item}
use Rattle.railml_text.proofs.laws.one_item.Goals as goal

pub returns : goal.returns
returns c = one_item
