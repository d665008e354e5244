use Rattle.order_int.proofs.IntLemmas.{one_setting_for_each}
use Rattle.order_int.proofs.laws.one_setting.Goals as goal

pub returns : goal.returns
returns c = one_setting_for_each
