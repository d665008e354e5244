use Rattle.std.proofs.Common.{Some}
use Rattle.std.proofs.lemmas.Map.Text.{hash_map_updates_str}
use Rattle.railml_faults.proofs.ids.keep.Goals as goal

pub returns : goal.returns
returns c = λ q. hash_map_updates_str c.args.id.now c.args.numbers.now c.insert.new.self (Some c.args.number) c.in_ok-insert.ensures.updates q
