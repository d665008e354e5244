use Rattle.std.proofs.Common.{arith}
use Rattle.std.proofs.lemmas.Map.Text.{text_keys}
use Rattle.outside_io.proofs.named_bytes.NamedBytes.set.Goals as goal

pub returns-clause-ok : goal.returns-clause-ok
returns-clause-ok c = record {
  there = grind (arith, text_keys);
  others = λ other differs. grind (arith, text_keys);
}
